use Rattle.std.proofs.Common.{◌≡◌, ◌<◌, [], ◌∷◌, ◌++◌, List, length, map, reverse, arith, rules, refl, sym, ap, ◌∙◌, subst, append_assoc, length-append}
use Rattle.std.specs.Option.{IsSome}
use Rattle.std.specs.Prelude.{Option, Some, None, MatchOption}
use Rattle.std.proofs.lemmas.List.{map-append, reverse-append}
use Rattle.exec_core.specs.Plans.{own_firsts}
use Rattle.exec_core.specs.declared.plan.Plan.{Plan}
use Rattle.exec_core.proofs.RefusalLemmas.{map_reverse}
use Rattle.exec_core.proofs.ChangeLemmas.{own_yes, own_no}
use Rattle.exec_core.proofs.plan.plans_for.Goals as goal

pops : {X : Type 0} (r : Option X) (old new : List X) → MatchOption r ((old ≡ []) × (new ≡ [])) (λ last. old ≡ new ++ last ∷ []) → 0 < length old → IsSome r
pops None old new h l = absurd (let n = ap length h.0 in omega arith)
pops (Some x) old new h l = search rules

empty : {X : Type 0} (xs : List X) → length xs ≡ 0 → xs ≡ []
empty [] h = refl
empty (x ∷ xs) h = absurd (omega arith)

-- one element of a list goes to the end of what is done in reverse
moved : {X : Type 0} (fore : List X) (x : X) (done : List X) → fore ++ reverse (done ++ x ∷ []) ≡ (fore ++ x ∷ []) ++ reverse done
moved fore x done = ap (λ ys. fore ++ ys) (reverse-append done (x ∷ [])) ∙ sym (append_assoc fore (x ∷ []) (reverse done))

pub unwrap-members-requires : goal.unwrap-members-requires
unwrap-members-requires g c =
    let i = c.loop-change.invariant in
    let cs = c.pop.new.self.items in
    let e = ap (own_firsts c.args.numbers.now 0) c.in-Some.ensures.items ∙ own_yes c.args.numbers.now cs c.in-Some.change (search rules) in
    let n = ap length e in let a = length-append (own_firsts c.args.numbers.now 0 cs) (c.in-Some.change ∷ []) in
    pops c.pop-then-numbers-at.result c.loop-change.parts c.pop-then-numbers-at.new.self c.pop-then-numbers-at.ensures (omega (arith, i.as_many, n, a))

pub loop-change-preserved-in-Continue-branch-2 : goal.loop-change-preserved-in-Continue-branch-2
loop-change-preserved-in-Continue-branch-2 g c =
    let i = c.loop-change.invariant in
    let cs = c.pop.new.self.items in let x = c.in-Some.change in let m = c.unwrap-members.result in
    let old : c.loop-change.parts ≡ c.pop-then-numbers-at.new.self ++ m ∷ [] =
    subst (λ r. MatchOption r ((c.loop-change.parts ≡ []) × (c.pop-then-numbers-at.new.self ≡ [])) (λ last. c.loop-change.parts ≡ c.pop-then-numbers-at.new.self
    ++ last ∷ [])) c.unwrap-members.ensures c.pop-then-numbers-at.ensures in
    let e = ap (own_firsts c.args.numbers.now 0) c.in-Some.ensures.items ∙ own_yes c.args.numbers.now cs x (search rules) in
    let n = ap length e in let a = length-append (own_firsts c.args.numbers.now 0 cs) (x ∷ []) in let b = ap length old in let d =
    length-append c.pop-then-numbers-at.new.self (m ∷ []) in
    let p : Plan g.row.C.Denot = record { members = m; change = x } in
    let pushed : c.push.new.self.items ≡ c.loop-change.plans.items ++ p ∷ [] = search rules in
    record {
      members = ap (λ ps. c.pop-then-numbers-at.new.self ++ reverse (map (λ (q : Plan g.row.C.Denot). q.members) ps)) pushed
          ∙ ap (λ ms. c.pop-then-numbers-at.new.self ++ reverse ms) (map-append (λ (q : Plan g.row.C.Denot). q.members) c.loop-change.plans.items (p ∷ []))
          ∙ moved c.pop-then-numbers-at.new.self m (map (λ (q : Plan g.row.C.Denot). q.members) c.loop-change.plans.items)
          ∙ ap (λ ms. ms ++ reverse (map (λ (q : Plan g.row.C.Denot). q.members) c.loop-change.plans.items)) (sym old) ∙ i.members;
      changes = ap (λ ps. own_firsts c.args.numbers.now 0 cs ++ reverse (map (λ (q : Plan g.row.C.Denot). q.change) ps)) pushed
          ∙ ap (λ ms. own_firsts c.args.numbers.now 0 cs ++ reverse ms) (map-append (λ (q : Plan g.row.C.Denot). q.change) c.loop-change.plans.items (p ∷ []))
          ∙ moved (own_firsts c.args.numbers.now 0 cs) x (map (λ (q : Plan g.row.C.Denot). q.change) c.loop-change.plans.items)
          ∙ ap (λ ms. ms ++ reverse (map (λ (q : Plan g.row.C.Denot). q.change) c.loop-change.plans.items)) (sym e) ∙ i.changes;
      as_many = omega (arith, i.as_many, n, a, b, d);
      within = omega (arith, i.within, c.in-Some.ensures.cases, c.pop.ensures.len, ap length c.in-Some.ensures.items, length-append cs (x ∷ []));
    }

pub loop-change-preserved : goal.loop-change-preserved
loop-change-preserved g c =
    let i = c.loop-change.invariant in
    let cs = c.pop.new.self.items in let x = c.in-Some.change in
    let e = ap (own_firsts c.args.numbers.now 0) c.in-Some.ensures.items ∙ own_no c.args.numbers.now cs x (search rules) in
    record {
      members = i.members;
      changes = ap (λ ys. ys ++ reverse (map (λ (q : Plan g.row.C.Denot). q.change) c.loop-change.plans.items)) (sym e) ∙ i.changes;
      as_many = i.as_many ∙ ap length e;
      within = omega (arith, i.within, ap length c.in-Some.ensures.items, length-append cs (x ∷ []));
    }

pub returns-clause-members : goal.returns-clause-members
returns-clause-members g c =
    let i = c.loop-change.invariant in
    let none : c.loop-change.changes.items ≡ [] = search rules in
    let n = i.as_many ∙ ap (λ cs. length (own_firsts c.args.numbers.now 0 cs)) none in
    ap (map (λ (q : Plan g.row.C.Denot). q.members)) c.reverse.ensures.items ∙ map_reverse (λ (q : Plan g.row.C.Denot). q.members) c.loop-change.plans.items
    ∙ ap (λ ms. ms ++ reverse (map (λ (q : Plan g.row.C.Denot). q.members) c.loop-change.plans.items)) (sym (empty c.loop-change.parts n)) ∙ i.members

pub returns-clause-changes : goal.returns-clause-changes
returns-clause-changes g c =
    let i = c.loop-change.invariant in
    let none : c.loop-change.changes.items ≡ [] = search rules in
    ap (map (λ (q : Plan g.row.C.Denot). q.change)) c.reverse.ensures.items ∙ map_reverse (λ (q : Plan g.row.C.Denot). q.change) c.loop-change.plans.items
    ∙ ap (λ cs. own_firsts c.args.numbers.now 0 cs ++ reverse (map (λ (q : Plan g.row.C.Denot). q.change) c.loop-change.plans.items)) (sym none) ∙ i.changes
