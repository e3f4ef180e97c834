use Rattle.std.proofs.Common.{◌≡◌, ◌+◌, ◌∷◌, ◌++◌, Bool, List, [], None, take, sym, ap, subst, ◌∙◌, arith}
use Rattle.std.proofs.lemmas.List.{take_more}
use Rattle.ir_rules.specs.Settings.{setting_of}
use Rattle.ir_scopes.specs.Kinds.{kind_in}
use Rattle.ir_pass.specs.declared.frame.Frame.{Frame}
use Rattle.ir_pass.specs.declared.seen.Seen.{Seen}
use Rattle.ir_pass.specs.Frames.{left}
use Rattle.ir_pass.specs.Seen.{with_seen}
use Rattle.ir_pass.proofs.Heads.{Stands}
use Rattle.ir_pass.proofs.SoFar.{seen-more}
use Rattle.ir_rules.specs.Rules.{rule_at}
use Rattle.ir_tree.specs.declared.item.Item.{Item}
use Rattle.ir_checker.specs.Judged.{has_large}
use Rattle.ir_checker.proofs.Judging.{none-large}
use Rattle.ir_checker.proofs.Going.{fits, told, goes-on, few, fault-here, fault-later, no-fault}
use Rattle.ir_checker.proofs.check.fault_along.Goals as goal

pub returns-in-Some : goal.returns-in-Some
returns-in-Some g c =
    let items = c.args.items.now in
    let ports = c.args.known.now.ports.now in
    let kind = kind_in c.args.known.now.kinds.now.names in
    let es = c.args.known.now.entities.now in
    let i = c.each.i in
    let x = c.index-items-i.result in
    let fit = fits items ports kind es c.requires.kinds c.requires.entities i x c.each-test.true c.index-items-i.is c.each.inside c.each.frame c.arrive.new.frame
    c.each.seen c.in_ok-notes.notes c.each.invariant.stands c.each.invariant.seen c.in_ok-notes.ensures in
    let tell = told items ports kind es c.requires.kinds c.requires.entities i x c.each-test.true c.index-items-i.is c.each.inside c.each.frame c.arrive.new.frame
    c.each.seen c.in_ok-notes.notes c.each.invariant.stands c.each.invariant.seen c.in_ok-notes.ensures _ c.each.invariant.defs in
    fault-here items ports i c.each.invariant.rest x c.each-test.true c.index-items-i.is c.in-Some.rule
    (sym c.in-Some.is ∙ c.in_ok-rule.ensures (setting_of items ports i x) fit (c.in_ok-typed.ensures.broken (setting_of items ports i x) c.each.invariant.judged tell))

pub returns : goal.returns
returns g c = no-fault c.args.items.now c.args.known.now.ports.now c.each.i c.each.invariant.rest c.each-test.false

pub each-preserved : goal.each-preserved
each-preserved g c =
    let items = c.args.items.now in
    let ports = c.args.known.now.ports.now in
    let kind = kind_in c.args.known.now.kinds.now.names in
    let es = c.args.known.now.entities.now in
    let i = c.each.i in
    let x = c.index-items-i.result in
    let fit = fits items ports kind es c.requires.kinds c.requires.entities i x c.each-test.true c.index-items-i.is c.each.inside c.each.frame c.arrive.new.frame
    c.each.seen c.in_ok-notes.notes c.each.invariant.stands c.each.invariant.seen c.in_ok-notes.ensures in
    let tell = told items ports kind es c.requires.kinds c.requires.entities i x c.each-test.true c.index-items-i.is c.each.inside c.each.frame c.arrive.new.frame
    c.each.seen c.in_ok-notes.notes c.each.invariant.stands c.each.invariant.seen c.in_ok-notes.ensures _ c.each.invariant.defs in
    let on = goes-on items ports kind es c.requires.kinds c.requires.entities i x c.each-test.true c.index-items-i.is c.each.inside c.each.frame c.arrive.new.frame
    c.each.seen c.in_ok-notes.notes c.each.invariant.stands c.each.invariant.seen c.in_ok-notes.ensures in
    let none : None ≡ rule_at items ports i x =
    sym c.in_default.is ∙ c.in_ok-rule.ensures (setting_of items ports i x) fit (c.in_ok-typed.ensures.broken (setting_of items ports i x) c.each.invariant.judged tell) in
    record {
      stands =
          subst (λ (f : Frame). Stands kind items (i + 1) c.opens-inside.result f) (sym c.leave.ensures)
          (subst (λ (b : Bool). Stands kind items (i + 1) b (left b c.arrive.new.frame x)) (sym c.opens-inside.ensures) on);
      seen = c.in_ok-note.ensures ∙ ap (λ (s : Seen). with_seen s x) c.each.invariant.seen ∙ seen-more items i x c.each-test.true c.index-items-i.is;
      defs = c.in_ok-typed.ensures.defs ∙ c.each.invariant.defs;
      judged =
          subst (λ (l : List Item). g.R.TypeRules.has_judged c.breaks.new.self l)
          (sym (take_more items i x c.each-test.true ∙ ap (λ y. take i items ++ y ∷ []) (sym c.index-items-i.is)))
          (c.in_ok-typed.ensures.judged (take i items) (ap (λ ds. has_large ds x) c.each.invariant.defs ∙ none-large (setting_of items ports i x) x none) c.each.invariant.judged);
      rest = fault-later items ports i c.each.invariant.rest x c.each-test.true c.index-items-i.is none;
    }

pub note-requires-clause-functions : goal.note-requires-clause-functions
note-requires-clause-functions g c =
    let counts = few c.args.items.now c.each.i c.each.seen (omega arith) c.each.invariant.seen in omega (arith, counts.0)

pub note-requires-clause-definitions : goal.note-requires-clause-definitions
note-requires-clause-definitions g c =
    let counts = few c.args.items.now c.each.i c.each.seen (omega arith) c.each.invariant.seen in omega (arith, counts.1)

pub note-requires-clause-instructions : goal.note-requires-clause-instructions
note-requires-clause-instructions g c =
    let counts = few c.args.items.now c.each.i c.each.seen (omega arith) c.each.invariant.seen in omega (arith, counts.2)
