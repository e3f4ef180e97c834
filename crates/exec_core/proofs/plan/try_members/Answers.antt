use Rattle.std.proofs.Common.{◌≡◌, ℕ, List, length, map, arith, sym, ap, ◌∙◌, subst, true, refl}
use Rattle.std.specs.List.{All, filter}
use Rattle.std.proofs.lemmas.List.Elements.{All-map}
use Rattle.code_form.specs.Variant.{Table, variant_of}
use Rattle.member_sets.specs.Members.{is_class_leader}
use Rattle.traces.specs.Counts.{RoseBy, RoseWithin, counts_of_tries}
use Rattle.exec_core.proofs.Holding.{All-from_contains}
use Rattle.exec_core.proofs.TriedLemmas.{few_firsts}
use Rattle.exec_core.proofs.plan.try_members.Goals as goal

known_firsts : (K : ℕ → Rattle.std.specs.Prelude.Bool) (v : ℕ → ℕ) (ms : List ℕ) → ((m : ℕ) → K (v m) ≡ true) → All (λ x. K x ≡ true) (map v ms)
known_firsts K v ms h = All-map (λ x. K x ≡ true) v ms (All-from_contains (λ m. K (v m) ≡ true) ms (λ m c. h m))

-- the variants, at the place that the state stands for
at_place : (table : Table) (p q : ℕ) (ms ns vs : List ℕ) → ms ≡ ns → p ≡ q
    → vs ≡ map (λ m. variant_of table m p) (filter (is_class_leader (λ m. variant_of table m p) ms) ms)
    → vs ≡ map (λ m. variant_of table m q) (filter (is_class_leader (λ m. variant_of table m q) ns) ns)
at_place table p q ms ns vs e f h =
    h ∙ ap (λ xs. map (λ m. variant_of table m p) (filter (is_class_leader (λ m. variant_of table m p) xs) xs)) e
    ∙ ap (λ r. map (λ m. variant_of table m r) (filter (is_class_leader (λ m. variant_of table m r) ns) ns)) f

pub tries-requires-clause-known : goal.tries-requires-clause-known
tries-requires-clause-known g c =
    let A = g.M.Machine.view.meanings c.args.machine.now in let p = A.place (g.M.Machine.view.stands c.args.machine.now c.args.e.now.state) in
    let ns = c.args.e.now.members in let v : ℕ → ℕ = λ m. variant_of c.args.table.now m p in
    subst (All (λ x. A.knows p x ≡ true))
    (sym (c.deref.ensures.value ∙ at_place c.args.table.now c.place-place.result.0 p c.args.e.now.members ns c.variants_in.new.variants.items
    refl c.place-place.ensures c.in_ok-variants_in.ensures.variants))
    (known_firsts (A.knows p) v (filter (is_class_leader v ns) ns) (λ m. c.requires.known m p))

pub tries-requires-clause-room : goal.tries-requires-clause-room
tries-requires-clause-room g c =
    let f : ℕ → ℕ = λ m. variant_of c.args.table.now m c.place-place.result.0 in let ms = c.args.e.now.members in
    let few = few_firsts f ms (is_class_leader f ms) in
    omega (
      arith,
      few,
      ap length c.deref.ensures.value,
      ap length c.in_ok-variants_in.ensures.variants,
      c.len-len.ensures.value,
      c.len-len.ensures.few,
      c.requires.room.tried,
    )

pub tries-requires-clause-room_to_ask : goal.tries-requires-clause-room_to_ask
tries-requires-clause-room_to_ask g c port =
    let f : ℕ → ℕ = λ m. variant_of c.args.table.now m c.place-place.result.0 in let ms = c.args.e.now.members in
    let few = few_firsts f ms (is_class_leader f ms) in
    omega (
      arith,
      few,
      ap length c.deref.ensures.value,
      ap length c.in_ok-variants_in.ensures.variants,
      c.len-len.ensures.value,
      c.len-len.ensures.few,
      c.requires.room.asks port,
    )

pub returns-in_err-tries-clause-counts_within : goal.returns-in_err-tries-clause-counts_within
returns-in_err-tries-clause-counts_within g c start budget =
    let V = g.M.Machine.view in let A = V.meanings c.args.machine.now in let w = V.stands c.args.machine.now c.args.e.now.state in let p = A.place w in
    let a = V.counts c.args.machine.now in let b = V.counts c.tries.new.self in let t = c.tries.ensures in
    let h = c.deref.ensures.value ∙ at_place c.args.table.now c.place-place.result.0 p c.args.e.now.members c.args.e.now.members
    c.variants_in.new.variants.items refl c.place-place.ensures c.in_ok-variants_in.ensures.variants in
    subst (λ vs. RoseWithin a b (counts_of_tries A w vs)) h t.counts_within

pub returns-clause-counts_within : goal.returns-clause-counts_within
returns-clause-counts_within g c start budget =
    let V = g.M.Machine.view in let A = V.meanings c.args.machine.now in let w = V.stands c.args.machine.now c.args.e.now.state in let p = A.place w in
    let a = V.counts c.args.machine.now in let b = V.counts c.tries.new.self in let t = c.tries.ensures in
    let h = c.deref.ensures.value ∙ at_place c.args.table.now c.place-place.result.0 p c.args.e.now.members c.args.e.now.members
    c.variants_in.new.variants.items refl c.place-place.ensures c.in_ok-variants_in.ensures.variants in
    subst (λ vs. RoseWithin a b (counts_of_tries A w vs)) h t.counts_within

pub returns-clause-counts : goal.returns-clause-counts
returns-clause-counts g c start budget =
    let V = g.M.Machine.view in let A = V.meanings c.args.machine.now in let w = V.stands c.args.machine.now c.args.e.now.state in let p = A.place w in
    let a = V.counts c.args.machine.now in let b = V.counts c.tries.new.self in let t = c.in_ok-tries.ensures in
    let h = c.deref.ensures.value ∙ at_place c.args.table.now c.place-place.result.0 p c.args.e.now.members c.args.e.now.members
    c.variants_in.new.variants.items refl c.place-place.ensures c.in_ok-variants_in.ensures.variants in
    subst (λ vs. RoseBy a b (counts_of_tries A w vs)) h t.counts

pub returns-clause-variants : goal.returns-clause-variants
returns-clause-variants g c start budget =
    let V = g.M.Machine.view in let p = (V.meanings c.args.machine.now).place (V.stands c.args.machine.now c.args.e.now.state) in
    at_place c.args.table.now c.place-place.result.0 p c.args.e.now.members c.args.e.now.members c.variants_in.new.variants.items
    refl c.place-place.ensures c.in_ok-variants_in.ensures.variants

pub returns-clause-few : goal.returns-clause-few
returns-clause-few g c =
    let f : ℕ → ℕ = λ m. variant_of c.args.table.now m c.place-place.result.0 in let ms = c.args.e.now.members in
    let few = few_firsts f ms (is_class_leader f ms) in
    omega (
      arith,
      few,
      ap length c.in_ok-variants_in.ensures.variants,
      c.len-len.ensures.value,
      c.len-len.ensures.few,
    )
