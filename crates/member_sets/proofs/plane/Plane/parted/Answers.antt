use Rattle.std.proofs.Common.{◌≡◌, ℕ, ◌/◌, ◌-◌, ◌<◌, ◌≤◌, Bool, true, false, not, ◌==◌, List, length, take, slice_index, get_or, sym, ap, ◌∙◌, subst, refl, arith}
use Rattle.std.specs.List.{All, Contains, filter}
use Rattle.std.proofs.lemmas.List.Elements.{All-contains, Contains-get_or}
use Rattle.code_form.specs.Variant.{variant_of}
use Rattle.member_sets.specs.Members.{class_at}
use Rattle.member_sets.specs.Planes.{has_bit, numbers_in}
use Rattle.member_sets.proofs.Bits.{bit_place, contains-has_bit}
use Rattle.member_sets.proofs.Kernels.{filter_where}
use Rattle.member_sets.proofs.plane.Plane.parted.Goals as goal
use Rattle.member_sets.proofs.plane.Plane.parted.Goals.{In_ok-mask}

twice : (b : Bool) → not (not b) ≡ b
twice true = refl
twice false = refl

pub others-requires : goal.others-requires
others-requires c = omega (arith, c.requires 0 0 (omega (arith, c.self.invariant.some, ap length c.self.view_is)))

pub returns-clause-few : goal.returns-clause-few
returns-clause-few c =
    let w = c.as_slice-words.ensures.len in
    (omega (arith, c.in_ok-in_first.ensures.size, c.self.invariant.few, w), omega (arith, c.in_ok-in_both.ensures.size, c.self.invariant.few, w))

-- the mask has the members that are of another class
masked : (c : In_ok-mask) → All (λ m. has_bit c.self.inside.first c.in_ok-mask.mask.items m
    ≡ not (class_at (variant_of c.args.table.now) c.args.place.0 c.args.class_of.now m == slice_index c.args.class_of.now 0)) (numbers_in c.self.inside.first c.self.inside.words.items)
masked c k d l =
    let first = c.self.inside.first in let words = c.self.inside.words.items in let xs = numbers_in first words in let m = get_or xs k d in
    let p = bit_place first words m (contains-has_bit first words m (Contains-get_or xs k d l)) in
    c.in_ok-mask.ensures.bits m p.0 (omega (arith, p.1, c.as_slice-words.ensures.len))
    (subst (λ (ys : List ℕ). All (λ n. variant_of c.args.table.now n c.args.place.0 < length c.args.class_of.now) ys) (sym c.self.view_is) c.requires k d l)

pub returns-clause-home : goal.returns-clause-home
returns-clause-home c =
    let first = c.self.inside.first in let words = c.self.inside.words.items in let mask = c.in_ok-mask.mask.items in
    let home : ℕ → Bool = λ m. class_at (variant_of c.args.table.now) c.args.place.0 c.args.class_of.now m == slice_index c.args.class_of.now 0 in
    let h = masked (goal.at.returns-clause-home c).In_ok-mask in
    c.in_ok-in_first.ensures.numbers first
    ∙ ap (λ ws. filter (λ m. not (has_bit first ws m)) (numbers_in first c.as_slice-words.result.now)) c.deref.ensures.value
    ∙ ap (λ ws. filter (λ m. not (has_bit first mask m)) (numbers_in first ws)) c.as_slice-words.ensures.value
    ∙ filter_where (λ m. not (has_bit first mask m)) home (numbers_in first words) (λ k d l. ap not (h k d l) ∙ twice _)
    ∙ ap (filter home) c.self.view_is

pub returns-clause-away : goal.returns-clause-away
returns-clause-away c =
    let first = c.self.inside.first in let words = c.self.inside.words.items in let mask = c.in_ok-mask.mask.items in
    let away : ℕ → Bool = λ m. not (class_at (variant_of c.args.table.now) c.args.place.0 c.args.class_of.now m == slice_index c.args.class_of.now 0) in
    let h = masked (goal.at.returns-clause-away c).In_ok-mask in
    c.in_ok-in_both.ensures.numbers first
    ∙ ap (λ ws. filter (has_bit first ws) (numbers_in first c.as_slice-words.result.now)) c.deref-2.ensures.value
    ∙ ap (λ ws. filter (has_bit first mask) (numbers_in first ws)) c.as_slice-words.ensures.value
    ∙ filter_where (has_bit first mask) away (numbers_in first words) h
    ∙ ap (filter away) c.self.view_is
