use Rattle.std.proofs.Common.{◌≡◌, ◌<◌, ◌≤◌, ◌+◌, ◌*◌, [], ◌∷◌, ℕ, Bool, false, not, ◌==◌, List, length, slice_index, slice_index_or, get_or, ap, arith, sym, ◌∙◌, subst, rules}
use Rattle.std.specs.Prelude.{IsTrue, ◌↔◌}
use Rattle.am_base.specs.declared.limits.TheConstants.{MAX_MUTANTS}
use Rattle.std.specs.List.{All, filter, insert}
use Rattle.std.proofs.lemmas.List.Elements.{All-filter}
use Rattle.code_form.specs.Variant.{variant_of}
use Rattle.member_sets.specs.Members.{IsMemberList, class_at, parts_by}
use Rattle.member_sets.specs.Planes.{numbers_in}
use Rattle.member_sets.specs.Seen.{seen}
use Rattle.member_sets.proofs.Merged.{filtered_list, merged, all_away}
use Rattle.member_sets.proofs.members.plane_parts.Goals as goal
use Rattle.member_sets.proofs.members.plane_parts.Goals.{After-deref-2, After-have_bit, In_ok-form}

none_left : (b : Bool) (xs ys : List ℕ) → b ≡ false → IsTrue b ↔ (0 < length xs) → xs ≡ ys → ys ≡ []
none_left b [] ys f h e = sym e
none_left b (x ∷ xs) ys f h e = let t = h.1 (omega arith) in absurd (search (rules, t, f))

-- the members that are looked at one by one
others : (c : After-deref-2) → c.deref-2.result.now
    ≡ filter (λ m. not (class_at (variant_of c.args.table.now) c.args.place.0 c.args.class_of.now m == slice_index c.args.class_of.now 0)) c.args.plane.now
others c =
    c.deref-2.ensures.value ∙ c.in_ok-away.ensures ∙ ap (numbers_in c.in_ok-parted.parted.first) c.deref.ensures.value ∙ c.in_ok-parted.ensures.away

pub parts_of-requires : goal.parts_of-requires
parts_of-requires c =
    let of = others (goal.at.parts_of-requires c).After-deref-2 in record {
      members = λ some. subst IsMemberList (sym of) (filtered_list _ c.args.plane.now c.requires.list (subst (λ (xs : List ℕ). 0 < length xs) of some));
      within = subst (λ (xs : List ℕ). All (λ m. variant_of c.args.table.now m c.args.place.0 < length c.args.class_of.now) xs) (sym of)
          (All-filter _ (λ m. variant_of c.args.table.now m c.args.place.0 < length c.args.class_of.now) c.args.plane.now c.requires.within);
    }

pub from_words-requires : goal.from_words-requires
from_words-requires c =
    let first = c.in_ok-parted.parted.first in let t = c.if-not-have_bit.false in let few = c.in_ok-parted.ensures.few in record {
      few = subst (λ (ws : List ℕ). 64 * (first + length ws) ≤ MAX_MUTANTS) (sym c.deref-4.ensures.value) few.0;
      some = subst (λ ws. 0 < length (numbers_in first ws)) (c.deref-3.ensures.value ∙ sym c.deref-4.ensures.value) ((c.have_bit.ensures first).0 (search (rules, t)));
    }

-- the set of those that are left
left : (c : In_ok-form) → seen c.in_ok-form.form
    ≡ filter (λ m. class_at (variant_of c.args.table.now) c.args.place.0 c.args.class_of.now m == slice_index c.args.class_of.now 0) c.args.plane.now
left c = c.in_ok-form.ensures ∙ ap (numbers_in c.in_ok-parted.parted.first) c.deref-4.ensures.value ∙ c.in_ok-parted.ensures.home

some_left : (c : In_ok-form) → 0
    < length (filter (λ m. class_at (variant_of c.args.table.now) c.args.place.0 c.args.class_of.now m == slice_index c.args.class_of.now 0) c.args.plane.now)
some_left c =
    let first = c.in_ok-parted.parted.first in let t = c.if-not-have_bit.false in
    subst (λ (xs : List ℕ). 0 < length xs) (ap (numbers_in first) c.deref-3.ensures.value ∙ c.in_ok-parted.ensures.home)
    ((c.have_bit.ensures first).0 (search (rules, t)))

pub invariant_of-home : goal.invariant_of-home
invariant_of-home c =
    let s = (goal.at.invariant_of-home c).In_ok-form in subst IsMemberList (sym (left s)) (filtered_list _ c.args.plane.now c.requires.list (some_left s))

pub returns-then-not-have_bit : goal.returns-then-not-have_bit
returns-then-not-have_bit c =
    let class : ℕ → ℕ = class_at (variant_of c.args.table.now) c.args.place.0 c.args.class_of.now in
    let home : ℕ = slice_index c.args.class_of.now 0 in let first = c.in_ok-parted.parted.first in let t = c.if-not-have_bit.true in
    let of = others (goal.at.returns-then-not-have_bit c).After-deref-2 in
    c.in_ok-parts.ensures ∙ ap (parts_by class) of ∙ sym (all_away class home c.args.plane.now c.requires.list.rising
    (none_left c.have_bit.result (numbers_in first c.deref-3.result.now) _ t (c.have_bit.ensures first)
    (ap (numbers_in first) c.deref-3.ensures.value ∙ c.in_ok-parted.ensures.home)))

-- they are put where the first parts begin with lower ones
joined : (class : ℕ → ℕ) (c : ℕ) (xs : List ℕ) → IsMemberList xs → 0 < length (filter (λ m. class m == c) xs) → (parts new : List (List ℕ)) (home : List ℕ) (m at : ℕ)
    → parts ≡ parts_by class (filter (λ k. not (class k == c)) xs) → home ≡ filter (λ k. class k == c) xs → m ≡ slice_index home 0 → at ≤ length parts
    → ((k : ℕ) → k < at → slice_index (slice_index_or parts k []) 0 ≤ m) → (at < length parts → m < slice_index (slice_index_or parts at []) 0)
    → new ≡ insert parts at home → new ≡ parts_by class xs
joined class c xs is some parts new home m at e f g w low high n =
    let long = ap length e in let first = g ∙ ap (λ (ys : List ℕ). slice_index ys 0) f in
    let lead : (k : ℕ) → slice_index (slice_index_or parts k []) 0 ≡ slice_index (slice_index_or (parts_by class (filter (λ j. not (class j == c)) xs)) k []) 0 =
    λ k. ap (λ ps. slice_index (slice_index_or ps k []) 0) e in
    n ∙ (λ i. insert (e i) at (f i)) ∙ sym (merged class c xs is.rising some at (omega arith) (λ k l. omega (arith, low k l, lead k))
    (λ l. let h = high (omega arith) in omega (arith, lead at)))

pub returns : goal.returns
returns c =
    let class : ℕ → ℕ = class_at (variant_of c.args.table.now) c.args.place.0 c.args.class_of.now in
    let home : ℕ = slice_index c.args.class_of.now 0 in
    let s = (goal.at.returns c).In_ok-form in
    let of : c.deref-5.result.now ≡ parts_by class (filter (λ m. not (class m == home)) c.args.plane.now) =
    c.deref-5.ensures.value ∙ c.in_ok-parts.ensures ∙ ap (parts_by class) (others (goal.at.returns c).After-deref-2) in
    joined class home c.args.plane.now c.requires.list (some_left s) c.deref-5.result.now c.insert.new.self.items (seen c.in_ok-form.form) c.least.result
    c.place_of-at.result of (left s) c.least.ensures.first c.place_of-at.ensures.within c.place_of-at.ensures.low c.place_of-at.ensures.high
    (c.in_ok-insert.ensures.items ∙ ap (λ (ps : List (List ℕ)). insert ps c.place_of-at.result (seen c.in_ok-form.form)) (sym c.deref-5.ensures.value))
