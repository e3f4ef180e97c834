-- Lists made from a function of the place.
use Rattle.std.proofs.Common.{◌≡◌, ◌≢◌, ℕ, zero, suc, ◌+◌, ◌<◌, ◌≤◌, List, Bool, length, get_or, set, arith, ap, sym, ◌∙◌, refl}
use Rattle.std.proofs.Common.{get_or-set_same, get_or-set_other, subst, inl, inr}
use Rattle.std.specs.List.{count_by, sum_by}
use Rattle.std.proofs.Math.ListN.{length-set}
use Rattle.std.proofs.lemmas.Bool.{cases_eq}
use Rattle.std.proofs.lemmas.List.{ext_get_or, get_or_default, get_or_past, same_lists}
use Rattle.std.proofs.lemmas.List.FromFn.{get_or-map-range_with_len, length-map-range_with_len, sum_by-map-range_with_len_more}
use Rattle.shared_pages.specs.Counts.{is_one, occurs, one_if}
use Rattle.shared_pages.specs.Store.{tabulate}
use Rattle.shared_pages.proofs.Owners.{is_one-other}

pub length-tabulate : {A : Type 0} (n : ℕ) (f : ℕ → A) → length (tabulate n f) ≡ n
unfolding tabulate
length-tabulate n f = length-map-range_with_len f 0 n

pub at_tabulate : {A : Type 0} (n : ℕ) (f : ℕ → A) (i : ℕ) (d : A) → i < n → get_or (tabulate n f) i d ≡ f i
unfolding tabulate
at_tabulate n f i d h = get_or-map-range_with_len f 0 n i i d h (omega arith)

pub past_tabulate : {A : Type 0} (n : ℕ) (f : ℕ → A) (i : ℕ) (d : A) → n ≤ i → get_or (tabulate n f) i d ≡ d
past_tabulate n f i d h = get_or_past (tabulate n f) i d (let l = length-tabulate n f in omega (arith, l))

pub same_tabulate : {A : Type 0} (n : ℕ) (f g : ℕ → A) → ((i : ℕ) → i < n → f i ≡ g i) → tabulate n f ≡ tabulate n g
same_tabulate n f g h = same_lists (tabulate n f) (tabulate n g) (length-tabulate n f ∙ sym (length-tabulate n g))
    (λ i d below. let k : i < n = (let l = length-tabulate n f in omega (arith, l)) in at_tabulate n f i d k ∙ h i k ∙ sym (at_tabulate n g i d k))

pub set_tabulate : {A : Type 0} (n : ℕ) (f g : ℕ → A) (i : ℕ) (v : A) → i < n → g i ≡ v → ((j : ℕ) → j < n → j ≢ i → g j ≡ f j)
    → tabulate n g ≡ set (tabulate n f) i v
set_tabulate n f g i v h here others = ext_get_or v (tabulate n g) (set (tabulate n f) i v)
    (length-tabulate n g ∙ sym (length-set (tabulate n f) i v ∙ length-tabulate n f))
    (λ j below.
    let k : j < n = (let l = length-tabulate n g in omega (arith, l)) in
    at_tabulate n g j v k ∙ (elim (cases_eq j i) [
      | inl e ↦ subst (λ (q : ℕ). g q ≡ get_or (set (tabulate n f) i v) q v) (sym e) (here
          ∙ sym (get_or-set_same (tabulate n f) i v v (let l = length-tabulate n f in omega (arith, l))))
      | inr ne ↦ others j k ne ∙ sym (get_or-set_other (tabulate n f) i j v v ne ∙ at_tabulate n f j v k)
    ]))

pub counted_none : (f : ℕ → Bool) → count_by (λ b. b) (tabulate 0 f) ≡ 0
unfolding tabulate
counted_none f = refl

pub counted_more : (f : ℕ → Bool) (n : ℕ) → count_by (λ b. b) (tabulate (n + 1) f) ≡ count_by (λ b. b) (tabulate n f) + one_if (f n)
unfolding tabulate
counted_more f n = sum_by-map-range_with_len_more (λ b. one_if b) f 0 n n (omega arith)

pub sum_start : {A : Type 0} (g : A → ℕ) (f : ℕ → A) → sum_by g (tabulate 0 f) ≡ 0
unfolding tabulate
sum_start g f = refl

pub sum_more : {A : Type 0} (g : A → ℕ) (f : ℕ → A) (n : ℕ) → sum_by g (tabulate (n + 1) f) ≡ sum_by g (tabulate n f) + g (f n)
unfolding tabulate
sum_more g f n = sum_by-map-range_with_len_more g f 0 n n (omega arith)

pub occurs_split : (p a b : ℕ) (f : ℕ → ℕ) → occurs p (tabulate (a + b) f) ≡ occurs p (tabulate a f) + occurs p (tabulate b (λ i. f (a + i)))
occurs_split p a zero f =
    let none = sum_start (λ y. is_one p y) (λ i. f (a + i)) in
    let same = ap (λ (n : ℕ). occurs p (tabulate n f)) (let e : a + zero ≡ a = omega arith in e) in
    omega (arith, none, same)
occurs_split p a (suc b) f =
    let long = ap (λ (n : ℕ). occurs p (tabulate n f)) (let e : a + suc b ≡ (a + b) + 1 = omega arith in e) in
    let last = sum_more (λ y. is_one p y) f (a + b) in
    let short = ap (λ (n : ℕ). occurs p (tabulate n (λ i. f (a + i)))) (let e : suc b ≡ b + 1 = omega arith in e) in
    let also = sum_more (λ y. is_one p y) (λ i. f (a + i)) b in
    let rest = occurs_split p a b f in
    omega (arith, long, last, short, also, rest)

pub occurs_blank : (p n : ℕ) (f : ℕ → ℕ) → 0 < p → ((i : ℕ) → i < n → f i ≡ 0) → occurs p (tabulate n f) ≡ 0
occurs_blank p zero f some h = sum_start (λ y. is_one p y) f
occurs_blank p (suc n) f some h =
    let long = ap (λ (k : ℕ). occurs p (tabulate k f)) (let e : suc n ≡ n + 1 = omega arith in e) in
    let last = sum_more (λ y. is_one p y) f n in
    let zero_here = h n (omega arith) in
    let none = is_one-other p (f n) (λ e. absurd (omega (arith, e, zero_here, some))) in
    let rest = occurs_blank p n f some (λ i low. h i (omega (arith, low))) in
    omega (arith, long, last, none, rest)

-- a list is made from its elements
pub as_tabulate : (xs : List ℕ) → tabulate (length xs) (λ i. get_or xs i 0) ≡ xs
as_tabulate xs = same_lists (tabulate (length xs) (λ i. get_or xs i 0)) xs (length-tabulate (length xs) (λ i. get_or xs i 0))
    (λ i d below.
    let low : i < length xs = (let l = length-tabulate (length xs) (λ i. get_or xs i 0) in omega (arith, l, below)) in
    at_tabulate (length xs) (λ i. get_or xs i 0) i d low ∙ get_or_default xs i 0 d low)
