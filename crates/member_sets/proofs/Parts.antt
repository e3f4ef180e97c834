-- The least members of the classes, and the parts that they lead.
use Rattle.std.proofs.Common.{if◌then◌else◌, rules, nat_cmp, ◌≡◌, ℕ, suc, ◌+◌, ◌<◌, ◌≤◌, Bool, true, false, ◌&&◌, ◌||◌, not, ◌==◌, nat_lt, List}
use Rattle.std.proofs.Common.{[], ◌∷◌, ◌++◌, length, map, take, drop, get_or, refl, sym, ap, ◌∙◌, subst, arith, ⊎_elim, length-drop, get_or-drop, append-nil}
use Rattle.std.specs.List.{All, Contains, filter, list_any}
use Rattle.std.specs.List.Sorted.{IsStrictlyIncreasing, IsBinarySearchResult}
use Rattle.std.specs.Prelude.{Result, Ok, Err, MatchResult, IsTrue, ◌↔◌}
use Rattle.std.specs.Result.{is_ok}
use Rattle.std.proofs.lemmas.List.Sorted.{searched}
use Rattle.std.proofs.lemmas.Bool.{lt-ltb, le-ltb, eq-eqb, cases_lt}
use Rattle.std.proofs.lemmas.List.{take_more, take-map, get_or-map, get_or_default, take-append-drop, get_or-take, length-take}
use Rattle.std.proofs.lemmas.List.Elements.{All-filter, filter-append, Contains-get_or}
use Rattle.std.proofs.lemmas.List.Folds.{list_any-append, list_any_none, list_any_at}
use Rattle.std.proofs.lemmas.List.Sums.{length-filter, count_by-le-length}
use Rattle.std.proofs.lemmas.List.Kept.{IsStrictlyIncreasing-filter, AllPairs-from_increasing}
use Rattle.am_base.specs.declared.limits.TheConstants.{MAX_MUTANTS}
use Rattle.member_sets.specs.Members.{IsMemberList, same_class, is_class_leader, parts_by}
use Rattle.traces.proofs.Bools.{or_false}
use Rattle.traces.proofs.Lists.{to_filter}
use Rattle.traces.proofs.Turns.{some_from}

pub rising_at : (xs : List ℕ) → IsStrictlyIncreasing xs → (i j : ℕ) → i ≤ j → j < length xs → get_or xs i 0 ≤ get_or xs j 0
rising_at xs r i j h l = ⊎_elim
    (λ b. let p = AllPairs-from_increasing xs r i j 0 b l in omega arith)
    (λ (e : j ≤ i). let s : i ≡ j = omega arith in rw s (omega arith))
    (cases_lt i j)

-- the first of a rising list is the least
pub first_least : (xs : List ℕ) → IsStrictlyIncreasing xs → All (λ m. get_or xs 0 0 ≤ m) xs
first_least xs r k d l = subst (λ m. get_or xs 0 0 ≤ m) (get_or_default xs k 0 d l) (rising_at xs r 0 k (omega arith) l)

abbrev Searched : List ℕ → ℕ → Result ℕ ℕ → Type 0
Searched xs x r = MatchResult r (λ i. (i < length xs) × (get_or xs i 0 ≡ x))
    (λ i. (i ≤ length xs) × ((k : ℕ) → k < i → get_or xs k 0 < x) × ((k : ℕ) → i ≤ k → k < length xs → x < get_or xs k 0))

told : (xs : List ℕ) (x : ℕ) (r : Result ℕ ℕ) → Searched xs x r → IsTrue (is_ok r) ↔ Contains xs x
told xs x (Ok i) s = ((λ t. (i, s.0, get_or_default xs i x 0 s.0 ∙ s.1)), (λ c. search rules))
told xs x (Err i) s = (
  (λ t. absurd (search (rules, t))),
  (λ (k, l, e). absurd (
      let a : get_or xs k 0 ≡ x = get_or_default xs k 0 x l ∙ e in
      ⊎_elim (λ b. let f = s.1 k b in omega arith) (λ g. let f = s.2 k g l in omega arith) (cases_lt k i))),
)

-- what a binary search of a rising list tells
pub found : (xs : List ℕ) (x : ℕ) (r : Result ℕ ℕ) → IsStrictlyIncreasing xs → IsBinarySearchResult (λ y. nat_cmp y x) xs r → IsTrue (is_ok r) ↔ Contains xs x
found xs x r rising is = told xs x r (searched xs x r is (rising_at xs rising))

any_where : (p q : ℕ → Bool) (xs : List ℕ) → All (λ k. p k ≡ q k) xs → list_any p xs ≡ list_any q xs
any_where p q [] h = refl
any_where p q (x ∷ xs) h = let a : p x ≡ q x = h 0 x (omega arith) in let b = any_where p q xs (λ k d l. h (suc k) d (omega arith)) in cc

any-map : (p : ℕ → Bool) (f : ℕ → ℕ) (xs : List ℕ) → list_any p (map f xs) ≡ list_any (λ x. p (f x)) xs
any-map p f [] = refl
any-map p f (x ∷ xs) = ap (λ b. p (f x) || b) (any-map p f xs)

-- in a rising list the lower numbers are the earlier ones
lower_earlier : (q : ℕ → Bool) (xs : List ℕ) (i : ℕ) → IsStrictlyIncreasing xs → i < length xs
    → list_any (λ k. nat_lt k (get_or xs i 0) && q k) xs ≡ list_any q (take i xs)
lower_earlier q xs i r l =
    let m = get_or xs i 0 in let p : ℕ → Bool = λ k. nat_lt k m && q k in
    let fore : All (λ k. p k ≡ q k) (take i xs) = (λ k d h. let n = length-take i xs in
    let b : get_or (take i xs) k d < m = (let e = get_or-take i xs k d (omega arith) in let f = get_or_default xs k d 0 (omega arith) in let g =
    AllPairs-from_increasing xs r k i 0 (omega arith) l in omega arith) in
    ap (λ t. t && q (get_or (take i xs) k d)) (lt-ltb _ _ b)) in
    let aft : All (λ k. p k ≡ false) (drop i xs) = (λ k d h. let n = length-drop i xs in
    let b : m ≤ get_or (drop i xs) k d = (let e = get_or-drop i xs k d in let f = get_or_default xs (i + k) d 0 (omega arith) in let g =
    rising_at xs r i (i + k) (omega arith) (omega arith) in omega arith) in
    ap (λ t. t && q (get_or (drop i xs) k d)) (le-ltb _ _ b)) in
    ap (list_any p) (sym (take-append-drop i xs)) ∙ list_any-append p (take i xs) (drop i xs)
    ∙ ap (λ b. list_any p (take i xs) || b) (list_any_none p (drop i xs) aft)
    ∙ or_false _ ∙ any_where p q (take i xs) fore

pub filter_taken : (p : ℕ → Bool) (xs : List ℕ) (i : ℕ) → i < length xs → p (get_or xs i 0) ≡ true → filter p (take (i + 1) xs) ≡ filter p (take i xs)
    ++ get_or xs i 0 ∷ []
filter_taken p xs i l e = ap (filter p) (take_more xs i 0 l) ∙ filter-append p (take i xs) (get_or xs i 0 ∷ [])
    ∙ ap (λ ys. filter p (take i xs) ++ ys) (rw e refl)

pub filter_left : (p : ℕ → Bool) (xs : List ℕ) (i : ℕ) → i < length xs → p (get_or xs i 0) ≡ false → filter p (take (i + 1) xs) ≡ filter p (take i xs)
filter_left p xs i l e = ap (filter p) (take_more xs i 0 l) ∙ filter-append p (take i xs) (get_or xs i 0 ∷ [])
    ∙ ap (λ ys. filter p (take i xs) ++ ys) (rw e refl) ∙ append-nil _

-- the class at an index is that of the member there
pub class_there : (class : ℕ → ℕ) (classes members : List ℕ) (i : ℕ) → classes ≡ map class members → i < length members
    → get_or classes i 0 ≡ class (get_or members i 0)
class_there class classes members i e l = ap (λ cs. get_or cs i 0) e ∙ get_or-map class members i 0 0 l

module _ (class : ℕ → ℕ) (members : List ℕ) (is : IsMemberList members) (at : ℕ) (l : at < length members) where
  abbrev here : ℕ
  here = get_or members at 0

  class_here : get_or (map class members) at 0 ≡ class here
  class_here = get_or-map class members at 0 0 l

  -- whether the member at an index is the least of its class
  pub is_class_leader_at : is_class_leader class members here ≡ not (list_any (λ c. c == get_or (map class members) at 0) (take at (map class members)))
  is_class_leader_at = ap not (lower_earlier (λ k. same_class class k here) members at is.rising l
      ∙ sym (any-map (λ c. c == class here) class (take at members))
      ∙ ap (list_any (λ c. c == class here)) (sym (take-map class at members))
      ∙ ap (λ n. list_any (λ c. c == n) (take at (map class members))) (sym class_here))

  pub part_is : IsMemberList (filter (same_class class here) members)
  part_is = record {
    some = some_from _ here (to_filter (same_class class here) members here (Contains-get_or members at 0 l) (eq-eqb _ _ refl));
    few = (let f = is.few in let n = length-filter (same_class class here) members in let k = count_by-le-length (same_class class here) members in
        omega arith);
    rising = IsStrictlyIncreasing-filter (same_class class here) members is.rising;
    within = All-filter (same_class class here) (λ m. m < MAX_MUTANTS) members is.within;
  }

kept_all : (p : ℕ → Bool) (xs : List ℕ) → All (λ x. p x ≡ true) xs → filter p xs ≡ xs
kept_all p [] h = refl
kept_all p (x ∷ xs) h = rw (h 0 x (omega arith)) (ap (λ ys. x ∷ ys) (kept_all p xs (λ k d l. h (suc k) d (omega arith))))

kept_none : (p : ℕ → Bool) (xs : List ℕ) → All (λ x. p x ≡ false) xs → filter p xs ≡ []
kept_none p [] h = refl
kept_none p (x ∷ xs) h = rw (h 0 x (omega arith)) (kept_none p xs (λ k d l. h (suc k) d (omega arith)))

-- where all members have one class there is one part
pub one_part : (class : ℕ → ℕ) (members : List ℕ) → IsMemberList members → All (λ m. class m ≡ 0) members → parts_by class members ≡ members ∷ []
one_part class [] is h = absurd (let s = is.some in omega arith)
one_part class (x ∷ xs) is h =
    let here : class x ≡ 0 = h 0 x (omega arith) in
    let least : is_class_leader class (x ∷ xs) x ≡ true = ap not (list_any_none (λ k. nat_lt k x && same_class class k x) (x ∷ xs)
    (λ k d l. ap (λ b. b && same_class class (get_or (x ∷ xs) k d) x) (le-ltb _ _ (first_least (x ∷ xs) is.rising k d l)))) in
    let others : All (λ m. is_class_leader class (x ∷ xs) m ≡ false) xs = (λ k d l.
    let below : x < get_or xs k d = AllPairs-from_increasing (x ∷ xs) is.rising 0 (suc k) d (omega arith) (omega arith) in
    let there : class (get_or xs k d) ≡ 0 = h (suc k) d (omega arith) in
    ap not (list_any_at (λ j. nat_lt j (get_or xs k d) && same_class class j (get_or xs k d)) (x ∷ xs) 0 0 (omega arith)
    (rw (lt-ltb _ _ below) (eq-eqb _ _ (here ∙ sym there))))) in
    let all : All (λ m. same_class class x m ≡ true) (x ∷ xs) = (λ k d l. eq-eqb _ _ (here ∙ sym (h k d l))) in
    ap (map (λ m. filter (same_class class m) (x ∷ xs))) (ap (λ b. if b then x
    ∷ filter (is_class_leader class (x ∷ xs)) xs else filter (is_class_leader class (x ∷ xs)) xs) least
    ∙ ap (λ ys. x ∷ ys) (kept_none (is_class_leader class (x ∷ xs)) xs others))
    ∙ ap (λ ys. ys ∷ []) (kept_all (same_class class x) (x ∷ xs) all)
