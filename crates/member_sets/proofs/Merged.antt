-- The parts of a set from those of its members of other classes than one, and the members of that class.
use Rattle.std.proofs.Common.{◌≡◌, ◌≢◌, ◌⊎◌, inl, inr, ℕ, suc, ◌+◌, ◌<◌, ◌≤◌, Bool, true, false, ◌&&◌, ◌==◌, not, nat_lt, List, [], ◌∷◌, ◌++◌, length, map, take, drop, get_or, refl}
use Rattle.std.proofs.Common.{sym, ap, ◌∙◌, subst, arith, ⊎_elim}
use Rattle.std.specs.List.{All, Contains, filter, list_any, insert}
use Rattle.std.specs.List.Sorted.{IsStrictlyIncreasing}
use Rattle.std.proofs.lemmas.Bool.{true≢false, eqb-true, eq-eqb, ne_eqb, lt-ltb, ltb-true, cases_lt, cases_eq, and_from, and_parts, not_from_true, not_from_false, false_from_ne_true}
use Rattle.std.proofs.lemmas.Bool.Decides.{nat_tests}
use Rattle.std.proofs.lemmas.List.{get_or_default, get_or-map, length-map, map-append, take-map, drop-map}
use Rattle.std.proofs.lemmas.List.Elements.{All-contains, All-filter, Contains-get_or}
use Rattle.std.proofs.lemmas.List.Folds.{list_any_at, list_any_none}
use Rattle.std.proofs.lemmas.List.Sums.{length-filter, count_by-le-length}
use Rattle.std.proofs.lemmas.List.Kept.{AllPairs-from_increasing, IsStrictlyIncreasing-filter}
use Rattle.traces.proofs.Bools.{on_bool, same_bools}
use Rattle.traces.proofs.Lists.{from_filter, to_filter, filter-filter, any-filter}
use Rattle.traces.proofs.Turns.{any_from, some_from}
use Rattle.code_form.proofs.Lists.{contains-insert}
use Rattle.am_base.specs.declared.limits.TheConstants.{MAX_MUTANTS}
use Rattle.member_sets.specs.Members.{IsMemberList, same_class, is_class_leader, parts_by}
use Rattle.member_sets.proofs.Lists.{flipped, map_where}
use Rattle.member_sets.proofs.Parts.{first_least}
use Rattle.member_sets.proofs.Rising.{same_rising, increasing-insert}

abbrev leaders : (ℕ → ℕ) → List ℕ → List ℕ
leaders class xs = filter (is_class_leader class xs) xs

-- some members are a set
pub filtered_list : (p : ℕ → Bool) (members : List ℕ) → IsMemberList members → 0 < length (filter p members) → IsMemberList (filter p members)
filtered_list p members is some = record {
  some = some;
  few = (let f = is.few in let n = length-filter p members in let k = count_by-le-length p members in omega arith);
  rising = IsStrictlyIncreasing-filter p members is.rising;
  within = All-filter p (λ m. m < MAX_MUTANTS) members is.within;
}

-- whether a member leads its class
no_lower : (class : ℕ → ℕ) (xs : List ℕ) (x k : ℕ) → is_class_leader class xs x ≡ true → Contains xs k → class k ≡ class x → x ≤ k
no_lower class xs x k t c e = ⊎_elim
    (λ (b : k < x). absurd (true≢false (sym t ∙ not_from_true _ (any_from (λ j. nat_lt j x && same_class class j x) xs k c (and_from _ _ (lt-ltb _ _ b) (eq-eqb _ _ e))))))
    (λ g. g)
    (cases_lt k x)

led_by : (class : ℕ → ℕ) (xs : List ℕ) → IsStrictlyIncreasing xs → (x : ℕ) → Contains (leaders class xs) x → get_or (filter (same_class class x) xs) 0 0 ≡ x
led_by class xs rising x c =
    let part : List ℕ = filter (same_class class x) xs in
    let h = from_filter (is_class_leader class xs) xs x c in
    let there : Contains part x = to_filter (same_class class x) xs x h.0 (eq-eqb _ _ refl) in
    let low : get_or part 0 0 ≤ x = All-contains (λ m. get_or part 0 0 ≤ m) part x (first_least part (IsStrictlyIncreasing-filter (same_class class x) xs rising)) there in
    let f = from_filter (same_class class x) xs (get_or part 0 0) (Contains-get_or part 0 0 (some_from part x there)) in
    let high = no_lower class xs x (get_or part 0 0) h.1 f.0 (sym (eqb-true _ _ f.1)) in
    omega arith

module _ (class : ℕ → ℕ) (c : ℕ) (members : List ℕ) (rising : IsStrictlyIncreasing members) where
  abbrev is_home : ℕ → Bool
  is_home m = class m == c

  abbrev is_away : ℕ → Bool
  is_away m = not (class m == c)

  abbrev home : List ℕ
  home = filter is_home members

  abbrev away : List ℕ
  away = filter is_away members

  -- what has the class of one that is away is away
  goes_along : (p : ℕ → Bool) (x k : ℕ) → class x ≢ c → (p k ≡ true → class k ≡ class x) → (is_away k && p k) ≡ p k
  goes_along p x k ne h = on_bool (p k)
      (λ t. and_from _ _ (not_from_false _ (ne_eqb _ _ (λ e. ne (sym (h t) ∙ e)))) t ∙ sym t)
      (λ f. ap (λ b. is_away k && b) f ∙ on_bool (is_away k) (λ t. ap (λ b. b && false) t) (λ g. ap (λ b. b && false) g) ∙ sym f)

  leads_as : (x : ℕ) → class x ≢ c → is_class_leader class away x ≡ is_class_leader class members x
  leads_as x ne =
      let p : ℕ → Bool = λ k. nat_lt k x && same_class class k x in
      ap not (any-filter p is_away members
      ∙ (λ i. list_any (λ k. goes_along p x k ne (λ t. eqb-true _ _ (and_parts _ _ t).1) i) members))

  part_as : (x : ℕ) → class x ≢ c → filter (same_class class x) away ≡ filter (same_class class x) members
  part_as x ne = filter-filter (same_class class x) is_away members
      ∙ (λ i. filter (λ k. goes_along (same_class class x) x k ne (λ t. sym (eqb-true _ _ t)) i) members)

  apart : (x : ℕ) → Contains away x → class x ≢ c
  apart x h e = true≢false (sym (from_filter is_away members x h).1 ∙ not_from_true _ (eq-eqb _ _ e))

  module _ (some : 0 < length home) where
    abbrev first : ℕ
    first = get_or home 0 0

    first_in : Contains members first × (class first ≡ c)
    first_in = let h = from_filter is_home members first (Contains-get_or home 0 0 some) in (h.0, eqb-true _ _ h.1)

    -- it is the least of them
    least : (x : ℕ) → Contains members x → class x ≡ c → first ≤ x
    least x h e = All-contains (λ m. first ≤ m) home x (first_least home (IsStrictlyIncreasing-filter is_home members rising))
        (to_filter is_home members x h (eq-eqb _ _ e))

    first_leads : is_class_leader class members first ≡ true
    first_leads =
        let p : ℕ → Bool = λ k. nat_lt k first && same_class class k first in
        ap not (list_any_none p members (λ k d l. let x = get_or members k d in on_bool (p x)
        (λ t. let h = and_parts _ _ t in let b : x < first = ltb-true _ _ h.0 in
        absurd (let g = least x (Contains-get_or members k d l) (eqb-true _ _ h.1 ∙ first_in.1) in omega arith))
        (λ f. f)))

    only_first : (x : ℕ) → Contains (leaders class members) x → class x ≡ c → x ≡ first
    only_first x h e =
        let g = from_filter (is_class_leader class members) members x h in
        let a = least x g.0 e in let b = no_lower class members x first g.1 first_in.0 (first_in.1 ∙ sym e) in omega arith

    module _ (at : ℕ) (within : at ≤ length (leaders class away)) (low : (k : ℕ) → k < at → get_or (leaders class away) k 0 ≤ first)
        (high : at < length (leaders class away) → first < get_or (leaders class away) at 0) where
      rising_away : IsStrictlyIncreasing (leaders class away)
      rising_away = IsStrictlyIncreasing-filter (is_class_leader class away) away (IsStrictlyIncreasing-filter is_away members rising)

      away_leader : (x : ℕ) → Contains (leaders class away) x → Contains away x × (is_class_leader class away x ≡ true)
      away_leader x h = from_filter (is_class_leader class away) away x h

      inserted : leaders class members ≡ insert (leaders class away) at first
      inserted =
          let L : List ℕ = leaders class away in
          same_rising (leaders class members) (insert L at first) (IsStrictlyIncreasing-filter (is_class_leader class members) members rising)
          (increasing-insert L at first rising_away within
          (λ k l. let h = low k l in let there = Contains-get_or L k 0 (omega arith) in
          let ne : get_or L k 0 ≢ first = (λ e. apart (get_or L k 0) (away_leader _ there).0 (ap class e ∙ first_in.1)) in omega arith)
          (λ k l b. ⊎_elim
          (λ (m : at < k). let p = AllPairs-from_increasing L rising_away at k 0 m b in let h = high (omega arith) in omega arith)
          (λ (g : k ≤ at). let e : k ≡ at = omega arith in rw e (high (omega arith)))
          (cases_lt at k)))
          (λ x h. let g = from_filter (is_class_leader class members) members x h in (contains-insert L at first within x).1 (⊎_elim
          (λ (e : class x ≡ c). inl (only_first x h e))
          (λ (ne : class x ≡ c → ⊥). inr (to_filter (is_class_leader class away) away x
          (to_filter is_away members x g.0 (not_from_false _ (ne_eqb _ _ ne))) (leads_as x ne ∙ g.1)))
          (cases_eq (class x) c)))
          (λ x h. ⊎_elim
          (λ (e : x ≡ first). rw e (to_filter (is_class_leader class members) members first first_in.0 first_leads))
          (λ d. let g = away_leader x d in to_filter (is_class_leader class members) members x (from_filter is_away members x g.0).0
          (sym (leads_as x (apart x g.0)) ∙ g.1))
          ((contains-insert L at first within x).0 h))

      parts_inserted : parts_by class members ≡ insert (parts_by class away) at home
      parts_inserted =
          let L : List ℕ = leaders class away in
          let f : ℕ → List ℕ = λ m. filter (same_class class m) members in let g : ℕ → List ℕ = λ m. filter (same_class class m) away in
          let same : map f L ≡ map g L = map_where f g L (λ k d l. sym (part_as (get_or L k d) (apart (get_or L k d) (away_leader _ (Contains-get_or L k d l)).0))) in
          let own : f first ≡ home = (λ i. filter (λ k. (ap (λ x. x == class k) first_in.1 ∙ flipped c (class k)) i) members) in
          ap (map f) inserted ∙ map-append f (take at L) (first ∷ drop at L)
          ∙ ap (λ xs. xs ++ f first ∷ map f (drop at L)) (sym (take-map f at L)) ∙ ap (λ xs. take at (map f L) ++ f first ∷ xs) (sym (drop-map f at L))
          ∙ ap (λ xs. take at xs ++ f first ∷ drop at xs) same ∙ ap (λ x. take at (map g L) ++ x ∷ drop at (map g L)) own

    -- the members of the class go where the first parts' least members are lower
    pub merged : (at : ℕ) → at ≤ length (parts_by class away) → ((k : ℕ) → k < at → get_or (get_or (parts_by class away) k []) 0 0 ≤ first)
        → (at < length (parts_by class away) → first < get_or (get_or (parts_by class away) at []) 0 0)
        → parts_by class members ≡ insert (parts_by class away) at home
    merged at within low high =
        let L : List ℕ = leaders class away in let g : ℕ → List ℕ = λ m. filter (same_class class m) away in
        let many : length (map g L) ≡ length L = length-map L g in
        let led : (k : ℕ) → k < length L → get_or (get_or (map g L) k []) 0 0 ≡ get_or L k 0 =
        (λ k l. ap (λ xs. get_or xs 0 0) (get_or-map g L k 0 [] l)
        ∙ led_by class away (IsStrictlyIncreasing-filter is_away members rising) (get_or L k 0) (Contains-get_or L k 0 l)) in
        parts_inserted at (omega arith) (λ k l. let h = low k l in let e = led k (omega arith) in omega arith)
        (λ l. let h = high (omega arith) in let e = led at l in omega arith)

  -- where there is none, the others are all
  pub all_away : home ≡ [] → parts_by class members ≡ parts_by class away
  all_away none = ap (parts_by class) (same_rising members away rising (IsStrictlyIncreasing-filter is_away members rising)
      (λ x h. to_filter is_away members x h (on_bool (is_home x) (λ t. absurd (let z = (to_filter is_home members x h t).1 in let e = ap length none in omega arith))
      (λ f. not_from_false _ f)))
      (λ x h. (from_filter is_away members x h).0))
