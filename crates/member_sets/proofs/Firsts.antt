-- The numbers of members, each by the least member that has it.
use Rattle.std.proofs.Common.{◌≡◌, ℕ, zero, suc, ◌+◌, ◌≤◌, ◌<◌, Bool, true, false, ◌==◌, ◌||◌, not, List, [], ◌∷◌, ◌++◌, length, map, take, get_or, refl, sym}
use Rattle.std.proofs.Common.{ap}
use Rattle.std.proofs.Common.{◌∙◌, subst, arith, add-one}
use Rattle.std.specs.List.{filter, list_any}
use Rattle.std.proofs.lemmas.Bool.{eqb-true, not-false}
use Rattle.std.proofs.lemmas.List.{map-append, take_more, take-map, get_or-map}
use Rattle.std.proofs.lemmas.List.Folds.{list_any-append}
use Rattle.traces.proofs.Bools.{on_bool, or_false}
use Rattle.member_sets.specs.Members.{IsMemberList, is_class_leader}
use Rattle.member_sets.proofs.Parts.{filter_taken, filter_left, is_class_leader_at}

module _ (v : ℕ → ℕ) (members : List ℕ) (is : IsMemberList members) where
  abbrev firsts_to : ℕ → List ℕ
  firsts_to i = map v (filter (is_class_leader v members) (take i members))

  -- whether the member at an index is the first with its variant
  first_at : (i : ℕ) → i < length members → is_class_leader v members (get_or members i 0) ≡ not
      (list_any (λ c. c == v (get_or members i 0)) (map v (take i members)))
  first_at i l =
      is_class_leader_at v members is i l
      ∙ ap (λ n. not (list_any (λ c. c == n) (take i (map v members)))) (get_or-map v members i 0 0 l)
      ∙ ap (λ xs. not (list_any (λ c. c == v (get_or members i 0)) xs)) (take-map v i members)

  taken : (i : ℕ) → i < length members → map v (take (i + 1) members) ≡ map v (take i members) ++ v (get_or members i 0) ∷ []
  taken i l = ap (map v) (take_more members i 0 l) ∙ map-append v (take i members) (get_or members i 0 ∷ [])

  pub firsts_taken : (i : ℕ) → i < length members → is_class_leader v members (get_or members i 0) ≡ true → firsts_to (i + 1) ≡ firsts_to i
      ++ v (get_or members i 0) ∷ []
  firsts_taken i l t = ap (map v) (filter_taken (is_class_leader v members) members i l t)
      ∙ map-append v (filter (is_class_leader v members) (take i members)) (get_or members i 0 ∷ [])

  pub firsts_left : (i : ℕ) → i < length members → is_class_leader v members (get_or members i 0) ≡ false → firsts_to (i + 1) ≡ firsts_to i
  firsts_left i l f = ap (map v) (filter_left (is_class_leader v members) members i l f)

  pub any_more : (x y : ℕ) (xs : List ℕ) → list_any (λ c. c == x) (xs ++ y ∷ []) ≡ (list_any (λ c. c == x) xs || (y == x))
  any_more x y xs = list_any-append (λ c. c == x) xs (y ∷ []) ∙ ap (λ b. list_any (λ c. c == x) xs || b) (or_false (y == x))

  was_there : (x i : ℕ) → i < length members → is_class_leader v members (get_or members i 0) ≡ false
      → list_any (λ c. c == x) (map v (take i members)) ≡ (list_any (λ c. c == x) (map v (take i members)) || (v (get_or members i 0) == x))
  was_there x i l f =
      let m = get_or members i 0 in let any : Bool = list_any (λ c. c == x) (map v (take i members)) in
      on_bool (v m == x)
      (λ t. let a : any ≡ true = subst (λ y. list_any (λ c. c == y) (map v (take i members)) ≡ true) (eqb-true _ _ t) (not-false _ (sym (first_at i l) ∙ f)) in
      a ∙ sym (ap (λ b. b || (v m == x)) a))
      (λ n. sym (ap (λ b. any || b) n ∙ or_false any))

  -- the variants of the first ones are those of all
  pub any_firsts : (x i : ℕ) → i ≤ length members → list_any (λ c. c == x) (firsts_to i) ≡ list_any (λ c. c == x) (map v (take i members))
  any_firsts x zero l = refl
  any_firsts x (suc i) l =
      let h : i < length members = omega arith in let m = get_or members i 0 in let p = any_firsts x i (omega arith) in
      subst (λ n. list_any (λ c. c == x) (firsts_to n) ≡ list_any (λ c. c == x) (map v (take n members))) (add-one i)
      (on_bool (is_class_leader v members m)
      (λ t. ap (list_any (λ c. c == x)) (firsts_taken i h t) ∙ any_more x (v m) (firsts_to i) ∙ ap (λ b. b || (v m == x)) p
      ∙ sym (any_more x (v m) (map v (take i members))) ∙ ap (list_any (λ c. c == x)) (sym (taken i h)))
      (λ f. ap (list_any (λ c. c == x)) (firsts_left i h f) ∙ p ∙ was_there x i h f ∙ sym (any_more x (v m) (map v (take i members)))
      ∙ ap (list_any (λ c. c == x)) (sym (taken i h))))

  pub leads : (i x : ℕ) (xs : List ℕ) (b : Bool) → i < length members → xs ≡ firsts_to i → x ≡ v (get_or members i 0) → list_any (λ c. c == x) xs ≡ b
      → is_class_leader v members (get_or members i 0) ≡ not b
  leads i x xs b l e f h =
      first_at i l
      ∙ ap not (sym (any_firsts (v (get_or members i 0)) i (omega arith)) ∙ ap (list_any (λ c. c == v (get_or members i 0))) (sym e)
      ∙ ap (λ y. list_any (λ c. c == y) xs) (sym f) ∙ h)
