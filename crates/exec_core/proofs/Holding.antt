-- What is kept from one moment of a machine to another.
use Rattle.std.proofs.Common.{◌≡◌, ◌≢◌, ℕ, List, [], ◌∷◌, ◌++◌, map, nat_eq, false, refl, sym, ap, ◌∙◌, arith, subst, append_assoc, append-nil, ⊎_elim}
use Rattle.std.specs.List.{All, Contains, IsDistinct}
use Rattle.std.specs.List.Sorted.{IsPermutation}
use Rattle.std.proofs.lemmas.Bool.{true≢false, eq-eqb}
use Rattle.std.proofs.lemmas.List.{map-append}
use Rattle.std.proofs.lemmas.List.Elements.{All-nil, All-push, All-weaker, All-contains, All-from_recursion, Contains-append_left, Contains-append_right}
use Rattle.std.proofs.lemmas.List.Elements.{Contains-push, Contains-get_or}
use Rattle.std.proofs.lemmas.List.Sorted.{IsPermutation-refl, IsPermutation-trans, IsPermutation-cons, IsPermutation-append_left, IsPermutation-append_right}
use Rattle.std.proofs.lemmas.List.Sorted.{IsPermutation-to_front, IsPermutation-middle}
use Rattle.std.proofs.lemmas.Map.Keys.{IsDistinct-head, IsDistinct-tail, IsDistinct-IsPermutation}
use Rattle.traces.specs.Counts.{Counts, SameCounts}
use Rattle.traces.specs.View.{View, IsLawful, Keeps}
use Rattle.exec_core.specs.Held.{AreForksOf, AreLeftOf}
use Rattle.traces.proofs.Lists.{contains_cases, contains_here}
use Rattle.exec_machine.proofs.Numbers.{flips}

pub single : {X : Type 0} {x y : X} → Contains (x ∷ []) y → x ≡ y
single {X} {x} {y} h = ⊎_elim (λ (e : x ≡ y). e) (λ (c : Contains [] y). absurd (let l = c.1 in omega arith)) (contains_cases x y [] h)

pub All-from_contains : {X : Type 0} (P : X → Type 0) (xs : List X) → ((x : X) → Contains xs x → P x) → All P xs
All-from_contains P xs f = λ k d l. f _ (Contains-get_or xs k d l)

pub nowhere : {X : Type 0} (x : X) → Contains [] x → ⊥
nowhere x h = let l = h.1 in omega arith

pub same_counts : (a : Counts) → SameCounts a a
same_counts a = record { tried = refl; applied = refl; weighed = refl; readied = refl; asks = λ p. refl }

pub same_counts_more : (a b c : Counts) → SameCounts a b → SameCounts b c → SameCounts a c
same_counts_more a b c p q = record {
  tried = q.tried ∙ p.tried;
  applied = q.applied ∙ p.applied;
  weighed = q.weighed ∙ p.weighed;
  readied = q.readied ∙ p.readied;
  asks = λ k. q.asks k ∙ p.asks k;
}

pub apart_lists : (xs ys : List ℕ) (k : ℕ) → IsDistinct nat_eq (xs ++ ys) → Contains xs k → Contains ys k → ⊥
apart_lists [] ys k d c e = let l = c.1 in absurd (omega arith)
apart_lists (x ∷ xs) ys k d c e = ⊎_elim
    (λ (i : x ≡ k). true≢false (sym (eq-eqb x k i) ∙ All-contains (λ y. nat_eq x y ≡ false) (xs ++ ys) k
    (All-from_recursion (λ y. nat_eq x y ≡ false) (xs ++ ys) (IsDistinct-head nat_eq x (xs ++ ys) d)) (Contains-append_right xs ys k e)))
    (λ (i : Contains xs k). apart_lists xs ys k (IsDistinct-tail nat_eq x (xs ++ ys) d) i e) (contains_cases x k xs c)

module _ {M S W C : Type 0} (V : View M S W C) (lawful : IsLawful V) where
  pub keeps_none : (m : M) (xs : List ℕ) → Keeps V m m xs
  keeps_none m xs = record { meanings = refl; stays = lawful.stays_refl m; out = λ t o n. o; stands = λ t o n. refl }

  pub keeps_more : (a b c : M) (xs ys zs : List ℕ) → ((k : ℕ) → Contains xs k → Contains zs k) → ((k : ℕ) → Contains ys k → Contains zs k) → Keeps V a b xs
      → Keeps V b c ys → Keeps V a c zs
  keeps_more a b c xs ys zs f g p q = record {
    meanings = q.meanings ∙ p.meanings;
    stays = lawful.stays_trans a b c p.stays q.stays;
    out = λ t o n. q.out t (p.out t o (λ h. n (f _ h))) (λ h. n (g _ h));
    stands = λ t o n. q.stands t (p.out t o (λ h. n (f _ h))) (λ h. n (g _ h)) ∙ p.stands t o (λ h. n (f _ h));
  }

  pub forks_none : (m : M) (s : S) → AreForksOf V m s m []
  forks_none m s = record { out = All-nil _; stand = All-nil _; numbers = IsPermutation-refl _ }

  pub forks_more : (a b c : M) (s t : S) (ts : List S) → V.stands b s ≡ V.stands a s → AreForksOf V a s b ts → Keeps V a b []
      → V.is_out c t → V.stands c t ≡ V.stands b s → IsPermutation (V.number t ∷ V.out_numbers b) (V.out_numbers c) → Keeps V b c []
      → AreForksOf V a s c (ts ++ t ∷ [])
  forks_more a b c s t ts e f k ot st p k' = record {
    out = All-push (V.is_out c) ts t (All-weaker (V.is_out b) (V.is_out c) (λ u h. k'.out u h (nowhere _)) ts f.out) ot;
    stand = All-push (λ u. V.stands c u ≡ V.stands a s) ts t (λ k d l. k'.stands _ (f.out k d l) (nowhere _) ∙ f.stand k d l) (st ∙ e);
    numbers = subst (λ xs. IsPermutation (xs ++ V.out_numbers a) (V.out_numbers c)) (sym (map-append V.number ts (t ∷ [])))
        (IsPermutation-trans _ _ _ (IsPermutation-trans _ _ _ (IsPermutation-append_left (V.out_numbers a) _ _
        (IsPermutation-to_front (map V.number ts) (V.number t))) (IsPermutation-cons (V.number t) _ _ f.numbers)) p);
  }

  pub left_all : (m : M) (states : List S) → All (V.is_out m) states → IsDistinct nat_eq (map V.number states) → AreLeftOf V m (map V.number states) m states
  left_all m states o d = record { out = o; distinct = d; gone = []; all_are = sym (append-nil _); numbers = IsPermutation-refl _; keeps = keeps_none m _ }

  -- the numbers of the others differ from that of the last
  apart : (fore : List S) (s t : S) → IsDistinct nat_eq (map V.number (fore ++ s ∷ [])) → Contains fore t → V.number t ≢ V.number s
  apart [] s t d c e = nowhere t c
  apart (u ∷ us) s t d c e = ⊎_elim
      (λ (i : u ≡ t). true≢false (sym (eq-eqb _ _ (ap V.number i ∙ e)) ∙
      All-contains (λ y. nat_eq (V.number u) y ≡ false) (map V.number (us ++ s ∷ [])) (V.number s)
      (All-from_recursion (λ y. nat_eq (V.number u) y ≡ false) _ (IsDistinct-head nat_eq (V.number u) (map V.number (us ++ s ∷ [])) d))
      (subst (λ xs. Contains xs (V.number s)) (sym (map-append V.number us (s ∷ []))) (Contains-push (map V.number us) (V.number s)))))
      (λ (i : Contains us t). apart us s t (IsDistinct-tail nat_eq (V.number u) (map V.number (us ++ s ∷ [])) d) i e) (contains_cases u t us c)

  front_distinct : (fore : List ℕ) (x : ℕ) → IsDistinct nat_eq (fore ++ x ∷ []) → IsDistinct nat_eq fore
  front_distinct fore x d = IsDistinct-tail nat_eq x fore (IsDistinct-IsPermutation nat_eq flips (fore ++ x ∷ []) (x ∷ fore) (IsPermutation-to_front fore x) d)

  pub left_less : (a b c : M) (all : List ℕ) (rest fore : List S) (s : S) → AreLeftOf V a all b rest → rest ≡ fore ++ s ∷ []
      → IsPermutation (V.out_numbers b) (V.number s ∷ V.out_numbers c) → Keeps V b c (V.number s ∷ []) → AreLeftOf V a all c fore
  left_less a b c all rest fore s l e p k =
      let d = subst (λ xs. IsDistinct nat_eq (map V.number xs)) e l.distinct in
      let o = subst (All (V.is_out b)) e l.out in
      let n = V.number s in
      let all' : all ≡ map V.number fore ++ (n ∷ l.gone) = (l.all_are ∙ ap (λ xs. map V.number xs ++ l.gone) e
      ∙ ap (λ xs. xs ++ l.gone) (map-append V.number fore (s ∷ [])) ∙ append_assoc (map V.number fore) (n ∷ []) l.gone) in
      record {
        out = All-from_contains (V.is_out c) fore (λ t i. k.out t (All-contains (V.is_out b) (fore ++ s ∷ []) t o (Contains-append_left fore (s ∷ []) t i))
            (λ h. apart fore s t d i (sym (single h))));
        distinct = front_distinct (map V.number fore) n (subst (IsDistinct nat_eq) (map-append V.number fore (s ∷ [])) d);
        gone = n ∷ l.gone;
        all_are = all';
        numbers = IsPermutation-trans _ _ _ l.numbers
            (IsPermutation-trans _ _ _ (IsPermutation-append_right l.gone _ _ p) (IsPermutation-middle l.gone n (V.out_numbers c)));
        keeps = keeps_more a b c all (n ∷ []) all (λ j h. h) (λ j h. subst (λ xs. Contains xs j) (sym all')
            (Contains-append_right (map V.number fore) (n ∷ l.gone) j (subst (Contains (n ∷ l.gone)) (single h) (contains_here n l.gone)))) l.keeps k;
      }

  pub none_left : (a b : M) (all : List ℕ) (rest : List S) → AreLeftOf V a all b rest → rest ≡ [] → IsPermutation (V.out_numbers a) (all ++ V.out_numbers b)
  none_left a b all rest l e = subst (λ xs. IsPermutation (V.out_numbers a) (xs ++ V.out_numbers b))
      (sym (l.all_are ∙ ap (λ xs. map V.number xs ++ l.gone) e)) l.numbers
