-- The number of steps is the number of the different nonempty prefixes of the traces.
use Rattle.std.proofs.Common.{◌≡◌, ◌≢◌, ℕ, zero, suc, ◌+◌, ◌-◌, ◌<◌, Bool, true, false, not, if◌then◌else◌, List, [], ◌∷◌, ◌++◌, length, take, refl, sym, ap}
use Rattle.std.proofs.Common.{◌∙◌, subst, arith, ⊎_elim, append-nil}
use Rattle.std.specs.List.{AllPairs, Contains, flat_map, list_any, sum_by}
use Rattle.std.proofs.lemmas.Bool.{true≢false, false≢true}
use Rattle.std.proofs.lemmas.List.{length-take}
use Rattle.std.proofs.lemmas.List.Concat.{flat_map-append, length-flat_map}
use Rattle.std.proofs.lemmas.List.Elements.{All-append, All-weaker, All-contains_itself, Contains-append_cases, Contains-append_left, Contains-append_right}
use Rattle.std.proofs.lemmas.List.Folds.{list_any-append}
use Rattle.std.proofs.lemmas.List.Kept.{AllPairs-cons}
use Rattle.traces.specs.Meanings.{IsSameTest}
use Rattle.traces.specs.Trace.{Trial, trace}
use Rattle.traces.specs.Together.{below, together, AreTogether, IsNonemptyPrefix, CountsPrefixes}
use Rattle.traces.specs.Work.{is_least, steps}
use Rattle.traces.proofs.Bools.{on_bool, same_bools}
use Rattle.traces.proofs.Lists.{contains_here, contains_there, contains_cases}
use Rattle.traces.proofs.Below.{below_below, has_below, any_below}
use Rattle.traces.proofs.Together.{AreTogether-from, together_from}
use Rattle.traces.proofs.Turns.{any_from}

-- what holds of each two elements of lists that follow one another
module _ {X : Type 0} (R : X → X → Type 0) where
  pub all_pairs_append : (xs ys : List X) → AllPairs R xs → AllPairs R ys → ((x y : X) → Contains xs x → Contains ys y → R x y) → AllPairs R (xs ++ ys)
  all_pairs_append [] ys a b c = b
  all_pairs_append (x ∷ xs) ys a b c =
      AllPairs-cons R x (xs ++ ys)
      (All-append (R x) xs ys (λ k d l. a 0 (suc k) d (omega arith) (omega arith))
      (All-weaker (Contains ys) (R x) (λ y h. c x y (contains_here x xs) h) ys (All-contains_itself ys)))
      (all_pairs_append xs ys (λ i j d h l. a (suc i) (suc j) d (omega arith) (omega arith)) b (λ u v h k. c u v (contains_there x u xs h) k))

  pub none_paired : AllPairs R []
  none_paired i j d h l = absurd (let k : j < 0 = l in omega arith)

module _ {X Y : Type 0} (f : X → List Y) where
  pub from_flat_map : (xs : List X) (y : Y) → Contains (flat_map f xs) y → (x : X) × Contains xs x × Contains (f x) y
  from_flat_map [] y h = absurd (let l : h.0 < 0 = h.1 in omega arith)
  from_flat_map (x ∷ xs) y h = ⊎_elim
      (λ a. (x, contains_here x xs, a))
      (λ b. let r = from_flat_map xs y b in (r.0, contains_there x r.0 xs r.1, r.2))
      (Contains-append_cases (f x) (flat_map f xs) y h)

  pub to_flat_map : (xs : List X) (x : X) (y : Y) → Contains xs x → Contains (f x) y → Contains (flat_map f xs) y
  to_flat_map [] x y h k = absurd (let l : h.0 < 0 = h.1 in omega arith)
  to_flat_map (z ∷ zs) x y h k = ⊎_elim
      (λ e. Contains-append_left (f z) (flat_map f zs) y (subst (λ a. Contains (f a) y) (sym e) k))
      (λ c. Contains-append_right (f z) (flat_map f zs) y (to_flat_map zs x y c k))
      (contains_cases z x zs h)

  length_flat : (g : X → ℕ) (xs : List X) → ((x : X) → length (f x) ≡ g x) → length (flat_map f xs) ≡ sum_by g xs
  length_flat g xs h = length-flat_map f xs ∙ ap (λ k. sum_by k xs) (λ i x. h x i)

module _ {X : Type 0} (R : X → X → Type 0) (f : ℕ → List X) where
  pub all_pairs_flat : (n : ℕ) → ((k : ℕ) → k < n → AllPairs R (f k)) → ((j k : ℕ) → j < k → k < n → (x y : X) → Contains (f j) x → Contains (f k) y → R x y)
      → AllPairs R (flat_map f (below n))
  all_pairs_flat zero a c = none_paired R
  all_pairs_flat (suc n) a c =
      subst (AllPairs R) (ap (λ ys. flat_map f (below n) ++ ys) (sym (append-nil (f n))) ∙ sym (flat_map-append f (below n) (n ∷ [])))
      (all_pairs_append R (flat_map f (below n)) (f n)
      (all_pairs_flat n (λ k l. a k (omega arith)) (λ j k h l. c j k h (omega arith)))
      (a n (omega arith))
      (λ x y h k. let r = from_flat_map f (below n) x h in c r.0 n (below_below n r.0 r.1) (omega arith) x y r.2 k))

-- the least number that passes a test
pub last_passes : (q : ℕ → Bool) (n : ℕ) → list_any q (below n) ≡ false → list_any q (below (suc n)) ≡ true → q n ≡ true
last_passes q n f h = on_bool (q n) (λ t. t) (λ e. absurd (false≢true (sym (list_any-append q (below n) (n ∷ []) ∙ rw f (rw e refl)) ∙ h)))

pub least_passing : (q : ℕ → Bool) (n : ℕ) → list_any q (below n) ≡ true → (k : ℕ) × (k < n) × (q k ≡ true) × (list_any q (below k) ≡ false)
least_passing q zero h = absurd (true≢false (sym h))
least_passing q (suc n) h = on_bool (list_any q (below n))
    (λ t. let r = least_passing q n t in (r.0, (let l = r.1 in omega arith), r.2, r.3))
    (λ f. (n, omega arith, last_passes q n f h, f))

module _ {C : Type 0} (p : C) where
  one_or_none : (b : Bool) → length (if b then p ∷ [] else []) ≡ (if b then 1 else 0)
  one_or_none true = refl
  one_or_none false = refl

  pub in_one_or_none : (b : Bool) (x : C) → Contains (if b then p ∷ [] else []) x → (b ≡ true) × (p ≡ x)
  in_one_or_none true x h = (refl, ⊎_elim (λ e. e) (λ c. absurd (let l : c.0 < 0 = c.1 in omega arith)) (contains_cases p x [] h))
  in_one_or_none false x h = absurd (let l : h.0 < 0 = h.1 in omega arith)

  pub paired_one : (R : C → C → Type 0) (b : Bool) → AllPairs R (if b then p ∷ [] else [])
  paired_one R true i j d h l = absurd (let k : j < 1 = l in omega arith)
  paired_one R false i j d h l = absurd (let k : j < 0 = l in omega arith)

module _ {S C : Type 0} (T : Trial S C) (same : IsSameTest T.meanings) where
  abbrev prefix_of : ℕ → ℕ → List C
  prefix_of m n = take (n + 1) (trace T m)

  abbrev prefixes_of : ℕ → List (List C)
  prefixes_of m = flat_map (λ n. if is_least T m (n + 1) then prefix_of m n ∷ [] else []) (below (length (trace T m)))

  abbrev prefixes : List (List C)
  prefixes = flat_map prefixes_of (below T.mutants)

  prefix_count : length prefixes ≡ steps T
  prefix_count = length_flat prefixes_of (λ m. sum_by (λ n. if is_least T m (n + 1) then 1 else 0) (below (length (trace T m)))) (below T.mutants)
      (λ m. length_flat (λ n. if is_least T m (n + 1) then prefix_of m n ∷ [] else []) (λ n. if is_least T m (n + 1) then 1 else 0) (below (length (trace T m)))
      (λ n. one_or_none (prefix_of m n) (is_least T m (n + 1))))

  record IsPrefixAt (m : ℕ) (cs : List C) : Type 0 where
    number : ℕ
    within : number < length (trace T m)
    least : is_least T m (number + 1) ≡ true
    is : prefix_of m number ≡ cs

  prefix_at : (m : ℕ) (cs : List C) → Contains (prefixes_of m) cs → IsPrefixAt m cs
  prefix_at m cs h =
      let r = from_flat_map (λ n. if is_least T m (n + 1) then prefix_of m n ∷ [] else []) (below (length (trace T m))) cs h in
      let e = in_one_or_none (prefix_of m r.0) (is_least T m (r.0 + 1)) cs r.2 in
      record { number = r.0; within = below_below (length (trace T m)) r.0 r.1; least = e.0; is = e.1 }

  length-prefix_of : (m n : ℕ) → n < length (trace T m) → length (prefix_of m n) ≡ n + 1
  length-prefix_of m n h = let l = length-take (n + 1) (trace T m) in omega arith

  -- the prefixes of one mutant have different lengths
  different_lengths : (m j k : ℕ) → j < k → k < length (trace T m) → prefix_of m j ≡ prefix_of m k → ⊥
  different_lengths m j k h l e =
      let a = length-prefix_of m j (omega arith) in let b = length-prefix_of m k l in let c : length (prefix_of m j) ≡ length (prefix_of m k) = ap length e in
      omega arith

  -- a prefix that a lower mutant has too isn't counted at this one
  pub not_least : (j k n : ℕ) → j < k → AreTogether T j k n → is_least T k n ≡ true → ⊥
  not_least j k n h t l = true≢false (sym l ∙ ap not (any_from (λ i. together T i k n) (below k) j (has_below k j h) (together_from T same j k n t)))

  different_mutants : (j k : ℕ) → j < k → (cs ds : List C) → IsPrefixAt j cs → IsPrefixAt k ds → cs ≢ ds
  different_mutants j k h cs ds p q e =
      let s : prefix_of j p.number ≡ prefix_of k q.number = (p.is ∙ e ∙ sym q.is) in
      let a = length-prefix_of j p.number p.within in let b = length-prefix_of k q.number q.within in
      let c : length (prefix_of j p.number) ≡ length (prefix_of k q.number) = ap length s in
      let n : p.number ≡ q.number = omega arith in
      not_least j k (q.number + 1) h
      (record { reached = (let w = p.within in omega arith); other_reached = (let w = q.within in omega arith); equal = ap (λ i. prefix_of j i) (sym n) ∙ s })
      q.least

  prefixes_differ : AllPairs (λ cs ds. cs ≢ ds) prefixes
  prefixes_differ = all_pairs_flat (λ cs ds. cs ≢ ds) prefixes_of T.mutants
      (λ m l. all_pairs_flat (λ cs ds. cs ≢ ds) (λ n. if is_least T m (n + 1) then prefix_of m n ∷ [] else []) (length (trace T m))
      (λ n l. paired_one (prefix_of m n) (λ cs ds. cs ≢ ds) (is_least T m (n + 1)))
      (λ j k h l x y a b. λ e.
      let u = in_one_or_none (prefix_of m j) (is_least T m (j + 1)) x a in let v = in_one_or_none (prefix_of m k) (is_least T m (k + 1)) y b in
      different_lengths m j k h l (u.1 ∙ e ∙ sym v.1)))
      (λ j k h l x y a b. different_mutants j k h x y (prefix_at j x a) (prefix_at k y b))

  counted : (cs : List C) → Contains prefixes cs → IsNonemptyPrefix T cs
  counted cs h =
      let r = from_flat_map prefixes_of (below T.mutants) cs h in let p = prefix_at r.0 cs r.2 in
      let l : length cs ≡ p.number + 1 = (ap length (sym p.is) ∙ length-prefix_of r.0 p.number p.within) in
      record {
        mutant = r.0;
        is_mutant = below_below T.mutants r.0 r.1;
        some = omega arith;
        reached = (let w = p.within in omega arith);
        is = sym p.is ∙ ap (λ n. take n (trace T r.0)) (sym l);
      }

  -- the least mutant that is together with m at n has no lower one that is
  pub least_together : (m k n : ℕ) → AreTogether T k m n → list_any (λ j. together T j m n) (below k) ≡ false → is_least T k n ≡ true
  least_together m k n t h = ap not (any_below (λ j. together T j k n) (λ j. together T j m n) k
      (λ j l. same_bools _ _
      (λ a. let b = AreTogether-from T same j k n a in together_from T same j m n
      (record { reached = b.reached; other_reached = t.other_reached; equal = b.equal ∙ t.equal }))
      (λ a. let b = AreTogether-from T same j m n a in together_from T same j k n
      (record { reached = b.reached; other_reached = t.reached; equal = b.equal ∙ sym t.equal })))
      ∙ h)

  all_counted : (cs : List C) → IsNonemptyPrefix T cs → Contains prefixes cs
  all_counted cs p =
      let m = p.mutant in let n = length cs in
      let itself : together T m m n ≡ true = together_from T same m m n (record { reached = p.reached; other_reached = p.reached; equal = refl }) in
      let r = least_passing (λ j. together T j m n) (suc m) (any_from (λ j. together T j m n) (below (suc m)) m (has_below (suc m) m (omega arith)) itself) in
      let k = r.0 in let t = AreTogether-from T same k m n r.2 in
      let s : (n - 1) + 1 ≡ n = (let h = p.some in omega arith) in
      to_flat_map prefixes_of (below T.mutants) k cs (has_below T.mutants k (let a = r.1 in let b = p.is_mutant in omega arith))
      (to_flat_map (λ i. if is_least T k (i + 1) then prefix_of k i ∷ [] else []) (below (length (trace T k))) (n - 1) cs
      (has_below (length (trace T k)) (n - 1) (let a = t.reached in let h = p.some in omega arith))
      (subst (λ b. Contains (if b then prefix_of k (n - 1) ∷ [] else []) cs) (sym (ap (is_least T k) s ∙ least_together m k n t r.3))
      (subst (λ ds. Contains (ds ∷ []) cs) (sym (ap (λ i. take i (trace T k)) s ∙ t.equal ∙ sym p.is)) (contains_here cs []))))

  pub steps-CountsPrefixes : CountsPrefixes T (steps T)
  steps-CountsPrefixes = record {
    prefixes = prefixes;
    different = prefixes_differ;
    exactly = λ cs. (counted cs, all_counted cs);
    count = prefix_count;
  }
