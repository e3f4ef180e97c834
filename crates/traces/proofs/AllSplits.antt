-- The splits are the classes that part, in order.
use Rattle.std.proofs.Common.{◌≡◌, ℕ, zero, suc, ◌+◌, ◌≤◌, ◌<◌, Bool, true, false, ◌&&◌, not, nat_lt, if◌then◌else◌, List, [], ◌∷◌, ◌++◌, length, take}
use Rattle.std.proofs.Common.{slice_get, slice_index, get_or, refl, sym, ap, ◌∙◌, subst, arith, ⊎_elim, append-nil, add-one}
use Rattle.std.specs.Prelude.{◌↔◌}
use Rattle.std.specs.List.{AllPairs, Contains, flat_map, list_any}
use Rattle.std.specs.List.Sorted.{IsStrictlyIncreasing}
use Rattle.std.proofs.lemmas.Bool.{true≢false, false≢true, and_parts, and_from, lt-ltb, ltb-true, cases_lt, not-true, not_from_false}
use Rattle.std.proofs.lemmas.Option.{get_or_from_slice_get, slice_get_cases}
use Rattle.std.proofs.lemmas.List.Concat.{flat_map-append}
use Rattle.std.proofs.lemmas.List.Folds.{list_any-append}
use Rattle.std.proofs.lemmas.List.{take-take, take_more}
use Rattle.std.proofs.lemmas.List.Kept.{IsStrictlyIncreasing-filter, AllPairs-from_increasing, AllPairs-cons}
use Rattle.std.proofs.lemmas.List.Elements.{All-append, All-weaker, All-contains_itself, Contains-append_cases, Contains-append_left, Contains-append_right}
use Rattle.traces.specs.Meanings.{IsSameTest}
use Rattle.traces.specs.Trace.{Trial, trace}
use Rattle.traces.specs.Together.{below, together, class_of, AreTogether}
use Rattle.traces.specs.Work.{is_least, least_members, splits}
use Rattle.traces.proofs.Bools.{on_bool, same_bools}
use Rattle.traces.specs.Cost.{splits_at}
use Rattle.traces.proofs.Room.{length-trace}
use Rattle.traces.proofs.Below.{any_below, below_below, has_below, IsStrictlyIncreasing-below}
use Rattle.traces.proofs.Lists.{contains_here, contains_there, contains_cases, from_filter, to_filter}
use Rattle.traces.proofs.Together.{AreTogether-from, together_from, both_go_on}
use Rattle.traces.proofs.Turns.{any_from}
use Rattle.traces.proofs.Prefixes.{from_flat_map, to_flat_map, in_one_or_none, least_passing, all_pairs_flat, paired_one, not_least, least_together}
use Rattle.traces.specs.Splits.{LeadsPart, IsSplit, IsEarlier}

-- in a rising list the first number is lower than the others
rising_at : (xs : List ℕ) (i j d : ℕ) → IsStrictlyIncreasing xs → i < j → j < length xs → get_or xs i d < get_or xs j d
rising_at xs i j d r h l = AllPairs-from_increasing xs r i j d h l

head_less : (x k : ℕ) (xs : List ℕ) → AllPairs (λ a b. a < b) (x ∷ xs) → Contains xs k → x < k
head_less x k xs r c = let h = r 0 (suc c.0) k (omega arith) (let l = c.1 in omega arith) in let e = c.2 in subst (λ y. x < y) e h

pairs_tail : (x : ℕ) (xs : List ℕ) → AllPairs (λ a b. a < b) (x ∷ xs) → AllPairs (λ a b. a < b) xs
pairs_tail x xs r i j d h l = r (suc i) (suc j) d (omega arith) (omega arith)

nowhere : (k : ℕ) → Contains [] k → ⊥
nowhere k c = let l = c.1 in omega arith

-- rising lists of the same numbers are equal
same_rising : (xs ys : List ℕ) → AllPairs (λ a b. a < b) xs → AllPairs (λ a b. a < b) ys → ((k : ℕ) → Contains xs k → Contains ys k)
    → ((k : ℕ) → Contains ys k → Contains xs k) → xs ≡ ys
same_rising [] [] r s f g = refl
same_rising [] (y ∷ ys) r s f g = absurd (nowhere y (g y (contains_here y ys)))
same_rising (x ∷ xs) [] r s f g = absurd (nowhere x (f x (contains_here x xs)))
same_rising (x ∷ xs) (y ∷ ys) r s f g =
    let a : y ≤ x = ⊎_elim (λ (e : y ≡ x). omega arith) (λ (c : Contains ys x). let l = head_less y x ys s c in omega arith)
    (contains_cases y x ys (f x (contains_here x xs))) in
    let b : x ≤ y = ⊎_elim (λ (e : x ≡ y). omega arith) (λ (c : Contains xs y). let l = head_less x y xs r c in omega arith)
    (contains_cases x y xs (g y (contains_here y ys))) in
    let e : x ≡ y = omega arith in
    let t = same_rising xs ys (pairs_tail x xs r) (pairs_tail y ys s)
    (λ k c. ⊎_elim (λ (i : y ≡ k). absurd (let l = head_less x k xs r c in omega arith)) (λ (d : Contains ys k). d)
    (contains_cases y k ys (f k (contains_there x k xs c))))
    (λ k c. ⊎_elim (λ (i : x ≡ k). absurd (let l = head_less y k ys s c in omega arith)) (λ (d : Contains xs k). d)
    (contains_cases x k xs (g k (contains_there y k ys c)))) in
    cc

-- a number that is in a rising list, and that none of it is below, is its first
least_first : (xs : List ℕ) (m : ℕ) → AllPairs (λ a b. a < b) xs → Contains xs m → ((k : ℕ) → Contains xs k → m ≤ k) → slice_index xs 0 ≡ m
least_first [] m r c h = absurd (nowhere m c)
least_first (x ∷ xs) m r c h = ⊎_elim
    (λ (e : x ≡ m). e)
    (λ (d : Contains xs m). absurd (let a = h x (contains_here x xs) in let b = head_less x m xs r d in omega arith))
    (contains_cases x m xs c)

taken_there : {X : Type 0} (n : ℕ) (xs : List X) → slice_get (take (suc n) xs) n ≡ slice_get xs n
taken_there n [] = refl
taken_there zero (x ∷ xs) = refl
taken_there (suc n) (x ∷ xs) = taken_there n xs

slice_taken : {X : Type 0} (n : ℕ) (xs : List X) → slice_get (take (n + 1) xs) n ≡ slice_get xs n
slice_taken n xs = rw add-one (taken_there n xs)

take_same : {X : Type 0} (n : ℕ) (xs ys : List X) → take n xs ≡ take n ys → slice_get xs n ≡ slice_get ys n → n < length xs → n < length ys
    → take (n + 1) xs ≡ take (n + 1) ys
take_same n xs ys e s l m = ⊎_elim
    (λ c. let x = c.0 in
    take_more xs n x l ∙ ap (λ zs. zs ++ get_or xs n x ∷ []) e
    ∙ ap (λ z. take n ys ++ z ∷ []) (get_or_from_slice_get xs n x x c.2 ∙ sym (get_or_from_slice_get ys n x x (sym s ∙ c.2)))
    ∙ sym (take_more ys n x m))
    (λ c. absurd (let k = c.0 in omega arith))
    (slice_get_cases xs n).1

module _ {S C : Type 0} (T : Trial S C) (same : IsSameTest T.meanings) where
  -- who is in a class
  in_class : (m n k : ℕ) → Contains (class_of T m n) k → (k < T.mutants) × AreTogether T m k n
  unfolding class_of
  in_class m n k c = let p = from_filter (λ j. together T m j n) (below T.mutants) k c in (below_below T.mutants k p.0, AreTogether-from T same m k n p.1)

  to_class : (m n k : ℕ) → k < T.mutants → AreTogether T m k n → Contains (class_of T m n) k
  unfolding class_of
  to_class m n k l t = to_filter (λ j. together T m j n) (below T.mutants) k (has_below T.mutants k l) (together_from T same m k n t)

  turned : (m k n : ℕ) → AreTogether T m k n → AreTogether T k m n
  turned m k n t = record { reached = t.other_reached; other_reached = t.reached; equal = sym t.equal }

  through : (m k j n : ℕ) → AreTogether T m k n → AreTogether T k j n → AreTogether T m j n
  through m k j n t u = record { reached = t.reached; other_reached = u.other_reached; equal = t.equal ∙ u.equal }

  -- mutants that are together at n are so at n + 1 where their changes number n are equal
  together_on : (m k n : ℕ) → AreTogether T m k n → n < length (trace T m) → slice_get (trace T m) n ≡ slice_get (trace T k) n → AreTogether T m k (n + 1)
  together_on m k n t l e =
      let o = both_go_on T same m k n t l in
      record { reached = omega arith; other_reached = omega arith; equal = take_same n (trace T m) (trace T k) t.equal e l o }

  together_back : (m k n : ℕ) → AreTogether T m k (n + 1) → AreTogether T m k n × (slice_get (trace T m) n ≡ slice_get (trace T k) n)
  together_back m k n t = (
    record {
      reached = (let a = t.reached in omega arith);
      other_reached = (let a = t.other_reached in omega arith);
      equal = sym (take-take n (n + 1) (trace T m) (omega arith)) ∙ ap (take n) t.equal ∙ take-take n (n + 1) (trace T k) (omega arith);
    },
    sym (slice_taken n (trace T m)) ∙ ap (λ cs. slice_get cs n) t.equal ∙ slice_taken n (trace T k),
  )

  leads_part : (m n k : ℕ) → n < length (trace T m) → Contains (class_of T m n) k → is_least T k (n + 1) ≡ true → LeadsPart T m n k
  leads_part m n k l c h = record {
    member = c;
    new = λ j b d e.
        let mj = (in_class m n j d).1 in let mk = (in_class m n k c).1 in
        not_least T same j k (n + 1) b (together_on j k n (through j m k n (turned m j n mj) mk) (both_go_on T same m j n mj l) e) h;
  }

  from_leads : (m n k : ℕ) → LeadsPart T m n k → is_least T k (n + 1) ≡ true
  from_leads m n k p = on_bool (list_any (λ j. together T j k (n + 1)) (below k))
      (λ a. let r = least_passing (λ j. together T j k (n + 1)) k a in let j = r.0 in
      let b = together_back j k n (AreTogether-from T same j k (n + 1) r.2) in
      let q = in_class m n k p.member in
      absurd (p.new j r.1 (to_class m n j (let x = q.0 in let y = r.1 in omega arith) (through m k j n q.1 (turned j k n b.0))) b.1))
      (λ f. not_from_false _ f)

  pub leaders_are : (m n : ℕ) → n < length (trace T m) → (k : ℕ) → Contains (least_members T m n) k ↔ LeadsPart T m n k
  leaders_are m n l k = (
    λ c. let p = from_filter (λ j. is_least T j (n + 1)) (class_of T m n) k c in leads_part m n k l p.0 p.1,
    λ p. to_filter (λ j. is_least T j (n + 1)) (class_of T m n) k p.member (from_leads m n k p),
  )

  leaders_rise : (m n : ℕ) → IsStrictlyIncreasing (least_members T m n)
  unfolding class_of
  leaders_rise m n = IsStrictlyIncreasing-filter (λ j. is_least T j (n + 1)) (class_of T m n)
      (IsStrictlyIncreasing-filter (λ j. together T m j n) (below T.mutants) (IsStrictlyIncreasing-below T.mutants))

  -- a split is one of the list, and each one of the list is a split
  abbrev row : ℕ → List (ℕ × List ℕ)
  row n = flat_map (λ m. splits_at T m n) (below T.mutants)

  record IsAt (m n : ℕ) (s : ℕ × List ℕ) : Type 0 where
    least : is_least T m n ≡ true
    goes_on : n < length (trace T m)
    divided : 1 < length (least_members T m n)
    is : (n, least_members T m n) ≡ s

  split_at : (m n : ℕ) (s : ℕ × List ℕ) → Contains (splits_at T m n) s → IsAt m n s
  split_at m n s h =
      let e = in_one_or_none (n, least_members T m n) (is_least T m n && (nat_lt n (length (trace T m)) && nat_lt 1 (length (least_members T m n)))) s h in
      let p = and_parts _ _ e.0 in let q = and_parts _ _ p.1 in
      record { least = p.0; goes_on = ltb-true _ _ q.0; divided = ltb-true _ _ q.1; is = e.1 }

  pub split_is : (s : ℕ × List ℕ) → Contains (splits T) s → IsSplit T s
  split_is s h =
      let a = from_flat_map row (below T.budget) s h in let n = a.0 in
      let b = from_flat_map (λ m. splits_at T m n) (below T.mutants) s a.2 in let m = b.0 in
      let i = split_at m n s b.2 in
      subst (IsSplit T) i.is (record {
        mutant = m;
        is_mutant = below_below T.mutants m b.1;
        goes_on = i.goes_on;
        leaders = leaders_are m n i.goes_on;
        rising = leaders_rise m n;
        divided = (let d = i.divided in omega arith);
      })

  leads_moved : (a b n k : ℕ) → AreTogether T a b n → LeadsPart T a n k → LeadsPart T b n k
  leads_moved a b n k t p = record {
    member = (let q = in_class a n k p.member in to_class b n k q.0 (through b a k n (turned a b n t) q.1));
    new = λ j l c. let q = in_class b n j c in p.new j l (to_class a n j q.0 (through a b j n t q.1));
  }

  pub split_there : (s : ℕ × List ℕ) → IsSplit T s → Contains (splits T) s
  split_there s i =
      let m = i.mutant in let n = s.0 in
      let self : AreTogether T m m n = (let g = i.goes_on in record { reached = omega arith; other_reached = omega arith; equal = refl }) in
      let r = least_passing (λ j. together T j m n) (suc m) (any_from (λ j. together T j m n) (below (suc m)) m (has_below (suc m) m (omega arith))
      (together_from T same m m n self)) in
      let k = r.0 in let t = AreTogether-from T same k m n r.2 in
      let g = both_go_on T same m k n (turned k m n t) i.goes_on in
      let e : least_members T k n ≡ s.1 = same_rising (least_members T k n) s.1 (AllPairs-from_increasing _ (leaders_rise k n))
      (AllPairs-from_increasing _ i.rising)
      (λ x c. (i.leaders x).1 (leads_moved k m n x t ((leaders_are k n g x).0 c)))
      (λ x c. (leaders_are k n g x).1 (leads_moved m k n x (turned k m n t) ((i.leaders x).0 c))) in
      let d : 1 < length (least_members T k n) = (let a = ap (λ xs. length xs) e in let b = i.divided in omega arith) in
      let yes : (is_least T k n && (nat_lt n (length (trace T k)) && nat_lt 1 (length (least_members T k n)))) ≡ true =
      and_from _ _ (least_together T same m k n t r.3) (and_from _ _ (lt-ltb _ _ g) (lt-ltb _ _ d)) in
      to_flat_map row (below T.budget) n s (has_below T.budget n (let a = length-trace T m in let b = i.goes_on in omega arith))
      (to_flat_map (λ j. splits_at T j n) (below T.mutants) k s (has_below T.mutants k (let a = r.1 in let b = i.is_mutant in omega arith))
      (subst (λ b. Contains (if b then (n, least_members T k n) ∷ [] else []) s) (sym yes)
      (subst (λ xs. Contains ((n, xs) ∷ []) s) (sym e) (contains_here s []))))

  -- the splits stand in order
  first_leader : (m n : ℕ) → m < T.mutants → is_least T m n ≡ true → n < length (trace T m) → slice_index (least_members T m n) 0 ≡ m
  first_leader m n b h l =
      let self : AreTogether T m m n = record { reached = omega arith; other_reached = omega arith; equal = refl } in
      let lower : (j : ℕ) → j < m → Contains (class_of T m n) j → ⊥ = (λ j k c. not_least T same j m n k (turned m j n (in_class m n j c).1) h) in
      least_first (least_members T m n) m (AllPairs-from_increasing _ (leaders_rise m n))
      ((leaders_are m n l m).1 (record { member = to_class m n m b self; new = λ j k c e. lower j k c }))
      (λ k c. ⊎_elim (λ (a : k < m). absurd (lower k a ((leaders_are m n l k).0 c).member)) (λ (a : m ≤ k). a) (cases_lt k m))

  pub in_order : AllPairs IsEarlier (splits T)
  in_order = all_pairs_flat IsEarlier row T.budget
      (λ n l. all_pairs_flat IsEarlier (λ m. splits_at T m n) T.mutants
      (λ m k. paired_one (n, least_members T m n) IsEarlier (is_least T m n && (nat_lt n (length (trace T m)) && nat_lt 1 (length (least_members T m n)))))
      (λ j k h b s t c d. let u = split_at j n s c in let v = split_at k n t d in
      subst (λ s. IsEarlier s t) u.is (subst (IsEarlier (n, least_members T j n)) v.is (record {
        number = omega arith;
        mutant = λ e. let x = first_leader j n (omega arith) u.least u.goes_on in let y = first_leader k n b v.least v.goes_on in omega arith;
      }))))
      (λ a b h l s t c d.
      let x = from_flat_map (λ m. splits_at T m a) (below T.mutants) s c in let u = split_at x.0 a s x.2 in
      let y = from_flat_map (λ m. splits_at T m b) (below T.mutants) t d in let v = split_at y.0 b t y.2 in
      subst (λ s. IsEarlier s t) u.is (subst (IsEarlier (a, least_members T x.0 a)) v.is (record {
        number = omega arith;
        mutant = λ e. absurd (omega arith);
      })))
