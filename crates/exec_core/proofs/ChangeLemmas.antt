-- The different changes of members, each by its least member.
use Rattle.std.proofs.Common.{◌≢◌, add-zero, one-add, zero-add, ◌≡◌, ℕ, suc, ◌+◌, ◌<◌, ◌≤◌, Bool, true, false, ◌&&◌, ◌||◌, not, ◌==◌, nat_lt, if◌then◌else◌}
use Rattle.std.proofs.Common.{List, [], ◌∷◌, ◌++◌, length, map, slice_index, get_or, refl, sym, ap, ◌∙◌, subst, arith, append_assoc, append-nil, length-append}
use Rattle.std.specs.List.{Contains, filter, list_any, position_or_len}
use Rattle.std.specs.List.Sorted.{IsStrictlyIncreasing}
use Rattle.std.proofs.lemmas.Bool.{eqb-true, eq-eqb, lt-ltb, le-ltb, ne_eqb}
use Rattle.std.proofs.lemmas.Bool.Decides.{nat_tests}
use Rattle.std.proofs.lemmas.List.{get_or-map, map-append, get_or_append_left, get_or-append-add, get_or_default}
use Rattle.std.proofs.Math.Seq.{get_or-append_seam}
use Rattle.std.proofs.lemmas.Simd.{map-map}
use Rattle.member_sets.proofs.Parts.{rising_at}
use Rattle.std.proofs.lemmas.List.Folds.{list_any-append}
use Rattle.std.proofs.lemmas.List.Kept.{AllPairs-from_increasing}
use Rattle.traces.specs.Meanings.{IsSameTest}
use Rattle.traces.specs.Trace.{Trial, change_of}
use Rattle.traces.specs.Configuration.{Execution, same_change, is_leader, variant_in}
use Rattle.traces.proofs.Bools.{on_bool, or_false, same_bools}
use Rattle.traces.proofs.Lists.{filter_yes, filter_no, contains_here, contains_there}
use Rattle.change_classes.specs.First.{first_equal}
use Rattle.member_sets.specs.Members.{IsMemberList, is_class_leader}
use Rattle.exec_core.specs.Plans.{own_firsts}
use Rattle.exec_core.proofs.RefusalLemmas.{rest_of, first_of}

zero_eqb : (n : ℕ) → (0 == suc n) ≡ false
zero_eqb n = grind (arith, nat_tests)

suc_eqb : (a b : ℕ) → (suc a == suc b) ≡ (a == b)
suc_eqb a b = same_bools _ _ (λ h. let e = eqb-true (suc a) (suc b) h in eq-eqb a b (omega arith)) (λ h. let e = eqb-true a b h in
    eq-eqb (suc a) (suc b) (omega arith))

-- those of xs that no earlier one is equal to by a test, where these were seen before
abbrev pub news : {X : Type 0} → (X → X → Bool) → List X → List X → List X
news E seen [] = []
news E seen (x ∷ xs) = if list_any (λ y. E y x) seen then news E (seen ++ x ∷ []) xs else x ∷ news E (seen ++ x ∷ []) xs

module _ {X : Type 0} where
  news_old : (E : X → X → Bool) (seen : List X) (x : X) (xs : List X) → list_any (λ y. E y x) seen ≡ true → news E seen (x ∷ xs) ≡ news E (seen ++ x ∷ []) xs
  news_old E seen x xs h = rw h refl

  news_new : (E : X → X → Bool) (seen : List X) (x : X) (xs : List X) → list_any (λ y. E y x) seen ≡ false → news E seen (x ∷ xs) ≡ x
      ∷ news E (seen ++ x ∷ []) xs
  news_new E seen x xs h = rw h refl

  -- an element is the first that passes where none before it does
  first_there : (p : X → Bool) (seen : List X) (x : X) (xs : List X) → p x ≡ true → (position_or_len p (seen ++ x ∷ xs) == length seen) ≡ not (list_any p seen)
  first_there p [] x xs h = rw h refl
  first_there p (y ∷ ys) x xs h = on_bool (p y) (λ t. rw t (zero_eqb (length ys))) (λ f. let i = first_there p ys x xs h in
      rw f (rw (one-add (position_or_len p (ys ++ x ∷ xs))) (suc_eqb (position_or_len p (ys ++ x ∷ xs)) (length ys) ∙ i)))

  at_end : (seen : List X) (x : X) (xs : List X) → get_or (seen ++ x ∷ xs) (length seen) x ≡ x
  at_end [] x xs = refl
  at_end (y ∷ ys) x xs = at_end ys x xs

  module _ (same : X → X → Bool) (complete : (x : X) → same x x ≡ true) (all : List X) where
    own_there : (seen : List X) (x : X) (xs : List X) → all ≡ seen ++ x ∷ xs
        → (slice_index (first_equal same all) (length seen) == length seen) ≡ not (list_any (λ y. same y x) seen)
    own_there seen x xs e =
        let l : length seen < length all = (let n = ap length e in let a = length-append seen (x ∷ xs) in omega arith) in
        ap (λ n. n == length seen) (get_or-map (λ z. position_or_len (λ y. same y z) all) all (length seen) x 0 l
        ∙ ap (λ z. position_or_len (λ y. same y z) all) (ap (λ zs. get_or zs (length seen) x) e ∙ at_end seen x xs) ∙ ap (position_or_len (λ y. same y x)) e)
        ∙ first_there (λ y. same y x) seen x xs (complete x)

    pub own_firsts_are : (seen xs : List X) → all ≡ seen ++ xs → own_firsts (first_equal same all) (length seen) xs ≡ news same seen xs
    own_firsts_are seen [] e = refl
    own_firsts_are seen (x ∷ xs) e =
        let n : length (seen ++ x ∷ []) ≡ length seen + 1 = length-append seen (x ∷ []) in
        let i = own_firsts_are (seen ++ x ∷ []) xs (e ∙ sym (append_assoc seen (x ∷ []) xs)) in
        let j : own_firsts (first_equal same all) (length seen + 1) xs ≡ news same (seen ++ x ∷ []) xs =
        (ap (λ k. own_firsts (first_equal same all) k xs) (sym n) ∙ i) in
        ap (λ b. if b then x ∷ own_firsts (first_equal same all) (length seen + 1) xs else own_firsts (first_equal same all) (length seen + 1) xs)
        (own_there seen x xs e) ∙ on_bool (list_any (λ y. same y x) seen) (λ t. rw t j) (λ f. rw f (ap (λ ys. x ∷ ys) j))

-- in a rising list those before an element are lower, and those from it on are not
before : (seen : List ℕ) (m : ℕ) (xs : List ℕ) → IsStrictlyIncreasing (seen ++ m ∷ xs) → (k : ℕ) → Contains seen k → k < m
before seen m xs r k (i, l, e) =
    let n = length-append seen (m ∷ xs) in
    let a : get_or (seen ++ m ∷ xs) i k ≡ k = (get_or_append_left seen (m ∷ xs) k i l ∙ e) in
    let b : get_or (seen ++ m ∷ xs) (length seen) k ≡ m = get_or-append_seam seen m xs k in
    let c : get_or (seen ++ m ∷ xs) i k < get_or (seen ++ m ∷ xs) (length seen) k =
    AllPairs-from_increasing (seen ++ m ∷ xs) r i (length seen) k l (omega arith) in
    omega arith

behind : (seen : List ℕ) (m : ℕ) (xs : List ℕ) → IsStrictlyIncreasing (seen ++ m ∷ xs) → (k : ℕ) → Contains (m ∷ xs) k → m ≤ k
behind seen m xs r k (i, l, e) =
    let n = length-append seen (m ∷ xs) in
    let a : get_or (seen ++ m ∷ xs) (length seen + i) 0 ≡ k = (get_or-append-add seen (m ∷ xs) i 0 ∙ get_or_default (m ∷ xs) i 0 k l ∙ e) in
    let b : get_or (seen ++ m ∷ xs) (length seen) 0 ≡ m = get_or-append_seam seen m xs 0 in
    let c : get_or (seen ++ m ∷ xs) (length seen) 0 ≤ get_or (seen ++ m ∷ xs) (length seen + i) 0 =
    rising_at (seen ++ m ∷ xs) r (length seen) (length seen + i) (omega arith) (omega arith) in
    omega arith

pub any_alike : {X : Type 0} (p q : X → Bool) (xs : List X) → ((x : X) → Contains xs x → p x ≡ q x) → list_any p xs ≡ list_any q xs
any_alike p q [] h = refl
any_alike p q (x ∷ xs) h = let a = h x (contains_here x xs) in let i = any_alike p q xs (λ y c. h y (contains_there x y xs c)) in cc

pub none_any : (xs : List ℕ) → list_any (λ k. false) xs ≡ false
none_any [] = refl
none_any (x ∷ xs) = none_any xs

-- a filter that keeps what no lower element is equal to keeps the new ones of a rising list
module _ (E : ℕ → ℕ → Bool) (all : List ℕ) (rising : IsStrictlyIncreasing all) where
  abbrev pub lowest : ℕ → Bool
  lowest m = not (list_any (λ k. nat_lt k m && E k m) all)

  lowest_there : (seen : List ℕ) (m : ℕ) (xs : List ℕ) → all ≡ seen ++ m ∷ xs → lowest m ≡ not (list_any (λ k. E k m) seen)
  lowest_there seen m xs e =
      let r = subst IsStrictlyIncreasing e rising in
      ap not (
      ap (list_any (λ k. nat_lt k m && E k m)) e ∙ list_any-append (λ k. nat_lt k m && E k m) seen (m ∷ xs)
      ∙ ap (λ b. list_any (λ k. nat_lt k m && E k m) seen || b)
      (any_alike (λ k. nat_lt k m && E k m) (λ k. false) (m ∷ xs) (λ k c. ap (λ b. b && E k m) (le-ltb k m (behind seen m xs r k c))) ∙ none_any (m ∷ xs))
      ∙ or_false _ ∙ any_alike (λ k. nat_lt k m && E k m) (λ k. E k m) seen (λ k c. ap (λ b. b && E k m) (lt-ltb k m (before seen m xs r k c))))

  pub filter_news : (seen xs : List ℕ) → all ≡ seen ++ xs → filter lowest xs ≡ news E seen xs
  filter_news seen [] e = refl
  filter_news seen (x ∷ xs) e =
      let i = filter_news (seen ++ x ∷ []) xs (e ∙ sym (append_assoc seen (x ∷ []) xs)) in
      let h = lowest_there seen x xs e in
      on_bool (list_any (λ k. E k x) seen) (λ t. filter_no lowest x xs (h ∙ ap not t) ∙ i ∙ sym (news_old E seen x xs t))
      (λ f. filter_yes lowest x xs (h ∙ ap not f) ∙ ap (λ ys. x ∷ ys) i ∙ sym (news_new E seen x xs f))

-- the new values of the new ones by a finer test are the values of the new ones by the values
module _ {C : Type 0} (same : C → C → Bool) (sound : (c d : C) → same c d ≡ true → c ≡ d) (complete : (c : C) → same c c ≡ true)
    (f : ℕ → C) (E : ℕ → ℕ → Bool) (finer : (m k : ℕ) → E m k ≡ true → f m ≡ f k) where
  any-map : (q : C → Bool) (xs : List ℕ) → list_any q (map f xs) ≡ list_any (λ m. q (f m)) xs
  any-map q [] = refl
  any-map q (x ∷ xs) = ap (λ b. q (f x) || b) (any-map q xs)

  any_more : (q : C → Bool) (xs : List ℕ) (m : ℕ) → list_any q (map f (xs ++ m ∷ [])) ≡ (list_any q (map f xs) || (q (f m) || false))
  any_more q xs m = ap (list_any q) (map-append f xs (m ∷ [])) ∙ list_any-append q (map f xs) (f m ∷ [])

  or_right : (a b : Bool) → b ≡ true → (a || b) ≡ true
  or_right true b h = refl
  or_right false b h = h

  any_carried : (p r : ℕ → Bool) (xs : List ℕ) → ((k : ℕ) → p k ≡ true → r k ≡ true) → list_any p xs ≡ true → list_any r xs ≡ true
  any_carried p r [] g h = h
  any_carried p r (x ∷ xs) g h = on_bool (p x) (λ t. rw (g x t) refl) (λ n. or_right (r x) (list_any r xs) (any_carried p r xs g (sym (rw n refl) ∙ h)))

  abbrev pub by_value : ℕ → ℕ → Bool
  by_value m k = same (f m) (f k)

  value_there : (m k : ℕ) → E m k ≡ true → by_value m k ≡ true
  value_there m k h = subst (λ c. same c (f k) ≡ true) (sym (finer m k h)) (complete (f k))

  seen_too : (q : C → Bool) (seen : List ℕ) (m : ℕ) → list_any (λ k. E k m) seen ≡ true
      → (list_any q (map f seen) || (q (f m) || false)) ≡ list_any q (map f seen)
  seen_too q seen m h = on_bool (q (f m))
      (λ t. let a : list_any q (map f seen) ≡ true = (any-map q seen ∙ any_carried (λ k. E k m) (λ k. q (f k)) seen (λ k e. ap q (finer k m e) ∙ t) h) in
      rw a refl) (λ n. rw n (or_false _))

  pub news_news : (seen kept xs : List ℕ) → ((q : C → Bool) → list_any q (map f kept) ≡ list_any q (map f seen))
      → news same (map f kept) (map f (news E seen xs)) ≡ map f (news by_value seen xs)
  news_news seen kept [] g = refl
  news_news seen kept (x ∷ xs) g = on_bool (list_any (λ k. E k x) seen) (λ t. ap (λ ys. news same (map f kept) (map f ys)) (news_old E seen x xs t)
      ∙ news_news (seen ++ x ∷ []) kept xs (λ q. g q ∙ sym (any_more q seen x ∙ seen_too q seen x t))
      ∙ ap (map f) (sym (news_old by_value seen x xs (any_carried (λ k. E k x) (λ k. by_value k x) seen (λ k e. value_there k x e) t))))
      (λ n. let here : list_any (λ c. same c (f x)) (map f kept) ≡ list_any (λ k. by_value k x) seen = g (λ c. same c (f x))
      ∙ any-map (λ c. same c (f x)) seen in
      let more : news same (map f kept ++ f x ∷ []) (map f (news E (seen ++ x ∷ []) xs)) ≡ map f (news by_value (seen ++ x ∷ []) xs) =
      ap (λ ys. news same ys (map f (news E (seen ++ x ∷ []) xs))) (sym (map-append f kept (x ∷ [])))
      ∙ news_news (seen ++ x ∷ []) (kept ++ x ∷ []) xs (λ q. any_more q kept x ∙ ap (λ b. b || (q (f x) || false)) (g q) ∙ sym (any_more q seen x)) in
      ap (λ ys. news same (map f kept) (map f ys)) (news_new E seen x xs n) ∙ on_bool (list_any (λ k. by_value k x) seen)
      (λ t. news_old same (map f kept) (f x) (map f (news E (seen ++ x ∷ []) xs)) (here ∙ t) ∙ more ∙ ap (map f) (sym (news_old by_value seen x xs t)))
      (λ m. news_new same (map f kept) (f x) (map f (news E (seen ++ x ∷ []) xs)) (here ∙ m) ∙ ap (λ ys. f x ∷ ys) more
      ∙ ap (map f) (sym (news_new by_value seen x xs m))))

module _ {S C : Type 0} (T : Trial S C) (same : IsSameTest T.meanings) (e : Execution S) (is : IsMemberList e.members) where
  abbrev v : ℕ → ℕ
  v = variant_in T e

  abbrev change : ℕ → C
  change x = T.meanings.next x e.state

  -- the changes whose number is their own index are those of the leaders
  pub leading_changes : (changes : List C) → changes ≡ map change (map v (filter (is_class_leader v e.members) e.members))
      → own_firsts (first_equal T.meanings.same changes) 0 changes ≡ map (λ m. change_of T m e.state) (filter (is_leader T e) e.members)
  leading_changes changes h =
      let E : ℕ → ℕ → Bool = λ m k. v m == v k in
      let f : ℕ → C = λ m. change_of T m e.state in
      own_firsts_are T.meanings.same same.complete changes [] changes refl
      ∙ ap (news T.meanings.same []) (h ∙ map-map change v (filter (is_class_leader v e.members) e.members)
      ∙ ap (map f) (filter_news E e.members is.rising [] e.members refl))
      ∙ news_news T.meanings.same same.sound same.complete f E (λ m k t. ap change (eqb-true (v m) (v k) t)) [] [] e.members (λ q. refl)
      ∙ ap (map f) (sym (filter_news (same_change T e) e.members is.rising [] e.members refl))

-- pairs, from the lists of their two parts
pub pairs_are : {X A B : Type 0} (f : X → A) (g : X → B) (ls : List X) (xs : List (A × B)) → map (λ x. x.0) xs ≡ map f ls → map (λ x. x.1) xs ≡ map g ls
    → xs ≡ map (λ l. (f l, g l)) ls
pairs_are f g [] [] a b = refl
pairs_are f g [] (x ∷ xs) a b = absurd (let n : suc (length (map (λ y. y.0) xs)) ≡ 0 = ap length a in omega arith)
pairs_are f g (l ∷ ls) [] a b = absurd (let n : 0 ≡ suc (length (map f ls)) = ap length a in omega arith)
pairs_are f g (l ∷ ls) (x ∷ xs) a b =
    let i = pairs_are f g ls xs (ap rest_of a) (ap rest_of b) in
    let p : x.0 ≡ f l = ap (first_of (f l)) a in let q : x.1 ≡ g l = ap (first_of (g l)) b in
    λ k. (p k, q k) ∷ i k

-- one element more at the end
pub own_firsts_more : {C : Type 0} (numbers : List ℕ) (i : ℕ) (cs : List C) (c : C)
    → own_firsts numbers i (cs ++ c ∷ []) ≡ own_firsts numbers i cs ++ (if slice_index numbers (i + length cs) == i + length cs then c ∷ [] else [])
own_firsts_more numbers i [] c = rw add-zero (on_bool (slice_index numbers i == i) (λ t. rw t refl) (λ f. rw f refl))
own_firsts_more numbers i (x ∷ cs) c =
    let h = own_firsts_more numbers (i + 1) cs c in let n : i + 1 + length cs ≡ i + suc (length cs) = omega arith in
    let j : own_firsts numbers (i + 1) (cs ++ c ∷ []) ≡ own_firsts numbers (i + 1) cs
    ++ (if slice_index numbers (i + suc (length cs)) == i + suc (length cs) then c ∷ [] else []) =
    h ∙ ap (λ k. own_firsts numbers (i + 1) cs ++ (if slice_index numbers k == k then c ∷ [] else [])) n in
    on_bool (slice_index numbers i == i) (λ t. rw t (ap (λ ys. x ∷ ys) j)) (λ f. rw f j)

pub own_yes : {C : Type 0} (numbers : List ℕ) (cs : List C) (c : C) → slice_index numbers (length cs) ≡ length cs
    → own_firsts numbers 0 (cs ++ c ∷ []) ≡ own_firsts numbers 0 cs ++ c ∷ []
own_yes numbers cs c h = own_firsts_more numbers 0 cs c
    ∙ ap (λ k. own_firsts numbers 0 cs ++ (if slice_index numbers k == k then c ∷ [] else [])) (zero-add (length cs))
    ∙ ap (λ b. own_firsts numbers 0 cs ++ (if b then c ∷ [] else [])) (eq-eqb _ _ h)

pub own_no : {C : Type 0} (numbers : List ℕ) (cs : List C) (c : C) → slice_index numbers (length cs) ≢ length cs
    → own_firsts numbers 0 (cs ++ c ∷ []) ≡ own_firsts numbers 0 cs
own_no numbers cs c h = own_firsts_more numbers 0 cs c
    ∙ ap (λ k. own_firsts numbers 0 cs ++ (if slice_index numbers k == k then c ∷ [] else [])) (zero-add (length cs))
    ∙ ap (λ b. own_firsts numbers 0 cs ++ (if b then c ∷ [] else [])) (ne_eqb _ _ h) ∙ append-nil _
