-- The groups at a step are one text.
use Rattle.std.proofs.Common.{◌≡◌, ℕ, suc, ◌<◌, ◌≤◌, List, [], ◌∷◌, ◌++◌, length, refl, sym, ap, subst, ◌∙◌, ⊎_elim, arith}
use Rattle.std.specs.Prelude.{slice_index, codes}
use Rattle.std.specs.List.{AllPairs, Contains, All, flat_map}
use Rattle.std.specs.List.Sorted.{IsPermutation, IsNonDecreasing, IsNonDecreasingBy}
use Rattle.std.proofs.lemmas.List.Elements.{Contains-append_cases, Contains-append_left}
use Rattle.std.proofs.lemmas.List.Kept.{AllPairs-from_increasing}
use Rattle.std.proofs.lemmas.List.Sorted.{Contains-permutation, IsPermutation-sym, IsPermutation-trans, IsNonDecreasingBy-drop, length_permutation}
use Rattle.am_base.specs.declared.outcome.Outcome.{Outcome}
use Rattle.code_form.specs.declared.code.Code.{Code}
use Rattle.traces.specs.Trace.{Trial, within}
use Rattle.traces.specs.Together.{below}
use Rattle.traces.specs.Work.{steps, asks}
use Rattle.traces.proofs.Lists.{contains_here, contains_there, contains_cases}
use Rattle.traces.proofs.Permutations.{cancel_front}
use Rattle.machine_form.specs.declared.change.Change.{Change}
use Rattle.machine_form.specs.Calls.{Answers}
use Rattle.machine_form.specs.State.{State}
use Rattle.flat_analysis.specs.Ended.{IsEnded, AreEnded}
use Rattle.flat_analysis.specs.declared.ended.Ended.{Ended}
use Rattle.mutant_records.specs.declared.list.Made.{Made}
use Rattle.test_suite.specs.declared.suite.Test.{Test}
use Rattle.line_parts.specs.Parts.{spaced}
use Rattle.command_texts.specs.Groups.{IsGroupsText, group_of, short_of}
use Rattle.command_plan.specs.Plan.{Counts}
use Rattle.commands.specs.Alone.{counts_of, trial_on}
use Rattle.commands.specs.Groups.{cut_at, AreGroups, IsGroupsRise}
use Rattle.commands.proofs.OneText.{lists-alike, trials-one}

-- ---- lists in rising order

abbrev pub Rises : List ℕ → Type 0
Rises xs = AllPairs (λ x y. x < y) xs

pub above : (x : ℕ) (xs : List ℕ) → Rises (x ∷ xs) → (k : ℕ) → Contains xs k → x < k
above x xs r k c = subst (λ y. x < y) c.2 (r 0 (suc c.0) k (omega arith) (let l = c.1 in omega arith))

later : (x : ℕ) (xs : List ℕ) → Rises (x ∷ xs) → Rises xs
later x xs r i j d lt l = r (suc i) (suc j) d (omega arith) (omega arith)

pub first_least : (xs : List ℕ) → Rises xs → (k : ℕ) → Contains xs k → slice_index xs 0 ≤ k
first_least [] r k c = absurd (let l = c.1 in omega arith)
first_least (x ∷ xs) r k c =
    ⊎_elim (λ (e : x ≡ k). omega (arith, e)) (λ d. let l = above x xs r k d in omega (arith, l)) (contains_cases x k xs c)

pub first_there : (xs : List ℕ) → 0 < length xs → Contains xs (slice_index xs 0)
first_there [] l = absurd (omega arith)
first_there (x ∷ xs) l = contains_here x xs

-- two rising lists of the same elements
same_elements : (xs ys : List ℕ) → Rises xs → Rises ys → ((k : ℕ) → Contains xs k → Contains ys k) → ((k : ℕ) → Contains ys k → Contains xs k) → xs ≡ ys
same_elements [] [] r s p q = refl
same_elements [] (y ∷ ys) r s p q = absurd (let c = q y (contains_here y ys) in let l = c.1 in omega arith)
same_elements (x ∷ xs) [] r s p q = absurd (let c = p x (contains_here x xs) in let l = c.1 in omega arith)
same_elements (x ∷ xs) (y ∷ ys) r s p q =
    let low = first_least (y ∷ ys) s x (p x (contains_here x xs)) in
    let high = first_least (x ∷ xs) r y (q y (contains_here y ys)) in
    let same : x ≡ y = omega (arith, low, high) in
    let rest : xs ≡ ys = same_elements xs ys (later x xs r) (later y ys s)
    (λ k c. ⊎_elim (λ (e : y ≡ k). absurd (let l = above x xs r k c in omega (arith, e, l, same))) (λ d. d)
    (contains_cases y k ys (p k (contains_there x k xs c))))
    (λ k c. ⊎_elim (λ (e : x ≡ k). absurd (let l = above y ys s k c in omega (arith, e, l, same))) (λ d. d)
    (contains_cases x k xs (q k (contains_there y k ys c)))) in
    ap (λ z. z ∷ xs) same ∙ ap (λ zs. y ∷ zs) rest

-- ---- lists in order

head_least : (x : ℕ) (xs : List ℕ) → IsNonDecreasing (x ∷ xs) → (k : ℕ) → Contains (x ∷ xs) k → x ≤ k
head_least x xs h k c = subst (λ y. x ≤ y) c.2 (h 0 c.0 k (omega arith) c.1)

tail_ordered : (x : ℕ) (xs : List ℕ) → IsNonDecreasing (x ∷ xs) → IsNonDecreasing xs
tail_ordered x xs h i j d le l = h (suc i) (suc j) d (omega arith) (omega arith)

-- a list has one order
pub ordered-one : (xs ys : List ℕ) → IsNonDecreasing xs → IsNonDecreasing ys → IsPermutation xs ys → xs ≡ ys
ordered-one [] [] h g p = refl
ordered-one [] (y ∷ ys) h g p = absurd (let l = length_permutation [] (y ∷ ys) p in omega (arith, l))
ordered-one (x ∷ xs) [] h g p = absurd (let l = length_permutation (x ∷ xs) [] p in omega (arith, l))
ordered-one (x ∷ xs) (y ∷ ys) h g p =
    let low = head_least x xs h y (Contains-permutation (y ∷ ys) (x ∷ xs) y (IsPermutation-sym (x ∷ xs) (y ∷ ys) p) (contains_here y ys)) in
    let high = head_least y ys g x (Contains-permutation (x ∷ xs) (y ∷ ys) x p (contains_here x xs)) in
    let same : x ≡ y = omega (arith, low, high) in
    let moved : IsPermutation (x ∷ xs) (x ∷ ys) = subst (λ z. IsPermutation (x ∷ xs) (z ∷ ys)) (sym same) p in
    let rest : xs ≡ ys = ordered-one xs ys (tail_ordered x xs h) (tail_ordered y ys g) (cancel_front (x ∷ []) xs ys moved) in
    ap (λ z. z ∷ xs) same ∙ ap (λ zs. y ∷ zs) rest

-- ---- classes

all_first : (P : Ended → Type 0) (e : Ended) (es : List Ended) → All P (e ∷ es) → P e
all_first P e es h = h 0 e (omega arith)

all_rest : (P : Ended → Type 0) (e : Ended) (es : List Ended) → All P (e ∷ es) → All P es
all_rest P e es h k d l = h (suc k) d (omega arith)

abbrev members_of : List Ended → List ℕ
members_of classes = flat_map (λ e. e.members) classes

abbrev class_by : Outcome → List ℕ → ℕ → Ended
class_by outcome members length = record { outcome = outcome; members = members; length = length }

abbrev least_of : Ended → ℕ
least_of e = slice_index e.members 0

module _ (T : Trial State Change) where
  -- two classes with a common member
  pub class-one : (e f : Ended) → IsEnded T e → IsEnded T f → (m : ℕ) → Contains e.members m → Contains f.members m → e ≡ f
  class-one e f h g m c d =
      let members : e.members ≡ f.members = same_elements e.members f.members (AllPairs-from_increasing e.members h.rising)
      (AllPairs-from_increasing f.members g.rising)
      (λ k x. (g.members m k d).1 ((h.members m k c).0 x)) (λ k x. (h.members m k c).1 ((g.members m k d).0 x)) in
      let lengths : e.length ≡ f.length = h.steps m c ∙ sym (g.steps m d) in
      let outcomes : e.outcome ≡ f.outcome = h.outcome m c ∙ sym (g.outcome m d) in
      ap (λ o. class_by o e.members e.length) outcomes ∙ ap (λ ms. class_by f.outcome ms e.length) members
      ∙ ap (λ n. class_by f.outcome f.members n) lengths

  -- the least member of the first class is the least of all
  least_first : (c : Ended) (cs : List Ended) → All (IsEnded T) (c ∷ cs) → IsNonDecreasingBy least_of (c ∷ cs) → (k : ℕ) → Contains (members_of (c ∷ cs)) k
      → least_of c ≤ k
  least_first c cs ended rises k h =
      ⊎_elim (λ x. first_least c.members (AllPairs-from_increasing c.members (all_first (IsEnded T) c cs ended).rising) k x)
      (λ x. let l = least_later cs (all_rest (IsEnded T) c cs ended) k x in
      let e = l.0 in
      let low = subst (λ z. least_of c ≤ least_of z) l.1.2 (rises 0 (suc l.1.0) e (omega arith) (let w = l.1.1 in omega (arith, w))) in
      let high = l.2 in
      omega (arith, low, high))
      (Contains-append_cases c.members (members_of cs) k h)
    where
      least_later : (ds : List Ended) → All (IsEnded T) ds → (k : ℕ) → Contains (members_of ds) k → (e : Ended) × Contains ds e × (least_of e ≤ k)
      least_later [] all k x = absurd (let l = x.1 in omega arith)
      least_later (d ∷ ds) all k x =
          ⊎_elim (λ y. (d, contains_here d ds, first_least d.members (AllPairs-from_increasing d.members (all_first (IsEnded T) d ds all).rising) k y))
          (λ y. let l = least_later ds (all_rest (IsEnded T) d ds all) k y in (l.0, contains_there d l.0 ds l.1, l.2))
          (Contains-append_cases d.members (members_of ds) k x)

  some_there : (c : Ended) (cs : List Ended) → IsEnded T c → Contains (members_of (c ∷ cs)) (least_of c)
  some_there c cs h = Contains-append_left c.members (members_of cs) (least_of c) (first_there c.members h.some)

  no_classes : (c : Ended) (cs : List Ended) → IsEnded T c → IsPermutation [] (members_of (c ∷ cs)) → ⊥
  no_classes c cs h p =
      let l = length_permutation [] (members_of (c ∷ cs)) p in
      let t = (some_there c cs h).1 in
      omega (arith, l, t)

  classes-one : (cs ds : List Ended) → All (IsEnded T) cs → All (IsEnded T) ds → IsNonDecreasingBy least_of cs → IsNonDecreasingBy least_of ds
      → IsPermutation (members_of cs) (members_of ds) → cs ≡ ds
  classes-one [] [] h g r s p = refl
  classes-one [] (d ∷ ds) h g r s p = absurd (no_classes d ds (all_first (IsEnded T) d ds g) p)
  classes-one (c ∷ cs) [] h g r s p = absurd (no_classes c cs (all_first (IsEnded T) c cs h) (IsPermutation-sym (members_of (c ∷ cs)) [] p))
  classes-one (c ∷ cs) (d ∷ ds) h g r s p =
      let first_ended = all_first (IsEnded T) c cs h in
      let other_ended = all_first (IsEnded T) d ds g in
      let all = members_of (c ∷ cs) in
      let others = members_of (d ∷ ds) in
      let low = least_first c cs h r (least_of d) (Contains-permutation others all (least_of d) (IsPermutation-sym all others p) (some_there d ds other_ended)) in
      let high = least_first d ds g s (least_of c) (Contains-permutation all others (least_of c) p (some_there c cs first_ended)) in
      let least : least_of c ≡ least_of d = omega (arith, low, high) in
      let first : c ≡ d = class-one c d first_ended other_ended (least_of c) (first_there c.members first_ended.some)
      (subst (Contains d.members) (sym least) (first_there d.members other_ended.some)) in
      let moved : IsPermutation (c.members ++ members_of cs) (c.members ++ members_of ds) =
      subst (λ e. IsPermutation all (e.members ++ members_of ds)) (sym first) p in
      let rest : cs ≡ ds = classes-one cs ds (all_rest (IsEnded T) c cs h) (all_rest (IsEnded T) d ds g) (IsNonDecreasingBy-drop least_of 1 (c ∷ cs) r) (IsNonDecreasingBy-drop least_of 1 (d ∷ ds) s)
      (cancel_front c.members (members_of cs) (members_of ds) moved) in
      ap (λ e. e ∷ cs) first ∙ ap (λ es. d ∷ es) rest

  pub ended-one : (cs ds : List Ended) → AreEnded T cs → AreEnded T ds → cs ≡ ds
  ended-one cs ds h g =
      classes-one cs ds h.each g.each h.rising g.rising
      (IsPermutation-trans (members_of cs) (below T.mutants) (members_of ds) (IsPermutation-sym (below T.mutants) (members_of cs) h.once) g.once)

-- ---- the text

shown-one : (step : ℕ) (classes : List Ended) (text other : List ℕ) → IsGroupsText step classes text → IsGroupsText step classes other → text ≡ other
shown-one step classes text other h g =
    let members = flat_map (short_of step) classes in
    let short : h.short ≡ g.short = ordered-one h.short g.short h.rising g.rising
    (IsPermutation-trans h.short members g.short (IsPermutation-sym members h.short h.same) g.same) in
    h.lines ∙ ap (λ ms. flat_map (group_of step) classes ++ codes "short," ++ spaced ms ++ 10 ∷ []) short ∙ sym g.lines

module _ (code : Code) (all : List Made) (answers : Answers) (step : ℕ) (test : Test) where
  abbrev cut : Trial State Change → Trial State Change
  cut T = within T (cut_at step test.case.budget)

  pub groups-one : (text other : List ℕ) → AreGroups code all answers step test text → AreGroups code all answers step test other → text ≡ other
  groups-one text other h g =
      let trials = trials-one code answers h.0.variants g.0.variants test (lists-alike code all h.0 g.0 h.1 g.1) in
      let ended = subst (λ (T : Trial State Change). AreEnded (cut T) h.2) trials h.3 in
      let classes : h.2 ≡ g.2 = ended-one (cut (trial_on code g.0.variants answers test)) h.2 g.2 ended g.3 in
      shown-one step g.2 text other (subst (λ (cs : List Ended). IsGroupsText step cs text) classes h.4) g.4

  pub rise-one : (counts other : Counts) → IsGroupsRise code all answers step test counts → IsGroupsRise code all answers step test other → counts ≡ other
  rise-one counts other h g =
      let trials = trials-one code answers h.0.variants g.0.variants test (lists-alike code all h.0 g.0 h.1 g.1) in
      h.2 ∙ ap (λ (T : Trial State Change). counts_of (steps (cut T)) (asks (cut T))) trials ∙ sym g.2
