-- The mutants that lead classes, and when they parted from mutant 0.
use Rattle.std.proofs.Common.{◌≡◌, ◌≢◌, ℕ, zero, suc, ◌+◌, ◌<◌, ◌≤◌, true, false, cond, min, List, [], ◌∷◌, ◌++◌, length, take, drop, get_or, slice_get, slice_index, replicate, fold, Option, Some, None, refl, sym, ap, ◌∙◌, subst, arith, ⊎_elim, eq-eqb, ne_eqb, append_assoc, append-nil}
use Rattle.std.specs.List.{AllPairs, Contains, list_any}
use Rattle.std.specs.List.Sorted.{IsStrictlyIncreasing}
use Rattle.std.proofs.lemmas.Bool.{cases_lt, cases_eq, not-false, both_ways}
use Rattle.std.proofs.lemmas.List.{get_or-replicate, length-replicate, get_or_default, take_all}
use Rattle.std.proofs.lemmas.List.Kept.{IsStrictlyIncreasing-filter, AllPairs-from_increasing}
use Rattle.std.proofs.lemmas.List.Elements.{Contains-append_right, Contains-append_cases, Contains-push_cases}
use Rattle.traces.specs.Meanings.{IsSameTest}
use Rattle.traces.specs.Trace.{Trial, trace}
use Rattle.traces.specs.Together.{below, together, class_of, AreTogether}
use Rattle.traces.specs.Work.{is_least, least_members, splits}
use Rattle.traces.specs.Splits.{LeadsPart, IsSplit, IsEarlier}
use Rattle.traces.proofs.Bools.{on_bool}
use Rattle.traces.proofs.Turns.{any_from}
use Rattle.traces.proofs.Below.{below_below, has_below, IsStrictlyIncreasing-below}
use Rattle.traces.proofs.Lists.{contains_here, contains_there, contains_cases, from_filter, to_filter}
use Rattle.traces.proofs.Together.{AreTogether-from, together_from, both_go_on}
use Rattle.traces.proofs.Prefixes.{least_passing, not_least}
use Rattle.traces.proofs.AllSplits.{leaders_are, split_is, split_there, in_order}
use Rattle.reach_report.specs.Reach.{IsParting}
use Rattle.reach_report.specs.Pass.{lesser, with_lesser, with_values, value_of, with_split, table_of}
use Rattle.reach_report.proofs.Tables.{length_lowered, lowered_in, lowered_or_same}
use Rattle.reach_report.proofs.Agreeing.{turned, at_start, same_change_at, together_on}

-- ---- rising lists

-- an element of a rising list is its first or stands behind it
behind_first : (xs : List ℕ) (x : ℕ) → Contains xs x → slice_index xs 0 ≢ x → Contains (drop 1 xs) x
behind_first [] x c d = absurd (let l = c.1 in omega arith)
behind_first (y ∷ ys) x c d = ⊎_elim (λ (s : y ≡ x). absurd (d s)) (λ r. r) (contains_cases y x ys c)

from_behind : (xs : List ℕ) (x : ℕ) → Contains (drop 1 xs) x → Contains xs x
from_behind [] x c = c
from_behind (y ∷ ys) x c = contains_there y x ys c

pub first_listed : (xs : List ℕ) → 0 < length xs → Contains xs (slice_index xs 0)
first_listed [] h = absurd (omega arith)
first_listed (y ∷ ys) h = contains_here y ys

-- and the first is the least
pub first_least : (xs : List ℕ) (x : ℕ) → IsStrictlyIncreasing xs → Contains xs x → slice_index xs 0 ≤ x
first_least xs x r c = let e = c.2 in let l = c.1 in ⊎_elim
    (λ (z : c.0 ≡ 0). let s : get_or xs c.0 x ≡ get_or xs 0 x = ap (λ k. get_or xs k x) z in
    let d : get_or xs 0 x ≡ get_or xs 0 0 = get_or_default xs 0 x 0 (omega arith) in omega (arith, s, d, e))
    (λ (p : c.0 ≡ 0 → ⊥). let up : get_or xs 0 x < get_or xs c.0 x = AllPairs-from_increasing xs r 0 c.0 x (omega (arith, p)) l in
    let d : get_or xs 0 x ≡ get_or xs 0 0 = get_or_default xs 0 x 0 (omega arith) in omega (arith, up, d, e))
    (cases_eq c.0 0)

less_behind : (xs : List ℕ) (x : ℕ) → IsStrictlyIncreasing xs → Contains (drop 1 xs) x → slice_index xs 0 < x
less_behind [] x r c = absurd (let l = c.1 in omega arith)
less_behind (y ∷ ys) x r c =
    let up : get_or (y ∷ ys) 0 x < get_or (y ∷ ys) (suc c.0) x = AllPairs-from_increasing (y ∷ ys) r 0 (suc c.0) x (omega arith) (let l = c.1 in omega arith) in
    let e = c.2 in omega (arith, up, e)

two_of : (xs : List ℕ) (x y : ℕ) → Contains xs x → Contains xs y → x < y → 2 ≤ length xs
two_of xs x y c d h = let l = c.1 in let k = d.1 in let e = c.2 in let f = d.2 in ⊎_elim
    (λ (z : length xs < 2). let i : c.0 ≡ d.0 = omega arith in
    let s : get_or xs c.0 x ≡ get_or xs d.0 x = ap (λ j. get_or xs j x) i in
    let t : get_or xs d.0 x ≡ get_or xs d.0 y = get_or_default xs d.0 x y k in absurd (omega (arith, s, t, e, f)))
    (λ g. g)
    (cases_lt (length xs) 2)

module _ {S C : Type 0} (T : Trial S C) (same : IsSameTest T.meanings) where
  in_class : (m n k : ℕ) → Contains (class_of T m n) k → (k < T.mutants) × AreTogether T m k n
  unfolding class_of
  in_class m n k c = let p = from_filter (λ j. together T m j n) (below T.mutants) k c in (below_below T.mutants k p.0, AreTogether-from T same m k n p.1)

  to_class : (m n k : ℕ) → k < T.mutants → AreTogether T m k n → Contains (class_of T m n) k
  unfolding class_of
  to_class m n k l t = to_filter (λ j. together T m j n) (below T.mutants) k (has_below T.mutants k l) (together_from T same m k n t)

  rising_class : (m n : ℕ) → IsStrictlyIncreasing (class_of T m n)
  unfolding class_of
  rising_class m n = IsStrictlyIncreasing-filter (λ k. together T m k n) (below T.mutants) (IsStrictlyIncreasing-below T.mutants)

  through : (m k j n : ℕ) → AreTogether T m k n → AreTogether T k j n → AreTogether T m j n
  through m k j n t u = record { reached = t.reached; other_reached = u.other_reached; equal = t.equal ∙ u.equal }

  -- a mutant at a later part of a split
  pub record Born (m : ℕ) (split : ℕ × List ℕ) : Type 0 where
    pub listed : Contains (splits T) split
    pub later : Contains (drop 1 split.1) m

  pub record BornBefore (m n : ℕ) : Type 0 where
    pub split : ℕ × List ℕ
    pub born : Born m split
    pub before : split.0 < n

  -- the split at which a mutant becomes the least of its class
  born_at : (f n : ℕ) → f < T.mutants → n < length (trace T f) → is_least T f n ≡ false → is_least T f (n + 1) ≡ true → BornBefore f (n + 1)
  born_at f n h l late now =
      let w = least_passing (λ k. together T k f n) f (not-false (list_any (λ k. together T k f n) (below f)) late) in
      let g = w.0 in let g_less = w.1 in let tg = turned T same g f n (AreTogether-from T same g f n w.2) in
      let g_leads : LeadsPart T f n g = record {
        member = to_class f n g (omega arith) tg;
        new = λ j lj c e. let tj = turned T same f j n (in_class f n j c).1 in
            absurd (both_ways (list_any (λ k. together T k f n) (below g)) w.3
            (any_from (λ k. together T k f n) (below g) j (has_below g j lj) (together_from T same j f n tj)));
      } in
      let f_leads : LeadsPart T f n f = record {
        member = to_class f n f h (record { reached = omega arith; other_reached = omega arith; equal = refl });
        new = λ j lj c e. let tj = (in_class f n j c).1 in let o = both_go_on T same f j n tj l in
            let next : suc n ≡ n + 1 = omega arith in
            not_least T same j f (n + 1) lj (subst (AreTogether T j f) next (together_on T same j f n (turned T same f j n tj) o e)) now;
      } in
      let g_in = (leaders_are T same f n l g).1 g_leads in let f_in = (leaders_are T same f n l f).1 f_leads in
      let rising : IsStrictlyIncreasing (least_members T f n) = IsStrictlyIncreasing-filter (λ k. is_least T k (n + 1)) (class_of T f n) (rising_class f n) in
      let first = first_least (least_members T f n) g rising g_in in record {
        split = (n, least_members T f n);
        born = record {
          listed = split_there T same (n, least_members T f n) (record {
            mutant = f;
            is_mutant = h;
            goes_on = l;
            leaders = λ k. leaders_are T same f n l k;
            rising = rising;
            divided = two_of (least_members T f n) g f g_in f_in g_less;
          });
          later = behind_first (least_members T f n) f f_in (λ e. omega arith);
        };
        before = omega arith;
      }

  pub born_before : (f n : ℕ) → 0 < f → f < T.mutants → n ≤ length (trace T f) → is_least T f n ≡ true → BornBefore f n
  born_before f zero p h l e = absurd (not_least T same 0 f 0 p (at_start T same 0 f) e)
  born_before f (suc n) p h l e =
      let next : suc n ≡ n + 1 = omega arith in on_bool (is_least T f n)
      (λ t. let w = born_before f n p h (omega arith) t in let b = w.before in record { split = w.split; born = w.born; before = omega arith })
      (λ late. let w = born_at f n h (omega arith) late (sym (ap (is_least T f) next) ∙ e) in let b = w.before in
      record { split = w.split; born = w.born; before = omega arith })

  -- ---- what a table tells

  pub record Told (done : List (ℕ × List ℕ)) (table : List (Option ℕ)) : Type 0 where
    pub count : length table ≡ T.mutants
    pub right : (m k : ℕ) → m < T.mutants → get_or table m None ≡ Some k → IsParting T m (Some k)
    pub born : (split : ℕ × List ℕ) (m : ℕ) → Contains done split → Contains (drop 1 split.1) m → (k : ℕ) × (get_or table m None ≡ Some k)

  -- a mutant that is together with another one up to a change parts where that one does
  same_parting : (m f n k : ℕ) → AreTogether T m f n → IsParting T f (Some k) → k ≤ n → IsParting T m (Some k)
  same_parting m f n k t p l = let is = p.1 in let q = p.2 in let a = t.reached in (
    p.0,
    is,
    record {
      within = omega arith;
      original_within = q.original_within;
      differ = λ e. q.differ (sym (same_change_at T same m f n p.0 t (omega arith)) ∙ e);
      before = λ j h. same_change_at T same m f n j t (omega arith) ∙ q.before j h;
    },
  )

  -- before a mutant parts it is together with mutant 0
  so_far : (f n : ℕ) → n ≤ length (trace T f) → ((k : ℕ) → k < n → slice_get (trace T f) k ≡ slice_get (trace T 0) k) → AreTogether T f 0 n
  so_far f zero l h = at_start T same f 0
  so_far f (suc n) l h = together_on T same f 0 n (so_far f n (omega arith) (λ k u. h k (omega arith))) (omega arith) (h n (omega arith))

  -- who isn't together with mutant 0 any more has parted
  parted_by : (f n k : ℕ) → 0 < f → is_least T f n ≡ true → IsParting T f (Some k) → k ≤ n
  parted_by f n k p e part = let is = part.1 in let q = part.2 in ⊎_elim
      (λ (less : part.0 < n). omega arith)
      (λ (g : n ≤ part.0). let w = q.within in
      absurd (not_least T same 0 f n p (turned T same f 0 n (so_far f n (omega arith) (λ j u. q.before j (omega arith)))) e))
      (cases_lt part.0 n)

  -- one parting of a mutant is all
  same_partings : (m j k : ℕ) → IsParting T m (Some j) → IsParting T m (Some k) → j ≡ k
  same_partings m j k p q = let a = p.1 in let b = q.1 in ⊎_elim
      (λ (l : p.0 < q.0). absurd (p.2.differ (q.2.before p.0 l)))
      (λ g. ⊎_elim (λ (l : q.0 < p.0). absurd (q.2.differ (p.2.before q.0 l))) (λ h. omega arith) (cases_lt q.0 p.0))
      (cases_lt p.0 q.0)

  -- the first part of a split is the least of its class
  first_is_least : (split : ℕ × List ℕ) → IsSplit T split → is_least T (slice_index split.1 0) split.0 ≡ true
  first_is_least split is =
      let f = slice_index split.1 0 in let n = split.0 in let m = is.mutant in let two = is.divided in
      let leads = (is.leaders f).0 (first_listed split.1 (omega arith)) in let tf = (in_class m n f leads.member).1 in
      on_bool (is_least T f n) (λ t. t) (λ late.
      let w = least_passing (λ k. together T k f n) f (not-false (list_any (λ k. together T k f n) (below f)) late) in
      let g = w.0 in let less = w.1 in let tg = through m f g n tf (turned T same g f n (AreTogether-from T same g f n w.2)) in
      let known = (in_class m n f leads.member).0 in
      let g_leads : LeadsPart T m n g = record {
        member = to_class m n g (omega arith) tg;
        new = λ j lj c e. let tj = through j m f n (turned T same m j n (in_class m n j c).1) tf in
            both_ways (list_any (λ k. together T k f n) (below g)) w.3 (any_from (λ k. together T k f n) (below g) j (has_below g j lj) (together_from T same j f n tj));
      } in
      let least = first_least split.1 g is.rising ((is.leaders g).1 g_leads) in absurd (omega arith))

  pairs_tail : {X : Type 0} (R : X → X → Type 0) (x : X) (xs : List X) → AllPairs R (x ∷ xs) → AllPairs R xs
  pairs_tail R x xs r i j d h l = r (suc i) (suc j) d (omega arith) (omega arith)

  pairs_behind : {X : Type 0} (R : X → X → Type 0) (xs ys : List X) (y z : X) → AllPairs R (xs ++ y ∷ ys) → Contains ys z → R y z
  pairs_behind R [] ys y z r c = subst (R y) c.2 (r 0 (suc c.0) z (omega arith) (let l = c.1 in omega arith))
  pairs_behind R (x ∷ xs) ys y z r c = pairs_behind R xs ys y z (pairs_tail R x (xs ++ y ∷ ys) r) c

  -- a later part of a split differs from the first part in the next change
  later_parts : (split : ℕ × List ℕ) (m : ℕ) → IsSplit T split → Contains (drop 1 split.1) m
      → (m < T.mutants) × AreTogether T m (slice_index split.1 0) split.0 × (split.0 < length (trace T m)) × (split.0 < length (trace T (slice_index split.1 0)))
      × (slice_get (trace T m) split.0 ≢ slice_get (trace T (slice_index split.1 0)) split.0)
  later_parts split m is c =
      let f = slice_index split.1 0 in let n = split.0 in let two = is.divided in
      let leads_f = (is.leaders f).0 (first_listed split.1 (omega arith)) in let leads_m = (is.leaders m).0 (from_behind split.1 m c) in
      let tf = in_class is.mutant n f leads_f.member in let tm = in_class is.mutant n m leads_m.member in (
        tm.0,
        through m is.mutant f n (turned T same is.mutant m n tm.1) tf.1,
        both_go_on T same is.mutant m n tm.1 is.goes_on,
        both_go_on T same is.mutant f n tf.1 is.goes_on,
        λ e. leads_m.new f (less_behind split.1 m is.rising c) leads_f.member (sym e),
      )

  -- the value of a split is the parting of its later parts
  value_tells : (done rest : List (ℕ × List ℕ)) (split : ℕ × List ℕ) (table : List (Option ℕ)) → splits T ≡ done ++ split ∷ rest → Told done table
      → (k : ℕ) × (value_of table split ≡ Some k) × ((m : ℕ) → Contains (drop 1 split.1) m → IsParting T m (Some k))
  value_tells done rest split table all told =
      let f = slice_index split.1 0 in let n = split.0 in
      let here : Contains (splits T) split = subst (λ xs. Contains xs split) (sym all) (Contains-append_right done (split ∷ rest) split (contains_here split rest)) in
      let is = split_is T same split here in ⊎_elim
      (λ (z : f ≡ 0). (
        n + 1,
        ap (λ b. cond b (Some (n + 1)) (get_or table f None)) (eq-eqb f 0 z),
        λ m c. let p = later_parts split m is c in let t = subst (λ k. AreTogether T m k n) z p.1 in (
          n,
          refl,
          record {
            within = p.2;
            original_within = subst (λ k. n < length (trace T k)) z p.3;
            differ = λ e. p.4 (e ∙ ap (λ k. slice_get (trace T k) n) (sym z));
            before = λ j l. same_change_at T same m 0 n j t l;
          },
        ),
      ))
      (λ (d : f ≡ 0 → ⊥).
      let least = first_is_least split is in let two = is.divided in
      let tf = in_class is.mutant n f ((is.leaders f).0 (first_listed split.1 (omega arith))).member in
      let reached = tf.1.other_reached in
      let w = born_before f n (omega (arith, d)) tf.0 reached least in let b = w.before in
      let at = subst (λ xs. Contains xs w.split) all w.born.listed in
      let earlier : Contains done w.split = ⊎_elim (λ c. c) (λ c. absurd (⊎_elim
      (λ (s : split ≡ w.split). let e = ap (λ (x : ℕ × List ℕ). x.0) s in omega (arith, e, b))
      (λ r. let o = (pairs_behind IsEarlier done rest split w.split (subst (AllPairs IsEarlier) all (in_order T same)) r).number in omega (arith, o, b))
      (contains_cases split w.split rest c))) (Contains-append_cases done (split ∷ rest) w.split at) in
      let k = told.born w.split f earlier w.born.later in
      let part = told.right f k.0 tf.0 k.1 in let inside = parted_by f n k.0 (omega (arith, d)) least part in (
        k.0,
        ap (λ b. cond b (Some (n + 1)) (get_or table f None)) (ne_eqb f 0 d) ∙ k.1,
        λ m c. let p = later_parts split m is c in same_parting m f n k.0 p.1 part inside,
      ))
      (cases_eq f 0)

  -- the entry of a later part
  right_entry : (m v : ℕ) (o : Option ℕ) → ((w : ℕ) → o ≡ Some w → IsParting T m (Some w)) → IsParting T m (Some v) → IsParting T m (Some (lesser v o))
  right_entry m v None old new_ = new_
  right_entry m v (Some w) old new_ =
      let e = same_partings m w v (old w refl) new_ in let least : v ≡ min w v = omega arith in subst (λ k. IsParting T m (Some k)) least new_

  -- one more split
  tell_more : (done rest : List (ℕ × List ℕ)) (split : ℕ × List ℕ) (table : List (Option ℕ)) → splits T ≡ done ++ split ∷ rest → Told done table
      → Told (done ++ split ∷ []) (with_split table split)
  unfolding with_split
  tell_more done rest split table all told =
      let v = value_tells done rest split table all told in let long = told.count in
      let here : Contains (splits T) split = subst (λ xs. Contains xs split) (sym all) (Contains-append_right done (split ∷ rest) split (contains_here split rest)) in
      let is = split_is T same split here in
      let ms = drop 1 split.1 in
      let entry : (m : ℕ) → Contains ms m → get_or (fold (with_lesser v.0) table ms) m None ≡ Some (lesser v.0 (get_or table m None)) =
      (λ m h. lowered_in v.0 table ms m (let l = (later_parts split m is h).0 in omega arith) h) in
      subst (λ o. Told (done ++ split ∷ []) (with_values o table ms)) (sym v.1) (record {
        count = length_lowered v.0 table ms ∙ told.count;
        right = λ m k l e. ⊎_elim
            (λ kept. told.right m k l (sym kept ∙ e))
            (λ h. subst (IsParting T m) (sym (entry m h) ∙ e) (right_entry m v.0 (get_or table m None) (λ w f. told.right m w l f) (v.2 m h)))
            (lowered_or_same v.0 table ms m);
        born = λ s m c d. ⊎_elim
            (λ e. let k = told.born s m e d in ⊎_elim
            (λ kept. (k.0, kept ∙ k.1))
            (λ h. (lesser v.0 (get_or table m None), entry m h))
            (lowered_or_same v.0 table ms m))
            (λ (e : split ≡ s). (lesser v.0 (get_or table m None), entry m (subst (λ (x : ℕ × List ℕ). Contains (drop 1 x.1) m) (sym e) d)))
            (Contains-push_cases done split s c);
      })

  tell_all : (done rest : List (ℕ × List ℕ)) (table : List (Option ℕ)) → splits T ≡ done ++ rest → Told done table → Told (splits T) (fold with_split table rest)
  tell_all done [] table e told = subst (λ xs. Told xs table) (sym (e ∙ append-nil done)) told
  tell_all done (split ∷ rest) table e told =
      tell_all (done ++ split ∷ []) rest (with_split table split) (e ∙ sym (append_assoc done (split ∷ []) rest)) (tell_more done rest split table e told)

  none_is_some : (k : ℕ) → None ≡ Some k → ⊥
  none_is_some k e = cc

  pub all_told : Told (splits T) (table_of T.mutants (splits T))
  unfolding table_of
  all_told = tell_all [] (splits T) (replicate T.mutants None) refl (record {
    count = length-replicate {A = Option ℕ} T.mutants None;
    right = λ m k l e. absurd (none_is_some k (sym (get_or-replicate T.mutants m None None l) ∙ e));
    born = λ s m c d. absurd (let l = c.1 in omega arith);
  })

  -- ---- the parting of a mutant is the entry of the least of its class

  pub record LeadsTrace (m c : ℕ) : Type 0 where
    pub is_mutant : c < T.mutants
    pub equal : trace T c ≡ trace T m
    pub least : is_least T c (length (trace T c)) ≡ true

  original_none : (table : List (Option ℕ)) (o : Option ℕ) → ((k : ℕ) → o ≡ Some k → IsParting T 0 (Some k)) → o ≡ None
  original_none table None h = refl
  original_none table (Some k) h = absurd (let p = (h k refl).2 in p.differ refl)

  entry_tells : (table : List (Option ℕ)) (m c : ℕ) → Told (splits T) table → LeadsTrace m c → IsParting T m (get_or table c None)
  entry_tells table m c told leads = ⊎_elim
      (λ (p : 0 < c).
      let n = length (trace T c) in let w = born_before c n p leads.is_mutant (omega arith) leads.least in
      let k = told.born w.split c w.born.listed w.born.later in let part = told.right c k.0 leads.is_mutant k.1 in
      let long = ap length leads.equal in
      subst (IsParting T m) (sym k.1) (same_parting m c n k.0
      (record { reached = omega arith; other_reached = omega arith; equal = ap (take n) (sym leads.equal) }) part (parted_by c n k.0 p leads.least part)))
      (λ (z : c ≤ 0).
      let e : c ≡ 0 = omega arith in let one = leads.is_mutant in
      subst (IsParting T m) (sym (ap (λ j. get_or table j None) e ∙ original_none table (get_or table 0 None) (λ k f. told.right 0 k (omega arith) f)))
      (λ n a b. sym (ap (λ cs. slice_get cs n) leads.equal) ∙ ap (λ j. slice_get (trace T j) n) e))
      (cases_lt 0 c)

  pub parting_is : (m c : ℕ) → LeadsTrace m c → IsParting T m (get_or (table_of T.mutants (splits T)) c None)
  parting_is m c leads = entry_tells (table_of T.mutants (splits T)) m c all_told leads

  -- the least mutant of one whole trace
  pub least_leads : (m c : ℕ) → c < T.mutants → trace T c ≡ trace T m → ((j : ℕ) → j < T.mutants → trace T j ≡ trace T m → c ≤ j) → LeadsTrace m c
  least_leads m c h e least = record {
    is_mutant = h;
    equal = e;
    least = let n = length (trace T c) in on_bool (is_least T c n) (λ t. t) (λ late.
        let w = least_passing (λ k. together T k c n) c (not-false (list_any (λ k. together T k c n) (below c)) late) in
        let j = w.0 in let less = w.1 in let t = AreTogether-from T same j c n w.2 in
        let short : length (trace T j) ≤ n = ⊎_elim
        (λ (l : n < length (trace T j)). absurd (let on = both_go_on T same j c n t l in omega arith))
        (λ g. g)
        (cases_lt n (length (trace T j))) in
        let one : trace T j ≡ trace T c = sym (take_all n (trace T j) short) ∙ t.equal ∙ take_all n (trace T c) (omega arith) in
        let more = least j (omega arith) (one ∙ e) in absurd (omega arith));
  }
