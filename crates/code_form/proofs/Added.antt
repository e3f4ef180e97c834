-- A replacement added at a place: what it does to the places, and that the table stays as its invariant says.
use Rattle.std.proofs.Common.{◌≡◌, ◌≢◌, ◌⊎◌, ◌↔◌, inl, inr, ℕ, zero, suc, ◌==◌, ◌<◌, ◌≤◌, Bool, true, false, ◌||◌, if◌then◌else◌, List, [], ◌∷◌, ◌++◌, length, get_or, set, Some, Result, Ok, Err}
use Rattle.std.proofs.Common.{refl, sym, ap, subst, ◌∙◌, arith, slice_get, unwrap_or, IfOk, OnErr, length-append, length-set}
use mathlib.Core.Logic.{⊎_elim}
use Rattle.std.specs.List.{Contains}
use Rattle.std.proofs.lemmas.Bool.{cases_eq, eq-eqb}
use Rattle.std.proofs.lemmas.Bool.Decides.{nat_tests}
use Rattle.am_base.specs.declared.limits.TheConstants.{MAX_MUTANTS, MAX_REPLACEMENTS}
use Rattle.code_form.specs.declared.instr.Instr.{Instr}
use Rattle.code_form.specs.declared.code.Code.{Code}
use Rattle.code_form.specs.declared.replacements.Replacements.{Replacements}
use Rattle.code_form.specs.Places.{instr_at}
use Rattle.code_form.specs.Variant.{number_at, places_in, has_place, Table, mutants_of, chosen_by, places_by, variant_of, replacements_at, IsNumbered, same, known, fresh, AreDifferent, IsRising, Adds}
use Rattle.code_form.specs.Fit.{FitsPlace, FitsTable}
use Rattle.code_form.specs.Replacements.{replacements_in, mutants_in, table_of, IsFiled, IsAdded, AreSame}
use Rattle.code_form.proofs.Lists.{at-push}
use Rattle.code_form.proofs.Tables.{replacements-at, mutants-at, mentioned-set, replacements-set, mutants-set, replacements-set-other, mutants-set-other}

pub replacements-same : (old new : List Replacements) (at : ℕ) → AreSame old new → replacements_in new at ≡ replacements_in old at
replacements-same old new at s = ap (λ (ls : List (List Instr)). unwrap_or (slice_get ls at) []) s.mentioned

-- ---- one place among the others

module _ (old mid : List Replacements) (at : ℕ) (s : Replacements) (room : AreSame old mid) (l : at < length mid) (is : s ≡ get_or mid at s) where
  pub replacements-before : replacements_in old at ≡ s.instrs.keys
  replacements-before = sym (replacements-same old mid at room) ∙ replacements-at mid at s l ∙ sym (ap (λ (t : Replacements). t.instrs.keys) is)

  pub mutants-before : mutants_in old at ≡ s.mutants.items
  mutants-before = sym (room.mutants at) ∙ mutants-at mid at s l ∙ sym (ap (λ (t : Replacements). t.mutants.items) is)

  mutants-same : (t : Replacements) → t.mutants.items ≡ s.mutants.items → (q : ℕ) → mutants_in (set mid at t) q ≡ mutants_in old q
  mutants-same t e q =
      ⊎_elim
      (λ i. rw i (mutants-set mid at t l ∙ e ∙ sym mutants-before))
      (λ n. mutants-set-other mid at q t n ∙ room.mutants q)
      (cases_eq q at)

  pub same-place : {E : Type 0} (r : Result ℕ E) (t : Replacements) → OnErr r ((t.instrs.keys ≡ s.instrs.keys) × (t.mutants.items ≡ s.mutants.items))
      → OnErr r (AreSame old (set mid at t))
  same-place (Ok n) t h = tt
  same-place (Err e) t h = record {
    mentioned = mentioned-set mid at t s l (h.0 ∙ ap (λ (t : Replacements). t.instrs.keys) is) ∙ room.mentioned;
    mutants = mutants-same t h.1;
  }

  pub added-place : {E : Type 0} (r : Result ℕ E) (t : Replacements) (original : Instr) (m : ℕ) (with : Instr)
      → IfOk r (λ n. IsNumbered original s.instrs.keys with n t.instrs.keys)
      → IfOk r (λ n. n ≤ length t.instrs.keys) → IfOk r (λ n. (k : ℕ) → Contains t.mutants.items k ↔ (((k ≡ m) × (0 < n)) ⊎ Contains s.mutants.items k))
      → AreDifferent t.instrs.keys → length t.instrs.keys ≤ length t.mutants.items → IsRising t.mutants.items
      → IfOk r (λ n. IsAdded original old (set mid at t) at m with n)
  added-place (Err e) t original m with h1 h2 h3 d o u = tt
  added-place (Ok n) t original m with h1 h2 h3 d o u =
      let a = replacements-set mid at t l in
      let b = mutants-set mid at t l in
      let p = replacements-before in
      let q = mutants-before in
      record {
        numbered = subst (λ (x : List Instr). IsNumbered original x with n (replacements_in (set mid at t) at)) (sym p)
            (subst (λ (y : List Instr). IsNumbered original s.instrs.keys with n y) (sym a) h1);
        given = rw a h2;
        mutants = λ k. let f = h3 k in (
          λ x. ⊎_elim inl (λ y. inr (subst (λ (z : List ℕ). Contains z k) (sym q) y)) (f.0 (subst (λ (z : List ℕ). Contains z k) b x)),
          λ x. subst (λ (z : List ℕ). Contains z k) (sym b) (f.1 (⊎_elim inl (λ y. inr (subst (λ (z : List ℕ). Contains z k) q y)) x)),
        );
        different = subst (λ (y : List Instr). AreDifferent y) (sym a) d;
        mentioned_by_one = rw (a, b) o;
        rising = subst (λ (y : List ℕ). IsRising y) (sym b) u;
        other_replacements = λ k ne. replacements-set-other mid at k t ne ∙ replacements-same old mid k room;
        other_mutants = λ k ne. mutants-set-other mid at k t ne ∙ room.mutants k;
      }

-- ---- the replacements of a mutant

pub none-at : (cs : List (ℕ × ℕ)) (at : ℕ) → has_place (places_in cs) at ≡ false → number_at cs at ≡ 0
none-at [] at h = refl
none-at (c ∷ cs) at h = by (c.0 == at) h (none-at cs at)
  where
    by : (b : Bool) → (b || has_place (places_in cs) at) ≡ false → (has_place (places_in cs) at ≡ false → number_at cs at ≡ 0)
        → (if b then c.1 else number_at cs at) ≡ 0
    by true h rest = cc
    by false h rest = rest h

number-more : (cs : List (ℕ × ℕ)) (at n : ℕ) → has_place (places_in cs) at ≡ false → number_at (cs ++ (at, n) ∷ []) at ≡ n
number-more [] at n h = rw (eq-eqb at at refl) refl
number-more (c ∷ cs) at n h = by (c.0 == at) h (number-more cs at n)
  where
    by : (b : Bool) → (b || has_place (places_in cs) at) ≡ false
        → (has_place (places_in cs) at ≡ false → number_at (cs ++ (at, n) ∷ []) at ≡ n)
        → (if b then c.1 else number_at (cs ++ (at, n) ∷ []) at) ≡ n
    by true h rest = cc
    by false h rest = rest h

number-other : (cs : List (ℕ × ℕ)) (at n q : ℕ) → q ≢ at → number_at (cs ++ (at, n) ∷ []) q ≡ number_at cs q
number-other [] at n q ne = grind (arith, nat_tests)
number-other (c ∷ cs) at n q ne = ap (λ (k : ℕ). if (c.0 == q) then c.1 else k) (number-other cs at n q ne)

places-more : (cs : List (ℕ × ℕ)) (at n : ℕ) → places_in (cs ++ (at, n) ∷ []) ≡ places_in cs ++ at ∷ []
places-more [] at n = refl
places-more (c ∷ cs) at n = ap (λ (ps : List ℕ). c.0 ∷ ps) (places-more cs at n)

pub places-count : (cs : List (ℕ × ℕ)) → length (places_in cs) ≡ length cs
places-count [] = refl
places-count (c ∷ cs) = ap suc (places-count cs)

-- ---- the table

chosen-set : (choices : List (List (ℕ × ℕ))) (m : ℕ) (x : List (ℕ × ℕ)) → m < length choices → unwrap_or (slice_get (set choices m x) m) [] ≡ x
chosen-set [] m x l = absurd (omega arith)
chosen-set (c ∷ cs) zero x l = refl
chosen-set (c ∷ cs) (suc m) x l = chosen-set cs m x (omega arith)

chosen-set-other : (choices : List (List (ℕ × ℕ))) (m n : ℕ) (x : List (ℕ × ℕ)) → n ≢ m
    → unwrap_or (slice_get (set choices m x) n) [] ≡ unwrap_or (slice_get choices n) []
chosen-set-other [] m n x ne = refl
chosen-set-other (c ∷ cs) zero zero x ne = absurd (ne refl)
chosen-set-other (c ∷ cs) zero (suc n) x ne = refl
chosen-set-other (c ∷ cs) (suc m) zero x ne = refl
chosen-set-other (c ∷ cs) (suc m) (suc n) x ne = chosen-set-other cs m n x (λ e. ne (ap suc e))

-- the replacements of a mutant of the table
pub chosen-at : (choices : List (List (ℕ × ℕ))) (m : ℕ) (d : List (ℕ × ℕ)) → m < length choices → get_or choices m d ≡ unwrap_or (slice_get choices m) []
chosen-at [] m d l = absurd (omega arith)
chosen-at (c ∷ cs) zero d l = refl
chosen-at (c ∷ cs) (suc m) d l = chosen-at cs m d (omega arith)

-- one of them gets one more
pub chosen-more : (choices : List (List (ℕ × ℕ))) (m : ℕ) (before after : List (ℕ × ℕ)) (c : ℕ × ℕ) → m < length choices
    → before ≡ get_or choices m before → after ≡ before ++ c ∷ [] → after ≡ unwrap_or (slice_get choices m) [] ++ c ∷ []
chosen-more choices m before after c l e h = h ∙ ap (λ (x : List (ℕ × ℕ)). x ++ c ∷ []) (e ∙ chosen-at choices m before l)

-- one more mutant without a replacement
pub nothing-more : (choices : List (List (ℕ × ℕ))) → ((m : ℕ) → unwrap_or (slice_get choices m) [] ≡ []) → (m : ℕ)
    → unwrap_or (slice_get (choices ++ [] ∷ []) m) [] ≡ []
nothing-more [] h zero = refl
nothing-more [] h (suc m) = refl
nothing-more (c ∷ cs) h zero = h 0
nothing-more (c ∷ cs) h (suc m) = nothing-more cs (λ k. h (suc k)) m

pub defined : (choices : List (List (ℕ × ℕ))) (n at : ℕ) → 0 < number_at (unwrap_or (slice_get choices n) []) at → n < length choices
defined [] n at l = absurd (omega arith)
defined (c ∷ cs) zero at l = omega arith
defined (c ∷ cs) (suc n) at l = omega (arith, defined cs n at l)

-- no mutant has a replacement
pub filed-nothing : (choices : List (List (ℕ × ℕ))) → 1 ≤ length choices → length choices ≤ MAX_MUTANTS
    → ((m : ℕ) → unwrap_or (slice_get choices m) [] ≡ []) → IsFiled choices []
filed-nothing choices some few nothing = record {
  some = some;
  few = few;
  unchanged = nothing 0;
  numbered = λ at m. rw (nothing m) (omega arith);
  different = λ at j k i e. absurd (cc e);
  mentioned_by_one = λ at. omega arith;
  rising = λ at j k below within. absurd (omega (arith, within));
  exact = λ at m. (λ h. absurd (omega (arith, h.1)), λ h. absurd (let e : number_at (unwrap_or (slice_get choices m) []) at ≡ 0 = rw (nothing m) refl in omega (arith, h, e)));
}

longer : {original with : Instr} {before after : List Instr} {n : ℕ} → IsNumbered original before with n after → length before ≤ length after
longer (same e) = omega arith
longer (known k ne e) = omega arith
longer {with = w} {before = b} (fresh ne absent) = omega (arith, length-append b (w ∷ []))

pub filed-same : (choices : List (List (ℕ × ℕ))) (old new : List Replacements) → AreSame old new → IsFiled choices old → IsFiled choices new
filed-same choices old new s f = record {
  some = f.some;
  few = f.few;
  unchanged = f.unchanged;
  numbered = λ at m. rw (replacements-same old new at s) (f.numbered at m);
  different = λ at. subst (λ (y : List Instr). AreDifferent y) (sym (replacements-same old new at s)) (f.different at);
  mentioned_by_one = λ at. rw (replacements-same old new at s, s.mutants at) (f.mentioned_by_one at);
  rising = λ at. subst (λ (y : List ℕ). IsRising y) (sym (s.mutants at)) (f.rising at);
  exact = λ at m. (
    λ x. (f.exact at m).0 (subst (λ (z : List ℕ). Contains z m) (s.mutants at) x),
    λ x. subst (λ (z : List ℕ). Contains z m) (sym (s.mutants at)) ((f.exact at m).1 x),
  );
}

module _ (choices : List (List (ℕ × ℕ))) (old new : List Replacements) (original : Instr) (at m : ℕ) (with : Instr) (number : ℕ) (f : IsFiled choices old)
    (a : IsAdded original old new at m with number) (here : List (ℕ × ℕ)) (more : here ≡ unwrap_or (slice_get choices m) [] ++ (at, number) ∷ [])
    (free : has_place (places_in (unwrap_or (slice_get choices m) [])) at ≡ false) (l : m < length choices) where
  before : ℕ → ℕ → ℕ
  before n q = number_at (unwrap_or (slice_get choices n) []) q

  after : ℕ → ℕ → ℕ
  after n q = number_at (unwrap_or (slice_get (set choices m here) n) []) q

  after-here : after m at ≡ number
  unfolding after
  after-here = ap (λ c. number_at c at) (chosen-set choices m here l ∙ more) ∙ number-more (unwrap_or (slice_get choices m) []) at number free

  after-elsewhere : (q : ℕ) → q ≢ at → after m q ≡ before m q
  unfolding after before
  after-elsewhere q ne = ap (λ c. number_at c q) (chosen-set choices m here l ∙ more) ∙ number-other (unwrap_or (slice_get choices m) []) at number q ne

  after-others : (n q : ℕ) → n ≢ m → after n q ≡ before n q
  unfolding after before
  after-others n q ne = ap (λ c. number_at c q) (chosen-set-other choices m n here ne)

  before-none : before m at ≡ 0
  unfolding before
  before-none = none-at (unwrap_or (slice_get choices m) []) at free

  within : (n q : ℕ) → before n q ≤ length (replacements_in old q)
  unfolding before
  within n q = f.numbered q n

  listed : (n q : ℕ) → Contains (mutants_in old q) n ↔ (0 < before n q)
  unfolding before
  listed n q = f.exact q n

  unlisted : Contains (mutants_in old at) m → ⊥
  unlisted c = let h : 0 < before m at = (listed m at).0 c in omega (arith, before-none)

  numbered-one : (q : ℕ) → after m q ≤ length (replacements_in new q)
  numbered-one q =
      ⊎_elim
      (λ i. subst (λ k. after m k ≤ length (replacements_in new k)) (sym i) (omega (arith, after-here, a.given)))
      (λ ne. omega (arith, after-elsewhere q ne, within m q, ap (λ (y : List Instr). length y) (a.other_replacements q ne)))
      (cases_eq q at)

  numbered-other : (n q : ℕ) → n ≢ m → after n q ≤ length (replacements_in new q)
  numbered-other n q nm =
      ⊎_elim
      (λ i. subst (λ k. after n k ≤ length (replacements_in new k)) (sym i) (omega (arith, after-others n at nm, within n at, longer a.numbered)))
      (λ ne. omega (arith, after-others n q nm, within n q, ap (λ (y : List Instr). length y) (a.other_replacements q ne)))
      (cases_eq q at)

  exact-one : (q : ℕ) → Contains (mutants_in new q) m ↔ (0 < after m q)
  exact-one q =
      ⊎_elim
      (λ i. subst (λ k. Contains (mutants_in new k) m ↔ (0 < after m k)) (sym i) (
        λ x. ⊎_elim (λ p. omega (arith, after-here, p.1)) (λ c. absurd (unlisted c)) ((a.mutants m).0 x),
        λ h. (a.mutants m).1 (inl (refl, omega (arith, after-here))),
      ))
      (λ ne. (
        λ x. omega (arith, after-elsewhere q ne, (listed m q).0 (subst (λ (z : List ℕ). Contains z m) (a.other_mutants q ne) x)),
        λ h. subst (λ (z : List ℕ). Contains z m) (sym (a.other_mutants q ne)) ((listed m q).1 (omega (arith, after-elsewhere q ne))),
      ))
      (cases_eq q at)

  exact-other : (n q : ℕ) → n ≢ m → Contains (mutants_in new q) n ↔ (0 < after n q)
  exact-other n q nm =
      ⊎_elim
      (λ i. subst (λ k. Contains (mutants_in new k) n ↔ (0 < after n k)) (sym i) (
        λ x. ⊎_elim (λ p. absurd (nm p.0)) (λ c. omega (arith, after-others n at nm, (listed n at).0 c)) ((a.mutants n).0 x),
        λ h. (a.mutants n).1 (inr ((listed n at).1 (omega (arith, after-others n at nm)))),
      ))
      (λ ne. (
        λ x. omega (arith, after-others n q nm, (listed n q).0 (subst (λ (z : List ℕ). Contains z n) (a.other_mutants q ne) x)),
        λ h. subst (λ (z : List ℕ). Contains z n) (sym (a.other_mutants q ne)) ((listed n q).1 (omega (arith, after-others n q nm))),
      ))
      (cases_eq q at)

  numbered-all : (q n : ℕ) → after n q ≤ length (replacements_in new q)
  numbered-all q n = ⊎_elim (λ e. subst (λ k. after k q ≤ length (replacements_in new q)) (sym e) (numbered-one q)) (numbered-other n q) (cases_eq n m)

  exact-all : (q n : ℕ) → Contains (mutants_in new q) n ↔ (0 < after n q)
  exact-all q n = ⊎_elim (λ e. subst (λ k. Contains (mutants_in new q) k ↔ (0 < after k q)) (sym e) (exact-one q)) (exact-other n q) (cases_eq n m)

  by_place : (P : List Instr → List ℕ → Type 0) → P (replacements_in new at) (mutants_in new at) → ((q : ℕ) → P (replacements_in old q) (mutants_in old q))
      → (q : ℕ) → P (replacements_in new q) (mutants_in new q)
  by_place P here there q =
      ⊎_elim
      (λ i. subst (λ k. P (replacements_in new k) (mutants_in new k)) (sym i) here)
      (λ ne. subst (λ y. P (replacements_in new q) y) (sym (a.other_mutants q ne))
      (subst (λ y. P y (mutants_in old q)) (sym (a.other_replacements q ne)) (there q)))
      (cases_eq q at)

  pub filed-add : 1 ≤ m → IsFiled (set choices m here) new
  unfolding after
  filed-add some = record {
    some = omega (arith, length-set choices m here, f.some);
    few = omega (arith, length-set choices m here, f.few);
    unchanged = chosen-set-other choices m 0 here (λ e. omega arith) ∙ f.unchanged;
    numbered = numbered-all;
    different = by_place (λ y z. AreDifferent y) a.different f.different;
    mentioned_by_one = by_place (λ y z. length y ≤ length z) a.mentioned_by_one f.mentioned_by_one;
    rising = by_place (λ y z. IsRising z) a.rising f.rising;
    exact = exact-all;
  }

  pub adds : (code : Code) (table : Table) → table_of choices old ≡ table → original ≡ instr_at code at
      → length (places_in (unwrap_or (slice_get choices m) [])) < MAX_REPLACEMENTS → Adds code table (table_of (set choices m here) new) m at with
  adds code table is e few =
      let made : Adds code (table_of choices old) (table_of (set choices m here) new) m at with = record {
        defined = l;
        free = free;
        few = few;
        number = number;
        numbered = subst (λ (i : Instr). IsNumbered i (replacements_in old at) with number (replacements_in new at)) e a.numbered;
        chosen = ap (λ (x : List (ℕ × ℕ)). set choices m x) more;
        others = a.other_replacements;
      } in
      subst (λ (t : Table). Adds code t (table_of (set choices m here) new) m at with) is made

-- ---- what a table has after a replacement was added

module _ (code : Code) (old new : Table) (m at : ℕ) (with : Instr) (a : Adds code old new m at with) where
  pub mutants-adds : mutants_of new ≡ mutants_of old
  mutants-adds = ap (λ (cs : List (List (ℕ × ℕ))). length cs) a.chosen ∙ length-set old.chosen m _

  pub chosen-adds : (n : ℕ) → n ≢ m → chosen_by new n ≡ chosen_by old n
  chosen-adds n ne = ap (λ (cs : List (List (ℕ × ℕ))). unwrap_or (slice_get cs n) []) a.chosen ∙ chosen-set-other old.chosen m n _ ne

  chosen-here : chosen_by new m ≡ chosen_by old m ++ (at, a.number) ∷ []
  chosen-here = ap (λ (cs : List (List (ℕ × ℕ))). unwrap_or (slice_get cs m) []) a.chosen ∙ chosen-set old.chosen m _ a.defined

  pub places-adds : places_by new m ≡ places_by old m ++ at ∷ []
  places-adds = ap (λ (cs : List (ℕ × ℕ)). places_in cs) chosen-here ∙ places-more (chosen_by old m) at a.number

  pub variant-adds : variant_of new m at ≡ a.number
  variant-adds = ap (λ (cs : List (ℕ × ℕ)). number_at cs at) chosen-here ∙ number-more (chosen_by old m) at a.number a.free

-- ---- a table that fits its code

numbered-fits : (P : Instr → Type 0) → {original with : Instr} {before after : List Instr} {n : ℕ} → IsNumbered original before with n after → P with
    → ((k : ℕ) (i : Instr) → slice_get before k ≡ Some i → P i) → (k : ℕ) (i : Instr) → slice_get after k ≡ Some i → P i
numbered-fits P (same e) p h k i g = h k i g
numbered-fits P (known j ne e) p h k i g = h k i g
numbered-fits P {with = w} {before = b} (fresh ne absent) p h k i g = ⊎_elim (h k i) (λ q. subst P q.1 p) (at-push b w k i g)

pub fits-adds : (code : Code) (old new : Table) (m at : ℕ) (with : Instr) → Adds code old new m at with → FitsTable code old → FitsPlace code at with
    → FitsTable code new
fits-adds code old new m at with a f p = record {
  each = λ q k i g. ⊎_elim
      (λ e. subst (λ n. FitsPlace code n i) (sym e) (numbered-fits (FitsPlace code at) a.numbered p (f.each at) k i
      (subst (λ n. slice_get (replacements_at new n) k ≡ Some i) e g)))
      (λ ne. f.each q k i (subst (λ (l : List Instr). slice_get l k ≡ Some i) (a.others q ne) g))
      (cases_eq q at);
}
