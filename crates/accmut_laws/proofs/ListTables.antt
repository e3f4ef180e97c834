-- Each list of replacements in the order of their mutants has a table, and rows.
use Rattle.std.proofs.Common.{◌≡◌, ◌≢◌, ◌⊎◌, inl, inr, ℕ, zero, suc, ◌+◌, ◌<◌, false, List, [], ◌∷◌, ◌++◌, length, Some, slice_get, unwrap_or, slice_set, replicate}
use Rattle.std.proofs.Common.{refl, sym, ap, subst, ◌∙◌, arith, append_assoc, ⊎_elim}
use Rattle.std.proofs.lemmas.List.{length-replicate}
use Rattle.std.proofs.lemmas.Bool.{cases_eq, true≢false}
use Rattle.am_base.specs.declared.limits.TheConstants.{MAX_REPLACEMENTS}
use Rattle.code_form.specs.declared.code.Code.{Code}
use Rattle.code_form.specs.declared.instr.Instr.{Instr}
use Rattle.code_form.specs.Places.{instr_at}
use Rattle.code_form.specs.Variant.{Table, mutants_of, chosen_by, places_by, places_in, has_place, replacements_at, IsNumbered, same, known, fresh, Adds}
use Rattle.code_form.proofs.Added.{mutants-adds, chosen-adds, places-adds}
use Rattle.code_form.proofs.InstrEqual.{instr_eq, instr_same, equal_instrs}
use Rattle.traces.proofs.Bools.{on_bool}
use Rattle.mutant_records.specs.Lists.{last_mutant, places_of}
use Rattle.mutant_records.specs.Order.{AreInOrder}
use Rattle.mutant_records.proofs.Order.{next-within, places-here, places-other}
use Rattle.mutant_records.specs.Tables.{IsEmptyTable, ListFrom, IsListOf, row_of}
use Rattle.mutant_records.specs.declared.list.Made.{Made}
use Rattle.mutant_records.specs.declared.list.MutantList.{MutantList}
use Rattle.mutant_records.specs.declared.list.MutantRow.{MutantRow}

-- ---- the number of a replacement

decided : (a b : Instr) → (a ≡ b) ⊎ (a ≢ b)
decided a b = on_bool (instr_eq a b) (λ t. inl (instr_same a b t)) (λ f. inr (λ e. true≢false (sym (equal_instrs a b e) ∙ f)))

absent_too : (x : Instr) (xs : List Instr) (i : Instr) → x ≢ i → ((k : ℕ) → slice_get xs k ≢ Some i) → (k : ℕ) → slice_get (x ∷ xs) k ≢ Some i
absent_too x xs i ne absent zero = λ e. ne (cc e)
absent_too x xs i ne absent (suc k) = absent k

sought : (is : List Instr) (i : Instr) → ((k : ℕ) × (slice_get is k ≡ Some i)) ⊎ ((k : ℕ) → slice_get is k ≢ Some i)
sought [] i = inr (λ k e. cc e)
sought (x ∷ xs) i = ⊎_elim
    (λ (e : x ≡ i). inl (0, ap Some e))
    (λ ne. ⊎_elim (λ f. inl (suc f.0, f.1)) (λ absent. inr (absent_too x xs i ne absent)) (sought xs i))
    (decided x i)

numbered : (original : Instr) (before : List Instr) (with : Instr) → (n : ℕ) × (after : List Instr) × IsNumbered original before with n after
numbered original before with = ⊎_elim
    (λ e. (0, before, same e))
    (λ ne. ⊎_elim (λ f. (f.0 + 1, before, known f.0 ne f.1)) (λ absent. (length before + 1, before ++ with ∷ [], fresh ne absent)) (sought before with))
    (decided with original)

-- ---- a table with one replacement more

put : List (List Instr) → ℕ → List Instr → List (List Instr)
put [] zero is = is ∷ []
put [] (suc at) is = [] ∷ put [] at is
put (l ∷ ls) zero is = is ∷ ls
put (l ∷ ls) (suc at) is = l ∷ put ls at is

abbrev at : List (List Instr) → ℕ → List Instr
at ls q = unwrap_or (slice_get ls q) []

put_here : (ls : List (List Instr)) (q : ℕ) (is : List Instr) → at (put ls q is) q ≡ is
unfolding put
put_here [] zero is = refl
put_here [] (suc q) is = put_here [] q is
put_here (l ∷ ls) zero is = refl
put_here (l ∷ ls) (suc q) is = put_here ls q is

put_other : (ls : List (List Instr)) (p : ℕ) (is : List Instr) (q : ℕ) → q ≢ p → at (put ls p is) q ≡ at ls q
unfolding put
put_other [] zero is zero ne = absurd (ne refl)
put_other [] zero is (suc q) ne = refl
put_other [] (suc p) is zero ne = refl
put_other [] (suc p) is (suc q) ne = put_other [] p is q (λ e. ne (ap suc e))
put_other (l ∷ ls) zero is zero ne = absurd (ne refl)
put_other (l ∷ ls) zero is (suc q) ne = refl
put_other (l ∷ ls) (suc p) is zero ne = refl
put_other (l ∷ ls) (suc p) is (suc q) ne = put_other ls p is q (λ e. ne (ap suc e))

adds : (code : Code) (t : Table) (m place : ℕ) (with : Instr) → m < mutants_of t → has_place (places_by t m) place ≡ false
    → length (places_by t m) < MAX_REPLACEMENTS → (next : Table) × Adds code t next m place with
adds code t m place with defined free few =
    let n = numbered (instr_at code place) (replacements_at t place) with in (
      record { chosen = slice_set t.chosen m (chosen_by t m ++ (place, n.0) ∷ []); mentioned = put t.mentioned place n.1 },
      record {
        defined = defined;
        free = free;
        few = few;
        number = n.0;
        numbered = subst (IsNumbered (instr_at code place) (replacements_at t place) with n.0) (sym (put_here t.mentioned place n.1)) n.2;
        chosen = refl;
        others = put_other t.mentioned place n.1;
      },
    )

-- ---- the list

abbrev no_choices : ℕ → List (List (ℕ × ℕ))
no_choices n = replicate n []

nothing_at : (n m : ℕ) → unwrap_or (slice_get (no_choices n) m) [] ≡ []
nothing_at zero m = refl
nothing_at (suc n) zero = refl
nothing_at (suc n) (suc m) = nothing_at n m

empty_table : ℕ → Table
empty_table n = record { chosen = no_choices n; mentioned = [] }

is_empty : (n : ℕ) → IsEmptyTable n (empty_table n)
unfolding empty_table
is_empty n = record { mutants_are = length-replicate n []; nothing_chosen = nothing_at n; nothing_mentioned = λ q. refl }

-- the mutants have the places of these replacements
abbrev HasPlaces : Table → List Made → Type 0
HasPlaces t done = (m : ℕ) → places_by t m ≡ places_of done m

places_next : (code : Code) (done : List Made) (made : Made) (old new : Table) → Adds code old new made.mutant made.place.0 made.with
    → HasPlaces old done → HasPlaces new (done ++ made ∷ [])
places_next code done made old new a before m =
    ⊎_elim
    (λ (e : m ≡ made.mutant). subst (λ k. places_by new k ≡ places_of (done ++ made ∷ []) k) (sym e)
    (places-adds code old new made.mutant made.place.0 made.with a ∙ ap (λ (ps : List ℕ). ps ++ made.place.0 ∷ []) (before made.mutant)
    ∙ sym (places-here done made made.mutant refl)))
    (λ ne. ap (λ (cs : List (ℕ × ℕ)). places_in cs) (chosen-adds code old new made.mutant made.place.0 made.with a m ne) ∙ before m
    ∙ sym (places-other done made m (λ e. ne (sym e))))
    (cases_eq m made.mutant)

list_from : (code : Code) (done : List Made) (t : Table) (rows : List MutantRow) (all : List Made) → AreInOrder done all
    → last_mutant (done ++ all) < mutants_of t → HasPlaces t done → (last : Table) × (ends : List MutantRow) × ListFrom code t rows all last ends
list_from code done t rows [] order room places = (t, rows, (refl, refl))
list_from code done t rows (made ∷ more) order room places =
    let free : has_place (places_by t made.mutant) made.place.0 ≡ false = rw (places made.mutant) order.0.free in
    let few : length (places_by t made.mutant) < MAX_REPLACEMENTS = rw (places made.mutant) order.0.few in
    let defined : made.mutant < mutants_of t = omega (arith, room, next-within done more made order) in
    let a = adds code t made.mutant made.place.0 made.with defined free few in
    let count = mutants-adds code t a.0 made.mutant made.place.0 made.with a.1 in
    let same = ap last_mutant (append_assoc done (made ∷ []) more) in
    let later : last_mutant ((done ++ made ∷ []) ++ more) < mutants_of a.0 = omega (arith, room, count, same) in
    let rest =
    list_from code (done ++ made ∷ []) a.0 (rows ++ row_of a.0 made ∷ []) more order.1 later (places_next code done made t a.0 a.1 places) in
    (rest.0, rest.1, (a.0, a.1, rest.2))

pub list_with : (code : Code) (all : List Made) → AreInOrder [] all → (list : MutantList) × IsListOf code all list
unfolding empty_table
list_with code all order =
    let start = empty_table (last_mutant all + 1) in
    let empty = is_empty (last_mutant all + 1) in
    let places : HasPlaces start [] = λ m. ap (λ (cs : List (ℕ × ℕ)). places_in cs) (empty.nothing_chosen m) in
    let made = list_from code [] start [] all order (omega (arith, empty.mutants_are)) places in
    (record { variants = made.0; rows = made.1 }, record { start = start; empty = empty; added = made.2 })
