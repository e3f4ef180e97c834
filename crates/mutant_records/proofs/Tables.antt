-- Replacements that go into a table one by one.
use Rattle.std.proofs.Common.{◌≡◌, ◌≢◌, ℕ, ◌+◌, ◌≤◌, ◌<◌, false, List, [], ◌∷◌, ◌++◌, length, refl, ap, subst, sym, ◌∙◌, arith, reverse, slice_get, Some, ⊎_elim}
use Rattle.std.proofs.Common.{append_assoc}
use Rattle.std.proofs.lemmas.Bool.{cases_eq}
use Rattle.std.proofs.lemmas.List.{reverse-append, reverse-reverse}
use Rattle.am_base.specs.declared.limits.TheConstants.{MAX_REPLACEMENTS}
use Rattle.code_form.specs.Fit.{FitsPlace, FitsTable}
use Rattle.code_form.specs.Variant.{Table, Adds, chosen_by, has_place, mutants_of, places_by, places_in}
use Rattle.code_form.specs.declared.code.Code.{Code}
use Rattle.code_form.specs.declared.instr.Instr.{Instr}
use Rattle.mutant_records.specs.Lists.{last_mutant, places_of}
use Rattle.mutant_records.specs.Order.{AreInOrder, Follows}
use Rattle.mutant_records.specs.Tables.{AllFit, IsEmptyTable, ListFrom, row_of}
use Rattle.mutant_records.specs.declared.list.Made.{Made}
use Rattle.mutant_records.specs.declared.list.MutantRow.{MutantRow}
use Rattle.mutant_records.proofs.Order.{next-within, places-here, places-other}

-- the first of these replacements are in the table, and the others are left
pub record TableSoFar (code : Code) (start : Table) (all : List Made) (table : Table) (rows : List MutantRow) (left : List Made) : Type 0 where
  pub done : List Made
  pub whole : done ++ reverse left ≡ all
  pub mutants : mutants_of table ≡ last_mutant all + 1
  pub places : (m : ℕ) → places_by table m ≡ places_of done m
  pub order : AreInOrder done (reverse left)
  pub fit : AllFit code (reverse left)
  pub table_fits : FitsTable code table
  pub rest : (last : Table) (ends : List MutantRow) → ListFrom code table rows (reverse left) last ends → ListFrom code start [] all last ends

last_first : (left rest : List Made) (made : Made) → left ≡ rest ++ made ∷ [] → reverse left ≡ made ∷ reverse rest
last_first left rest made e = ap reverse e ∙ reverse-append rest (made ∷ [])

-- nothing is in the table
pub table_begins : (code : Code) (start : Table) (all left : List Made) → IsEmptyTable (last_mutant all + 1) start → AllFit code all → AreInOrder [] all
    → left ≡ reverse all → TableSoFar code start all start [] left
table_begins code start all left empty fit order e =
    let same : reverse left ≡ all = ap reverse e ∙ reverse-reverse all in
    record {
      done = [];
      whole = same;
      mutants = empty.mutants_are;
      places = λ m. ap (λ (cs : List (ℕ × ℕ)). places_in cs) (empty.nothing_chosen m);
      order = subst (λ l. AreInOrder [] l) (sym same) order;
      fit = subst (λ l. AllFit code l) (sym same) fit;
      table_fits = record { each = λ at k i e. absurd (nothing at k i (subst (λ is. slice_get is k ≡ Some i) (empty.nothing_mentioned at) e)) };
      rest = λ last ends from. subst (λ l. ListFrom code start [] l last ends) same from;
    }
  where
    nothing : (at k : ℕ) (i : Instr) → slice_get {X = Instr} [] k ≡ Some i → ⊥
    nothing at k i e = cc

module _ (code : Code) (start : Table) (all : List Made) (table : Table) (rows : List MutantRow) (left rest : List Made) (made : Made)
    (s : TableSoFar code start all table rows left) (e : left ≡ rest ++ made ∷ []) where
  turned : reverse left ≡ made ∷ reverse rest
  turned = last_first left rest made e

  order : AreInOrder s.done (made ∷ reverse rest)
  order = subst (λ l. AreInOrder s.done l) turned s.order

  fit : AllFit code (made ∷ reverse rest)
  fit = subst (λ l. AllFit code l) turned s.fit

  whole : s.done ++ made ∷ reverse rest ≡ all
  whole = ap (λ (l : List Made). s.done ++ l) (sym turned) ∙ s.whole

  -- the next one
  pub next_fits : FitsPlace code made.place.0 made.with
  next_fits = fit.0

  pub next_some : 1 ≤ made.mutant
  next_some = order.0.some

  pub next_defined : made.mutant < mutants_of table
  next_defined = let last = ap last_mutant whole in omega (arith, s.mutants, last, next-within s.done (reverse rest) made order)

  pub next_free : has_place (places_by table made.mutant) made.place.0 ≡ false
  next_free = rw (s.places made.mutant) order.0.free

  pub next_few : length (places_by table made.mutant) < MAX_REPLACEMENTS
  next_few = rw (s.places made.mutant) order.0.few

  -- it's added
  module _ (next : Table) (rows2 : List MutantRow) (adds : Adds code table next made.mutant made.place.0 made.with) (is : rows2 ≡ rows ++ row_of next made ∷ [])
      (mutants : mutants_of next ≡ mutants_of table) (places : places_by next made.mutant ≡ places_by table made.mutant ++ made.place.0 ∷ [])
      (others : (n : ℕ) → n ≢ made.mutant → chosen_by next n ≡ chosen_by table n)
      (fits : FitsTable code table → FitsPlace code made.place.0 made.with → FitsTable code next) where
    places-next : (m : ℕ) → places_by next m ≡ places_of (s.done ++ made ∷ []) m
    places-next m =
        ⊎_elim
        (λ (same : m ≡ made.mutant). subst (λ k. places_by next k ≡ places_of (s.done ++ made ∷ []) k) (sym same)
        (places ∙ ap (λ (ps : List ℕ). ps ++ made.place.0 ∷ []) (s.places made.mutant) ∙ sym (places-here s.done made made.mutant refl)))
        (λ ne. ap (λ (cs : List (ℕ × ℕ)). places_in cs) (others m ne) ∙ s.places m ∙ sym (places-other s.done made m (λ same. ne (sym same))))
        (cases_eq m made.mutant)

    pub table_more : TableSoFar code start all next rows2 rest
    table_more = record {
      done = s.done ++ made ∷ [];
      whole = append_assoc s.done (made ∷ []) (reverse rest) ∙ whole;
      mutants = mutants ∙ s.mutants;
      places = places-next;
      order = order.1;
      fit = fit.1;
      table_fits = fits s.table_fits fit.0;
      rest = λ last ends from.
          s.rest last ends (subst (λ l. ListFrom code table rows l last ends) (sym turned)
          (next, adds, subst (λ r. ListFrom code next r (reverse rest) last ends) is from));
    }

-- all are added
pub table_ends : (code : Code) (start : Table) (all : List Made) (table : Table) (rows : List MutantRow) (left : List Made)
    → TableSoFar code start all table rows left → left ≡ [] → ListFrom code start [] all table rows
table_ends code start all table rows left s e = s.rest table rows (subst (λ l. ListFrom code table rows (reverse l) table rows) (sym e) (refl, refl))
