-- Mutants that differ from their originals get no number 0.
use Rattle.std.proofs.Common.{◌≡◌, ℕ, List, [], ◌∷◌, ◌++◌, sym, ◌∙◌, subst, arith}
use Rattle.code_form.specs.Variant.{Table, Adds, IsNumbered, same, known, fresh}
use Rattle.code_form.proofs.Added.{variant-adds}
use Rattle.code_form.specs.declared.code.Code.{Code}
use Rattle.code_form.specs.declared.instr.Instr.{Instr}
use Rattle.mutant_records.specs.Tables.{IsListOf, ListFrom, row_of}
use Rattle.mutant_records.specs.declared.list.Made.{Made as Asked}
use Rattle.mutant_records.specs.declared.list.MutantList.{MutantList}
use Rattle.mutant_records.specs.declared.list.MutantRow.{MutantRow}
use Rattle.ir_sound.proofs.Lists.{Each, each-append}
use Rattle.mutant_maker_laws.specs.Made.{IsOther, HasVariant}

numbered-some : (original with : Instr) (before after : List Instr) (number : ℕ) → (with ≡ original → ⊥) → IsNumbered original before with number after
    → number ≡ 0 → ⊥
numbered-some original with before _ _ h (same e) z = h e
numbered-some original with before _ _ h (known k n e) z = absurd (omega arith)
numbered-some original with before _ _ h (fresh n e) z = absurd (omega arith)

module _ (code : Code) where
  row-some : (old new : Table) (r : Asked) → Adds code old new r.mutant r.place.0 r.with → IsOther code r → HasVariant (row_of new r)
  row-some old new r a h z =
      let value = variant-adds code old new r.mutant r.place.0 r.with a in
      numbered-some _ r.with _ _ a.number h a.numbered (sym value ∙ z)

  rows-some : (table : Table) (rows : List MutantRow) (rs : List Asked) (last : Table) (all : List MutantRow) → Each (IsOther code) rs
      → Each HasVariant rows → ListFrom code table rows rs last all → Each HasVariant all
  rows-some table rows [] last all h g f = subst (Each HasVariant) (sym f.1) g
  rows-some table rows (r ∷ rs) last all (h, hs) g (next, a, more) =
      rows-some next (rows ++ row_of next r ∷ []) rs last all hs (each-append HasVariant rows _ g (row-some table next r a h, tt)) more

  pub list-some : (rs : List Asked) (list : MutantList) → Each (IsOther code) rs → IsListOf code rs list → Each HasVariant list.rows
  list-some rs list h l = rows-some l.start [] rs list.variants list.rows h tt l.added
