-- A list with its texts, from what was read of its file.
use Rattle.std.proofs.Common.{◌≡◌, List, Result, Ok, Err, refl, sym, subst}
use Rattle.std.specs.Prelude.{IfOk}
use Rattle.am_base.specs.Files.{Files}
use Rattle.code_form.specs.declared.sign.PortSign.{PortSign}
use Rattle.ir_tokens.specs.Bytes.{Text}
use Rattle.list_records.specs.Records.{rows_of}
use Rattle.list_texts.specs.Texts.{replacement_texts}
use Rattle.mutant_records.specs.Tables.{IsListOf}
use Rattle.mutant_records.specs.declared.list.Made.{Made}
use Rattle.mutant_records.specs.declared.list.MutantList.{MutantList}
use Rattle.command_plan.specs.Plan.{Reads}
use Rattle.command_plan.specs.declared.stop.Stop.{Stop}
use Rattle.command_files.specs.FullLists.{FullList, IsFullList}
use Rattle.command_files.specs.Mutants.{AreMutants}
use Rattle.command_files.specs.declared.full.Listing.{Listing}
use Rattle.command_files.specs.declared.module.Loaded.{Loaded}

-- what holds of the text that was read holds of the file
read_as : (files : Files) (name text : Text) (P : Text → Type 0) → Reads files name (λ file. text ≡ file) → P text → Reads files name P
read_as files name text P h p = record { held = h.held; short = h.short; read = λ file holds. subst P (h.read file holds) p }

module _ (files : Files) (name text : Text) (signs : List PortSign) (m : Loaded) (list : MutantList) (all : List Made)
    (reads : Reads files name (λ file. text ≡ file)) (are : AreMutants signs m text all) (is_list : IsListOf m.code all list) where
  pub full_found : (r : Result Listing Stop) → IfOk r (λ x. x.list ≡ list) → IfOk r (λ x. x.texts ≡ replacement_texts (rows_of text))
      → IfOk r (λ x. (full : FullList) × Reads files name (λ file. IsFullList signs m file full) × IsListOf m.code full.all x.list × (x.texts ≡ full.texts))
  full_found (Ok x) same texts =
      let full : FullList = record { all = all; texts = replacement_texts (rows_of text) } in
      (full, read_as files name text (λ file. IsFullList signs m file full) reads (are, refl), subst (IsListOf m.code all) (sym same) is_list, texts)
  full_found (Err e) same texts = tt
