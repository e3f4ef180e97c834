-- A list of mutants with what its records put in place.
use Rattle.std.specs.Prelude.{◌≡◌, List}
use Rattle.code_form.specs.declared.sign.PortSign.{PortSign}
use Rattle.ir_tokens.specs.Bytes.{Text}
use Rattle.list_records.specs.Records.{rows_of}
use Rattle.list_texts.specs.Texts.{replacement_texts}
use Rattle.mutant_records.specs.declared.list.Made.{Made}
use Rattle.command_files.specs.declared.module.Loaded.{Loaded}
use Rattle.command_files.specs.Mutants.{AreMutants}

-- the replacements of a list, record by record, and their texts
pub record FullList : Type 0 where
  pub all : List Made
  pub texts : List Text

-- the text is a list of these replacements in the module, and its records have these texts
abbrev pub IsFullList : List PortSign → Loaded → Text → FullList → Type 0
IsFullList signs m text full = AreMutants signs m text full.all × (full.texts ≡ replacement_texts (rows_of text))
