-- The list of mutants of a file.
use Rattle.std.specs.Prelude.{◌≡◌, List, Some, Ok, Err}
use Rattle.code_form.specs.declared.sign.PortSign.{PortSign}
use Rattle.ir_tokens.specs.Bytes.{Text}
use Rattle.list_records.specs.Records.{rows_of}
use Rattle.mutant_records.specs.Lists.{ListGives}
use Rattle.mutant_records.specs.declared.list.Made.{Made}
use Rattle.mutant_records.specs.declared.error.MutantError.{MutantError}
use Rattle.mutant_list.specs.Texts.{Reads}
use Rattle.refused_lines.specs.Refusals.{mutants_line}
use Rattle.command_files.specs.declared.module.Loaded.{Loaded}

-- the text is a list of these replacements in the module, record by record
abbrev pub AreMutants : List PortSign → Loaded → Text → List Made → Type 0
AreMutants signs m text all = ListGives m.code (Reads m.module.items signs) (rows_of text) (Ok all)

-- the line that refuses a text as a list of mutants of the module
abbrev pub AreRefused : List PortSign → Loaded → Text → Text → Type 0
AreRefused signs m text line =
    (e : MutantError) × ListGives m.code (Reads m.module.items signs) (rows_of text) (Err e) × (mutants_line e ≡ Some line)
