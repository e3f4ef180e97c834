-- What the records of made mutants ask for.
use Rattle.std.specs.Prelude.{◌≡◌, ◌≤◌, List, ◌∷◌, length, map, decimal, Some, Result}
use Rattle.am_base.specs.declared.limits.TheConstants.{MAX_LISTED_MUTANTS}
use Rattle.code_form.specs.Places.{function_at, instr_at}
use Rattle.code_form.specs.declared.code.Code.{Code}
use Rattle.code_form.specs.declared.sign.PortSign.{PortSign}
use Rattle.function_names.specs.Names.{function_named}
use Rattle.ir_tree.specs.declared.item.Item.{Item}
use Rattle.ir_text.specs.Lines.{instruction_text}
use Rattle.ir_text.specs.Texts.{AreBytes}
use Rattle.ir_tokens.specs.Bytes.{Text}
use Rattle.mutant_records.specs.Lists.{place_named, ListGives}
use Rattle.mutant_records.specs.declared.error.MutantError.{MutantError}
use Rattle.mutant_records.specs.declared.list.Made.{Made as Asked}
use Rattle.mutant_records.specs.Tables.{Answers}
use Rattle.mutant_records.specs.declared.list.MutantList.{MutantList}
use Rattle.mutant_records.specs.declared.list.MutantRow.{MutantRow}
use Rattle.mutant_records.specs.declared.list.Replacement.TheVariants.{Fits}
use Rattle.mutant_list.specs.Texts.{Reads}
use Rattle.list_records.specs.Records.{Fields}
use Rattle.command_files.specs.Modules.{IsAccepted}
use Rattle.command_files.specs.declared.module.Loaded.{Loaded}
use Rattle.mutant_maker.specs.Lists.{Made, made, header, record_of}

-- the record of a made mutant names a function of the code and an instruction of it, and its text is an instruction that can stand there
pub record IsAsked (items : List Item) (signs : List PortSign) (code : Code) (made : Made) (asked : Asked) : Type 0 where
  pub named : function_named code made.function ≡ Some asked.function
  pub placed : place_named (function_at code asked.function) (decimal made.instruction) ≡ Some asked.place.0
  pub reads : Reads items signs asked.place.0 (instruction_text made.replacement) (Fits asked.with)

-- what stands in a place of the code isn't what is asked for
abbrev pub IsOther : Code → Asked → Type 0
IsOther code asked = asked.with ≡ instr_at code asked.place.0 → ⊥

-- the two don't ask for the same instruction in one place
abbrev pub IsDifferent : Asked → Asked → Type 0
IsDifferent q r = q.place.0 ≡ r.place.0 → q.with ≡ r.with → ⊥

-- the records of the list of made mutants, with its header
abbrev pub records : List Made → List Fields
records mades = header ∷ map record_of mades

-- a text is accepted as this module, with its code, and the made mutants are no more than a list may have
pub record IsListable (signs : List PortSign) (text : Text) (m : Loaded) : Type 0 where
  pub bytes : AreBytes text
  pub accepted : IsAccepted signs text m
  pub few : length (made m.module m.code) ≤ MAX_LISTED_MUTANTS

-- what the records of the made mutants give, read as a list of mutants for the code of the module
abbrev pub MadeGive : List PortSign → Loaded → Result (List Asked) MutantError → Type 0
MadeGive signs m result = ListGives m.code (Reads m.module.items signs) (records (made m.module m.code)) result

-- what reading these records as a list of mutants answers
abbrev pub MadeAnswer : List PortSign → Loaded → Result MutantList MutantError → Type 0
MadeAnswer signs m result = Answers m.code (Reads m.module.items signs) (records (made m.module m.code)) result

-- the mutant of the row has another instruction than the original
abbrev pub HasVariant : MutantRow → Type 0
HasVariant row = row.variant ≡ 0 → ⊥
