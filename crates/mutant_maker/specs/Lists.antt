-- The made mutants of a module, and the text of their list.
use Rattle.std.specs.Prelude.{ℕ, ◌+◌, List, [], ◌∷◌, ◌++◌, map, flat_map, decimal, codes, Option, Some, None, slice_get}
use Rattle.csv.specs.Writing.{row_text, default_writer, with_delimiter}
use Rattle.csv.specs.declared.writer.WriterBuilder.{WriterBuilder}
use Rattle.code_form.specs.declared.code.Code.{Code}
use Rattle.code_form.specs.declared.instr.Instr.{Instr}
use Rattle.ir_tokens.specs.Bytes.{Text}
use Rattle.ir_tree.specs.declared.item.Item.{Item}
use Rattle.ir_tree.specs.declared.item.Item.TheVariants as item
use Rattle.ir_tree.specs.declared.item.Module.{Module}
use Rattle.ir_tree.specs.declared.op.Op.{Op}
use Rattle.ir_rules.specs.Types.{Kinds, type_defs, kind_of}
use Rattle.ir_rules.specs.Entities.{name_bytes}
use Rattle.ir_text.specs.Lines.{instruction_text}
use Rattle.mutant_maker.specs.Makers.{replacements_of}

-- ---- made mutants

-- the name of the function, the number of the instruction in it, from 1, and what stands in its place
pub record Made : Type 0 where
  pub function : Text
  pub instruction : ℕ
  pub replacement : Op

abbrev pub made_in : Text → ℕ → Op → Made
made_in f n o = record { function = f; instruction = n; replacement = o }

-- those of one instruction, by its code
abbrev pub made_at : Kinds → Text → ℕ → Option Instr → Op → List Made
made_at kind f n None o = []
made_at kind f n (Some code) o = map (made_in f n) (replacements_of kind code o)

-- those of some items: in the function with this name so many instructions stand before them, and in the module so many
abbrev pub made_from : Kinds → List Instr → Text → ℕ → ℕ → List Item → List Made
made_from kind instrs f n place [] = []
made_from kind instrs f n place (item.Head g t ps ∷ more) = made_from kind instrs (name_bytes g) 0 place more
made_from kind instrs f n place (item.Instr r o ∷ more) =
    made_at kind f (n + 1) (slice_get instrs place) o ++ made_from kind instrs f (n + 1) (place + 1) more
made_from kind instrs f n place (x ∷ more) = made_from kind instrs f n place more

-- the made mutants of a module that has this code: each instruction of each function, in text order, with each of its replacements
abbrev pub made : Module → Code → List Made
made m code = made_from (kind_of (type_defs m.items)) code.instrs [] 0 0 m.items

-- ---- their list

-- how `csv` writes with `;` between fields
abbrev pub list_writer : WriterBuilder
list_writer = with_delimiter default_writer 59

abbrev pub header : List Text
header = codes "function" ∷ codes "instruction" ∷ codes "replacement" ∷ []

-- the fields of the record of a made mutant
abbrev pub record_of : Made → List Text
record_of made = made.function ∷ decimal made.instruction ∷ instruction_text made.replacement ∷ []

-- the list file: the header, and a record for each made mutant
abbrev pub list_text : List Made → Text
list_text mades = row_text list_writer header ++ flat_map (λ made. row_text list_writer (record_of made)) mades
