-- The records that are made so far, and where in the module the next ones belong.
use Rattle.std.specs.Prelude.{◌≡◌, ℕ, ◌+◌, false, nat_lt, if◌then◌else◌, List, [], ◌∷◌, ◌++◌, length, map, fold, decimal, Option, Some, None, slice_get}
use Rattle.csv.specs.Writing.{writer_setup, fields_written, has_written, text_written}
use Rattle.csv.specs.declared.writer.Writer.{Writer}
use Rattle.std.specs.Global.{Vec}
use Rattle.am_base.specs.declared.limits.TheConstants.{MAX_LISTED_MUTANTS}
use Rattle.code_form.specs.declared.instr.Instr.{Instr}
use Rattle.ir_tokens.specs.Bytes.{Text}
use Rattle.ir_tree.specs.declared.item.Item.{Item}
use Rattle.ir_tree.specs.declared.item.Item.TheVariants as item
use Rattle.ir_tree.specs.declared.op.Op.{Op}
use Rattle.ir_rules.specs.Types.{Kinds, type_defs, kind_of}
use Rattle.ir_rules.specs.Entities.{name_bytes}
use Rattle.ir_text.specs.Lines.{instruction_text}
use Rattle.mutant_maker.specs.declared.rows.Row.{Row}
use Rattle.mutant_maker.specs.declared.rows.Walk.{Walk}
use Rattle.mutant_maker.specs.Makers.{replacements_of}
use Rattle.mutant_maker.specs.Lists.{Made, made_in, made_from, list_writer}

-- ---- records

abbrev pub row_of : Made → Row
row_of made = record { function = made.function; instruction = made.instruction; replacement = instruction_text made.replacement }

abbrev pub fields_of : Row → List Text
fields_of row = row.function ∷ decimal row.instruction ∷ row.replacement ∷ []

-- one record more; none behind one that is already too many
abbrev pub with_made : List Row → Made → List Row
with_made rows made = if nat_lt MAX_LISTED_MUTANTS (length rows) then rows else rows ++ row_of made ∷ []

abbrev pub with_all : List Row → List Made → List Row
with_all rows mades = fold with_made rows mades

-- the made mutants of a module with these items and instructions
unfoldable pub made_in_items : List Item → List Instr → List Made
made_in_items items instrs = made_from (kind_of (type_defs items)) instrs [] 0 0 items

-- ---- a walk over the items

-- with these replacements of the instruction that the walk is at
unfoldable pub with_ops : Walk → List Op → Walk
with_ops w os = record w { rows = with_all w.rows (map (made_in w.function w.instruction) os) }

abbrev pub replacements_at : Kinds → Option Instr → Op → List Op
replacements_at kind None o = []
replacements_at kind (Some code) o = replacements_of kind code o

-- behind one item more
abbrev pub with_item : Kinds → List Instr → Walk → Item → Walk
with_item kind instrs w (item.Head g t ps) = record w { function = name_bytes g; instruction = 0 }
with_item kind instrs w (item.Instr r o) =
    let at = record w { instruction = w.instruction + 1 } in
    record (with_ops at (replacements_at kind (slice_get instrs w.place) o)) { place = w.place + 1 }
with_item kind instrs w _ = w

-- ---- a writer

abbrev pub contents : Vec ℕ → Option Text
contents bytes = Some bytes.items

-- the writer is behind the records with this text
pub record Wrote (w : Writer (Vec ℕ)) (text : Text) : Type 0 where
  pub setup : writer_setup w ≡ list_writer
  pub fields : fields_written w ≡ 0
  pub wrote : has_written w ≡ false
  pub text_is : text_written contents w ≡ Some text
