-- The list of the instructions of a module.
use Rattle.std.specs.Prelude.{◌≡◌, List, ◌++◌, flat_map, map}
use Rattle.csv.specs.Writing.{row_text}
use Rattle.code_form.specs.declared.sign.PortSign.{PortSign}
use Rattle.ir_tokens.specs.Bytes.{Text}
use Rattle.ir_tree.specs.declared.item.Item.{Item}
use Rattle.instruction_list.specs.Lines.{lines_of}
use Rattle.instruction_list.specs.declared.line.Line.{Line}
use Rattle.mutant_maker.specs.Lists.{header, list_writer}
use Rattle.mutant_maker.specs.Walks.{fields_of}
use Rattle.mutant_maker.specs.declared.rows.Row.{Row}
use Rattle.command_plan.specs.declared.status.Input.TheVariants as input
use Rattle.command_plan.specs.Plan.{no_counts, Plan, Read, Write}
use Rattle.command_files.specs.declared.module.Loaded.{Loaded}
use Rattle.command_files.specs.Modules as module_file

-- an instruction in its own place
abbrev pub row_of : Line → Row
row_of line = record { function = line.function; instruction = line.number; replacement = line.text }

-- the list in which each instruction of each function stands in its own place, in text order
abbrev pub numbered_text : List Item → Text
numbered_text items =
    row_text list_writer header ++ flat_map (λ row. row_text list_writer (fields_of row)) (map row_of (lines_of items))

-- `number`: the module, and this list of it
abbrev pub number_plan : List PortSign → Text → Plan
number_plan signs name =
    Read name input.Module (module_file.IsRefused signs) Loaded (module_file.IsAccepted signs)
    (λ m. Write (λ text. text ≡ numbered_text m.module.items) (λ counts. counts ≡ no_counts))
