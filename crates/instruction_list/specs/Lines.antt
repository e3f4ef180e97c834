-- The instructions of a module with their numbers.
use Rattle.std.specs.Prelude.{ℕ, ◌+◌, List, [], ◌∷◌}
use Rattle.ir_tokens.specs.Bytes.{Text}
use Rattle.ir_tree.specs.declared.item.Item.{Item}
use Rattle.ir_tree.specs.declared.item.Item.TheVariants as item
use Rattle.ir_tree.specs.declared.op.Op.{Op}
use Rattle.ir_rules.specs.Entities.{name_bytes}
use Rattle.ir_text.specs.Lines.{instruction_text}
use Rattle.instruction_list.specs.declared.line.Line.{Line}

abbrev pub line_of : Text → ℕ → Op → Line
line_of f n o = record { function = f; number = n; text = instruction_text o }

-- those of some items: in the function with this name so many instructions stand before them
abbrev pub lines_from : Text → ℕ → List Item → List Line
lines_from f n [] = []
lines_from f n (item.Head g t ps ∷ more) = lines_from (name_bytes g) 0 more
lines_from f n (item.Instr r o ∷ more) = line_of f (n + 1) o ∷ lines_from f (n + 1) more
lines_from f n (x ∷ more) = lines_from f n more

-- those of a module: each instruction of each function, in text order, numbered from 1 in its function
abbrev pub lines_of : List Item → List Line
lines_of items = lines_from [] 0 items
