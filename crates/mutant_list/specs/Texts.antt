-- What a text is as a replacement in a place of the code of a module.
use Rattle.std.specs.Prelude.{◌≡◌, List, Option, Some, None}
use Rattle.code_form.specs.declared.instr.Instr.{Instr}
use Rattle.code_form.specs.declared.sign.PortSign.{PortSign}
use Rattle.ir_tree.specs.declared.item.Item.{Item}
use Rattle.ir_reader.specs.Answers.{IsWholeInstruction}
use Rattle.ir_rules.specs.Replacements.{replacement_by}
use Rattle.mutant_records.specs.Lists.{Reading}
use Rattle.mutant_records.specs.declared.list.Replacement.{Replacement}
use Rattle.mutant_records.specs.declared.list.Replacement.TheVariants.{NoInstruction, Misfit, Fits}

-- what an instruction is, by its code in the place
abbrev pub judged : Option Instr → Replacement
judged None = Misfit
judged (Some with) = Fits with

-- the text is one whole instruction without a written result, which can stand in the place or not; or it isn't one
abbrev pub Reads : List Item → List PortSign → Reading
Reads items signs place text NoInstruction = (x : Item) → IsWholeInstruction text x → ⊥
Reads items signs place text Misfit = (x : Item) × IsWholeInstruction text x × (replacement_by items signs place x ≡ None)
Reads items signs place text (Fits with) = (x : Item) × IsWholeInstruction text x × (replacement_by items signs place x ≡ Some with)
