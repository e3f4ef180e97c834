-- Commands that are alike but for the order that they want.
use Rattle.std.specs.Prelude.{None}
use Rattle.command_words.specs.Words.{Text}
use Rattle.command_words.specs.declared.command.Command.{Command}
use Rattle.command_words.specs.declared.command.Command.TheVariants.{Run, Check, Make, Alone, Groups, Reduce, Load}

-- the command without the name of an order
abbrev pub without_order : Command Text → Command Text
without_order (Check name) = Check name
without_order (Make name) = Make name
without_order (Run files budget order splits) = Run files budget None splits
without_order (Alone files mutant test budget) = Alone files mutant test budget
without_order (Groups files test step budget order) = Groups files test step budget None
without_order (Reduce files budget order) = Reduce files budget None
without_order (Load number) = Load number
