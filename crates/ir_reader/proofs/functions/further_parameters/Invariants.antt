use Rattle.std.proofs.Common.{◌≡◌, length}
use Rattle.ir_grammar.specs.Rule.{onto, further}
use Rattle.ir_grammar.specs.Starts.{sees_type}
use Rattle.ir_grammar.specs.Items.{parameter}
use Rattle.ir_reader.proofs.functions.further_parameters.Given as goal

abbrev pub invariant-turns : goal.invariant-turns
invariant-turns l = onto l.found ((further sees_type parameter).parse l.cursor) ≡ onto l.initial.found ((further sees_type parameter).parse l.initial.cursor)

abbrev pub decreases-turns : goal.decreases-turns
decreases-turns l = length l.cursor
