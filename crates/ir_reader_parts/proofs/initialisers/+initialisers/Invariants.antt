use Rattle.std.proofs.Common.{◌≡◌, ◌+◌, ◌*◌, length}
use Rattle.ir_grammar.specs.Rule.{onto, further}
use Rattle.ir_grammar.specs.Starts.{sees_type}
use Rattle.ir_grammar.specs.Operands.{element, init_in}
use Rattle.ir_reader_parts.proofs.initialisers.+initialisers.Given as goal

abbrev pub decreases-element : goal.decreases-element
decreases-element l = 6 * l.depth + 1

abbrev pub decreases-further : goal.decreases-further
decreases-further l = 6 * l.depth + 2

abbrev pub decreases-listed : goal.decreases-listed
decreases-listed l = 6 * l.depth + 3

abbrev pub decreases-array : goal.decreases-array
decreases-array l = 6 * l.depth + 4

abbrev pub decreases-structure : goal.decreases-structure
decreases-structure l = 6 * l.depth + 4

abbrev pub decreases-nested : goal.decreases-nested
decreases-nested l = 6 * l.depth + 5

abbrev pub decreases-init_in : goal.decreases-init_in
decreases-init_in l = 6 * l.depth

abbrev pub invariant-further-turns : goal.invariant-further-turns
invariant-further-turns l = onto l.found ((further sees_type (element (init_in l.depth))).parse l.cursor) ≡ onto l.initial.found
    ((further sees_type (element (init_in l.depth))).parse l.initial.cursor)

abbrev pub decreases-further-turns : goal.decreases-further-turns
decreases-further-turns l = length l.cursor
