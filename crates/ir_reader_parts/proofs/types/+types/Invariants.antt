use Rattle.std.proofs.Common.{◌≡◌, ◌+◌, ◌*◌, length}
use Rattle.ir_grammar.specs.Rule.{onto, further}
use Rattle.ir_grammar.specs.Starts.{sees_type}
use Rattle.ir_grammar.specs.Types.{type_in}
use Rattle.ir_reader_parts.proofs.types.+types.Given as goal

abbrev pub decreases-array : goal.decreases-array
decreases-array l = 5 * l.depth + 1

abbrev pub decreases-further : goal.decreases-further
decreases-further l = 5 * l.depth + 1

abbrev pub decreases-listed : goal.decreases-listed
decreases-listed l = 5 * l.depth + 2

abbrev pub decreases-structure : goal.decreases-structure
decreases-structure l = 5 * l.depth + 3

abbrev pub decreases-type_in : goal.decreases-type_in
decreases-type_in l = 5 * l.depth

abbrev pub decreases-nested : goal.decreases-nested
decreases-nested l = 5 * l.depth + 4

abbrev pub invariant-further-turns : goal.invariant-further-turns
invariant-further-turns l = onto l.found ((further sees_type (type_in l.depth)).parse l.cursor) ≡ onto l.initial.found
    ((further sees_type (type_in l.depth)).parse l.initial.cursor)

abbrev pub decreases-further-turns : goal.decreases-further-turns
decreases-further-turns l = length l.cursor
