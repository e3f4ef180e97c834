use Rattle.std.proofs.Common.{◌≡◌, ◌+◌, ◌*◌, map, take}
use Rattle.ir_text.specs.Parts.{init_element, with_commas}
use Rattle.ir_text.specs.Printing.{with_tokens}
use Rattle.ir_text.proofs.InitSteps.{lists, all_lists}
use Rattle.ir_text.proofs.inits.+put_init.Given as goal

abbrev pub decreases-put_elements : goal.decreases-put_elements
decreases-put_elements l = 2 * all_lists l.elements.now + 1

abbrev pub decreases-put_init : goal.decreases-put_init
decreases-put_init l = 2 * lists l.init.now

abbrev pub invariant-put_elements-each : goal.invariant-put_elements-each
invariant-put_elements-each l = l.sheet ≡ with_tokens l.initial.sheet (with_commas (map init_element (take l.i l.elements)))
