use Rattle.std.proofs.Common.{◌≡◌, ◌+◌, ◌*◌, ◌++◌, map, take}
use Rattle.std.specs.List.{flat_map}
use Rattle.ir_rules.specs.Parts.{init_operands, Typed}
use Rattle.ir_type_rules.proofs.Inits.{lists, all_lists}
use Rattle.ir_type_rules.proofs.init_parts.+operands.Given as goal

abbrev pub invariant-add_elements_operands-each : goal.invariant-add_elements_operands-each
invariant-add_elements_operands-each l = map {B = Typed} (λ v. (v.0.now, v.1.now)) l.list ≡ map {B = Typed} (λ v. (v.0.now, v.1.now)) l.initial.list ++ flat_map (λ e. init_operands e.0 e.1) (take l.element-index l.elements)

abbrev pub decreases-add_elements_operands : goal.decreases-add_elements_operands
decreases-add_elements_operands l = 2 * all_lists l.elements.now + 1

abbrev pub decreases-add_init_operands : goal.decreases-add_init_operands
decreases-add_init_operands l = 2 * lists l.init.now
