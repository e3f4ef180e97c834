use Rattle.std.proofs.Common.{◌≡◌, ◌+◌, ◌*◌, ◌∷◌, ◌++◌, map, take}
use Rattle.std.specs.List.{flat_map}
use Rattle.ir_rules.specs.Parts.{init_types}
use Rattle.ir_type_rules.proofs.Inits.{lists, all_lists}
use Rattle.ir_type_rules.proofs.init_parts.+types.Given as goal

abbrev pub invariant-add_elements_types-each : goal.invariant-add_elements_types-each
invariant-add_elements_types-each l = map (λ t. t.now) l.list ≡ map (λ t. t.now) l.initial.list ++ flat_map (λ e. e.0 ∷ init_types e.1) (take l.element-index l.elements)

abbrev pub decreases-add_elements_types : goal.decreases-add_elements_types
decreases-add_elements_types l = 2 * all_lists l.elements.now + 1

abbrev pub decreases-add_init_types : goal.decreases-add_init_types
decreases-add_init_types l = 2 * lists l.init.now
