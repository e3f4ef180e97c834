use Rattle.std.proofs.Common.{◌≡◌}
use Rattle.std.specs.List.{find}
use Rattle.std.specs.Str.{bytes_eq}
use Rattle.std.specs.Vec.Iter.{into_iter_items}
use Rattle.accmut_app.proofs.picking.first_named.Given as goal

-- the first of the name is none of those before
abbrev pub invariant-loop-picker : goal.invariant-loop-picker
invariant-loop-picker g l =
    (goal.iterator-loop-picker g).can_next l.picker-iterator ×
    (goal.iterator-loop-picker g).is_finite l.picker-iterator ×
    (find (λ q. bytes_eq ((goal.Picker-dyn g (q.vtable, q.value)).named q.value) l.name) (into_iter_items l.picker-iterator)
    ≡ find (λ q. bytes_eq ((goal.Picker-dyn g (q.vtable, q.value)).named q.value) l.name) l.fn.pickers.items)
