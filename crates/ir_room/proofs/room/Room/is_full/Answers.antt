use Rattle.std.proofs.Common.{◌≡◌, ◌/◌, ◌%◌, ◌*◌, ◌+◌, nat_lt, get_or, ap, ◌∙◌, arith}
use Rattle.std.proofs.lemmas.Nat.{mod_below}
use Rattle.ir_rules.specs.Memory.{constants_end, variables_of, end_from}
use Rattle.ir_room.specs.Ends.{limited}
use Rattle.ir_room.proofs.Places.{twice, full}
use Rattle.ir_room.proofs.room.Room.is_full.Goals as goal

pub returns : goal.returns
returns c defs items is =
    let room = c.args.self.now in
    let end = constants_end defs items in
    let start : c.limited-start.result ≡ limited end = c.limited-start.ensures.value ∙ ap limited is.constants ∙ twice end in
    let last : c.limited-end.result ≡ limited (end_from defs (limited end % 8) (variables_of items)) =
    c.limited-end.ensures.value
    ∙ ap (λ s. limited (get_or room.variables (s % 8) 0)) start
    ∙ ap limited (is.variables (limited end % 8) (mod_below (limited end) 8 (omega arith)))
    ∙ twice (end_from defs (limited end % 8) (variables_of items)) in
    (λ i. nat_lt (c.from.ensures i) (start i / 8 * 8 + last i)) ∙ full defs (variables_of items) end
