use Rattle.std.proofs.Common.{Bool, List, ap, sym, ◌∙◌}
use Rattle.ir_types.specs.Graph.{next_of, some_left}
use Rattle.ir_types.proofs.Grounds.{one-grounded}
use Rattle.ir_types.proofs.cycles.ground.Goals as goal

pub returns-then-not-some_left : goal.returns-then-not-some_left
returns-then-not-some_left c =
    let es = c.args.edges.now in
    one-grounded es c.args.grounded.now c.set_flag.new.flags c.args.d c.requires c.set_flag.ensures
    (ap (λ (l : List Bool). some_left l (next_of es c.args.d)) (sym c.as_slice.ensures)
    ∙ ap (some_left c.as_slice.result.now) (sym c.named_by.ensures) ∙ sym c.some_left.ensures ∙ c.if-not-some_left.true)
