use Rattle.std.proofs.Common.{◌∙◌}
use Rattle.std.specs.Option.{option_copied}
use Rattle.ir_rules.specs.Types.{expanded}
use Rattle.ir_op_codes.proofs.Layouts.{small}
use Rattle.ir_op_codes.proofs.Places.{room-is}
use Rattle.ir_op_codes.proofs.ops.room_of.Goals as goal

pub returns-clause-size : goal.returns-clause-size
returns-clause-size c =
    let defs = c.args.types.now.defs in
    c.size_and_align.ensures.size
    ∙ (room-is c.number.new.self.types c.table.result.now c.in_ok-number.number (expanded defs c.args.t.now) (option_copied c.extent.result) c.table.ensures
    c.in_ok-number.ensures.number (small defs c.args.t.now c.requires) c.extent.ensures).0

pub returns-clause-align : goal.returns-clause-align
returns-clause-align c =
    let defs = c.args.types.now.defs in
    c.size_and_align.ensures.align
    ∙ (room-is c.number.new.self.types c.table.result.now c.in_ok-number.number (expanded defs c.args.t.now) (option_copied c.extent.result) c.table.ensures
    c.in_ok-number.ensures.number (small defs c.args.t.now c.requires) c.extent.ensures).1
