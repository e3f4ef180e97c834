use Rattle.std.proofs.Common.{◌≡◌, ◌<◌, ◌≤◌, Some, arith}
use Rattle.std.specs.Option.{option_copied}
use Rattle.type_layout.specs.Types.{align_of}
use Rattle.ir_rules.specs.Types.{expanded}
use Rattle.ir_sound.proofs.Layouts.{align-some}
use Rattle.ir_memory.proofs.Extents.{whole, extent-found, align-few, size-small}
use Rattle.ir_memory.proofs.rooms.room_of.Goals as goal

pub returns-clause-size : goal.returns-clause-size
returns-clause-size c =
    let defs = c.args.types.now.defs in
    c.size_and_align.ensures.size (whole (expanded defs c.args.ty.now))
    (extent-found defs c.args.ty.now c.number.new.self.types c.table.result.now c.in_ok-number.number (option_copied c.extent.result) c.requires c.table.ensures
    c.in_ok-number.ensures.number c.extent.ensures)

pub returns-clause-align : goal.returns-clause-align
returns-clause-align c =
    let defs = c.args.types.now.defs in
    c.size_and_align.ensures.align (whole (expanded defs c.args.ty.now))
    (extent-found defs c.args.ty.now c.number.new.self.types c.table.result.now c.in_ok-number.number (option_copied c.extent.result) c.requires c.table.ensures
    c.in_ok-number.ensures.number c.extent.ensures)

pub returns-clause-small : goal.returns-clause-small
returns-clause-small c =
    let defs = c.args.types.now.defs in
    let size = c.size_and_align.ensures.size (whole (expanded defs c.args.ty.now))
    (extent-found defs c.args.ty.now c.number.new.self.types c.table.result.now c.in_ok-number.number (option_copied c.extent.result) c.requires c.table.ensures
    c.in_ok-number.ensures.number c.extent.ensures) in
    omega (arith, size-small defs c.args.ty.now c.requires)

pub returns-clause-some : goal.returns-clause-some
returns-clause-some c =
    let defs = c.args.types.now.defs in
    let align = c.size_and_align.ensures.align (whole (expanded defs c.args.ty.now))
    (extent-found defs c.args.ty.now c.number.new.self.types c.table.result.now c.in_ok-number.number (option_copied c.extent.result) c.requires c.table.ensures
    c.in_ok-number.ensures.number c.extent.ensures) in
    omega (arith, align-some (expanded defs c.args.ty.now))

pub returns-clause-few : goal.returns-clause-few
returns-clause-few c =
    let defs = c.args.types.now.defs in
    let align = c.size_and_align.ensures.align (whole (expanded defs c.args.ty.now))
    (extent-found defs c.args.ty.now c.number.new.self.types c.table.result.now c.in_ok-number.number (option_copied c.extent.result) c.requires c.table.ensures
    c.in_ok-number.ensures.number c.extent.ensures) in
    omega (arith, align-few (expanded defs c.args.ty.now))
