use Rattle.std.proofs.Common.{take}
use Rattle.am_base.specs.Cause.{Rose}
use Rattle.command_plan.specs.declared.status.Input.TheVariants as input
use Rattle.command_plan.proofs.Founds.{says_fails_err}
use Rattle.command_files.specs.Modules.{IsRefused}
use Rattle.command_files.proofs.module.load_module.Goals as goal

pub returns-clause-err : goal.returns-clause-err
returns-clause-err g c =
    let name = c.args.name.now in
    says_fails_err (g.F.Shelf.files c.args.shelf.now) name (take c.in-Ok.len c.read_file.new.buffer)
    (Rose (g.F.Shelf.faults c.args.shelf.now name) (g.F.Shelf.faults c.read_file.new.shelf name)) input.Module (IsRefused c.args.signs.now) c.module_of.result
    c.in-Ok.ensures.ok c.module_of.ensures.refused
