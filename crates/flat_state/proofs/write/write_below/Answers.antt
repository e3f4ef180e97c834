use Rattle.std.proofs.Common.{sym, ap, ◌∙◌, ◌++◌, ◌-◌, ℕ}
use Rattle.machine_form.specs.State.{with_bytes}
use Rattle.machine_form.specs.Start.{zeros}
use Rattle.flat_state.proofs.Memory.{with_bytes-left, length-with_bytes}
use Rattle.flat_state.proofs.write.write_below.Goals as goal

pub returns : goal.returns
returns c = rw (c.write_bytes.ensures, length-with_bytes c.args.bytes.now c.args.writes.now) (sym (with_bytes-left c.args.bytes.now _ c.args.writes.now c.requires.within))
