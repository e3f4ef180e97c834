use Rattle.std.proofs.Common.{arith}
use Rattle.std.proofs.lemmas.List.{take_more_set}
use Rattle.machine_form.proofs.writes.RegisterWrites.set_one.Goals as goal

pub returns : goal.returns
returns c = take_more_set c.self.inside.few 0 (c.args.register, c.args.word) (omega arith)
