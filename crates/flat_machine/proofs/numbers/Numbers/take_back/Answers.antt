use Rattle.std.proofs.Common.{arith}
use Rattle.flat_machine.proofs.Taken.{taken_within, unset_taken}
use Rattle.flat_machine.proofs.numbers.Numbers.take_back.Goals as goal

pub index_mut-requires : goal.index_mut-requires
index_mut-requires c = omega (arith, taken_within c.args.self.now.marks.items c.args.number c.requires, c.args.self.now.marks.ok.0)

pub returns : goal.returns
returns c = rw c.trim.ensures (unset_taken c.args.self.now.marks.items c.args.number c.requires)
