use Rattle.std.proofs.Common.{◌≢◌, arith}
use Rattle.std.proofs.lemmas.Bool.Decides.{nat_tests}
use Rattle.mutant_records.proofs.Order.{order-counted, takes-other}
use Rattle.mutant_records.proofs.progress.Progress.takes.Goals as goal

pub returns : goal.returns
returns c =
    let counted = order-counted c.args.self.now.all c.requires.keeps.order in
    let ne : c.args.m ≢ c.args.self.now.mutant = λ e. grind (arith, nat_tests, e, c.from.ensures, c.if-m-from.false) in
    rw c.from-2.ensures (takes-other c.args.self.now.all counted c.args.self.now.mutant c.args.m c.requires.keeps.mutant ne)
