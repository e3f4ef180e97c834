use Rattle.std.proofs.Common.{sym, ◌∙◌, arith}
use Rattle.std.proofs.lemmas.Bool.{ne_eqb}
use Rattle.mutant_records.proofs.Order.{order-counted, not-taken-later}
use Rattle.mutant_records.proofs.progress.Progress.is_taken.Goals as goal

pub returns-else-m-self : goal.returns-else-m-self
returns-else-m-self c =
    let counted = order-counted c.args.self.now.all c.requires.keeps.order in
    ne_eqb c.args.m c.args.self.now.mutant c.if-m-self.false
    ∙ sym (not-taken-later c.args.self.now.all counted c.args.self.now.form c.args.m c.args.place
    (omega (arith, c.requires.keeps.mutant, c.requires.next, c.if-m-self.false)))
