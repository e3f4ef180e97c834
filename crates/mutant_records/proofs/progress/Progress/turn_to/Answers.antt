use Rattle.std.proofs.Common.{◌≢◌, sym, ◌∙◌, arith}
use Rattle.std.proofs.lemmas.Bool.Decides.{nat_tests}
use Rattle.mutant_records.proofs.Order.{order-counted}
use Rattle.mutant_records.proofs.progress.Progress.turn_to.Goals as goal

pub returns-then-mutant-self-clause-places : goal.returns-then-mutant-self-clause-places
returns-then-mutant-self-clause-places c =
    let counted = order-counted c.args.self.now.all c.requires.keeps.order in
    let ne : c.args.mutant ≢ c.args.self.now.mutant = λ e. grind (arith, nat_tests, e, c.if-mutant-self.true) in
    c.clear.ensures ∙ sym (counted.none_later c.args.mutant (omega (arith, c.requires.keeps.mutant, c.requires.later, ne)))
