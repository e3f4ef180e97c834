use Rattle.std.proofs.Common.{◌+◌, sym, ◌∙◌, arith}
use Rattle.mutant_records.proofs.Order.{order-counted, number-bounds}
use Rattle.mutant_records.proofs.progress.Progress.mutant_of.Goals as goal

pub overflow_cast-result : goal.overflow_cast-result
overflow_cast-result c =
    let counted = order-counted c.args.self.now.all c.requires.keeps.order in
    let bounds = number-bounds (c.from.result + 1) c.in-Some.m c.field.result.now (sym c.number_within.ensures ∙ c.in-Some.is) in
    omega (arith, bounds.1, c.from.ensures, c.requires.keeps.mutant, counted.within)
