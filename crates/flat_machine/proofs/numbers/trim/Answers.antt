use Rattle.std.proofs.Common.{arith, sym, ap, ◌∙◌}
use Rattle.std.specs.Option.{option_copied}
use Rattle.flat_machine.proofs.Taken.{drop_more}
use Rattle.flat_machine.proofs.numbers.trim.Goals as goal

pub loop-last-preserved : goal.loop-last-preserved
loop-last-preserved c =
    let got = sym c.last.ensures.value ∙ ap option_copied c.in-Some.is in
    drop_more c.loop-last.marks.items c.pop.new.self.items c.deref.result.now c.loop-last.marks.len c.in-Some.last.now c.deref.ensures.value (omega (arith, c.loop-last.marks.ok.0)) got
    c.if-last.false c.pop.ensures.rest
    ∙ c.loop-last.invariant
