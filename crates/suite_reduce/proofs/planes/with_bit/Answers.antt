use Rattle.std.proofs.Common.{◌∙◌, sym, ap, cond, Bool}
use Rattle.std.specs.Int.{w64}
use Rattle.std.proofs.lemmas.Nat.Bits.{bit_at_set_same, bit_at_set_other}
use Rattle.suite_reduce.proofs.planes.with_bit.Goals as goal

pub returns-then-set-clause-here : goal.returns-then-set-clause-here
returns-then-set-clause-here c = bit_at_set_same w64 c.args.word c.args.at c.requires.at ∙ sym (ap (λ (b : Bool). cond b 1 0) c.if-set.true)

pub returns-then-set-clause-others : goal.returns-then-set-clause-others
returns-then-set-clause-others c = λ i apart. bit_at_set_other w64 c.args.word c.args.at c.requires.at i apart
