use Rattle.std.proofs.Common.{rules, ◌≡◌, Err, subst, sym, ◌∙◌}
use Rattle.ir_reader_tokens.specs.Reads.{Reads}
use Rattle.ir_reader_parts.specs.Ignored.{repeated}
use Rattle.ir_reader_parts.proofs.Exits.{exit}
use Rattle.ir_reader_parts.proofs.Repeating.{repeated-goes, repeated-fails, repeated-ends, once-shorter}
use Rattle.ir_reader_parts.proofs.skips.repeated.Goals as goal

pub turns-preserved : goal.turns-preserved
turns-preserved c = sym (repeated-goes c.args.part c.turns.cursor (sym c.begins.ensures ∙ c.turns-test.true) _ c.once.new.cursor c.in_ok-once.ensures)
    ∙ c.turns.invariant

pub turns-smaller : goal.turns-smaller
turns-smaller c = once-shorter c.args.part c.turns.cursor _ c.once.new.cursor c.in_ok-once.ensures

pub returns : goal.returns
returns c = sym c.turns.invariant ∙ repeated-ends c.args.part c.turns.cursor (sym c.begins.ensures ∙ c.turns-test.false)

pub returns-in_err-once : goal.returns-in_err-once
returns-in_err-once c =
    let e : c.from_residual.result ≡ Err c.in_err-once.field-0.0 = search rules in
    subst (λ r. Reads ((repeated c.args.part).parse c.args.cursor.now) r c.once.new.cursor) (sym e)
    (exit _ _ c.in_err-once.field-0.0 c.once.new.cursor c.once.new.cursor c.in_err-once.ensures (λ h. sym c.turns.invariant
    ∙ repeated-fails c.args.part c.turns.cursor (sym c.begins.ensures ∙ c.turns-test.true) h))
