use Rattle.std.proofs.Common.{ap, sym, ◌∙◌}
use Rattle.ir_grammar.specs.Rule.{onto, further}
use Rattle.ir_grammar.specs.Starts.{sees_type}
use Rattle.ir_grammar.specs.Operands.{typed_operand}
use Rattle.ir_grammar.proofs.Loops.{onto-empty, further-goes, further-shorter}
use Rattle.ir_grammar.proofs.Productions.{typed_operand-firm}
use Rattle.ir_reader_parts.proofs.operands.further_operands.Goals as goal

pub turns-init : goal.turns-init
turns-init c = ap (λ f. onto f ((further sees_type typed_operand).parse c.args.cursor.now)) c.new-found.ensures
    ∙ onto-empty ((further sees_type typed_operand).parse c.args.cursor.now)

pub turns-preserved : goal.turns-preserved
turns-preserved c =
    let b = sym c.sees_more_types.ensures ∙ c.turns-test.true in
    let goes = further-goes sees_type typed_operand typed_operand-firm.exact c.turns.found c.turns.cursor b c.sign.new.self c.in_ok-typed_operand.field-0
    c.typed_operand.new.cursor c.in_ok-sign.ensures c.in_ok-typed_operand.ensures in
    ap (λ f. onto f ((further sees_type typed_operand).parse c.typed_operand.new.cursor)) c.in_ok-push.ensures.ok ∙ sym goes ∙ c.turns.invariant

pub turns-smaller : goal.turns-smaller
turns-smaller c = further-shorter sees_type typed_operand typed_operand-firm.exact c.turns.cursor c.sign.new.self c.in_ok-typed_operand.field-0
    c.typed_operand.new.cursor c.in_ok-sign.ensures c.in_ok-typed_operand.ensures
