use Rattle.std.proofs.Common.{ap, sym, ◌∙◌}
use Rattle.ir_grammar.specs.Rule.{onto, many}
use Rattle.ir_grammar.specs.Starts.{sees_type}
use Rattle.ir_grammar.specs.Ops.{case}
use Rattle.ir_grammar.proofs.Exact.{onto-more}
use Rattle.ir_grammar.proofs.Loops.{onto-empty}
use Rattle.ir_grammar.proofs.Productions.{case-firm}
use Rattle.ir_reader.proofs.jumps.cases.Goals as goal

pub turns-init : goal.turns-init
turns-init c = ap (λ f. onto f ((many sees_type case).parse c.args.cursor.now)) c.new-found.ensures ∙ onto-empty ((many sees_type case).parse c.args.cursor.now)

pub turns-preserved : goal.turns-preserved
turns-preserved c =
    let b = sym c.sees_type.ensures ∙ c.turns-test.true in
    let goes = onto-more sees_type case case-firm.exact case-firm.strict c.turns.found c.turns.cursor c.in_ok-case.field-0 c.case.new.cursor b
    c.in_ok-case.ensures in
    ap (λ f. onto f ((many sees_type case).parse c.case.new.cursor)) c.in_ok-push.ensures.ok ∙ sym goes ∙ c.turns.invariant

pub turns-smaller : goal.turns-smaller
turns-smaller c = case-firm.strict c.turns.cursor c.in_ok-case.field-0 c.case.new.cursor
    (case-firm.exact.sound c.turns.cursor c.in_ok-case.field-0 c.case.new.cursor c.in_ok-case.ensures)
