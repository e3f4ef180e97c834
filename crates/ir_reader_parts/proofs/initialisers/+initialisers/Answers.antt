use Rattle.std.proofs.Common.{ap, sym, ◌∙◌, subst}
use Rattle.ir_grammar.specs.Rule.{onto, further}
use Rattle.ir_grammar.specs.Starts.{sees_type}
use Rattle.ir_grammar.specs.Operands.{element, init_in}
use Rattle.ir_grammar.proofs.Loops.{further-goes, further-shorter}
use Rattle.ir_grammar.proofs.Productions.{element-exact, init_in-firm, init_in-deep}
use Rattle.ir_reader_tokens.specs.Reads.{Reads}
use Rattle.ir_reader_parts.proofs.initialisers.+initialisers.Goals as goal

pub init_in-returns-else-depth-eq0 : goal.init_in-returns-else-depth-eq0
init_in-returns-else-depth-eq0 t c =
    subst (λ o. Reads o c.nested.result c.nested.new.cursor) (sym (init_in-deep c.args.depth c.args.cursor.now c.if-depth-eq0.false)) c.nested.ensures

pub further-turns-preserved : goal.further-turns-preserved
further-turns-preserved t c =
    let b = sym c.sees_more_types.ensures ∙ c.turns-test.true in
    let goes = further-goes sees_type (element (init_in c.args.depth))
    (element-exact (init_in c.args.depth) (init_in-firm c.args.depth).exact) c.turns.found c.turns.cursor b c.sign.new.self c.in_ok-element.field-0
    c.element.new.cursor c.in_ok-sign.ensures c.in_ok-element.ensures in
    ap (λ f. onto f ((further sees_type (element (init_in c.args.depth))).parse c.element.new.cursor)) c.in_ok-push.ensures.ok ∙ sym goes ∙ c.turns.invariant

pub further-turns-smaller : goal.further-turns-smaller
further-turns-smaller t c =
    further-shorter sees_type (element (init_in c.args.depth))
    (element-exact (init_in c.args.depth) (init_in-firm c.args.depth).exact) c.turns.cursor c.sign.new.self c.in_ok-element.field-0 c.element.new.cursor
    c.in_ok-sign.ensures c.in_ok-element.ensures
