use Rattle.std.proofs.Common.{◌-◌, ap, sym, ◌∙◌, subst}
use Rattle.ir_grammar.specs.Rule.{onto, further}
use Rattle.ir_grammar.specs.Starts.{sees_type}
use Rattle.ir_grammar.specs.Types.{nested, type_in}
use Rattle.ir_grammar.proofs.Loops.{further-goes, further-shorter}
use Rattle.ir_grammar.proofs.Productions.{type_in-firm, type_in-deep}
use Rattle.ir_reader_tokens.specs.Reads.{Reads}
use Rattle.ir_reader_parts.proofs.types.+types.Goals as goal

pub type_in-returns-else-depth-eq0 : goal.type_in-returns-else-depth-eq0
type_in-returns-else-depth-eq0 t c =
    let e = type_in-deep c.args.depth c.args.cursor.now c.if-depth-eq0.false ∙ ap (λ s. (nested (type_in (c.args.depth - 1)) s).parse c.args.cursor.now)
    (sym c.type_start-start.ensures) in
    subst (λ o. Reads o c.nested.result c.nested.new.cursor) (sym e) c.nested.ensures

pub further-turns-preserved : goal.further-turns-preserved
further-turns-preserved t c =
    let b = sym c.sees_more_types.ensures ∙ c.turns-test.true in
    let goes = further-goes sees_type (type_in c.args.depth)
    (type_in-firm c.args.depth).exact c.turns.found c.turns.cursor b c.sign.new.self c.in_ok-type_in.field-0 c.type_in.new.cursor c.in_ok-sign.ensures
    c.in_ok-type_in.ensures in
    ap (λ f. onto f ((further sees_type (type_in c.args.depth)).parse c.type_in.new.cursor)) c.in_ok-push.ensures.ok ∙ sym goes ∙ c.turns.invariant

pub further-turns-smaller : goal.further-turns-smaller
further-turns-smaller t c =
    let b = sym c.sees_more_types.ensures ∙ c.turns-test.true in
    further-shorter sees_type (type_in c.args.depth) (type_in-firm c.args.depth).exact c.turns.cursor c.sign.new.self c.in_ok-type_in.field-0
    c.type_in.new.cursor c.in_ok-sign.ensures c.in_ok-type_in.ensures
