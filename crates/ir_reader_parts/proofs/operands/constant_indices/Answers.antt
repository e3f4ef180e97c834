use Rattle.std.proofs.Common.{ap, sym, ◌∙◌}
use Rattle.ir_grammar.specs.Rule.{onto, further}
use Rattle.ir_grammar.specs.Starts.{sees_type}
use Rattle.ir_grammar.specs.Operands.{constant_index}
use Rattle.ir_grammar.proofs.Loops.{onto-empty, further-goes, further-shorter}
use Rattle.ir_grammar.proofs.Productions.{constant_index-exact}
use Rattle.ir_reader_parts.proofs.operands.constant_indices.Goals as goal

pub turns-init : goal.turns-init
turns-init c = ap (λ f. onto f ((further sees_type constant_index).parse c.args.cursor.now)) c.new-found.ensures
    ∙ onto-empty ((further sees_type constant_index).parse c.args.cursor.now)

pub turns-preserved : goal.turns-preserved
turns-preserved c =
    let b = sym c.sees_more_types.ensures ∙ c.turns-test.true in
    let goes = further-goes sees_type constant_index constant_index-exact c.turns.found c.turns.cursor b c.sign.new.self c.in_ok-constant_index.field-0
    c.constant_index.new.cursor c.in_ok-sign.ensures c.in_ok-constant_index.ensures in
    ap (λ f. onto f ((further sees_type constant_index).parse c.constant_index.new.cursor)) c.in_ok-push.ensures.ok ∙ sym goes ∙ c.turns.invariant

pub turns-smaller : goal.turns-smaller
turns-smaller c = further-shorter sees_type constant_index constant_index-exact c.turns.cursor c.sign.new.self c.in_ok-constant_index.field-0
    c.constant_index.new.cursor c.in_ok-sign.ensures c.in_ok-constant_index.ensures
