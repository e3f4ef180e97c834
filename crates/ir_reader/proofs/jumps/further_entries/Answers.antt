use Rattle.std.proofs.Common.{ap, sym, ◌∙◌}
use Rattle.ir_grammar.specs.Rule.{onto, further}
use Rattle.ir_grammar.specs.Lexeme.{sees_sign}
use Rattle.ir_grammar.specs.Ops.{entry}
use Rattle.ir_grammar.proofs.Loops.{further-goes, further-shorter}
use Rattle.ir_grammar.proofs.Productions.{entry-exact}
use Rattle.ir_reader.proofs.jumps.further_entries.Goals as goal

pub turns-preserved : goal.turns-preserved
turns-preserved c =
    let b = sym c.sees_more_entries.ensures ∙ c.turns-test.true in
    let goes = further-goes (sees_sign 91) entry entry-exact c.turns.found c.turns.cursor b c.sign.new.self c.in_ok-entry.field-0 c.entry.new.cursor
    c.in_ok-sign.ensures c.in_ok-entry.ensures in
    ap (λ f. onto f ((further (sees_sign 91) entry).parse c.entry.new.cursor)) c.in_ok-push.ensures.ok ∙ sym goes ∙ c.turns.invariant

pub turns-smaller : goal.turns-smaller
turns-smaller c = further-shorter (sees_sign 91) entry entry-exact c.turns.cursor c.sign.new.self c.in_ok-entry.field-0 c.entry.new.cursor c.in_ok-sign.ensures
    c.in_ok-entry.ensures
