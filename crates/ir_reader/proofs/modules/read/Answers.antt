use Rattle.std.proofs.Common.{rules, ◌≡◌, ◌-◌, length, Err, IfErr, sym, ◌∙◌, subst, arith}
use Rattle.ir_grammar.specs.Lexeme.{lexemes}
use Rattle.ir_grammar.specs.Modules.{IsUnread}
use Rattle.ir_reader.specs.Answers.{NamesUnread}
use Rattle.ir_tokens.proofs.Places.{HasTokens-Rise}
use Rattle.ir_reader.proofs.Places.{tokens_lie}
use Rattle.ir_reader.proofs.Turns.{HasRead-shorter, lexemes-length, item-shorter, one_more, unread_by, open_at_end}
use Rattle.ir_reader.proofs.modules.read.Goals as goal

pub new-cursor-requires : goal.new-cursor-requires
new-cursor-requires c = tokens_lie c.args.text.now c.args.tokens.now c.requires

pub count-all-requires : goal.count-all-requires
count-all-requires c = (length c.args.text.now, HasTokens-Rise c.args.text.now c.args.tokens.now c.requires)

pub overflow_cast-at : goal.overflow_cast-at
overflow_cast-at c =
    let s = HasRead-shorter (lexemes c.args.text.now c.args.tokens.now) c.turns.inside c.turns.cursor c.turns.items c.turns.starts c.turns.invariant in
    let l = lexemes-length c.args.text.now c.args.tokens.now in
    omega arith

pub overflow_sub-at : goal.overflow_sub-at
overflow_sub-at c =
    let s = HasRead-shorter (lexemes c.args.text.now c.args.tokens.now) c.turns.inside c.turns.cursor c.turns.items c.turns.starts c.turns.invariant in
    let l = lexemes-length c.args.text.now c.args.tokens.now in
    omega arith

pub turns-smaller : goal.turns-smaller
turns-smaller c = item-shorter c.turns.cursor c.in_ok-found.found c.next_item.new.cursor c.in_ok-found.ensures.0

pub turns-preserved : goal.turns-preserved
turns-preserved c =
    let ts = lexemes c.args.text.now c.args.tokens.now in
    let s = HasRead-shorter ts c.turns.inside c.turns.cursor c.turns.items c.turns.starts c.turns.invariant in
    let l = lexemes-length c.args.text.now c.args.tokens.now in
    one_more ts c.turns.inside c.turns.cursor c.turns.items c.turns.starts c.turns.invariant c.in_ok-found.found c.next_item.new.cursor
    (c.count-all.result - c.left-in-turns.result) c.in_ok-found.ensures.0 c.in_ok-found.ensures.1 (omega arith)
    c.leaves_open-inside.result c.keep.new.items c.keep.new.starts c.leaves_open-inside.ensures c.in_ok-keep.ensures.items c.in_ok-keep.ensures.starts

pub returns-in_err-found-clause-unread : goal.returns-in_err-found-clause-unread
returns-in_err-found-clause-unread c =
    let ts = lexemes c.args.text.now c.args.tokens.now in
    let s = HasRead-shorter ts c.turns.inside c.turns.cursor c.turns.items c.turns.starts c.turns.invariant in
    let l = lexemes-length c.args.text.now c.args.tokens.now in
    let e : c.from_residual.result ≡ Err c.in_err-found.field-0.0 = search rules in
    subst (λ r. IfErr r (λ e. NamesUnread ts e)) (sym e)
    (unread_by ts c.turns.inside c.turns.cursor c.turns.items c.turns.starts c.turns.invariant (omega arith) (c.count-all.result - c.left-in-turns.result)
    (omega arith) c.in_err-found.field-0.0 c.next_item.new.cursor c.in_err-found.ensures)

pub returns-then-inside-clause-unread : goal.returns-then-inside-clause-unread
returns-then-inside-clause-unread c =
    let ts = lexemes c.args.text.now c.args.tokens.now in
    subst (λ n. IsUnread ts n) (lexemes-length c.args.text.now c.args.tokens.now ∙ sym c.count-all.ensures)
    (open_at_end ts c.turns.cursor c.turns.items c.turns.starts c.turns.inside c.if-inside.true c.turns.invariant (omega arith))
