use Rattle.std.proofs.Common.{◌-◌, ◌<◌, ◌∙◌, length, arith, subst, sym}
use Rattle.std.proofs.lemmas.Bool.{eqb-true}
use Rattle.ir_tokens.specs.declared.token.Token.{Token}
use Rattle.ir_tokens.specs.Tokens.{Begins}
use Rattle.ir_lexer.proofs.Turns.{HasTokens-end, NamesFault-here, Begins-next, Follows-shorter}
use Rattle.ir_lexer.proofs.lexer.lex.Goals as goal

pub returns-then-is_empty-clause-tokens : goal.returns-then-is_empty-clause-tokens
returns-then-is_empty-clause-tokens c =
    HasTokens-end c.args.text.now c.turns.tokens.items c.turns.rest.now c.skip-left.result.now c.turns.invariant.begins c.skip-left.ensures.value
    (eqb-true _ 0 (sym c.is_empty.ensures ∙ c.if-is_empty.true))

pub returns-in-None-clause-fault : goal.returns-in-None-clause-fault
returns-in-None-clause-fault c =
    let within = c.skip-left.ensures.within in
    NamesFault-here c.args.text.now c.turns.tokens.items c.turns.rest.now c.skip-left.result.now _ c.fault.result c.turns.invariant.begins
    c.skip-left.ensures.value c.in-None.ensures.none c.fault.ensures (omega arith)

pub turns-preserved : goal.turns-preserved
turns-preserved c =
    let text = c.args.text.now in
    let left = c.skip-left.result.now in
    let after = c.in-Some.after.now in
    let within = c.skip-left.ensures.within in
    let shorter : length after < length left = Follows-shorter left c.in-Some.kind after c.in-Some.ensures.some in
    let token : Token = record { kind = c.in-Some.kind; from = length text - length left; to = length text - length after } in
    record {
      begins = subst (λ ts. Begins (length text) text ts after) (sym c.in_ok-push-in-Some.ensures.items)
          (Begins-next (length text) text c.turns.tokens.items c.turns.rest.now left after token c.turns.invariant.begins c.skip-left.ensures.value
          c.in-Some.ensures.some (omega arith) (omega arith));
      within = omega arith;
    }
