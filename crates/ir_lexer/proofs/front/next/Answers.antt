use Rattle.std.proofs.Common.{sym, ◌∙◌, subst}
use Rattle.ir_tokens.proofs.Longest.{token-NoToken}
use Rattle.ir_lexer.specs.Answer.{Follows}
use Rattle.ir_lexer.proofs.Turns.{token-le, token-Follows}
use Rattle.ir_lexer.proofs.front.next.Goals as goal

pub split_at-requires : goal.split_at-requires
split_at-requires c = token-le c.args.text.now c.in-Some.kind c.in-Some.len (sym c.token.ensures ∙ c.in-Some.is)

pub returns-in-None-clause-none : goal.returns-in-None-clause-none
returns-in-None-clause-none c = token-NoToken c.args.text.now (sym c.token.ensures ∙ c.in-None.is)

pub returns-in-Some-clause-some : goal.returns-in-Some-clause-some
returns-in-Some-clause-some c =
    subst (Follows c.args.text.now c.in-Some.kind) (sym c.split_at.ensures.back)
    (token-Follows c.args.text.now c.in-Some.kind c.in-Some.len (sym c.token.ensures ∙ c.in-Some.is))
