use Rattle.std.proofs.Common.{arith}
use Rattle.code_form.specs.Variant.{same}
use Rattle.code_form.proofs.Lists.{numbered_insert, different_numbered, given_numbered, longer_numbered, zero_numbered}
use Rattle.code_form.proofs.replacements.number_of.Goals as goal

pub returns-then-same-clause-numbered : goal.returns-then-same-clause-numbered
returns-then-same-clause-numbered c = same (c.same.ensures.0 c.if-same.true)

pub returns-clause-numbered : goal.returns-clause-numbered
returns-clause-numbered c =
    let stored = c.in_ok-at.ensures.stored in
    numbered_insert _ _ _ _ stored.0 c.in_ok-at.at (λ e. grind (arith, c.same.ensures.1 e, c.if-same.false)) c.in_ok-at.ensures.keys stored.1 stored.2

pub returns-clause-different : goal.returns-clause-different
returns-clause-different c = different_numbered (returns-clause-numbered c) c.requires.different

pub returns-clause-given : goal.returns-clause-given
returns-clause-given c = given_numbered (returns-clause-numbered c)

pub returns-clause-one_more : goal.returns-clause-one_more
returns-clause-one_more c = longer_numbered (returns-clause-numbered c)

pub returns-clause-original : goal.returns-clause-original
returns-clause-original c = zero_numbered (returns-clause-numbered c)
