use Rattle.std.proofs.Common.{None, sym, ◌∙◌, arith}
use Rattle.ir_rules.specs.Types as types
use Rattle.ir_scopes.proofs.Pairs.{pairs-long, pairs-fail, pairs-pass, pairs-end}
use Rattle.ir_scopes.proofs.scalars.same_kinds.Goals as goal

pub returns-then-ts-us : goal.returns-then-ts-us
returns-then-ts-us c = sym (pairs-long types.same_kind c.args.ts.now c.args.us.now c.if-ts-us.true)

pub returns-then-not-same_kind : goal.returns-then-not-same_kind
returns-then-not-same_kind c =
    sym (c.each.invariant ∙ pairs-fail types.same_kind c.args.ts.now c.args.us.now c.each.i None None c.each-test.true (omega arith)
    (sym c.same_kind.ensures ∙ c.if-not-same_kind.true))

pub returns : goal.returns
returns c = sym (c.each.invariant ∙ pairs-end types.same_kind c.args.ts.now c.args.us.now c.each.i (omega arith) (omega arith))

pub each-preserved : goal.each-preserved
each-preserved c =
    c.each.invariant
    ∙ pairs-pass types.same_kind c.args.ts.now c.args.us.now c.each.i None None c.each-test.true (omega arith)
    (sym c.same_kind.ensures ∙ c.if-not-same_kind.false)
