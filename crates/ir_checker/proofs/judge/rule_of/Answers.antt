use Rattle.std.proofs.Common.{ap, ◌∙◌}
use Rattle.ir_scopes.specs.Kinds.{kind_in}
use Rattle.ir_checker.specs.Judged.{name_rules, operand_rules, block_rules, call_rules}
use Rattle.ir_checker.proofs.Judging.{judged}
use Rattle.ir_checker.proofs.judge.rule_of.Goals as goal

pub returns : goal.returns
returns c = λ s fits are.
    let kind = kind_in c.args.known.now.kinds.now.names in
    let es = c.args.known.now.entities.now in
    let ports = c.args.known.now.ports.now in
    let f = c.args.frame.now in
    let sn = c.args.seen.now in
    let ns = c.args.notes.now in
    let t = c.args.typed.now in
    let x = c.args.item.now in
    c.in_ok-rule.ensures
    ∙ ap (name_rules f sn t x) (
    c.operand_rules-operands.ensures
    ∙ ap (operand_rules kind es f.function.table t x) (
    c.in_ok-blocks.ensures ∙ ap (block_rules f ns x) (c.in_ok-calls.ensures ∙ ap (call_rules kind es ports f x) c.in_ok-last.ensures)
    )
    )
    ∙ judged s x kind es ports f sn ns t fits are
