use Rattle.ir_typed_rules.proofs.typed.TypedRules.of.Goals as goal

pub returns-clause-judged : goal.returns-clause-judged
returns-clause-judged c = c.new.ensures c.in_ok-types.types.defs
