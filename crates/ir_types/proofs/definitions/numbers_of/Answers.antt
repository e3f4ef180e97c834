use Rattle.std.proofs.Common.{ap, ◌∙◌}
use Rattle.ir_types.specs.declared.definitions.Numbering.{Numbering}
use Rattle.ir_types.proofs.Numbered.{numbered-firsts}
use Rattle.ir_types.proofs.definitions.numbers_of.Goals as goal

pub returns : goal.returns
returns c = ap (λ (n : Numbering). n.table) c.in_ok-numbering.ensures ∙ numbered-firsts c.args.items.now
