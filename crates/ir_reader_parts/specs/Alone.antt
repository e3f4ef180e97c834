-- Operands that are one word.
use Rattle.ir_tree.specs.declared.operand.Opd.{Opd}
use Rattle.ir_grammar.specs.Rule.{Rule, ◌>>◌, next, pure}

-- the next word alone, for this operand
abbrev pub alone : Opd → Rule Opd
alone x = next >> pure x
