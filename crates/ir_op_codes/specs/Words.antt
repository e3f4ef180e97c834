-- What operands may be, so that they have a code.
use Rattle.std.specs.Prelude.{◌≡◌, false}
use Rattle.ir_tree.specs.declared.operand.Opd.{Opd}
use Rattle.ir_tree.specs.declared.operand.Opd.TheVariants as opd
use Rattle.ir_rules.specs.Types.{TypeDefs, is_large}

-- a constant goes into no type that is larger than the greatest size, or that has one inside it
abbrev pub IsFit : TypeDefs → Opd → Type 0
IsFit defs (opd.Get g) = is_large defs g.0 ≡ false
IsFit defs _ = Unit {0}
