-- The setting that the code of an instruction asks for, by what is handed in, and which instructions have a code.
use Rattle.std.specs.Prelude.{◌≡◌, false, List, Option, Some, None, All}
use Rattle.code_form.specs.declared.instr.Instr.{Instr}
use Rattle.ir_tree.specs.declared.name.Name.{Name}
use Rattle.ir_tree.specs.declared.operand.Opd.{Opd}
use Rattle.ir_tree.specs.declared.op.Op.{Op}
use Rattle.ir_tree.specs.declared.op.Op.TheVariants as op
use Rattle.ir_rules.specs.Types.{TypeDefs, is_large}
use Rattle.ir_rules.specs.Parts.{Typed}
use Rattle.ir_rules.specs.Settings.{Setting}
use Rattle.ir_rules.specs.Codes.{op_code}
use Rattle.ir_op_codes.specs.declared.names.Names.{Names}
use Rattle.ir_op_codes.specs.Alone.{code_alone}
use Rattle.ir_op_codes.specs.Words.{IsFit}

abbrev pub setting_by : TypeDefs → Names → Setting
setting_by defs names = code_alone defs names.locals.now names.entities.now names.ports.now

abbrev pub code_by : TypeDefs → Names → Op → Instr
code_by defs names o = op_code (setting_by defs names) names.addresses.now o

abbrev pub AreFit : TypeDefs → List Typed → Type 0
AreFit defs vs = All (λ (v : Typed). IsFit defs v.1) vs

abbrev pub IsFitMaybe : TypeDefs → Option Typed → Type 0
IsFitMaybe defs None = Unit {0}
IsFitMaybe defs (Some v) = IsFit defs v.1

-- no type that the instruction sets out or goes into, by itself or in an operand, is larger than the greatest size or has one inside it that is
abbrev pub OpFits : TypeDefs → Op → Type 0
OpFits defs (op.Bin o t a b) = IsFit defs a × IsFit defs b
OpFits defs (op.Cmp p t a b) = IsFit defs a × IsFit defs b
OpFits defs (op.Select c i t a u b) = IsFit defs i × IsFit defs a × IsFit defs b
OpFits defs (op.Cast c t a to) = IsFit defs a
OpFits defs (op.Freeze t a) = IsFit defs a
OpFits defs (op.Alloca t n) = (is_large defs t ≡ false) × IsFitMaybe defs n
OpFits defs (op.Load t u a) = IsFit defs a
OpFits defs (op.Store t a u b) = IsFit defs a × IsFit defs b
OpFits defs (op.Get of t a is) = (is_large defs of ≡ false) × IsFit defs a × AreFit defs is
OpFits defs (op.Phi t es) = All (λ (e : Opd × Name). IsFit defs e.0) es
OpFits defs (op.Call t f xs) = AreFit defs xs
OpFits defs (op.Jump n) = Unit {0}
OpFits defs (op.Branch t c a b) = IsFit defs c
OpFits defs (op.Switch t a n cs) = IsFit defs a
OpFits defs (op.Ret v) = IsFitMaybe defs v
OpFits defs op.Unreachable = Unit {0}
