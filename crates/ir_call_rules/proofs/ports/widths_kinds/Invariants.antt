use Rattle.std.proofs.Common.{◌≡◌, Some, map, take}
use Rattle.code_form.specs.declared.code.TyScalar.TheVariants.{Int}
use Rattle.ir_call_rules.proofs.ports.widths_kinds.Given as goal

abbrev pub invariant-each : goal.invariant-each
invariant-each l = l.list ≡ map (λ w. Some (Int w)) (take l.w-index l.widths)
