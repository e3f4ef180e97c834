-- The parts of a function, put together.
use Rattle.std.proofs.Common.{◌≡◌, ℕ, List, map, length, Option, subst}
use Rattle.std.specs.Option.{option_map}
use Rattle.code_form.specs.declared.code.Func.{Func}
use Rattle.ir_tree.specs.declared.name.Name.{Name}
use Rattle.ir_tree.specs.declared.type_text.TyText.{TyText}
use Rattle.ir_rules.specs.declared.scope.Scope.{Scope}
use Rattle.ir_rules.specs.Types.{TypeDefs, Kinds, kind_of, result_kind}
use Rattle.ir_rules.specs.Entities.{name_bytes}
use Rattle.ir_rules.specs.Codes.{scalar_in}
use Rattle.ir_rules.specs.Modules.{blocks_from, function_code}

pub function-is : (k : Kinds) (defs : TypeDefs) (at : ℕ) (n : Name) (t : TyText) (ps : List (TyText × Option Name)) (scope : Scope) (f : Func)
    → f.name ≡ name_bytes n → k ≡ kind_of defs → f.params ≡ map (λ (p : TyText × Option Name). scalar_in (k p.0)) ps
    → f.result ≡ option_map scalar_in (result_kind k t) → f.registers ≡ length scope.types → f.types ≡ map scalar_in scope.types
    → f.blocks ≡ blocks_from at scope.starts (length scope.results) → f ≡ function_code defs at n t ps scope
function-is k defs at n t ps scope f name same params result registers types blocks =
    let P : Kinds → Type 0 = λ k. (f.params ≡ map (λ (p : TyText × Option Name). scalar_in (k p.0)) ps) × (f.result ≡ option_map scalar_in (result_kind k t)) in
    let two = subst P same (params, result) in
    λ i. record { name = name i; params = two.0 i; result = two.1 i; registers = registers i; types = types i; blocks = blocks i }
