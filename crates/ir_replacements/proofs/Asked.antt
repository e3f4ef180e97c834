-- The rules that are asked of a replacement are those of its place.
use Rattle.std.proofs.Common.{◌≡◌, false, not, List, [], Option, None, refl, sym, ap, ◌∙◌}
use Rattle.std.specs.List.{list_any}
use Rattle.code_form.specs.declared.code.TyScalar.{TyScalar}
use Rattle.code_form.specs.declared.sign.PortSign.{PortSign}
use Rattle.ir_tree.specs.declared.name.Name.{Name}
use Rattle.ir_tree.specs.declared.operand.Opd.{Opd}
use Rattle.ir_tree.specs.declared.operand.Opd.TheVariants as opd
use Rattle.ir_tree.specs.declared.op.Op.{Op}
use Rattle.ir_tree.specs.declared.op.Op.TheVariants as op
use Rattle.ir_tree.specs.declared.item.Item.TheVariants as item
use Rattle.ir_names.specs.Names.{firsts}
use Rattle.ir_names.proofs.Defined.{defined-firsts}
use Rattle.ir_rules.specs.declared.entity.Entity.{Entity}
use Rattle.ir_rules.specs.declared.local.Local.{Local}
use Rattle.ir_rules.specs.Types.{TypeDefs, Kinds}
use Rattle.ir_rules.specs.Parts.{Typed, op_operands}
use Rattle.ir_rules.specs.Settings.{Setting}
use Rattle.ir_rules.specs.Operands.{unknown_type, type_too_large, scalar_wanted, unknown_name, type_differs, literal_range, names_nothing, is_variable}
use Rattle.ir_rules.specs.Blocks.{unknown_label, entry_target}
use Rattle.ir_rules.specs.Calls.{unknown_callee, call_differs, return_differs}
use Rattle.ir_rules.specs.Paths.{switch_case, get_path, cast_width}
use Rattle.ir_rules.specs.Replacements.{breaks_there}
use Rattle.ir_block_rules.specs.Alone.{locals_alone, result_alone}
use Rattle.ir_block_rules.specs.Alone as blocks
use Rattle.ir_operand_rules.specs.Each.{setting_in}
use Rattle.ir_call_rules.specs.Alone.{calls_alone}
use Rattle.ir_call_rules.proofs.Alike.{callee-alike, call-alike}
use Rattle.ir_type_rules.specs.Alone.{types_alone}
use Rattle.ir_type_rules.specs.Alone as types
use Rattle.ir_replacements.specs.Breaks.{either, breaks_by, IsAskedBy}

nothing-first : (s : Setting) (a : Opd) → names_nothing (setting_in s.kind (firsts s.entities) s.function.table) a ≡ names_nothing s a
nothing-first s (opd.Global n) = ap (λ e. not (is_variable e)) (defined-firsts s.entities [] n)
nothing-first s (opd.Get g) = ap (λ e. not (is_variable e)) (defined-firsts s.entities [] g.2)
nothing-first s _ = refl

module _ (s : Setting) (defs : TypeDefs) (kind : Kinds) (entities : List (Name × Entity)) (signs : List PortSign) (locals : List (Name × Local))
    (result : Option (Option TyScalar)) (asked : IsAskedBy s defs kind entities signs locals result) (r q : Option Name) (o : Op) where
  unknown-is : unknown_type (types_alone defs) (item.Instr q o) ≡ unknown_type s (item.Instr r o)
  unknown-is = λ i. unknown_type (types_alone (asked.types i)) (item.Instr r o)

  large-is : type_too_large (types_alone defs) (item.Instr q o) ≡ type_too_large s (item.Instr r o)
  large-is = λ i. type_too_large (types_alone (asked.types i)) (item.Instr r o)

  scalars-are : scalar_wanted (types.kinds_alone kind) (item.Instr q o) ≡ scalar_wanted s (item.Instr r o)
  scalars-are = λ i. scalar_wanted (types.kinds_alone (asked.kinds i)) (item.Instr r o)

  names-are : unknown_name (setting_in kind entities locals) (item.Instr None o) ≡ unknown_name s (item.Instr r o)
  names-are =
      (λ i. unknown_name (setting_in (asked.kinds i) (asked.entities i) (asked.locals i)) (item.Instr None o))
      ∙ (λ i. list_any (λ (v : Typed). nothing-first s v.1 i) (op_operands o))

  differ-is : type_differs (setting_in kind entities locals) (item.Instr None o) ≡ type_differs s (item.Instr r o)
  differ-is = λ i. type_differs (setting_in (asked.kinds i) (asked.entities i) (asked.locals i)) (item.Instr None o)

  range-is : literal_range (setting_in kind entities locals) (item.Instr None o) ≡ literal_range s (item.Instr r o)
  range-is = λ i. literal_range (setting_in (asked.kinds i) (asked.entities i) (asked.locals i)) (item.Instr None o)

  label-is : unknown_label (locals_alone locals) (item.Instr q o) ≡ unknown_label s (item.Instr r o)
  label-is = λ i. unknown_label (locals_alone (asked.locals i)) (item.Instr r o)

  callee-is : unknown_callee (calls_alone (λ t. None) entities signs) (item.Instr q o) ≡ unknown_callee s (item.Instr q o)
  callee-is =
      (λ i. unknown_callee (calls_alone (λ t. None) (asked.entities i) (asked.signs i)) (item.Instr q o)) ∙ sym (callee-alike s (item.Instr q o))

  call-is : call_differs (calls_alone kind entities []) (item.Instr q o) ≡ call_differs s (item.Instr q o)
  call-is = (λ i. call_differs (calls_alone (asked.kinds i) (asked.entities i) []) (item.Instr q o)) ∙ sym (call-alike s (item.Instr q o))

  result-is : return_differs (result_alone kind result) (item.Instr q o) ≡ return_differs s (item.Instr q o)
  result-is = λ i. return_differs (result_alone (asked.kinds i) (asked.result i)) (item.Instr q o)

  cases-are : switch_case (calls_alone kind [] []) (item.Instr q o) ≡ switch_case s (item.Instr q o)
  cases-are = λ i. switch_case (calls_alone (asked.kinds i) [] []) (item.Instr q o)

  path-is : get_path (types_alone defs) (item.Instr q o) ≡ get_path s (item.Instr r o)
  path-is = λ i. get_path (types_alone (asked.types i)) (item.Instr r o)

  entry-is : entry_target (locals_alone locals) (item.Instr q o) ≡ entry_target s (item.Instr r o)
  entry-is = λ i. entry_target (locals_alone (asked.locals i)) (item.Instr r o)

  width-is : cast_width (blocks.kinds_alone kind) (item.Instr q o) ≡ cast_width s (item.Instr q o)
  width-is = λ i. cast_width (blocks.kinds_alone (asked.kinds i)) (item.Instr q o)

  -- no rule asks for the name of the result
  callee-any : (o : Op) → unknown_callee s (item.Instr q o) ≡ unknown_callee s (item.Instr r o)
  callee-any (op.Call t f xs) = refl
  callee-any _ = refl

  call-any : (o : Op) → call_differs s (item.Instr q o) ≡ call_differs s (item.Instr r o)
  call-any (op.Call t f xs) = refl
  call-any _ = refl

  result-any : (o : Op) → return_differs s (item.Instr q o) ≡ return_differs s (item.Instr r o)
  result-any (op.Ret v) = refl
  result-any _ = refl

  cases-any : (o : Op) → switch_case s (item.Instr q o) ≡ switch_case s (item.Instr r o)
  cases-any (op.Switch t a n cs) = refl
  cases-any _ = refl

  width-any : (o : Op) → cast_width s (item.Instr q o) ≡ cast_width s (item.Instr r o)
  width-any (op.Cast c t a to) = refl
  width-any _ = refl

  pub asked-is : breaks_by defs kind entities signs locals result (item.Instr q o) o ≡ breaks_there s r o
  asked-is =
      let callee = callee-is ∙ callee-any o in
      let call = call-is ∙ call-any o in
      let returned = result-is ∙ result-any o in
      let cases = cases-are ∙ cases-any o in
      let width = width-is ∙ width-any o in
      λ i. either (unknown-is i) (either (large-is i) (either (scalars-are i) (either (names-are i) (either (differ-is i) (either (range-is i)
      (either (label-is i) (either (callee i) (either (call i) (either (returned i) (either (cases i) (either (path-is i)
      (either (entry-is i) (either (width i) false)))))))))))))
