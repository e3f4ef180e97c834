-- An instruction whose types aren't too large has a code.
use Rattle.std.proofs.Common.{◌≡◌, Bool, true, false, ◌||◌, List, [], ◌∷◌, ◌++◌, map, Option, Some, None, All, refl, sym, ◌∙◌}
use Rattle.std.specs.List.{list_any, flat_map}
use Rattle.std.specs.List.{AllByRecursion as Each}
use Rattle.std.proofs.lemmas.List.Elements.{All-from_recursion}
use Rattle.std.proofs.lemmas.List.Folds.{list_any-append}
use Rattle.ir_tree.specs.declared.name.Name.{Name}
use Rattle.ir_tree.specs.declared.type_text.TyText.{TyText}
use Rattle.ir_tree.specs.declared.operand.Opd.{Opd}
use Rattle.ir_tree.specs.declared.operand.Opd.TheVariants as opd
use Rattle.ir_tree.specs.declared.op.Op.{Op}
use Rattle.ir_tree.specs.declared.op.Op.TheVariants as op
use Rattle.ir_tree.specs.declared.item.Item.TheVariants as item
use Rattle.ir_rules.specs.Types.{TypeDefs, is_large}
use Rattle.ir_rules.specs.Parts.{Typed, maybe, opd_types, op_operands, types_of}
use Rattle.ir_op_codes.specs.Words.{IsFit}
use Rattle.ir_op_codes.specs.Settings.{IsFitMaybe, OpFits}

neither : (a b : Bool) → (a || b) ≡ false → (a ≡ false) × (b ≡ false)
neither true b h = cc
neither false b h = (refl, h)

module _ (defs : TypeDefs) where
  abbrev types_in : Typed → List TyText
  types_in v = v.0 ∷ opd_types v.1

  abbrev Fit : Typed → Type 0
  Fit v = IsFit defs v.1

  operand-fits : (t : TyText) (a : Opd) → list_any (is_large defs) (t ∷ opd_types a) ≡ false → IsFit defs a
  operand-fits t (opd.Get g) h =
      (neither (is_large defs g.0) (list_any (is_large defs) (g.1 ∷ map (λ i. i.0) g.3))
      (neither (is_large defs t) (list_any (is_large defs) (opd_types (opd.Get g))) h).1).0
  operand-fits t (opd.Local n) h = tt
  operand-fits t (opd.Global n) h = tt
  operand-fits t (opd.Number z) h = tt
  operand-fits t opd.True h = tt
  operand-fits t opd.False h = tt
  operand-fits t opd.Null h = tt
  operand-fits t opd.Undef h = tt
  operand-fits t opd.Poison h = tt
  operand-fits t opd.Zero h = tt

  operands-fit : (vs : List Typed) → list_any (is_large defs) (flat_map types_in vs) ≡ false → Each Fit vs
  operands-fit [] h = tt
  operands-fit (v ∷ vs) h =
      let both =
      neither (list_any (is_large defs) (types_in v)) (list_any (is_large defs) (flat_map types_in vs))
      (sym (list_any-append (is_large defs) (types_in v) (flat_map types_in vs)) ∙ h) in
      (operand-fits v.0 v.1 both.0, operands-fit vs both.1)

  entries-fit : (t : TyText) (es : List (Opd × Name)) → Each Fit (map (λ (e : Opd × Name). (t, e.0)) es) → Each (λ (e : Opd × Name). IsFit defs e.0) es
  entries-fit t [] all = tt
  entries-fit t (e ∷ es) all = (all.0, entries-fit t es all.1)

  maybe-fits : (v : Option Typed) → Each Fit (maybe v) → IsFitMaybe defs v
  maybe-fits None all = tt
  maybe-fits (Some v) all = all.0

  behind : (t : TyText) (vs : List Typed) → list_any (is_large defs) (t ∷ flat_map types_in vs) ≡ false → (is_large defs t ≡ false) × Each Fit vs
  behind t vs h = let both = neither (is_large defs t) (list_any (is_large defs) (flat_map types_in vs)) h in (both.0, operands-fit vs both.1)

  pub op-fits : (r : Option Name) (o : Op) → list_any (is_large defs) (types_of (item.Instr r o)) ≡ false → OpFits defs o
  op-fits r (op.Bin o t a b) h = let all = operands-fit ((t, a) ∷ (t, b) ∷ []) h in (all.0, all.1.0)
  op-fits r (op.Cmp p t a b) h = let all = operands-fit ((t, a) ∷ (t, b) ∷ []) h in (all.0, all.1.0)
  op-fits r (op.Select c i t a u b) h = let all = operands-fit ((c, i) ∷ (t, a) ∷ (u, b) ∷ []) h in (all.0, all.1.0, all.1.1.0)
  op-fits r (op.Cast c t a to) h = (behind to ((t, a) ∷ []) h).1.0
  op-fits r (op.Freeze t a) h = (operands-fit ((t, a) ∷ []) h).0
  op-fits r (op.Alloca t n) h = let all = behind t (maybe n) h in (all.0, maybe-fits n all.1)
  op-fits r (op.Load t u a) h = (behind t ((u, a) ∷ []) h).1.0
  op-fits r (op.Store t a u b) h = let all = operands-fit ((t, a) ∷ (u, b) ∷ []) h in (all.0, all.1.0)
  op-fits r (op.Get of t a is) h = let all = behind of ((t, a) ∷ is) h in (all.0, all.1.0, All-from_recursion Fit is all.1.1)
  op-fits r (op.Phi t es) h =
      All-from_recursion (λ (e : Opd × Name). IsFit defs e.0) es (entries-fit t es (behind t (op_operands (op.Phi t es)) h).1)
  op-fits r (op.Call t f xs) h = All-from_recursion Fit xs (behind t xs h).1
  op-fits r (op.Jump n) h = tt
  op-fits r (op.Branch t c a b) h = (operands-fit ((t, c) ∷ []) h).0
  op-fits r (op.Switch t a n cs) h = (operands-fit (op_operands (op.Switch t a n cs)) h).0
  op-fits r (op.Ret v) h = maybe-fits v (operands-fit (maybe v) h)
  op-fits r op.Unreachable h = tt
