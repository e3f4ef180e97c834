-- The operands of an instruction that keeps the rules have their types in the code.
use Rattle.std.proofs.Common.{◌≡◌, ◌⊎◌, inl, inr, ℕ, ◌<◌, ◌^◌, true, false, List, [], ◌∷◌, ◌++◌, map}
use Rattle.std.proofs.Common.{slice_get, Option, Some, None, is_none, pos, negsuc, ℤ, ◌+ℤ◌, lit<, refl, sym, ap, ◌∙◌, subst, arith}
use Rattle.std.proofs.lemmas.Nat.{mod_below}
use Rattle.std.specs.Cmp.Lexicographic.{pointwise}
use Rattle.std.specs.List.{list_any}
use Rattle.am_base.specs.declared.word.Width.{Width}
use Rattle.am_base.specs.declared.word.Width.TheVariants.{W1, W8, W16, W32, W64}
use Rattle.am_base.specs.Word.{IsWord, word_of, bits_of}
use Rattle.code_form.specs.declared.code.TyScalar.{TyScalar}
use Rattle.code_form.specs.declared.code.TyScalar.TheVariants.{Int, Ptr}
use Rattle.code_form.specs.Sound.{width_of, HasType, HasWidth, HaveTypes}
use Rattle.ir_tree.specs.declared.name.Name.{Name}
use Rattle.ir_tree.specs.declared.type_text.TyText.{TyText, roll-TyText, out-TyText, roll-out-TyText}
use Rattle.ir_tree.specs.declared.type_text.TyText.TheVariants as text
use Rattle.ir_tree.specs.declared.type_text.TyText.TheOpen.{TyText-F}
use Rattle.ir_tree.specs.declared.operand.Opd.{Opd}
use Rattle.ir_tree.specs.declared.operand.Opd.TheVariants as opd
use Rattle.ir_tree.specs.declared.op.Op.{Op}
use Rattle.ir_tree.specs.declared.op.Op.TheVariants as op
use Rattle.ir_tree.specs.declared.item.Item.TheVariants as item
use Rattle.ir_rules.specs.declared.local.Local.{Local}
use Rattle.ir_rules.specs.declared.local.Local.TheVariants.{Value, NoType, Block}
use Rattle.ir_rules.specs.Types.{Kinds, same_width, same_scalar, same_kind, is_large, result_kind}
use Rattle.ir_rules.specs.Scopes.{value_kind}
use Rattle.ir_rules.specs.Parts.{Typed, types_of, own_types, element_types, op_types, op_operands, op_scalars, unless_void, constant_indices}
use Rattle.ir_rules.specs.Settings.{Setting, local_of}
use Rattle.ir_rules.specs.Operands.{local_has, has_type, operand_differs, no_integer, no_pointer, no_condition, type_not_taken, op_differs}
use Rattle.ir_rules.specs.Memory.{Addresses, address_in, literal_part, steps_of}
use Rattle.ir_rules.specs.Paths.{kind_width, index_operand}
use Rattle.ir_rules.specs.Codes.{scalar_in, register_of, operand_code, typed_code, width_in}
use Rattle.ir_sound.proofs.Lists.{no, neither, both, Each, none-each, each-left, each-right, each-map, each-both, each-weaker}
use Rattle.ir_sound.proofs.Places.{KeepsOp}

-- ---- equal types

pub width-same : (v w : Width) → same_width v w ≡ true → v ≡ w
width-same W1 W1 h = refl
width-same W8 W8 h = refl
width-same W16 W16 h = refl
width-same W32 W32 h = refl
width-same W64 W64 h = refl
width-same _ _ h = cc

pub scalar-same : (t u : TyScalar) → same_scalar t u ≡ true → t ≡ u
scalar-same (Int v) (Int w) h = ap Int (width-same v w h)
scalar-same Ptr Ptr h = refl
scalar-same (Int v) Ptr h = cc
scalar-same Ptr (Int v) h = cc

pub kind-same : (t u : Option TyScalar) → same_kind t u ≡ true → t ≡ u
kind-same None None h = refl
kind-same (Some t) (Some u) h = ap Some (scalar-same t u h)
kind-same None (Some u) h = cc
kind-same (Some t) None h = cc

pub kinds-same : (ts us : List (Option TyScalar)) → pointwise same_kind ts us ≡ true → ts ≡ us
kinds-same [] [] h = refl
kinds-same [] (u ∷ us) h = cc
kinds-same (t ∷ ts) [] h = cc
kinds-same (t ∷ ts) (u ∷ us) h =
    let two = both _ _ h in
    let first = kind-same t u two.0 in
    let rest = kinds-same ts us two.1 in
    ap (λ v. v ∷ ts) first ∙ ap (λ l. u ∷ l) rest

-- ---- words

pub one-fits : (w : Width) → 1 < 2 ^ bits_of w
one-fits W1 = lit< tt
one-fits W8 = lit< tt
one-fits W16 = lit< tt
one-fits W32 = lit< tt
one-fits W64 = lit< tt

pub zero-fits : (w : Width) → 0 < 2 ^ bits_of w
zero-fits w = omega (arith, one-fits w)

pub word-fits : (w : Width) (z : ℤ) → IsWord w (word_of w z)
word-fits w (pos n) = omega (arith, one-fits w, mod_below n (2 ^ bits_of w) (zero-fits w))
word-fits w (negsuc n) = omega (arith, one-fits w, mod_below n (2 ^ bits_of w) (zero-fits w))

-- ---- what a type that is wanted is

pub integer : (o : Option TyScalar) (k : TyScalar) → o ≡ Some k → no_integer o ≡ false → (w : Width) × (k ≡ Int w)
integer o (Int w) e h = (w, refl)
integer o Ptr e h = let no : true ≡ false = sym (ap no_integer e) ∙ h in cc

pub pointer : (o : Option TyScalar) (k : TyScalar) → o ≡ Some k → no_pointer o ≡ false → k ≡ Ptr
pointer o (Int w) e h = let no : true ≡ false = sym (ap no_pointer e) ∙ h in cc
pointer o Ptr e h = refl

pub condition : (o : Option TyScalar) (k : TyScalar) → o ≡ Some k → no_condition o ≡ false → k ≡ Int W1
condition o k e h = sym (scalar-same (Int W1) k (no _ (sym (ap no_condition e) ∙ h)))

some-kind : (o : Option TyScalar) → is_none o ≡ false → (k : TyScalar) × (o ≡ Some k)
some-kind (Some k) h = (k, refl)
some-kind None h = cc

-- a result is of no type, or of its own
abbrev Result : TyText → Type 0
Result t = (f : Name) (xs : List Typed) (kind : Kinds)
    → ((value_kind kind (op.Call t f xs) ≡ None) × (result_kind kind t ≡ None))
    ⊎ ((value_kind kind (op.Call t f xs) ≡ Some (kind t)) × (result_kind kind t ≡ Some (kind t)) × (unless_void t ≡ t ∷ []))

results : (x : TyText-F TyText) → Result (roll-TyText x)
results (TyText-F.Int w) = subst Result (sym (text.rolls-Int w)) (λ f xs kind. inr (refl, refl, refl))
results TyText-F.Ptr = subst Result (sym text.rolls-Ptr) (λ f xs kind. inr (refl, refl, refl))
results TyText-F.Void = subst Result (sym text.rolls-Void) (λ f xs kind. inl (refl, refl))
results (TyText-F.Array n u) = subst Result (sym (text.rolls-Array n u)) (λ f xs kind. inr (refl, refl, refl))
results (TyText-F.Struct ts) = subst Result (sym (text.rolls-Struct ts)) (λ f xs kind. inr (refl, refl, refl))
results (TyText-F.Named n) = subst Result (sym (text.rolls-Named n)) (λ f xs kind. inr (refl, refl, refl))

pub call-result : (t : TyText) → Result t
call-result t = subst Result (roll-out-TyText t) (results (out-TyText t))

-- ---- operands

-- the registers that the names stand for have their types, and globals lie in memory
pub record Lays (s : Setting) (addresses : Addresses) (types : List TyScalar) : Type 0 where
  pub registers : (n : Name) (t : TyScalar) (r : ℕ) → local_of s n ≡ Some (Value (Some t) r) → slice_get types r ≡ Some t
  pub within : (n : Name) → address_in addresses n < 2 ^ 64

-- the operand is of the integer or pointer that is written before it
abbrev pub Fine : Setting → Typed → Type 0
Fine s v = (k : TyScalar) × (s.kind v.0 ≡ Some k) × (has_type s k v.1 ≡ true)

abbrev pub Known : Setting → TyText → Type 0
Known s t = (k : TyScalar) × (s.kind t ≡ Some k)

module _ (s : Setting) (addresses : Addresses) (types : List TyScalar) (lays : Lays s addresses types) where
  local-typed : (n : Name) (t : TyScalar) (l : Option Local) → local_of s n ≡ l → local_has l t ≡ true → slice_get types (register_of (local_of s n)) ≡ Some t
  local-typed n t (Some (Value (Some u) r)) e h =
      let same = scalar-same u t h in
      ap (λ l. slice_get types (register_of l)) e ∙ lays.registers n u r e ∙ ap Some same
  local-typed n t (Some (Value None r)) e h = cc
  local-typed n t (Some NoType) e h = cc
  local-typed n t (Some (Block b)) e h = cc
  local-typed n t None e h = cc

  operand-typed : (t : TyScalar) (a : Opd) → has_type s t a ≡ true → HasType types t (operand_code s addresses (width_of t) a)
  operand-typed t (opd.Local n) h = local-typed n t (local_of s n) refl h
  operand-typed t (opd.Global n) h = let P : TyScalar → Type 0 = λ u. IsWord (width_of u) (address_in addresses n) in
      subst P (scalar-same Ptr t h) (lays.within n)
  operand-typed t (opd.Number z) h = word-fits (width_of t) z
  operand-typed t opd.True h = one-fits (width_of t)
  operand-typed t opd.False h = zero-fits (width_of t)
  operand-typed t opd.Null h = zero-fits (width_of t)
  operand-typed t opd.Undef h = zero-fits (width_of t)
  operand-typed t opd.Poison h = zero-fits (width_of t)
  operand-typed t opd.Zero h = zero-fits (width_of t)
  operand-typed t (opd.Get g) h =
      let z : ℤ = pos (address_in addresses g.2) +ℤ literal_part s.types (steps_of s.types g.0 (map index_operand g.3)) in
      let P : TyScalar → Type 0 = λ u. IsWord (width_of u) (word_of W64 z) in
      subst P (scalar-same Ptr t h) (word-fits W64 z)

  -- in the code such an operand has the type
  pub typed : (v : Typed) (f : Fine s v) → HasType types f.0 (typed_code s addresses v.0 v.1)
  typed v f =
      let P : Width → Type 0 = λ w. HasType types f.0 (operand_code s addresses w v.1) in
      let width : width_of f.0 ≡ width_in s v.0 = ap kind_width (sym f.1) in
      subst P width (operand-typed f.0 v.1 f.2)

  -- the same where the type is known otherwise
  pub typed-as : (v : Typed) (f : Fine s v) (t : TyScalar) → f.0 ≡ t → HasType types t (typed_code s addresses v.0 v.1)
  typed-as v f t e = let P : TyScalar → Type 0 = λ k. HasType types k (typed_code s addresses v.0 v.1) in subst P e (typed v f)

  pub wide : (v : Typed) (f : Fine s v) → HasWidth types (width_in s v.0) (typed_code s addresses v.0 v.1)
  wide v f = (f.0, typed v f, ap kind_width (sym f.1))

  -- arguments have the types of parameters that they are compared with
  pub typed-each : (xs : List Typed) (us : List (Option TyScalar)) → Each (Fine s) xs → pointwise same_kind (map s.kind (map (λ (x : Typed). x.0) xs)) us ≡ true
      → HaveTypes types (map scalar_in us) (map (λ (x : Typed). typed_code s addresses x.0 x.1) xs)
  typed-each [] [] f h = tt
  typed-each [] (u ∷ us) f h = cc
  typed-each (x ∷ xs) [] f h = cc
  typed-each (x ∷ xs) (u ∷ us) f h =
      let two = both _ _ h in
      let same : s.kind x.0 ≡ u = kind-same (s.kind x.0) u two.0 in
      (typed-as x f.0 (scalar_in u) (ap scalar_in (sym f.0.1 ∙ same)), typed-each xs us f.1 two.1)

-- ---- from the rules

fine : (s : Setting) (v : Typed) → (is_none (s.kind v.0) ≡ false) × (operand_differs s (s.kind v.0) v.1 ≡ false) → Fine s v
fine s v h =
    let k = some-kind (s.kind v.0) h.0 in
    (k.0, k.1, no _ (sym (ap (λ o. operand_differs s o v.1) k.1) ∙ h.1))

module _ (s : Setting) (r : Option Name) (o : Op) (keeps : KeepsOp s (item.Instr r o)) where
  wanted : Each (λ t. is_none (s.kind t) ≡ false) (op_scalars o ++ map (λ (v : Typed). v.0) (op_operands o)
      ++ map (λ (i : TyText × ℤ). i.0) (constant_indices (item.Instr r o)))
  wanted = none-each (λ t. is_none (s.kind t)) _ keeps.scalar

  differs : op_differs s o ≡ false
  differs = (neither _ _ keeps.types).0

  -- types that have to be scalar are
  pub known : Each (Known s) (op_scalars o)
  known = each-weaker _ (Known s) (λ t h. some-kind (s.kind t) h) (op_scalars o)
      (each-left _ (op_scalars o) _ (each-left _ (op_scalars o ++ map (λ (v : Typed). v.0) (op_operands o)) _ wanted))

  -- each operand is of its type
  pub operands : Each (Fine s) (op_operands o)
  operands =
      let scalar = each-map _ (λ (v : Typed). v.0) (op_operands o)
      (each-right _ (op_scalars o) _ (each-left _ (op_scalars o ++ map (λ (v : Typed). v.0) (op_operands o)) _ wanted)) in
      let same = none-each (λ (v : Typed). operand_differs s (s.kind v.0) v.1) (op_operands o) (neither _ _ differs).0 in
      each-weaker _ (Fine s) (fine s) (op_operands o) (each-both _ _ (op_operands o) scalar same)

  -- and of one that the instruction takes
  pub taken : type_not_taken s o ≡ false
  taken = (neither (list_any (λ (v : Typed). operand_differs s (s.kind v.0) v.1) (op_operands o)) _ differs).1

  -- no type in it is over the memory
  pub large : Each (λ t. is_large s.types t ≡ false) (op_types o)
  large =
      let x = item.Instr r o in
      let all = none-each (is_large s.types) (types_of x) keeps.large in
      each-left _ (op_types o) _ (each-left _ (own_types x ++ element_types x) _ all)
