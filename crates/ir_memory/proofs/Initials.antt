-- The bytes and the types of each form of an initialiser.
use Rattle.std.proofs.Common.{◌≡◌, ℕ, Bool, true, false, ◌||◌, List, [], ◌∷◌, ◌++◌, map, All, refl, sym, ap, ◌∙◌}
use Rattle.std.specs.List.{fold, flat_map, list_any}
use Rattle.std.specs.List.{AllByRecursion as Each}
use Rattle.std.proofs.lemmas.List.Elements.{All-from_recursion}
use Rattle.std.proofs.lemmas.List.Concat.{flat_map-append}
use Rattle.std.proofs.lemmas.List.Folds.{list_any-append, flat_map-map}
use Rattle.type_layout.specs.declared.ty.Ty.{Ty}
use Rattle.type_layout.specs.Types.{size_of}
use Rattle.ir_tree.specs.declared.type_text.TyText.{TyText}
use Rattle.ir_tree.specs.declared.operand.Opd.{Opd}
use Rattle.ir_tree.specs.declared.operand.Opd.TheVariants as opd
use Rattle.ir_tree.specs.declared.operand.Init.{Init}
use Rattle.ir_tree.specs.declared.operand.Init.TheVariants as initial
use Rattle.ir_tree.specs.declared.operand.Init.TheOpen.{Init-F}
use Rattle.ir_tree.specs.declared.operand.Init.TheFolds.{fold-roll-Init}
use Rattle.ir_rules.specs.Types.{TypeDefs, expanded, is_large}
use Rattle.ir_rules.specs.Parts.{Typed, opd_types, init_types, init_operands}
use Rattle.ir_rules.specs.Memory.{Addresses, constant_bytes, padded, with_field, bytes_step, init_bytes}
use Rattle.ir_memory.proofs.Walks.{operands-One, operands-Array, operands-Struct, types-Array, types-Struct}
use Rattle.ir_op_codes.specs.Words.{IsFit}
use Rattle.ir_memory.specs.Inits.{IsSmall, AreSmall, types_in, element, element_bytes}

-- ---- bytes

module _ (defs : TypeDefs) (addresses : Addresses) where
  abbrev Bytes : Type 0
  Bytes = Ty → List ℕ

  pub bytes-One : (t : Ty) (i : Init) (a : Opd) → i ≡ initial.One a → constant_bytes defs addresses t a ≡ init_bytes defs addresses i t
  unfolding init_bytes
  bytes-One t i a e =
      sym (ap (λ (i : Init). init_bytes defs addresses i t) (e ∙ sym (initial.rolls-One a))
      ∙ ap (λ (f : Bytes). f t) (fold-roll-Init Bytes (bytes_step defs addresses) (Init-F.One a)))

  pub bytes-Text : (t : Ty) (i : Init) (s : List ℕ) → i ≡ initial.Text s → s ≡ init_bytes defs addresses i t
  unfolding init_bytes
  bytes-Text t i s e =
      sym (ap (λ (i : Init). init_bytes defs addresses i t) (e ∙ sym (initial.rolls-Text s))
      ∙ ap (λ (f : Bytes). f t) (fold-roll-Init Bytes (bytes_step defs addresses) (Init-F.Text s)))

  pub bytes-Array : (t : Ty) (i : Init) (es : List (TyText × Init)) → i ≡ initial.Array es
      → flat_map (element_bytes defs addresses) es ≡ init_bytes defs addresses i t
  unfolding init_bytes
  bytes-Array t i es e =
      sym (ap (λ (i : Init). init_bytes defs addresses i t) (e ∙ sym (initial.rolls-Array es))
      ∙ ap (λ (f : Bytes). f t) (fold-roll-Init Bytes (bytes_step defs addresses) (Init-F.Array es))
      ∙ flat_map-map (λ (e : TyText × Bytes). e.1 (expanded defs e.0)) (element defs addresses) es)

  pub bytes-Struct : (t : Ty) (i : Init) (es : List (TyText × Init)) → i ≡ initial.Struct es
      → padded (size_of t) (fold (with_field defs) [] (map (element defs addresses) es)) ≡ init_bytes defs addresses i t
  unfolding init_bytes
  bytes-Struct t i es e =
      sym (ap (λ (i : Init). init_bytes defs addresses i t) (e ∙ sym (initial.rolls-Struct es))
      ∙ ap (λ (f : Bytes). f t) (fold-roll-Init Bytes (bytes_step defs addresses) (Init-F.Struct es)))

-- ---- types

or-none : (a b : Bool) → (a || b) ≡ false → (a ≡ false) × (b ≡ false)
or-none true b h = cc
or-none false b h = (refl, h)

module _ (defs : TypeDefs) where
  abbrev None : List TyText → Type 0
  None ts = list_any (is_large defs) ts ≡ false

  abbrev types : Typed → List TyText
  types v = v.0 ∷ opd_types v.1

  split : (ts us : List TyText) → None (ts ++ us) → None ts × None us
  split ts us h = or-none _ _ (sym (list_any-append (is_large defs) ts us) ∙ h)

  joined : (ts us : List TyText) → None ts → None us → None (ts ++ us)
  joined ts us h k = list_any-append (is_large defs) ts us ∙ (λ i. h i || k i)

  pub small-type : (t : TyText) (i : Init) → IsSmall defs t i → is_large defs t ≡ false
  small-type t i h = (or-none (is_large defs t) _ h).0

  opd-fit : (a : Opd) → None (opd_types a) → IsFit defs a
  opd-fit (opd.Get g) h = (or-none (is_large defs g.0) _ h).0
  opd-fit (opd.Local n) h = tt
  opd-fit (opd.Global n) h = tt
  opd-fit (opd.Number z) h = tt
  opd-fit opd.True h = tt
  opd-fit opd.False h = tt
  opd-fit opd.Null h = tt
  opd-fit opd.Undef h = tt
  opd-fit opd.Poison h = tt
  opd-fit opd.Zero h = tt

  inner : (t : TyText) (i : Init) → IsSmall defs t i → None (init_types i) × None (flat_map types (init_operands t i))
  inner t i h = let both = split (t ∷ init_types i) (flat_map types (init_operands t i)) h in ((or-none (is_large defs t) _ both.0).1, both.1)

  pub small-constant : (t : TyText) (i : Init) (a : Opd) → i ≡ initial.One a → IsSmall defs t i → IsFit defs a
  small-constant t i a e h =
      let one : None (flat_map types ((t, a) ∷ [])) = ap (λ (l : List Typed). list_any (is_large defs) (flat_map types l)) (operands-One t i a e) ∙ (inner t i h).1 in
      let own = (split (types (t, a)) [] one).0 in
      opd-fit a (or-none (is_large defs t) _ own).1

  each-small : (es : List (TyText × Init)) → None (flat_map (λ (e : TyText × Init). e.0 ∷ init_types e.1) es)
      → None (flat_map types (flat_map (λ (e : TyText × Init). init_operands e.0 e.1) es)) → Each (λ (e : TyText × Init). IsSmall defs e.0 e.1) es
  each-small [] h k = tt
  each-small (e ∷ es) h k =
      let rest = flat_map (λ (e : TyText × Init). init_operands e.0 e.1) es in
      let written = split (e.0 ∷ init_types e.1) (flat_map (λ (e : TyText × Init). e.0 ∷ init_types e.1) es) h in
      let operands = split (flat_map types (init_operands e.0 e.1)) (flat_map types rest)
      (ap (list_any (is_large defs)) (sym (flat_map-append types (init_operands e.0 e.1) rest)) ∙ k) in
      (joined (e.0 ∷ init_types e.1) (flat_map types (init_operands e.0 e.1)) written.0 operands.0, each-small es written.1 operands.1)

  pub small-array : (t : TyText) (i : Init) (es : List (TyText × Init)) → i ≡ initial.Array es → IsSmall defs t i → AreSmall defs es
  small-array t i es e h =
      All-from_recursion (λ (e : TyText × Init). IsSmall defs e.0 e.1) es
      (each-small es (ap (list_any (is_large defs)) (types-Array i es e) ∙ (inner t i h).0)
      (ap (λ (l : List Typed). list_any (is_large defs) (flat_map types l)) (operands-Array t i es e) ∙ (inner t i h).1))

  pub small-struct : (t : TyText) (i : Init) (es : List (TyText × Init)) → i ≡ initial.Struct es → IsSmall defs t i → AreSmall defs es
  small-struct t i es e h =
      All-from_recursion (λ (e : TyText × Init). IsSmall defs e.0 e.1) es
      (each-small es (ap (list_any (is_large defs)) (types-Struct i es e) ∙ (inner t i h).0)
      (ap (λ (l : List Typed). list_any (is_large defs) (flat_map types l)) (operands-Struct t i es e) ∙ (inner t i h).1))
