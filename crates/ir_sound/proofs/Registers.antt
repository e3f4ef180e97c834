-- The registers of a function that keeps the rules: its parameters, and then the values of its instructions, each once.
use Rattle.std.proofs.Common.{◌≡◌, ℕ, zero, suc, ◌+◌, ◌<◌, ◌≤◌, Bool, true, false, ◌&&◌, List, [], ◌∷◌, ◌++◌, map, length, slice_get, nat_lt}
use Rattle.std.proofs.Common.{Option, Some, None, is_some, if◌then◌else◌, refl, sym, ap, ◌∙◌, subst, arith}
use Rattle.std.specs.List.{fold}
use Rattle.std.proofs.lemmas.List.{length-append}
use Rattle.std.proofs.lemmas.Bool.Decides.{nat_tests}
use Rattle.am_base.specs.declared.limits.TheConstants.{MAX_FUNCTION_REGISTERS}
use Rattle.code_form.specs.declared.code.TyScalar.{TyScalar}
use Rattle.ir_tree.specs.declared.name.Name.{Name}
use Rattle.ir_tree.specs.declared.type_text.TyText.{TyText}
use Rattle.ir_tree.specs.declared.op.Op.{Op}
use Rattle.ir_tree.specs.declared.item.Item.{Item}
use Rattle.ir_tree.specs.declared.item.Item.TheVariants as item
use Rattle.ir_rules.specs.declared.rule.Rule.TheVariants.{Limit}
use Rattle.ir_rules.specs.declared.scope.Scope.{Scope}
use Rattle.ir_rules.specs.Types.{Kinds}
use Rattle.ir_rules.specs.Scopes.{empty_scope, with_item, value_type, value_kind, kind_or_none, has_value, value_register}
use Rattle.ir_rules.specs.Settings.{Setting}
use Rattle.ir_rules.specs.Limits.{limit, passes_registers}
use Rattle.ir_rules.specs.Codes.{scalar_in}
use Rattle.ir_sound.proofs.Lists.{neither, get-last}
use Rattle.ir_sound.proofs.Scopes.{Grows, grows-itself, grows-on, grows-get, grows-length, item-grows, items-grow, op-types, kinds_list}
use Rattle.ir_sound.proofs.Places.{Place, places_in, placed, KeptFrom, IsBody}
use Rattle.ir_sound.proofs.InstrsFit.{Writes}

-- ---- limits

not-over : (m n : ℕ) → nat_lt m n ≡ false → n ≤ m
not-over m n h = grind (arith, nat_tests)

few-more : (s t : Scope) → passes_registers s t ≡ false → length s.types ≤ MAX_FUNCTION_REGISTERS → length t.types ≤ MAX_FUNCTION_REGISTERS
few-more s t h l = by (nat_lt (length s.types) (length t.types)) refl (nat_lt MAX_FUNCTION_REGISTERS (length t.types)) refl h
  where
    by : (a : Bool) → nat_lt (length s.types) (length t.types) ≡ a → (b : Bool) → nat_lt MAX_FUNCTION_REGISTERS (length t.types) ≡ b → (a && b) ≡ false
        → length t.types ≤ MAX_FUNCTION_REGISTERS
    by true e true f h = cc
    by true e false f h = not-over MAX_FUNCTION_REGISTERS (length t.types) f
    by false e b f h = (let m = not-over (length s.types) (length t.types) e in omega arith)

module _ (b : Setting) where
  body-few : (s : Scope) (xs : List Item) → length s.types ≤ MAX_FUNCTION_REGISTERS → KeptFrom b s xs → IsBody xs
      → length (fold (with_item b.kind) s xs).types ≤ MAX_FUNCTION_REGISTERS
  body-few s [] l k w = absurd w
  body-few s (item.End ∷ []) l k w = l
  body-few s (item.Label n ∷ xs) l k w = body-few (with_item b.kind s (item.Label n)) xs l k.1 w
  body-few s (item.Instr r o ∷ xs) l k w =
      let x = item.Instr r o in
      let full : limit (placed b s k.0.0) x ≡ false = k.0.1 Limit in
      body-few (with_item b.kind s x) xs (few-more s (with_item b.kind s x) (neither _ _ full).1 l) k.1 w
  body-few s (item.Head n t ps ∷ xs) l k w = absurd w
  body-few s (item.TypeDef n t ∷ xs) l k w = absurd w
  body-few s (item.Global n c t i ∷ xs) l k w = absurd w
  body-few s (item.Declare n t ts ∷ xs) l k w = absurd w
  body-few s (item.End ∷ x ∷ xs) l k w = absurd w

  pub function-few : (n : Name) (t : TyText) (ps : List (TyText × Option Name)) (xs : List Item) → KeptFrom b empty_scope (item.Head n t ps ∷ xs) → IsBody xs
      → length (fold (with_item b.kind) empty_scope (item.Head n t ps ∷ xs)).types ≤ MAX_FUNCTION_REGISTERS
  function-few n t ps xs k w =
      let x = item.Head n t ps in
      let full : limit (placed b empty_scope k.0.0) x ≡ false = k.0.1 Limit in
      body-few (with_item b.kind empty_scope x) xs (few-more empty_scope (with_item b.kind empty_scope x) (neither _ _ full).1 (omega arith)) k.1 w

-- ---- registers along the items

abbrev pub after : Kinds → Place → Scope
after k p = with_item k p.before (item.Instr p.result p.op)

pub place-before : (k : Kinds) (s : Scope) (xs : List Item) (j : ℕ) (p : Place) → slice_get (places_in k s xs) j ≡ Some p → Grows s.types p.before.types
place-before k s [] j p h = cc
place-before k s (item.Instr r o ∷ xs) zero p h =
    let same : record { before = s; result = r; op = o } ≡ p = cc in
    grows-itself s.types p.before.types (ap (λ (p : Place). p.before.types) (sym same))
place-before k s (item.Instr r o ∷ xs) (suc j) p h = grows-on s.types _ _ (item-grows k s (item.Instr r o))
    (place-before k (with_item k s (item.Instr r o)) xs j p h)
place-before k s (item.Label n ∷ xs) j p h = grows-on s.types _ _ (item-grows k s (item.Label n)) (place-before k (with_item k s (item.Label n)) xs j p h)
place-before k s (item.Head n t ps ∷ xs) j p h = grows-on s.types _ _ (item-grows k s (item.Head n t ps))
    (place-before k (with_item k s (item.Head n t ps)) xs j p h)
place-before k s (item.TypeDef n t ∷ xs) j p h = grows-on s.types _ _ (item-grows k s (item.TypeDef n t))
    (place-before k (with_item k s (item.TypeDef n t)) xs j p h)
place-before k s (item.Global n c t v ∷ xs) j p h = grows-on s.types _ _ (item-grows k s (item.Global n c t v))
    (place-before k (with_item k s (item.Global n c t v)) xs j p h)
place-before k s (item.Declare n t ts ∷ xs) j p h = grows-on s.types _ _ (item-grows k s (item.Declare n t ts))
    (place-before k (with_item k s (item.Declare n t ts)) xs j p h)
place-before k s (item.End ∷ xs) j p h = grows-on s.types _ _ (item-grows k s item.End) (place-before k (with_item k s item.End) xs j p h)

pub place-after : (k : Kinds) (s : Scope) (xs : List Item) (j : ℕ) (p : Place) → slice_get (places_in k s xs) j ≡ Some p
    → Grows (after k p).types (fold (with_item k) s xs).types
place-after k s [] j p h = cc
place-after k s (item.Instr r o ∷ xs) zero p h =
    let same : record { before = s; result = r; op = o } ≡ p = cc in
    let P : Place → Type 0 = λ p. Grows (after k p).types (fold (with_item k) s (item.Instr r o ∷ xs)).types in
    subst P same (items-grow k xs (with_item k s (item.Instr r o)))
place-after k s (item.Instr r o ∷ xs) (suc j) p h = place-after k (with_item k s (item.Instr r o)) xs j p h
place-after k s (item.Label n ∷ xs) j p h = place-after k (with_item k s (item.Label n)) xs j p h
place-after k s (item.Head n t ps ∷ xs) j p h = place-after k (with_item k s (item.Head n t ps)) xs j p h
place-after k s (item.TypeDef n t ∷ xs) j p h = place-after k (with_item k s (item.TypeDef n t)) xs j p h
place-after k s (item.Global n c t v ∷ xs) j p h = place-after k (with_item k s (item.Global n c t v)) xs j p h
place-after k s (item.Declare n t ts ∷ xs) j p h = place-after k (with_item k s (item.Declare n t ts)) xs j p h
place-after k s (item.End ∷ xs) j p h = place-after k (with_item k s item.End) xs j p h

-- a later instruction has all registers of an earlier one
place-order : (k : Kinds) (s : Scope) (xs : List Item) (i j : ℕ) (p q : Place) → i < j → slice_get (places_in k s xs) i ≡ Some p
    → slice_get (places_in k s xs) j ≡ Some q
    → Grows (after k p).types q.before.types
place-order k s [] i j p q l g h = cc
place-order k s (item.Instr r o ∷ xs) i zero p q l g h = absurd (omega arith)
place-order k s (item.Instr r o ∷ xs) zero (suc j) p q l g h =
    let same : record { before = s; result = r; op = o } ≡ p = cc in
    let P : Place → Type 0 = λ p. Grows (after k p).types q.before.types in
    subst P same (place-before k (with_item k s (item.Instr r o)) xs j q h)
place-order k s (item.Instr r o ∷ xs) (suc i) (suc j) p q l g h = place-order k (with_item k s (item.Instr r o)) xs i j p q (omega arith) g h
place-order k s (item.Label n ∷ xs) i j p q l g h = place-order k (with_item k s (item.Label n)) xs i j p q l g h
place-order k s (item.Head n t ps ∷ xs) i j p q l g h = place-order k (with_item k s (item.Head n t ps)) xs i j p q l g h
place-order k s (item.TypeDef n t ∷ xs) i j p q l g h = place-order k (with_item k s (item.TypeDef n t)) xs i j p q l g h
place-order k s (item.Global n c t v ∷ xs) i j p q l g h = place-order k (with_item k s (item.Global n c t v)) xs i j p q l g h
place-order k s (item.Declare n t ts ∷ xs) i j p q l g h = place-order k (with_item k s (item.Declare n t ts)) xs i j p q l g h
place-order k s (item.End ∷ xs) i j p q l g h = place-order k (with_item k s item.End) xs i j p q l g h

-- ---- the register of a value

pub get-map : (all : List (Option TyScalar)) (r : ℕ) (k : Option TyScalar) → slice_get all r ≡ Some k → slice_get (map scalar_in all) r ≡ Some (scalar_in k)
get-map [] r k h = cc
get-map (x ∷ all) zero k h = let same : x ≡ k = cc in ap (λ k. Some (scalar_in k)) same
get-map (x ∷ all) (suc r) k h = get-map all r k h

pub register-is : (s : Scope) (o : Op) (r : ℕ) → value_register s o ≡ Some r → r ≡ length s.types
register-is s o r h = by (has_value o) h
  where
    by : (b : Bool) → (if b then Some (length s.types) else None) ≡ Some r → r ≡ length s.types
    by true e = cc
    by false e = cc

after-types : (k : Kinds) (p : Place) → (after k p).types ≡ p.before.types ++ kinds_list (value_kind k p.op)
after-types k p = op-types k (record p.before { again = false; low = false }) p.result p.op

-- an instruction writes a register of its value's type, or none
pub place-writes : (k : Kinds) (p : Place) (all : List (Option TyScalar)) → Grows (after k p).types all
    → Writes (map scalar_in all) (value_register p.before p.op) (value_kind k p.op)
place-writes k p all g = by (value_type p.op) refl
  where
    by : (v : Option TyText) → value_type p.op ≡ v
        → Writes (map scalar_in all) (if is_some v then Some (length p.before.types) else None) (kind_or_none k v)
    by None e = refl
    by (Some t) e =
        let types : (after k p).types ≡ p.before.types ++ k t ∷ [] = after-types k p ∙ ap (λ v. p.before.types ++ kinds_list (kind_or_none k v)) e in
        let here : slice_get (after k p).types (length p.before.types) ≡ Some (k t) =
        ap (λ (l : List (Option TyScalar)). slice_get l (length p.before.types)) types ∙ get-last p.before.types (k t) in
        get-map all (length p.before.types) (k t) (grows-get (after k p).types all g (length p.before.types) (k t) here)

pub once : (k : Kinds) (s : Scope) (xs : List Item) (i j r : ℕ) (p q : Place) → slice_get (places_in k s xs) i ≡ Some p
    → slice_get (places_in k s xs) j ≡ Some q
    → value_register p.before p.op ≡ Some r → value_register q.before q.op ≡ Some r → i < j → ⊥
once k s xs i j r p q g h a b l =
    let first = register-is p.before p.op r a in
    let second = register-is q.before q.op r b in
    let more = grows-length (after k p).types q.before.types (place-order k s xs i j p q l g h) in
    let longer = longer-by (value_type p.op) refl a in
    omega arith
  where
    longer-by : (v : Option TyText) → value_type p.op ≡ v → (if is_some v then Some (length p.before.types) else None) ≡ Some r
        → length (after k p).types ≡ length p.before.types + 1
    longer-by None e h = cc
    longer-by (Some t) e h =
        let types : (after k p).types ≡ p.before.types ++ k t ∷ [] = after-types k p ∙ ap (λ v. p.before.types ++ kinds_list (kind_or_none k v)) e in
        ap (λ (l : List (Option TyScalar)). length l) types ∙ length-append p.before.types (k t ∷ [])
