-- An initialiser that fits a type has as many bytes as the type.
use Rattle.std.proofs.Common.{◌≡◌, ℕ, zero, suc, ◌+◌, ◌-◌, ◌*◌, ◌/◌, ◌≤◌, Bool, true, List, [], ◌∷◌, ◌++◌, map, length, replicate}
use Rattle.std.proofs.Common.{nat_eq, Option, Some, None, refl, sym, ap, ◌∙◌, subst, arith}
use Rattle.std.specs.List.{fold, flat_map}
use Rattle.std.proofs.lemmas.List.{length-append, length-replicate, length-map}
use Rattle.std.proofs.lemmas.Bool.Decides.{Decides-eqb}
use Rattle.am_base.specs.declared.word.Width.TheVariants.{W8}
use Rattle.code_form.specs.declared.code.TyScalar.{TyScalar}
use Rattle.code_form.specs.declared.code.TyScalar.TheVariants as scalar
use Rattle.type_layout.specs.Layout.{round_up, bytes_of}
use Rattle.type_layout.specs.declared.ty.Ty.{Ty, roll-Ty, out-Ty, map-Ty, roll-out-Ty}
use Rattle.type_layout.specs.declared.ty.Ty.TheVariants as ty
use Rattle.type_layout.specs.declared.ty.Ty.TheOpen.{Ty-F}
use Rattle.type_layout.specs.declared.ty.Ty.TheFolds.{ind-Ty, fold-roll-Ty}
use Rattle.type_layout.specs.Types.{Layout, layout_of, layout_step, size_of, align_of, end_after}
use Rattle.ir_tree.specs.declared.type_text.TyText.{TyText}
use Rattle.ir_tree.specs.declared.operand.Opd.{Opd}
use Rattle.ir_tree.specs.declared.operand.Init.{Init, roll-Init, map-Init}
use Rattle.ir_tree.specs.declared.operand.Init.TheOpen.{Init-F}
use Rattle.ir_tree.specs.declared.operand.Init.TheFolds.{ind-Init, fold-roll-Init}
use Rattle.ir_rules.specs.Types.{TypeDefs, expanded, scalar_of, all_agree}
use Rattle.ir_rules.specs.Initialisers.{same_type, same_type_step, text_fits, element_fits, each_fits, array_fits, fields_fit, struct_fits, fits_step}
use Rattle.ir_rules.specs.Initialisers.{init_fits}
use Rattle.ir_rules.specs.Paths.{kind_width}
use Rattle.ir_rules.specs.Memory.{Addresses, constant_word, little_endian, padded, constant_bytes, with_field, bytes_step, init_bytes}
use Rattle.ir_sound.proofs.Lists.{both}
use Rattle.ir_sound.proofs.Layouts.{level-is}
use Rattle.ir_sound.proofs.Operands.{width-same, kind-same}

-- ---- types of one structure are one type

abbrev Same : Ty → Type 0
Same t = (u : Ty) → same_type t u ≡ true → t ≡ u

abbrev Child : Type 0
Child = (t : Ty) × Same t

fields-same : (cs : List Child) (us : List Ty) → all_agree (map same_type (map (λ (c : Child). c.0) cs)) us ≡ true → map (λ (c : Child). c.0) cs ≡ us
fields-same [] [] h = refl
fields-same [] (u ∷ us) h = cc
fields-same (c ∷ cs) [] h = cc
fields-same (c ∷ cs) (u ∷ us) h =
    let two = both _ _ h in
    let first = c.1 u two.0 in
    let rest = fields-same cs us two.1 in
    ap (λ v. v ∷ map (λ (c : Child). c.0) cs) first ∙ ap (λ l. u ∷ l) rest

same-levels : (y : Ty-F Child) (z : Ty-F Ty) → same_type_step (map-Ty Ty (Ty → Bool) same_type (map-Ty Child Ty (λ c. c.0) y)) z ≡ true
    → map-Ty Child Ty (λ c. c.0) y ≡ z
same-levels (Ty-F.Int v) (Ty-F.Int w) h = ap (λ w. Ty-F.Int w) (width-same v w h)
same-levels Ty-F.Ptr Ty-F.Ptr h = refl
same-levels (Ty-F.Array m c) (Ty-F.Array n u) h =
    let two = both _ _ h in
    let length = (Decides-eqb m n).0 two.0 in
    let of = c.1 u two.1 in
    ap (λ m. Ty-F.Array m c.0) length ∙ ap (λ u. Ty-F.Array n u) of
same-levels (Ty-F.Struct cs) (Ty-F.Struct us) h = ap (λ l. Ty-F.Struct l) (fields-same cs us h)
same-levels (Ty-F.Int v) Ty-F.Ptr h = cc
same-levels (Ty-F.Int v) (Ty-F.Array n u) h = cc
same-levels (Ty-F.Int v) (Ty-F.Struct us) h = cc
same-levels Ty-F.Ptr (Ty-F.Int w) h = cc
same-levels Ty-F.Ptr (Ty-F.Array n u) h = cc
same-levels Ty-F.Ptr (Ty-F.Struct us) h = cc
same-levels (Ty-F.Array m c) (Ty-F.Int w) h = cc
same-levels (Ty-F.Array m c) Ty-F.Ptr h = cc
same-levels (Ty-F.Array m c) (Ty-F.Struct us) h = cc
same-levels (Ty-F.Struct cs) (Ty-F.Int w) h = cc
same-levels (Ty-F.Struct cs) Ty-F.Ptr h = cc
same-levels (Ty-F.Struct cs) (Ty-F.Array n u) h = cc

same-level : (y : Ty-F Child) → Same (roll-Ty (map-Ty Child Ty (λ c. c.0) y))
unfolding same_type
same-level y u h =
    let x = map-Ty Child Ty (λ (c : Child). c.0) y in
    let step = λ (x : Ty-F (Ty → Bool)) (u : Ty). same_type_step x (out-Ty u) in
    let level : same_type (roll-Ty x) u ≡ same_type_step (map-Ty Ty (Ty → Bool) same_type x) (out-Ty u) = λ i. fold-roll-Ty (Ty → Bool) step x i u in
    ap roll-Ty (same-levels y (out-Ty u) (sym level ∙ h)) ∙ roll-out-Ty u

pub same-type : (t u : Ty) → same_type t u ≡ true → t ≡ u
same-type = ind-Ty Same (λ x y e. subst (λ (x : Ty-F Ty). Same (roll-Ty x)) e (same-level y))

-- ---- a byte

abbrev ByteSize : Ty → Type 0
ByteSize t = scalar_of t ≡ Some (scalar.Int W8) → size_of t ≡ 1

byte-level : (x : Ty-F Ty) → ByteSize (roll-Ty x)
byte-level (Ty-F.Int w) =
    subst ByteSize (sym (ty.rolls-Int w)) (λ h. (let same : w ≡ W8 = cc in ap (λ t. size_of t) (sym (ty.rolls-Int w))
    ∙ ap (λ (l : Layout). l.size) (fold-roll-Ty Layout layout_step (Ty-F.Int w)) ∙ ap bytes_of same))
byte-level Ty-F.Ptr = subst ByteSize (sym ty.rolls-Ptr) (λ h. cc)
byte-level (Ty-F.Array n u) = subst ByteSize (sym (ty.rolls-Array n u)) (λ h. cc)
byte-level (Ty-F.Struct us) = subst ByteSize (sym (ty.rolls-Struct us)) (λ h. cc)

byte-size : (t : Ty) → ByteSize t
byte-size t = subst ByteSize (roll-out-Ty t) (byte-level (out-Ty t))

-- ---- lengths

map-map : {A B C : Type 0} (g : B → C) (f : A → B) (h : A → C) → ((x : A) → g (f x) ≡ h x) → (xs : List A) → map g (map f xs) ≡ map h xs
map-map g f h same [] = refl
map-map g f h same (x ∷ xs) = λ i. same x i ∷ map-map g f h same xs i

pub length-padded : (n : ℕ) (bytes : List ℕ) → length bytes ≤ n → length (padded n bytes) ≡ n
length-padded n bytes h = omega (arith, length-append bytes (replicate (n - length bytes) 0), length-replicate {A = ℕ} (n - length bytes) 0)

length-little : (k n : ℕ) → length (little_endian k n) ≡ k
length-little zero n = refl
length-little (suc k) n = ap suc (length-little k (n / 256))

module _ (defs : TypeDefs) (addresses : Addresses) where
  length-constant : (t : Ty) (a : Opd) → length (constant_bytes defs addresses t a) ≡ size_of t
  length-constant t a = by (scalar_of t)
    where
      by : (o : Option TyScalar) → length (elim o as (λ v. List ℕ) [
        | None ↦ replicate (size_of t) 0
        | Some k ↦ little_endian (size_of t) (constant_word defs addresses (kind_width (Some k)) a)
      ]) ≡ size_of t
      by None = length-replicate {A = ℕ} (size_of t) 0
      by (Some k) = length-little (size_of t) _

  length-text : (s : List ℕ) (t : Ty) (x : Ty-F Ty) → out-Ty t ≡ x → text_fits s x ≡ true → length s ≡ size_of t
  length-text s t (Ty-F.Array n u) e h =
      let two = both _ _ h in
      let long : length s ≡ n = (Decides-eqb (length s) n).0 two.0 in
      let one : size_of u ≡ 1 = byte-size u (kind-same (scalar_of u) (Some (scalar.Int W8)) two.1) in
      let whole : size_of t ≡ n * size_of u = ap (λ (l : Layout). l.size) (level-is t (Ty-F.Array n u) e) in
      let all : n * size_of u ≡ n * 1 = ap (λ k. n * k) one in
      omega arith
  length-text s t (Ty-F.Int w) e h = cc
  length-text s t Ty-F.Ptr e h = cc
  length-text s t (Ty-F.Struct us) e h = cc

  abbrev Long : Init → Type 0
  Long i = (t : Ty) → init_fits defs i t ≡ true → length (init_bytes defs addresses i t) ≡ size_of t

  abbrev Part : Type 0
  Part = (i : Init) × Long i

  abbrev tests : List (TyText × Part) → List (TyText × (Ty → Bool))
  tests ps = map (λ (p : TyText × Part). (p.0, init_fits defs p.1.0)) ps

  abbrev parts : List (TyText × Part) → List (TyText × (Ty → List ℕ))
  parts ps = map (λ (p : TyText × Part). (p.0, init_bytes defs addresses p.1.0)) ps

  length-part : (p : TyText × Part) (u : Ty) → element_fits defs (p.0, init_fits defs p.1.0) u ≡ true
      → (length (init_bytes defs addresses p.1.0 (expanded defs p.0)) ≡ size_of u) × (expanded defs p.0 ≡ u)
  length-part p u h =
      let two = both (same_type (expanded defs p.0) u) (init_fits defs p.1.0 u) h in
      let same = same-type (expanded defs p.0) u two.0 in
      (ap (λ t. length (init_bytes defs addresses p.1.0 t)) same ∙ p.1.1 u two.1, same)

  length-array : (ps : List (TyText × Part)) (u : Ty) → each_fits defs (tests ps) u ≡ true
      → length (flat_map (λ (e : TyText × (Ty → List ℕ)). e.1 (expanded defs e.0)) (parts ps)) ≡ length ps * size_of u
  length-array [] u h = omega arith
  length-array (p ∷ ps) u h =
      let two = both (element_fits defs (p.0, init_fits defs p.1.0) u) _ h in
      let one = (length-part p u two.0).0 in
      let rest = length-array ps u two.1 in
      let bytes = init_bytes defs addresses p.1.0 (expanded defs p.0) in
      let more = flat_map (λ (e : TyText × (Ty → List ℕ)). e.1 (expanded defs e.0)) (parts ps) in
      let all : suc (length ps) * size_of u ≡ size_of u + length ps * size_of u = omega arith in
      length-append bytes more ∙ ap (λ n. n + length more) one ∙ ap (λ n. size_of u + n) rest ∙ sym all

  length-fields : (ps : List (TyText × Part)) (us : List Ty) (bytes : List ℕ) → fields_fit defs (tests ps) us ≡ true
      → length (fold (with_field defs) bytes (parts ps)) ≡ end_after (length bytes) (map layout_of us)
  length-fields [] [] bytes h = refl
  length-fields [] (u ∷ us) bytes h = cc
  length-fields (p ∷ ps) [] bytes h = cc
  length-fields (p ∷ ps) (u ∷ us) bytes h =
      let two = both (element_fits defs (p.0, init_fits defs p.1.0) u) _ h in
      let one = length-part p u two.0 in
      let own = init_bytes defs addresses p.1.0 (expanded defs p.0) in
      let at = round_up (length bytes) (align_of (expanded defs p.0)) in
      let next = padded at bytes ++ own in
      let long : length next ≡ round_up (length bytes) (align_of u) + size_of u =
      length-append (padded at bytes) own
      ∙ ap (λ n. n + length own) (length-padded at bytes (omega arith))
      ∙ ap (λ n. at + n) one.0
      ∙ ap (λ t. round_up (length bytes) (align_of t) + size_of u) one.1 in
      length-fields ps us next two.1 ∙ ap (λ n. end_after n (map layout_of us)) long

  abbrev Level : Init-F Init → Type 0
  Level x = (t : Ty) → fits_step defs (map-Init Init (Ty → Bool) (init_fits defs) x) t ≡ true
      → length (bytes_step defs addresses (map-Init Init (Ty → List ℕ) (init_bytes defs addresses) x) t) ≡ size_of t

  from-level : (x : Init-F Init) → Level x → Long (roll-Init x)
  unfolding init_fits init_bytes
  from-level x h t e =
      let fits : init_fits defs (roll-Init x) t ≡ fits_step defs (map-Init Init (Ty → Bool) (init_fits defs) x) t =
      λ i. fold-roll-Init (Ty → Bool) (fits_step defs) x i t in
      let bytes : init_bytes defs addresses (roll-Init x) t ≡ bytes_step defs addresses (map-Init Init (Ty → List ℕ) (init_bytes defs addresses) x) t =
      λ i. fold-roll-Init (Ty → List ℕ) (bytes_step defs addresses) x i t in
      ap (λ (l : List ℕ). length l) bytes ∙ h t (sym fits ∙ e)

  array-level : (ps : List (TyText × Part)) (t : Ty) (x : Ty-F Ty) → out-Ty t ≡ x → array_fits defs (tests ps) x ≡ true
      → length (flat_map (λ (e : TyText × (Ty → List ℕ)). e.1 (expanded defs e.0)) (parts ps)) ≡ size_of t
  array-level ps t (Ty-F.Array n u) e h =
      let two = both (nat_eq (length (tests ps)) n) _ h in
      let count : length (tests ps) ≡ n = (Decides-eqb (length (tests ps)) n).0 two.0 in
      let long = length-map ps (λ (p : TyText × Part). (p.0, init_fits defs p.1.0)) in
      let same : length ps ≡ n = sym long ∙ count in
      let whole : size_of t ≡ n * size_of u = ap (λ (l : Layout). l.size) (level-is t (Ty-F.Array n u) e) in
      length-array ps u two.1 ∙ ap (λ k. k * size_of u) same ∙ sym whole
  array-level ps t (Ty-F.Int w) e h = cc
  array-level ps t Ty-F.Ptr e h = cc
  array-level ps t (Ty-F.Struct us) e h = cc

  struct-level : (ps : List (TyText × Part)) (t : Ty) (x : Ty-F Ty) → out-Ty t ≡ x → struct_fits defs (tests ps) x ≡ true
      → length (padded (size_of t) (fold (with_field defs) [] (parts ps))) ≡ size_of t
  struct-level ps t (Ty-F.Struct us) e h =
      let long = length-fields ps us [] h in
      let whole = ap (λ (l : Layout). l.size) (level-is t (Ty-F.Struct us) e) in
      length-padded (size_of t) (fold (with_field defs) [] (parts ps)) (omega arith)
  struct-level ps t (Ty-F.Int w) e h = cc
  struct-level ps t Ty-F.Ptr e h = cc
  struct-level ps t (Ty-F.Array n u) e h = cc

  levels : (y : Init-F Part) → Level (map-Init Part Init (λ c. c.0) y)
  levels (Init-F.One a) t h = length-constant t a
  levels (Init-F.Text s) t h = length-text s t (out-Ty t) refl h
  levels (Init-F.Array ps) t h =
      let fits : array_fits defs (tests ps) (out-Ty t) ≡ true =
      ap (λ (l : List (TyText × (Ty → Bool))). array_fits defs l (out-Ty t))
      (sym (map-map _ _ (λ (p : TyText × Part). (p.0, init_fits defs p.1.0)) (λ p. refl) ps)) ∙ h in
      ap (λ (l : List (TyText × (Ty → List ℕ))). length (flat_map (λ (e : TyText × (Ty → List ℕ)). e.1 (expanded defs e.0)) l))
      (map-map _ _ (λ (p : TyText × Part). (p.0, init_bytes defs addresses p.1.0)) (λ p. refl) ps)
      ∙ array-level ps t (out-Ty t) refl fits
  levels (Init-F.Struct ps) t h =
      let fits : struct_fits defs (tests ps) (out-Ty t) ≡ true =
      ap (λ (l : List (TyText × (Ty → Bool))). struct_fits defs l (out-Ty t))
      (sym (map-map _ _ (λ (p : TyText × Part). (p.0, init_fits defs p.1.0)) (λ p. refl) ps)) ∙ h in
      ap (λ (l : List (TyText × (Ty → List ℕ))). length (padded (size_of t) (fold (with_field defs) [] l)))
      (map-map _ _ (λ (p : TyText × Part). (p.0, init_bytes defs addresses p.1.0)) (λ p. refl) ps)
      ∙ struct-level ps t (out-Ty t) refl fits

  pub length-init : (i : Init) → Long i
  length-init = ind-Init Long (λ x y e. subst (λ (x : Init-F Init). Long (roll-Init x)) e (from-level _ (levels y)))
