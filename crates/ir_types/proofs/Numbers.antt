-- The numbers of types in a table that grows.
use Rattle.std.proofs.Common.{Bor, ◌≡◌, ℕ, ◌+◌, ◌<◌, ◌≤◌, List, [], ◌∷◌, ◌++◌, length, map, take, get_or, slice_get, Some, unwrap_or, refl, sym, ap, ◌∙◌, arith}
use Rattle.std.proofs.lemmas.Option.{slice_get_within}
use Rattle.std.proofs.lemmas.List.{take_more, map-append, length-map}
use Rattle.type_layout.specs.declared.ty.Ty.{Ty}
use Rattle.type_layout.specs.declared.ty.Ty.TheVariants as ty
use Rattle.type_table.specs.Table.{Keeps, AreBelow, type_at}
use Rattle.type_table.proofs.Tables.{there, type-kept}
use Rattle.ir_tree.specs.declared.name.Name.{Name}
use Rattle.ir_tree.specs.declared.type_text.TyText.{TyText}
use Rattle.ir_tree.specs.declared.type_text.TyText.TheVariants as text
use Rattle.ir_tree.specs.declared.type_text.TyText.TheOpen.{TyText-F}
use Rattle.ir_tree.specs.declared.type_text.TyText.TheFolds.{fold-roll-TyText}
use Rattle.ir_rules.specs.Types.{TypeDefs, expand_by, expand_step}
use Rattle.ir_types.specs.Named.{types_in}

-- each name has a number of the table
abbrev pub Inside : List Ty → (Name → ℕ) → Type 0
Inside ts number = (n : Name) → number n < length ts

module _ (ts us : List Ty) (keeps : Keeps ts us) where
  pub inside-kept : (k : ℕ) → k < length ts → k < length us
  inside-kept k h = let p = there ts k h in slice_get_within us k p.0 (keeps k p.0 p.1)

  pub all-inside : (number : Name → ℕ) → Inside ts number → Inside us number
  all-inside number h n = inside-kept (number n) (h n)

  pub types-same : (number : Name → ℕ) → Inside ts number → ◌≡◌ {A = Name → Ty} (types_in us number) (types_in ts number)
  types-same number h = λ i n. type-kept ts us keeps (number n) (h n) i

  pub numbers-kept : {X : Type 0} (g : X → Ty) (ns : List ℕ) (xs : List X) → map (slice_get ts) ns ≡ map (λ x. Some (g x)) xs
      → map (slice_get us) ns ≡ map (λ x. Some (g x)) xs
  numbers-kept g [] [] h = refl
  numbers-kept g [] (x ∷ xs) h = cc
  numbers-kept g (n ∷ ns) [] h = cc
  numbers-kept g (n ∷ ns) (x ∷ xs) h =
      let first : slice_get ts n ≡ Some (g x) = cc in
      let rest : map (slice_get ts) ns ≡ map (λ x. Some (g x)) xs = cc in
      λ i. keeps n (g x) first i ∷ numbers-kept g ns xs rest i

-- one type more, in a table that has grown
pub each-more : {X : Type 0} (body : X → TyText) (ts us vs : List Ty) (number : Name → ℕ) (ns ms : List ℕ) (k i : ℕ) (xs : List X) (x : X)
    → Inside ts number → Keeps ts us → Keeps us vs → i < length xs → x ≡ get_or xs i x
    → map (slice_get us) ns ≡ map (λ x. Some (expand_by (types_in ts number) (body x))) (take i xs)
    → slice_get vs k ≡ Some (expand_by (types_in us number) (body x)) → ms ≡ ns ++ k ∷ []
    → map (slice_get vs) ms ≡ map (λ x. Some (expand_by (types_in ts number) (body x))) (take (i + 1) xs)
each-more {X} body ts us vs number ns ms k i xs x inside keeps more h e before here m =
    let g : X → Ty = λ x. expand_by (types_in ts number) (body x) in
    let last : slice_get vs k ≡ Some (g x) = here ∙ ap (λ (f : Name → Ty). Some (expand_by f (body x))) (types-same ts us keeps number inside) in
    ap (map (slice_get vs)) m ∙ map-append (slice_get vs) ns (k ∷ [])
    ∙ (λ j. numbers-kept us vs more g ns (take i xs) before j ++ last j ∷ [])
    ∙ sym (map-append (λ x. Some (g x)) (take i xs) (x ∷ []))
    ∙ ap (λ (y : X). map (λ x. Some (g x)) (take i xs ++ y ∷ [])) e
    ∙ sym (ap (map (λ x. Some (g x))) (take_more xs i x h))

pub below-from : {X : Type 0} (us : List Ty) (g : X → Ty) (ns : List ℕ) (xs : List X) → map (slice_get us) ns ≡ map (λ x. Some (g x)) xs → AreBelow (length us) ns
below-from us g [] xs h = tt
below-from us g (n ∷ ns) [] h = cc
below-from us g (n ∷ ns) (x ∷ xs) h =
    let first : slice_get us n ≡ Some (g x) = cc in
    let rest : map (slice_get us) ns ≡ map (λ x. Some (g x)) xs = cc in
    (slice_get_within us n (g x) first, below-from us g ns xs rest)

types-from : {X : Type 0} (us : List Ty) (g : X → Ty) (ns : List ℕ) (xs : List X) → map (slice_get us) ns ≡ map (λ x. Some (g x)) xs → map (type_at us) ns ≡ map g xs
types-from us g [] [] h = refl
types-from us g [] (x ∷ xs) h = cc
types-from us g (n ∷ ns) [] h = cc
types-from us g (n ∷ ns) (x ∷ xs) h =
    let first : slice_get us n ≡ Some (g x) = cc in
    let rest : map (slice_get us) ns ≡ map (λ x. Some (g x)) xs = cc in
    λ i. unwrap_or (first i) (ty.Struct []) ∷ types-from us g ns xs rest i

-- ---- one level of a type

pub struct-expanded : (us : List Ty) (named : Name → Ty) (ns : List ℕ) (xs : List TyText) (t : TyText)
    → map (slice_get us) ns ≡ map (λ x. Some (expand_by named x)) xs → t ≡ text.Struct xs → ty.Struct (map (type_at us) ns) ≡ expand_by named t
struct-expanded us named ns xs t h e =
    ap ty.Struct (types-from us (expand_by named) ns xs h)
    ∙ sym (fold-roll-TyText Ty (expand_step named) (TyText-F.Struct xs)) ∙ ap (expand_by named) (text.rolls-Struct xs) ∙ sym (ap (expand_by named) e)

pub named-expanded : (ts : List Ty) (number : Name → ℕ) (k : ℕ) (n : Name) (t : TyText) → Inside ts number → k ≡ number n → t ≡ text.Named n
    → slice_get ts k ≡ Some (expand_by (types_in ts number) t)
named-expanded ts number k n t inside e f =
    let p = there ts (number n) (inside n) in
    ap (slice_get ts) e ∙ p.1 ∙ ap (λ o. Some (unwrap_or o (ty.Struct []))) (sym p.1)
    ∙ ap Some (sym (fold-roll-TyText Ty (expand_step (types_in ts number)) (TyText-F.Named n))
    ∙ ap (expand_by (types_in ts number)) (text.rolls-Named n) ∙ sym (ap (expand_by (types_in ts number)) f))

-- ---- the bodies of the definitions

pub bodies-defs : {Y : Type 0} (g : TyText → Y) (bs : List (Bor TyText)) (defs : TypeDefs) → map (λ b. b.now) bs ≡ map (λ (d : Name × TyText). d.1) defs
    → map (λ b. g b.now) bs ≡ map (λ (d : Name × TyText). g d.1) defs
bodies-defs g [] [] h = refl
bodies-defs g [] (d ∷ defs) h = cc
bodies-defs g (b ∷ bs) [] h = cc
bodies-defs g (b ∷ bs) (d ∷ defs) h =
    let first : b.now ≡ d.1 = cc in
    let rest : map (λ b. b.now) bs ≡ map (λ (d : Name × TyText). d.1) defs = cc in
    λ i. g (first i) ∷ bodies-defs g bs defs rest i

pub bodies-length : (bs : List (Bor TyText)) (defs : TypeDefs) → map (λ b. b.now) bs ≡ map (λ (d : Name × TyText). d.1) defs → length bs ≡ length defs
bodies-length bs defs h = sym (length-map bs (λ b. b.now)) ∙ ap length h ∙ length-map defs (λ (d : Name × TyText). d.1)

-- the only type of a table has the number 0
pub zero-first : (ts us : List Ty) (k : ℕ) (t : Ty) → ts ≡ [] → length us ≤ length ts + 1 → slice_get us k ≡ Some t → slice_get us 0 ≡ Some t
zero-first ts us k t e h at =
    let none : length ts ≡ 0 = ap length e in
    let inside = slice_get_within us k t at in
    let first : 0 ≡ k = omega arith in ap (slice_get us) first ∙ at
