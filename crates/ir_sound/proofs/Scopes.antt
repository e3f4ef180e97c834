-- What a scope's table says of its registers and blocks, and that a scope only grows.
use Rattle.std.proofs.Common.{◌≡◌, ◌⊎◌, inl, inr, ℕ, ◌<◌, ◌≤◌, Bool, true, false, cond, List, [], ◌∷◌, ◌++◌, length, map, slice_get, Option, Some, None}
use Rattle.std.proofs.Common.{is_some, nat_lt}
use Rattle.std.proofs.Common.{if◌then◌else◌, refl, sym, ap, ◌∙◌, subst, arith, append_assoc, append-nil}
use Rattle.std.specs.List.{fold}
use Rattle.std.proofs.lemmas.List.{length-append}
use Rattle.code_form.specs.declared.code.TyScalar.{TyScalar}
use Rattle.ir_tree.specs.declared.name.Name.{Name}
use Rattle.ir_tree.specs.declared.name.Name.TheVariants.{Number}
use Rattle.ir_tree.specs.declared.type_text.TyText.{TyText}
use Rattle.ir_tree.specs.declared.op.Op.{Op}
use Rattle.ir_tree.specs.declared.item.Item.{Item}
use Rattle.ir_tree.specs.declared.item.Item.TheVariants as item
use Rattle.ir_names.specs.Names.{same_name, defined, with_first}
use Rattle.ir_rules.specs.declared.local.Local.{Local}
use Rattle.ir_rules.specs.declared.local.Local.TheVariants.{Value, NoType, Block}
use Rattle.ir_rules.specs.declared.scope.Scope.{Scope}
use Rattle.ir_rules.specs.Types.{Kinds}
use Rattle.ir_rules.specs.Scopes.{empty_scope, with_name, with_number, with_name_or_number, with_parameter, with_block, with_first_block}
use Rattle.ir_rules.specs.Scopes.{value_kind, is_call, is_name, with_value_name, with_value, with_no_value, with_result, with_op, with_parts}
use Rattle.ir_rules.specs.Scopes.{with_item, scope_of}
use Rattle.ir_sound.proofs.Lists.{get-left, get-last}

-- ---- what a name stands for is there

-- a register has the type, and a block is one of those so far
abbrev pub Stands : List (Option TyScalar) → List ℕ → Local → Type 0
Stands types starts (Value kind r) = slice_get types r ≡ Some kind
Stands types starts NoType = Unit {0}
Stands types starts (Block b) = b < length starts

abbrev pub AllStand : List (Option TyScalar) → List ℕ → List (Name × Local) → Type 0
AllStand types starts table = (n : Name) (l : Local) → defined table n ≡ Some l → Stands types starts l

-- one definition more
lookup-last : {X : Type 0} (table : List (Name × X)) (d : Name × X) (n : Name) (x : X) → defined (table ++ d ∷ []) n ≡ Some x
    → (defined table n ≡ Some x) ⊎ (d.1 ≡ x)
lookup-last [] d n x h = by (same_name n d.0) h
  where
    by : (b : Bool) → cond b (Some d.1) None ≡ Some x → (defined [] n ≡ Some x) ⊎ (d.1 ≡ x)
    by true e = inr cc
    by false e = inl e
lookup-last (e ∷ table) d n x h = by (same_name n e.0) refl (λ q. lookup-last table d n x q) h
  where
    by : (b : Bool) → same_name n e.0 ≡ b → (defined (table ++ d ∷ []) n ≡ Some x → (defined table n ≡ Some x) ⊎ (d.1 ≡ x))
        → cond b (Some e.1) (defined (table ++ d ∷ []) n) ≡ Some x → (cond (same_name n e.0) (Some e.1) (defined table n) ≡ Some x) ⊎ (d.1 ≡ x)
    by true p rest q = inl (ap (λ c. cond c (Some e.1) (defined table n)) p ∙ q)
    by false p rest q = elim (rest q) [ inl r ↦ inl (ap (λ c. cond c (Some e.1) (defined table n)) p ∙ r) | inr r ↦ inr r ]

-- a name more leaves the others standing
first-stands : (types : List (Option TyScalar)) (starts : List ℕ) (table : List (Name × Local)) (n : Name) (what : Local)
    → AllStand types starts table → Stands types starts what → AllStand types starts (with_first table (n, what))
first-stands types starts table n what all one = by (is_some (defined table n))
  where
    by : (b : Bool) → AllStand types starts (if b then table else table ++ (n, what) ∷ [])
    by true = all
    by false = λ m l h. elim (lookup-last table (n, what) m l h) [ inl r ↦ all m l r | inr r ↦ subst (Stands types starts) r one ]

-- and so do a register more and a block more
wider : (types : List (Option TyScalar)) (starts : List ℕ) (k : Option TyScalar) (table : List (Name × Local))
    → AllStand types starts table → AllStand (types ++ k ∷ []) starts table
wider types starts k table all n (Value kind r) h = get-left types (k ∷ []) r kind (all n (Value kind r) h)
wider types starts k table all n NoType h = tt
wider types starts k table all n (Block b) h = all n (Block b) h

longer : (types : List (Option TyScalar)) (starts : List ℕ) (start : ℕ) (table : List (Name × Local))
    → AllStand types starts table → AllStand types (starts ++ start ∷ []) table
longer types starts start table all n (Value kind r) h = all n (Value kind r) h
longer types starts start table all n NoType h = tt
longer types starts start table all n (Block b) h = let l = all n (Block b) h in omega (arith, length-append starts (start ∷ []))

abbrev pub Good : Scope → Type 0
Good s = AllStand s.types s.starts s.table

-- a name for what stands in the types and starts that come with it
named-good : (s : Scope) (types : List (Option TyScalar)) (starts : List ℕ) (n : Name) (what : Local) → AllStand types starts s.table → Stands types starts what
    → AllStand types starts (with_name s n what).table
named-good s types starts n what all one = first-stands types starts s.table n what all one

numbered-good : (s : Scope) (types : List (Option TyScalar)) (starts : List ℕ) (what : Local) → AllStand types starts s.table → Stands types starts what
    → AllStand types starts (with_number s what).table
numbered-good s types starts what all one = by (is_name s.counter)
  where
    by : (b : Bool) → AllStand types starts (if b then with_name s (Number s.counter) what else s).table
    by true = first-stands types starts s.table (Number s.counter) what all one
    by false = all

name-good : (s : Scope) (types : List (Option TyScalar)) (starts : List ℕ) (n : Option Name) (what : Local) → AllStand types starts s.table
    → Stands types starts what → AllStand types starts (with_name_or_number s n what).table
name-good s types starts (Some n) what all one = first-stands types starts s.table n what all one
name-good s types starts None what all one = numbered-good s types starts what all one

value-name-good : (s : Scope) (types : List (Option TyScalar)) (starts : List ℕ) (n : Option Name) (call : Bool) (what : Local) → AllStand types starts s.table
    → Stands types starts what → AllStand types starts (with_value_name s n call what).table
value-name-good s types starts (Some n) call what all one = first-stands types starts s.table n what all one
value-name-good s types starts None true what all one = numbered-good s types starts what all one
value-name-good s types starts None false what all one = all

-- ---- names change neither registers nor blocks

pub number-types : (s : Scope) (what : Local) → (with_number s what).types ≡ s.types
number-types s what = by (is_name s.counter)
  where
    by : (b : Bool) → (if b then with_name s (Number s.counter) what else s).types ≡ s.types
    by true = refl
    by false = refl

pub number-starts : (s : Scope) (what : Local) → (with_number s what).starts ≡ s.starts
number-starts s what = by (is_name s.counter)
  where
    by : (b : Bool) → (if b then with_name s (Number s.counter) what else s).starts ≡ s.starts
    by true = refl
    by false = refl

pub number-results : (s : Scope) (what : Local) → (with_number s what).results ≡ s.results
number-results s what = by (is_name s.counter)
  where
    by : (b : Bool) → (if b then with_name s (Number s.counter) what else s).results ≡ s.results
    by true = refl
    by false = refl

-- the parts of a scope beside its names
pub record SameParts (s t : Scope) : Type 0 where
  pub types : t.types ≡ s.types
  pub starts : t.starts ≡ s.starts
  pub results : t.results ≡ s.results
  pub terminated : t.terminated ≡ s.terminated
  pub mixed : t.mixed ≡ s.mixed

same-itself : (s : Scope) → SameParts s s
same-itself s = record { types = refl; starts = refl; results = refl; terminated = refl; mixed = refl }

named-parts : (s : Scope) (n : Name) (what : Local) → SameParts s (with_name s n what)
named-parts s n what = record { types = refl; starts = refl; results = refl; terminated = refl; mixed = refl }

number-parts : (s : Scope) (what : Local) → SameParts s (with_number s what)
number-parts s what = by (is_name s.counter)
  where
    by : (b : Bool) → SameParts s (if b then with_name s (Number s.counter) what else s)
    by true = named-parts s (Number s.counter) what
    by false = same-itself s

pub name-parts : (s : Scope) (n : Option Name) (what : Local) → SameParts s (with_name_or_number s n what)
name-parts s (Some n) what = named-parts s n what
name-parts s None what = number-parts s what

pub value-parts : (s : Scope) (n : Option Name) (call : Bool) (what : Local) → SameParts s (with_value_name s n call what)
value-parts s (Some n) call what = named-parts s n what
value-parts s None true what = number-parts s what
value-parts s None false what = same-itself s

pub no-value-parts : (s : Scope) (n : Option Name) → SameParts s (with_no_value s n)
no-value-parts s (Some n) = named-parts s n NoType
no-value-parts s None = same-itself s

-- ---- the table of a function

parameter-good : (kind : Kinds) (s : Scope) (p : TyText × Option Name) → Good s → Good (with_parameter kind s p)
parameter-good kind s p g =
    let k = kind p.0 in
    let what = Value k (length s.types) in
    let P : List (Option TyScalar) → Type 0 = λ ts. AllStand (ts ++ k ∷ []) s.starts (with_name_or_number s p.1 what).table in
    let Q : List ℕ → Type 0 = λ l. AllStand ((with_name_or_number s p.1 what).types ++ k ∷ []) l (with_name_or_number s p.1 what).table in
    let same = name-parts s p.1 what in
    subst Q (sym same.starts) (subst P (sym same.types)
    (name-good s (s.types ++ k ∷ []) s.starts p.1 what (wider s.types s.starts k s.table g) (get-last s.types k)))

value-good : (s : Scope) (n : Option Name) (call : Bool) (k : Option TyScalar) → Good s → Good (with_value s n call k)
value-good s n call k g =
    let what = Value k (length s.types) in
    let P : List (Option TyScalar) → Type 0 = λ ts. AllStand (ts ++ k ∷ []) s.starts (with_value_name s n call what).table in
    let Q : List ℕ → Type 0 = λ l. AllStand ((with_value_name s n call what).types ++ k ∷ []) l (with_value_name s n call what).table in
    let same = value-parts s n call what in
    subst Q (sym same.starts) (subst P (sym same.types)
    (value-name-good s (s.types ++ k ∷ []) s.starts n call what (wider s.types s.starts k s.table g) (get-last s.types k)))

block-good : (s : Scope) (n : Option Name) → Good s → Good (with_block s n)
block-good s n g =
    let what = Block (length s.starts) in
    let t = with_name_or_number s n what in
    let same = name-parts s n what in
    let P : List ℕ → Type 0 = λ l. AllStand s.types (l ++ length t.results ∷ []) t.table in
    let Q : List (Option TyScalar) → Type 0 = λ ts. AllStand ts (t.starts ++ length t.results ∷ []) t.table in
    let here : length s.starts < length (s.starts ++ length t.results ∷ []) = omega (arith, length-append s.starts (length t.results ∷ [])) in
    subst Q (sym same.types) (subst P (sym same.starts)
    (name-good s s.types (s.starts ++ length t.results ∷ []) n what (longer s.types s.starts (length t.results) s.table g) here))

first-block-good : (s : Scope) → Good s → Good (with_first_block s)
first-block-good s g = by (nat_lt 0 (length s.starts))
  where
    by : (b : Bool) → Good (if b then s else with_block s None)
    by true = g
    by false = block-good s None g

result-good : (s : Scope) (n : Option Name) (call : Bool) (k : Option (Option TyScalar)) → Good s → Good (with_result s n call k)
result-good s n call (Some k) g = value-good s n call k g
result-good s (Some n) call None g = first-stands s.types s.starts s.table n NoType g tt
result-good s None call None g = g

parameters-good : (kind : Kinds) (ps : List (TyText × Option Name)) (s : Scope) → Good s → Good (fold (with_parameter kind) s ps)
parameters-good kind [] s g = g
parameters-good kind (p ∷ ps) s g = parameters-good kind ps (with_parameter kind s p) (parameter-good kind s p g)

parts-good : (kind : Kinds) (s : Scope) (x : Item) → Good s → Good (with_parts kind s x)
parts-good kind s (item.Head n t ps) g = parameters-good kind ps s g
parts-good kind s (item.Label n) g = block-good s (Some n) g
parts-good kind s (item.Instr r o) g = result-good (with_first_block s) r (is_call o) (value_kind kind o) (first-block-good s g)
parts-good kind s (item.TypeDef n t) g = g
parts-good kind s (item.Global n b t i) g = g
parts-good kind s (item.Declare n t ts) g = g
parts-good kind s item.End g = g

items-good : (kind : Kinds) (xs : List Item) (s : Scope) → Good s → Good (fold (with_item kind) s xs)
items-good kind [] s g = g
items-good kind (x ∷ xs) s g = items-good kind xs (with_item kind s x) (parts-good kind (record s { again = false; low = false }) x g)

-- what a name stands for in a function has its register, of its type, or is one of its blocks
pub scope-good : (kind : Kinds) (xs : List Item) → Good (scope_of kind xs)
scope-good kind xs = items-good kind xs empty_scope (λ n l h. cc)

-- ---- registers only come behind others

abbrev pub Grows : List (Option TyScalar) → List (Option TyScalar) → Type 0
Grows ts us = (more : List (Option TyScalar)) × (us ≡ ts ++ more)

pub grows-itself : (ts us : List (Option TyScalar)) → us ≡ ts → Grows ts us
grows-itself ts us e = ([], e ∙ sym (append-nil ts))

pub grows-on : (ts us vs : List (Option TyScalar)) → Grows ts us → Grows us vs → Grows ts vs
grows-on ts us vs a b = (a.0 ++ b.0, b.1 ∙ ap (λ l. l ++ b.0) a.1 ∙ append_assoc ts a.0 b.0)

pub grows-get : (ts us : List (Option TyScalar)) → Grows ts us → (r : ℕ) (k : Option TyScalar) → slice_get ts r ≡ Some k → slice_get us r ≡ Some k
grows-get ts us g r k h = ap (λ l. slice_get l r) g.1 ∙ get-left ts g.0 r k h

pub grows-length : (ts us : List (Option TyScalar)) → Grows ts us → length ts ≤ length us
grows-length ts us g = let e = ap (λ (l : List (Option TyScalar)). length l) g.1 in omega (arith, length-append ts g.0)

first-block-types : (s : Scope) → (with_first_block s).types ≡ s.types
first-block-types s = by (nat_lt 0 (length s.starts))
  where
    by : (b : Bool) → (if b then s else with_block s None).types ≡ s.types
    by true = refl
    by false = number-types s (Block (length s.starts))

abbrev pub kinds_list : Option (Option TyScalar) → List (Option TyScalar)
kinds_list None = []
kinds_list (Some k) = k ∷ []

result-types : (s : Scope) (n : Option Name) (call : Bool) (k : Option (Option TyScalar)) → (with_result s n call k).types ≡ s.types ++ kinds_list k
result-types s n call (Some k) = ap (λ ts. ts ++ k ∷ []) (value-parts s n call (Value k (length s.types))).types
result-types s (Some n) call None = sym (append-nil s.types)
result-types s None call None = sym (append-nil s.types)

-- the registers behind an instruction are those before it and the one of its value
pub op-types : (kind : Kinds) (s : Scope) (r : Option Name) (o : Op) → (with_op kind s r o).types ≡ s.types ++ kinds_list (value_kind kind o)
op-types kind s r o = result-types (with_first_block s) r (is_call o) (value_kind kind o)
    ∙ ap (λ ts. ts ++ kinds_list (value_kind kind o)) (first-block-types s)

parameters-types : (kind : Kinds) (ps : List (TyText × Option Name)) (s : Scope) → (fold (with_parameter kind) s ps).types ≡ s.types
    ++ map (λ (p : TyText × Option Name). kind p.0) ps
parameters-types kind [] s = sym (append-nil s.types)
parameters-types kind (p ∷ ps) s =
    parameters-types kind ps (with_parameter kind s p)
    ∙ ap (λ ts. (ts ++ kind p.0 ∷ []) ++ map (λ (p : TyText × Option Name). kind p.0) ps) (name-parts s p.1 (Value (kind p.0) (length s.types))).types
    ∙ append_assoc s.types (kind p.0 ∷ []) (map (λ (p : TyText × Option Name). kind p.0) ps)

-- behind the head of a function there are its parameters
pub head-types : (kind : Kinds) (n : Name) (t : TyText) (ps : List (TyText × Option Name))
    → (with_item kind empty_scope (item.Head n t ps)).types ≡ map (λ (p : TyText × Option Name). kind p.0) ps
head-types kind n t ps = parameters-types kind ps empty_scope

pub item-grows : (kind : Kinds) (s : Scope) (x : Item) → Grows s.types (with_item kind s x).types
item-grows kind s (item.Head n t ps) = (map (λ (p : TyText × Option Name). kind p.0) ps, parameters-types kind ps (record s { again = false; low = false }))
item-grows kind s (item.Label n) = grows-itself s.types _ refl
item-grows kind s (item.Instr r o) = (kinds_list (value_kind kind o), op-types kind (record s { again = false; low = false }) r o)
item-grows kind s (item.TypeDef n t) = grows-itself s.types _ refl
item-grows kind s (item.Global n b t i) = grows-itself s.types _ refl
item-grows kind s (item.Declare n t ts) = grows-itself s.types _ refl
item-grows kind s item.End = grows-itself s.types _ refl

pub items-grow : (kind : Kinds) (xs : List Item) (s : Scope) → Grows s.types (fold (with_item kind) s xs).types
items-grow kind [] s = grows-itself s.types s.types refl
items-grow kind (x ∷ xs) s = grows-on s.types (with_item kind s x).types _ (item-grows kind s x) (items-grow kind xs (with_item kind s x))
