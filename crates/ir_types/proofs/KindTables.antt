-- The table of the type names says of each type what integer or pointer it stands for.
use Rattle.std.proofs.Common.{◌≡◌, ℕ, Bool, true, false, List, [], ◌∷◌, length, map, take, ◌≤◌, Option, Some, None, cond, refl, sym, ap, ◌∙◌, subst}
use Rattle.std.specs.List.{fold}
use Rattle.std.specs.Option.{option_map}
use Rattle.code_form.specs.declared.code.TyScalar.{TyScalar}
use Rattle.ir_tree.specs.declared.name.Name.{Name}
use Rattle.ir_tree.specs.declared.type_text.TyText.{TyText}
use Rattle.ir_tree.specs.declared.type_text.TyText.TheVariants as text
use Rattle.ir_tree.specs.declared.type_text.TyText.TheOpen.{TyText-F}
use Rattle.ir_tree.specs.declared.type_text.TyText.TheFolds.{ind-TyText}
use Rattle.ir_tree.specs.declared.type_text.TyText.{roll-TyText}
use Rattle.ir_tree.specs.declared.item.Item.{Item}
use Rattle.ir_tree.specs.declared.item.Item.TheVariants as item
use Rattle.ir_names.specs.Names.{same_name, defined, with_first}
use Rattle.ir_names.proofs.Defined.{same-eq, defined-firsts}
use Rattle.ir_rules.specs.Types.{TypeDefs, type_defs, scalar_of, kind_of, Kinds}
use Rattle.ir_scopes.specs.Kinds.{flat, kind_in}
use Rattle.ir_types.specs.Scalars.{name_kind, with_kind}
use Rattle.ir_types.proofs.Numbered.{take-all}
use Rattle.ir_types.proofs.Levels.{unnamed}

abbrev KindsOfNames : Type 0
KindsOfNames = List (Name × Option TyScalar)

module _ (kind : Name → Option TyScalar) where
  abbrev entry : Name × TyText → Name × Option TyScalar
  entry d = (d.0, kind d.0)

  table-rest : (xs : List Item) (g : KindsOfNames) → fold (with_kind kind) g xs ≡ fold with_first g (map entry (type_defs xs))
  table-rest [] g = refl
  table-rest (item.TypeDef n t ∷ xs) g = table-rest xs (with_first g (n, kind n))
  table-rest (item.Global n c t i ∷ xs) g = table-rest xs g
  table-rest (item.Declare n t ts ∷ xs) g = table-rest xs g
  table-rest (item.Head n t ps ∷ xs) g = table-rest xs g
  table-rest (item.Label n ∷ xs) g = table-rest xs g
  table-rest (item.Instr r o ∷ xs) g = table-rest xs g
  table-rest (item.End ∷ xs) g = table-rest xs g

  entry-defined : (defs : TypeDefs) (n : Name) → defined (map entry defs) n ≡ option_map (λ (t : TyText). kind n) (defined defs n)
  entry-defined [] n = refl
  entry-defined (d ∷ defs) n = by (same_name n d.0) refl (entry-defined defs n)
    where
      by : (b : Bool) → same_name n d.0 ≡ b → defined (map entry defs) n ≡ option_map (λ (t : TyText). kind n) (defined defs n)
          → cond b (Some (kind d.0)) (defined (map entry defs) n) ≡ option_map (λ (t : TyText). kind n) (cond b (Some d.1) (defined defs n))
      by true e h = ap (λ (m : Name). Some (kind m)) (sym (same-eq n d.0 e))
      by false e h = h

abbrev table_of : List Item → KindsOfNames
table_of items = fold (with_kind (name_kind (type_defs items))) [] items

says : (items : List Item) (n : Name) → flat (defined (table_of items) n) ≡ name_kind (type_defs items) n
says items n =
    let defs = type_defs items in
    ap (λ (l : KindsOfNames). flat (defined l n)) (table-rest (name_kind defs) items [])
    ∙ ap flat (defined-firsts (map (entry (name_kind defs)) defs) [] n) ∙ ap flat (entry-defined (name_kind defs) defs n) ∙ by (defined defs n) refl
  where
    by : (o : Option TyText) → defined (type_defs items) n ≡ o
        → flat (option_map (λ (t : TyText). name_kind (type_defs items) n) o) ≡ name_kind (type_defs items) n
    by None h = sym (ap scalar_of (unnamed (type_defs items) (length (type_defs items)) n h))
    by (Some t) h = refl

module _ (defs : TypeDefs) (table : KindsOfNames) (h : (n : Name) → flat (defined table n) ≡ name_kind defs n) where
  abbrev Same : TyText → Type 0
  Same t = kind_in table t ≡ kind_of defs t

  layers : (x : TyText-F TyText) → Same (roll-TyText x)
  layers (TyText-F.Int w) = subst Same (sym (text.rolls-Int w)) refl
  layers TyText-F.Ptr = subst Same (sym text.rolls-Ptr) refl
  layers TyText-F.Void = subst Same (sym text.rolls-Void) refl
  layers (TyText-F.Array n of) = subst Same (sym (text.rolls-Array n of)) refl
  layers (TyText-F.Struct ts) = subst Same (sym (text.rolls-Struct ts)) refl
  layers (TyText-F.Named n) = subst Same (sym (text.rolls-Named n)) (h n)

  kinds-same : (t : TyText) → Same t
  kinds-same = ind-TyText Same (λ x y e. layers x)

-- the table tells the same as the definitions
kinds-are : (items : List Item) → ◌≡◌ {A = Kinds} (kind_in (table_of items)) (kind_of (type_defs items))
kinds-are items = λ i t. kinds-same (type_defs items) (table_of items) (says items) t i

pub kinds-of : (items : List Item) (defs : TypeDefs) (i : ℕ) (table : KindsOfNames) → type_defs items ≡ defs → length items ≤ i
    → table ≡ fold (with_kind (name_kind defs)) [] (take i items) → ◌≡◌ {A = Kinds} (kind_in table) (kind_of defs)
kinds-of items defs i table e h t =
    (λ j. kind_in ((t ∙ ap (λ (ds : TypeDefs). fold (with_kind (name_kind ds)) [] (take i items)) (sym e)
    ∙ ap (λ (xs : List Item). fold (with_kind (name_kind (type_defs items))) [] xs) (take-all items i h)) j))
    ∙ kinds-are items ∙ (λ j. kind_of (e j))
