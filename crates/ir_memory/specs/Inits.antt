-- The types that are written in initialisers, and the bytes of their elements.
use Rattle.std.specs.Prelude.{◌≡◌, ℕ, false, List, ◌∷◌, ◌++◌, All}
use Rattle.std.specs.List.{flat_map, list_any}
use Rattle.type_layout.specs.declared.ty.Ty.{Ty}
use Rattle.ir_tree.specs.declared.type_text.TyText.{TyText}
use Rattle.ir_tree.specs.declared.operand.Init.{Init}
use Rattle.ir_tree.specs.declared.item.Item.{Item}
use Rattle.ir_rules.specs.Types.{TypeDefs, expanded, is_large}
use Rattle.ir_rules.specs.Parts.{Typed, init_types, init_operands, opd_types, types_of}
use Rattle.ir_rules.specs.Memory.{Addresses, init_bytes}
use Rattle.ir_memory.specs.declared.places.Placed.{Placed}

-- every type that is written in an initialiser of a type, that type included
abbrev pub types_in : TyText → Init → List TyText
types_in t i = t ∷ init_types i ++ flat_map (λ (v : Typed). v.0 ∷ opd_types v.1) (init_operands t i)

-- no type that is written in an initialiser of a type, and none inside of one, is larger than the greatest size
abbrev pub IsSmall : TypeDefs → TyText → Init → Type 0
IsSmall defs t i = list_any (is_large defs) (types_in t i) ≡ false

abbrev pub AreSmall : TypeDefs → List (TyText × Init) → Type 0
AreSmall defs es = All (λ (e : TyText × Init). IsSmall defs e.0 e.1) es

-- the same of an item
abbrev pub ItemIsSmall : TypeDefs → Item → Type 0
ItemIsSmall defs x = list_any (is_large defs) (types_of x) ≡ false

abbrev pub PlacedIsSmall : TypeDefs → Placed → Type 0
PlacedIsSmall defs p = IsSmall defs p.ty.now p.init.now

-- an element or a field with its bytes
abbrev pub element : TypeDefs → Addresses → TyText × Init → TyText × (Ty → List ℕ)
element defs addresses e = (e.0, init_bytes defs addresses e.1)

abbrev pub element_bytes : TypeDefs → Addresses → TyText × Init → List ℕ
element_bytes defs addresses e = init_bytes defs addresses e.1 (expanded defs e.0)
