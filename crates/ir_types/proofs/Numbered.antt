-- The type definitions of a module by number.
use Rattle.std.proofs.Common.{◌≡◌, ℕ, suc, ◌+◌, ◌≤◌, Bool, true, false, List, [], ◌∷◌, length, map, take, slice_get, Option, Some, None, cond, zero, subst, refl, sym, ap, ◌∙◌, arith}
use Rattle.std.specs.List.{fold, flat_map}
use Rattle.ir_tree.specs.declared.name.Name.{Name}
use Rattle.ir_tree.specs.declared.type_text.TyText.{TyText}
use Rattle.ir_tree.specs.declared.item.Item.{Item}
use Rattle.ir_tree.specs.declared.item.Item.TheVariants as item
use Rattle.ir_names.specs.Names.{same_name, defined, with_first, firsts}
use Rattle.ir_names.proofs.Defined.{defined-firsts, same-eq}
use Rattle.ir_rules.specs.Types.{TypeDefs, type_defs}
use Rattle.ir_types.specs.declared.definitions.Numbering.{Numbering}
use Rattle.ir_types.specs.Definitions.{numbered_from, not_numbered, with_definition, numbering_of, body_of}

-- the definitions so far and those of the items to come are all
table-rest : (xs : List Item) (g : Numbering) → (fold with_definition g xs).table ≡ fold with_first g.table (numbered_from g.next (type_defs xs))
table-rest [] g = refl
table-rest (item.TypeDef n t ∷ xs) g = table-rest xs (record { table = with_first g.table (n, g.next); next = g.next + 1 })
table-rest (item.Global n c t i ∷ xs) g = table-rest xs g
table-rest (item.Declare n t ts ∷ xs) g = table-rest xs g
table-rest (item.Head n t ps ∷ xs) g = table-rest xs g
table-rest (item.Label n ∷ xs) g = table-rest xs g
table-rest (item.Instr r o ∷ xs) g = table-rest xs g
table-rest (item.End ∷ xs) g = table-rest xs g

pub numbered-firsts : (items : List Item) → (numbering_of items).table ≡ firsts (numbered_from 0 (type_defs items))
numbered-firsts items = table-rest items not_numbered

pub bodies-all : (items : List Item) → flat_map body_of items ≡ map (λ (d : Name × TyText). d.1) (type_defs items)
bodies-all [] = refl
bodies-all (item.TypeDef n t ∷ xs) = ap (λ ts. t ∷ ts) (bodies-all xs)
bodies-all (item.Global n c t i ∷ xs) = bodies-all xs
bodies-all (item.Declare n t ts ∷ xs) = bodies-all xs
bodies-all (item.Head n t ps ∷ xs) = bodies-all xs
bodies-all (item.Label n ∷ xs) = bodies-all xs
bodies-all (item.Instr r o ∷ xs) = bodies-all xs
bodies-all (item.End ∷ xs) = bodies-all xs

pub take-all : {X : Type 0} (xs : List X) (n : ℕ) → length xs ≤ n → take n xs ≡ xs
take-all [] zero h = refl
take-all [] (suc n) h = refl
take-all (x ∷ xs) zero h = absurd (omega arith)
take-all (x ∷ xs) (suc n) h = ap (λ l. x ∷ l) (take-all xs n (omega arith))

-- ---- a name and the number of its definition

-- a name without a number has no definition, and one with a number is defined as what stands there
abbrev pub Agrees : TypeDefs → ℕ → Name → Option TyText → Option ℕ → Type 0
Agrees defs i n t None = t ≡ None
Agrees defs i n t (Some d) = (j : ℕ) × (d ≡ i + j) × (b : TyText) × (t ≡ Some b) × (slice_get defs j ≡ Some (n, b))

agrees-from : (defs : TypeDefs) (i : ℕ) (n : Name) → Agrees defs i n (defined defs n) (defined (numbered_from i defs) n)
agrees-from [] i n = refl
agrees-from (d ∷ defs) i n = by (same_name n d.0) refl (defined (numbered_from (i + 1) defs) n) (agrees-from defs (i + 1) n)
  where
    by : (b : Bool) → same_name n d.0 ≡ b → (o : Option ℕ) → Agrees defs (i + 1) n (defined defs n) o
        → Agrees (d ∷ defs) i n (cond b (Some d.1) (defined defs n)) (cond b (Some i) o)
    by true e o h = (0, omega arith, d.1, refl, ap (λ (m : Name). Some (m, d.1)) (sym (same-eq n d.0 e)))
    by false e None h = h
    by false e (Some c) h = (suc h.0, omega arith, h.2, h.3, h.4)

pub number-agrees : (defs : TypeDefs) (nums : List (Name × ℕ)) → nums ≡ firsts (numbered_from 0 defs) → (n : Name)
    → Agrees defs 0 n (defined defs n) (defined nums n)
number-agrees defs nums e n =
    subst (λ (o : Option ℕ). Agrees defs 0 n (defined defs n) o)
    (sym (defined-firsts (numbered_from 0 defs) [] n) ∙ ap (λ (l : List (Name × ℕ)). defined l n) (sym e)) (agrees-from defs 0 n)

-- the same for a name that has a number
pub record Here (defs : TypeDefs) (n : Name) (d : ℕ) : Type 0 where
  pub body : TyText
  pub is : defined defs n ≡ Some body
  pub at : slice_get defs d ≡ Some (n, body)

pub here : (defs : TypeDefs) (nums : List (Name × ℕ)) → nums ≡ firsts (numbered_from 0 defs) → (n : Name) (d : ℕ) → defined nums n ≡ Some d → Here defs n d
here defs nums e n d h = by (subst (λ (o : Option ℕ). Agrees defs 0 n (defined defs n) o) h (number-agrees defs nums e n))
  where
    by : Agrees defs 0 n (defined defs n) (Some d) → Here defs n d
    by p = record { body = p.2; is = p.3; at = (let same : d ≡ p.0 = omega arith in ap (slice_get defs) same ∙ p.4) }

pub nowhere : (defs : TypeDefs) (nums : List (Name × ℕ)) → nums ≡ firsts (numbered_from 0 defs) → (n : Name) → defined nums n ≡ None → defined defs n ≡ None
nowhere defs nums e n h = subst (λ (o : Option ℕ). Agrees defs 0 n (defined defs n) o) h (number-agrees defs nums e n)
