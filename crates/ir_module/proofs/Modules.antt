-- The code of a module by its parts, and what its globals ask for.
use Rattle.std.proofs.Common.{◌≡◌, ℕ, ◌^◌, ◌<◌, ◌≤◌, false, List, [], map, get_or, Option, None, unwrap_or, All, sym, ap, subst, ◌∙◌, arith}
use Rattle.std.proofs.lemmas.Option.{slice_get-get_or}
use Rattle.am_base.specs.declared.limits.TheConstants.{MEMORY_BYTES}
use Rattle.code_form.specs.declared.code.Code.{Code}
use Rattle.code_form.specs.declared.sign.PortSign.{PortSign}
use Rattle.ir_tree.specs.declared.name.Name.{Name}
use Rattle.ir_tree.specs.declared.item.Item.{Item}
use Rattle.ir_names.specs.Names.{defined, firsts}
use Rattle.ir_names.proofs.Defined.{defined-firsts}
use Rattle.ir_rules.specs.declared.entity.Entity.{Entity}
use Rattle.ir_rules.specs.declared.local.Local.{Local}
use Rattle.ir_rules.specs.declared.rule.Rule.TheVariants.{TypeTooLarge}
use Rattle.ir_rules.specs.Types.{TypeDefs, Kinds, type_defs, kind_of}
use Rattle.ir_rules.specs.Entities.{entities_of}
use Rattle.ir_rules.specs.Blocks.{block_number}
use Rattle.ir_rules.specs.Codes.{register_of}
use Rattle.ir_rules.specs.Memory.{Addresses, Global, address_in, places_of, addresses_of, variables_of, globals_end, constants_end, stack_base_of, opening_bytes}
use Rattle.ir_rules.specs.Modules.{functions_from, instrs_from, results_from, code_of}
use Rattle.ir_rules.specs.Rules.{fault}
use Rattle.ir_rules.proofs.FirstFaults.{fault-none}
use Rattle.ir_sound.proofs.Addresses.{base-small, end-rises}
use Rattle.ir_sound.specs.Whole.{AreWhole}
use Rattle.ir_op_codes.specs.Alone.{function_number}
use Rattle.ir_memory.specs.Inits.{ItemIsSmall}
use Rattle.ir_memory.specs.Places.{named}
use Rattle.ir_memory.proofs.Few.{few-entities}

-- ---- the parts

pub code-is : (items : List Item) (signs : List PortSign) (code : Code) → code.funcs ≡ functions_from (type_defs items) 0 items
    → code.instrs ≡ instrs_from items signs (addresses_of (type_defs items) items) 0 items → code.results ≡ results_from items signs 0 items
    → code.memory ≡ opening_bytes (type_defs items) items → code.const_end ≡ constants_end (type_defs items) items
    → code.stack_base ≡ stack_base_of (type_defs items) items → code.signs ≡ signs → code ≡ code_of items signs
code-is items signs code funcs instrs results memory const_end stack_base ports =
    λ i. record {
      funcs = funcs i;
      instrs = instrs i;
      results = results i;
      memory = memory i;
      const_end = const_end i;
      stack_base = stack_base i;
      signs = ports i;
    }

-- ---- globals

pub items-small : (items : List Item) (signs : List PortSign) → fault items signs ≡ None → All (ItemIsSmall (type_defs items)) items
items-small items signs faultless = λ i d l. fault-none items signs i (get_or items i d) TypeTooLarge faultless (slice_get-get_or items i d l)

pub end-small : (items : List Item) (signs : List PortSign) → fault items signs ≡ None → globals_end (type_defs items) items ≤ MEMORY_BYTES
end-small items signs faultless = omega (arith, base-small items signs faultless)

pub constants-small : (items : List Item) (signs : List PortSign) → fault items signs ≡ None → constants_end (type_defs items) items ≤ MEMORY_BYTES
constants-small items signs faultless =
    let low = end-rises (type_defs items) (variables_of items) (constants_end (type_defs items) items) in
    let high = end-small items signs faultless in
    omega arith

-- what is said of the memory by any table of the type definitions
pub memory-is : (ds : TypeDefs) (items : List Item) (list : List (ℕ × Global)) (end : ℕ) (table : Addresses) (memory : List ℕ) → ds ≡ type_defs items
    → ((xs : List Item) → list ≡ places_of ds xs → end ≡ globals_end ds xs → table ≡ firsts (addresses_of ds xs) → memory ≡ opening_bytes ds xs)
    → list ≡ places_of (type_defs items) items → end ≡ globals_end (type_defs items) items → table ≡ firsts (addresses_of (type_defs items) items)
    → memory ≡ opening_bytes (type_defs items) items
memory-is ds items list end table memory same h a b c =
    let P : TypeDefs → Type 0 =
    λ k. (xs : List Item) → list ≡ places_of k xs → end ≡ globals_end k xs → table ≡ firsts (addresses_of k xs) → memory ≡ opening_bytes k xs in
    subst P same h items a b c

-- ---- names

pub no-register : (table : List (Name × Local)) → table ≡ [] → (n : Name) → register_of (defined table n) < 2 ^ 32
no-register table e n = let P : List (Name × Local) → Type 0 = λ t. register_of (defined t n) < 2 ^ 32 in subst P (sym e) (omega arith)

pub no-block : (table : List (Name × Local)) → table ≡ [] → (n : Name) → block_number (defined table n) < 2 ^ 32
no-block table e n = let P : List (Name × Local) → Type 0 = λ t. block_number (defined t n) < 2 ^ 32 in subst P (sym e) (omega arith)

pub first-address : (table a : Addresses) → table ≡ firsts a → (n : Name) → address_in table n ≡ address_in a n
first-address table a e n = ap (λ (t : Addresses). address_in t n) e ∙ ap (λ (o : Option ℕ). unwrap_or o 0) (defined-firsts a [] n)

-- ---- what the tables ask for

module _ (items : List Item) (signs : List PortSign) (ds : TypeDefs) (kind : Kinds) (same : ds ≡ type_defs items) (kinds : ◌≡◌ {A = Kinds} kind (kind_of ds)) where
  pub kinds-are : ◌≡◌ {A = Kinds} kind (kind_of (type_defs items))
  kinds-are = kinds ∙ (λ j. kind_of (same j))

  pub entities-are : (table : List (Name × Entity)) → table ≡ firsts (entities_of kind items) → table ≡ firsts (entities_of (kind_of (type_defs items)) items)
  entities-are table e = e ∙ (λ j. firsts (entities_of (kinds-are j) items))

  pub few-functions : AreWhole false items → fault items signs ≡ None → (table : List (Name × Entity)) → table ≡ firsts (entities_of kind items)
      → (n : Name) → function_number (defined table n) < 2 ^ 32
  few-functions whole faultless table e n =
      let P : List (Name × Entity) → Type 0 = λ t. function_number (defined t n) < 2 ^ 32 in
      subst P (sym (entities-are table e)) (few-entities items signs whole faultless n)

  pub addresses-are : (list : List (ℕ × Global)) (table : Addresses) → list ≡ places_of ds items → table ≡ firsts (map named list)
      → table ≡ firsts (addresses_of (type_defs items) items)
  addresses-are list table e h = h ∙ (λ j. firsts (map named (e j))) ∙ (λ j. firsts (map named (places_of (same j) items)))
