-- What the globals of a module without a fault ask for, and the table of their addresses.
use Rattle.std.proofs.Common.{◌≡◌, ℕ, ◌≤◌, List, [], map, get_or, Option, None, unwrap_or, All, ap, ◌∙◌, arith}
use Rattle.std.proofs.lemmas.Option.{slice_get-get_or}
use Rattle.am_base.specs.declared.limits.TheConstants.{MEMORY_BYTES}
use Rattle.code_form.specs.declared.sign.PortSign.{PortSign}
use Rattle.ir_tree.specs.declared.item.Item.{Item}
use Rattle.ir_names.specs.Names.{firsts}
use Rattle.ir_names.proofs.Defined.{defined-firsts}
use Rattle.ir_rules.specs.declared.rule.Rule.TheVariants.{TypeTooLarge}
use Rattle.ir_rules.specs.Types.{TypeDefs, type_defs}
use Rattle.ir_rules.specs.Memory.{Addresses, Global, address_in, places_of, addresses_of, globals_end}
use Rattle.ir_rules.specs.Rules.{fault}
use Rattle.ir_rules.proofs.FirstFaults.{fault-none}
use Rattle.ir_sound.proofs.Addresses.{base-small}
use Rattle.ir_op_codes.specs.Alone.{AreSame}
use Rattle.ir_memory.specs.Inits.{ItemIsSmall}
use Rattle.ir_memory.specs.Places.{named}

pub items-small : (items : List Item) (signs : List PortSign) → fault items signs ≡ None → All (ItemIsSmall (type_defs items)) items
items-small items signs faultless = λ i d l. fault-none items signs i (get_or items i d) TypeTooLarge faultless (slice_get-get_or items i d l)

pub end-small : (items : List Item) (signs : List PortSign) → fault items signs ≡ None → globals_end (type_defs items) items ≤ MEMORY_BYTES
end-small items signs faultless = omega (arith, base-small items signs faultless)

-- a table of first definitions has the same addresses
first-address : (table a : Addresses) → table ≡ firsts a → AreSame table a
first-address table a e n = ap (λ (t : Addresses). address_in t n) e ∙ ap (λ (o : Option ℕ). unwrap_or o 0) (defined-firsts a [] n)

pub addresses-same : (items : List Item) (ds : TypeDefs) → ds ≡ type_defs items → (list : List (ℕ × Global)) (table : Addresses)
    → list ≡ places_of ds items → table ≡ firsts (map named list) → AreSame table (addresses_of (type_defs items) items)
addresses-same items ds same list table e h =
    first-address table (addresses_of (type_defs items) items)
    (h ∙ (λ j. firsts (map named (e j))) ∙ (λ j. firsts (map named (places_of (same j) items))))
