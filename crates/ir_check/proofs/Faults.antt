-- What the first fault of a module is.
use Rattle.std.proofs.Common.{◌≡◌, ◌^◌, ◌<◌, ◌≤◌, List, length, Option, Some, sym, ap, ◌∙◌, arith}
use Rattle.std.proofs.lemmas.Option.{slice_get_within}
use Rattle.am_base.specs.declared.limits.TheConstants.{MAX_FILE_BYTES}
use Rattle.code_form.specs.declared.sign.PortSign.{PortSign}
use Rattle.ir_tree.specs.declared.item.Item.{Item}
use Rattle.ir_rules.specs.declared.rule.Fault.{Fault}
use Rattle.ir_rules.specs.Rules.{fault}
use Rattle.ir_rules.proofs.FirstFaults.{fault-broken}

-- it is an item of the module
pub item-small : (items : List Item) (signs : List PortSign) (f : Fault) → length items ≤ MAX_FILE_BYTES → fault items signs ≡ Some f → f.item < 2 ^ 32
item-small items signs f few h =
    let broken = fault-broken items signs f h in
    let within = slice_get_within items f.item broken.0 broken.1 in
    omega arith

-- what is found in equal items
pub fault-is : (items found_in : List Item) (signs : List PortSign) (found o : Option Fault) → found_in ≡ items → found ≡ fault found_in signs → found ≡ o
    → fault items signs ≡ o
fault-is items found_in signs found o same is by = ap (λ (l : List Item). fault l signs) (sym same) ∙ sym is ∙ by
