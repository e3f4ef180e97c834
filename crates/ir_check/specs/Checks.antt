-- The refusals of `check`.
use Rattle.std.specs.Prelude.{◌≡◌, List, Some}
use Rattle.code_form.specs.declared.sign.PortSign.{PortSign}
use Rattle.ir_tree.specs.declared.item.Item.{Item}
use Rattle.ir_rules.specs.Rules.{fault}
use Rattle.ir_check.specs.declared.error.CheckError.{CheckError}
use Rattle.ir_check.specs.declared.error.CheckError.TheVariants.{Fault, OutOfMemory}

-- the error names the first item that breaks a rule, and its least rule. Want of memory may come at any module.
abbrev pub IsFaultOf : List Item → List PortSign → CheckError → Type 0
IsFaultOf items signs (Fault i r) = fault items signs ≡ Some (record { item = i; rule = r })
IsFaultOf items signs OutOfMemory = Unit {0}
