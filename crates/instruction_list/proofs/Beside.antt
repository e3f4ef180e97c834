-- The lines of some items beside their instructions.
use Rattle.std.proofs.Common.{ℕ, suc, ◌+◌, List, [], ◌∷◌, refl}
use Rattle.std.specs.List.{AllZip}
use Rattle.code_form.specs.declared.sign.PortSign.{PortSign}
use Rattle.ir_tokens.specs.Bytes.{Text}
use Rattle.ir_tree.specs.declared.item.Item.{Item}
use Rattle.ir_tree.specs.declared.item.Item.TheVariants as item
use Rattle.ir_rules.specs.Entities.{name_bytes}
use Rattle.ir_rules.specs.Memory.{Addresses}
use Rattle.ir_rules.specs.Modules.{instrs_from}
use Rattle.ir_rules.specs.Settings.{setting_of}
use Rattle.instruction_list.specs.Codes.{IsLineOf}
use Rattle.instruction_list.specs.Lines.{lines_from}

module _ (items : List Item) (signs : List PortSign) (addresses : Addresses) where
  pub beside : (f : Text) (n i : ℕ) (some : List Item) → AllZip (IsLineOf addresses) (lines_from f n some) (instrs_from items signs addresses i some)
  beside f n i [] = tt
  beside f n i (item.Head g t ps ∷ more) = beside (name_bytes g) 0 (suc i) more
  beside f n i (item.Instr r o ∷ more) =
      (record { setting = setting_of items signs i (item.Instr r o); op = o; text = refl; code_is = refl }, beside f (n + 1) (suc i) more)
  beside f n i (item.TypeDef m t ∷ more) = beside f n (suc i) more
  beside f n i (item.Global m c t x ∷ more) = beside f n (suc i) more
  beside f n i (item.Declare m t ts ∷ more) = beside f n (suc i) more
  beside f n i (item.Label m ∷ more) = beside f n (suc i) more
  beside f n i (item.End ∷ more) = beside f n (suc i) more
