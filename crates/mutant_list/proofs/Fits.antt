-- What fits its place.
use Rattle.std.proofs.Common.{◌≡◌, ℕ, List, None, false, subst, sym}
use Rattle.code_form.specs.Fit.{FitsPlace}
use Rattle.code_form.specs.declared.code.Code.{Code}
use Rattle.code_form.specs.declared.instr.Instr.{Instr}
use Rattle.code_form.specs.declared.sign.PortSign.{PortSign}
use Rattle.ir_tokens.specs.Bytes.{Text}
use Rattle.ir_tree.specs.declared.item.Item.{Item}
use Rattle.ir_rules.specs.Modules.{code_of}
use Rattle.ir_rules.specs.Rules.{fault}
use Rattle.ir_sound.specs.Whole.{AreWhole}
use Rattle.ir_sound.proofs.Replacements.{replacement-fits}
use Rattle.mutant_records.specs.declared.list.Replacement.TheVariants.{Fits}
use Rattle.mutant_list.specs.Texts.{Reads}

-- a replacement that is read fits its place
pub read_fits : (items : List Item) (signs : List PortSign) (code : Code) → AreWhole false items → fault items signs ≡ None → code ≡ code_of items signs
    → (at : ℕ) (spelled : Text) (with : Instr) → Reads items signs at spelled (Fits with) → FitsPlace code at with
read_fits items signs code whole faultless e at spelled with reads =
    subst (λ made. FitsPlace made at with) (sym e) (replacement-fits (record { items = items }) signs at reads.0 with whole faultless reads.2)
