-- The instruction that a replacement is in the place of another instruction, or that it can't stand there.
use Rattle.std.specs.Prelude.{ℕ, zero, suc, Bool, true, false, not, ◌&&◌, ◌||◌, List, [], ◌∷◌, Option, Some, None, if◌then◌else◌}
use Rattle.std.specs.List.{list_any, list_all}
use Rattle.std.specs.Option.{option_map}
use Rattle.code_form.specs.declared.code.TyScalar.{TyScalar}
use Rattle.code_form.specs.declared.code.Code.{Code}
use Rattle.code_form.specs.declared.instr.Instr.{Instr}
use Rattle.code_form.specs.declared.sign.PortSign.{PortSign}
use Rattle.ir_tree.specs.declared.name.Name.{Name}
use Rattle.ir_tree.specs.declared.op.Op.{Op}
use Rattle.ir_tree.specs.declared.op.Op.TheVariants as op
use Rattle.ir_tree.specs.declared.item.Item.{Item}
use Rattle.ir_tree.specs.declared.item.Item.TheVariants as item
use Rattle.ir_tree.specs.declared.item.Module.{Module}
use Rattle.ir_names.specs.Names.{same_name}
use Rattle.ir_rules.specs.declared.rule.Rule.{Rule}
use Rattle.ir_rules.specs.declared.rule.Rule.TheVariants.{UnknownType, RecursiveType, TypeTooLarge, ScalarWanted, UnknownName, TypeDiffers, LiteralRange}
use Rattle.ir_rules.specs.declared.rule.Rule.TheVariants.{UnknownLabel, UnknownCallee, CallDiffers, ReturnDiffers, SwitchCase, GetPath, InitDiffers}
use Rattle.ir_rules.specs.declared.rule.Rule.TheVariants.{EntryTarget, CastWidth}
use Rattle.ir_rules.specs.Types.{Kinds, type_defs}
use Rattle.ir_rules.specs.Scopes.{is_phi, is_terminator, value_kind}
use Rattle.ir_rules.specs.Parts.{branch_labels}
use Rattle.ir_rules.specs.Entities.{same_result}
use Rattle.ir_rules.specs.Settings.{Setting, setting_of}
use Rattle.ir_rules.specs.Rules.{breaks_in}
use Rattle.ir_rules.specs.Memory.{Addresses, addresses_of}
use Rattle.ir_rules.specs.Codes.{op_code}

-- ---- the original

pub record Original : Type 0 where
  -- its item's number, its written result and itself
  pub at : ℕ
  pub result : Option Name
  pub instruction : Op

-- the instruction with a number among some items, which are numbered from `at`
abbrev pub original_from : ℕ → ℕ → List Item → Option Original
original_from at place [] = None
original_from at zero (item.Instr r o ∷ more) = Some (record { at = at; result = r; instruction = o })
original_from at (suc place) (item.Instr r o ∷ more) = original_from (suc at) place more
original_from at place (x ∷ more) = original_from (suc at) place more

-- ---- the points in which a replacement doesn't fit

abbrev pub is_alloca : Op → Bool
is_alloca (op.Alloca t n) = true
is_alloca _ = false

-- the original or the replacement is `phi` or `alloca`
abbrev pub stays_as_it_is : Op → Bool
stays_as_it_is o = is_phi o || is_alloca o

-- one of the two is a terminator and the other isn't
abbrev pub ends_otherwise : Op → Op → Bool
ends_otherwise old new = (is_terminator old && not (is_terminator new)) || (not (is_terminator old) && is_terminator new)

-- their result types differ; to have no value counts as a type
abbrev pub gives_otherwise : Kinds → Op → Op → Bool
gives_otherwise kind old new = not (same_result (value_kind kind old) (value_kind kind new))

-- the replacement's labels aren't all among the original's
abbrev pub goes_elsewhere : Op → Op → Bool
goes_elsewhere old new = not (list_all (λ n. list_any (same_name n) (branch_labels old)) (branch_labels new))

-- the replacement, in the original's place, breaks one of the rules on what stands in an instruction
abbrev pub replacement_rules : List Rule
replacement_rules =
    UnknownType ∷ RecursiveType ∷ TypeTooLarge ∷ ScalarWanted ∷ UnknownName ∷ TypeDiffers ∷ LiteralRange ∷ UnknownLabel ∷ UnknownCallee ∷ CallDiffers
    ∷ ReturnDiffers ∷ SwitchCase ∷ GetPath
    ∷ InitDiffers ∷ EntryTarget ∷ CastWidth ∷ []

abbrev pub breaks_there : Setting → Option Name → Op → Bool
breaks_there s result new = list_any (breaks_in s (item.Instr result new)) replacement_rules

abbrev pub is_misfit : Setting → Original → Op → Bool
is_misfit s original new =
    stays_as_it_is original.instruction || stays_as_it_is new || ends_otherwise original.instruction new
    || gives_otherwise s.kind original.instruction new || goes_elsewhere original.instruction new
    || breaks_there s original.result new

-- ---- the replacement

abbrev pub fitting : Setting → Addresses → Original → Op → Option Instr
fitting s addresses original new = if is_misfit s original new then None else Some (op_code s addresses new)

abbrev pub replacement_for : List Item → List PortSign → Option Original → Op → Option Instr
replacement_for items signs None new = None
replacement_for items signs (Some original) new =
    fitting (setting_of items signs original.at (item.Instr original.result original.instruction)) (addresses_of (type_defs items) items) original new

abbrev pub replacement_by : List Item → List PortSign → ℕ → Item → Option Instr
replacement_by items signs place (item.Instr r o) = replacement_for items signs (original_from 0 place items) o
replacement_by items signs place x = None

-- the instruction that an item is in a place of the code of a module; nothing where it doesn't fit that place
abbrev pub replacement : Module → Code → ℕ → Item → Option Instr
replacement m code place x = replacement_by m.items code.signs place x
