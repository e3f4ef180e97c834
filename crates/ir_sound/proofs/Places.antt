-- The instructions of a function, each with what stands before it, and that they keep the rules.
use Rattle.std.proofs.Common.{◌≡◌, ℕ, Bool, false, List, [], ◌∷◌, ◌++◌, Option, Some, None}
use Rattle.code_form.specs.declared.code.TyScalar.{TyScalar}
use Rattle.ir_tree.specs.declared.name.Name.{Name}
use Rattle.ir_tree.specs.declared.op.Op.{Op}
use Rattle.ir_tree.specs.declared.item.Item.{Item}
use Rattle.ir_tree.specs.declared.item.Item.TheVariants as item
use Rattle.ir_rules.specs.declared.rule.Rule.{Rule}
use Rattle.ir_rules.specs.declared.rule.Rule.TheVariants.{ScalarWanted, TypeDiffers, TypeTooLarge, UnknownLabel, UnknownCallee, CallDiffers, ReturnDiffers}
use Rattle.ir_rules.specs.declared.rule.Rule.TheVariants.{SwitchCase}
use Rattle.ir_rules.specs.declared.rule.Rule.TheVariants.{EntryTarget, CastWidth}
use Rattle.ir_rules.specs.declared.scope.Scope.{Scope}
use Rattle.ir_rules.specs.Types.{Kinds}
use Rattle.ir_rules.specs.Scopes.{with_result, with_item}
use Rattle.ir_rules.specs.Settings.{Setting}
use Rattle.ir_rules.specs.Rules.{breaks_in}
use Rattle.ir_rules.specs.Operands.{scalar_wanted, type_differs, type_too_large}
use Rattle.ir_rules.specs.Blocks.{unknown_label, entry_target}
use Rattle.ir_rules.specs.Calls.{unknown_callee, call_differs, return_differs}
use Rattle.ir_rules.specs.Paths.{switch_case, cast_width}
use Rattle.ir_sound.proofs.Scopes.{value-parts, no-value-parts}

-- an instruction, its written result and what stands before it
pub record Place : Type 0 where
  pub before : Scope
  pub result : Option Name
  pub op : Op

abbrev pub places_in : Kinds → Scope → List Item → List Place
places_in kind s [] = []
places_in kind s (item.Instr r o ∷ more) = record { before = s; result = r; op = o } ∷ places_in kind (with_item kind s (item.Instr r o)) more
places_in kind s (x ∷ more) = places_in kind (with_item kind s x) more

-- the setting of an item of a function, by what stands before it in the function and in the module
abbrev pub placed : Setting → Scope → List Item → Setting
placed b s above = record b { before = s; above = above }

-- an item keeps all rules
abbrev pub Keeps : Setting → Item → Type 0
Keeps s x = (r : Rule) → breaks_in s x r ≡ false

-- the rules on what stands in an instruction
pub record KeepsOp (s : Setting) (x : Item) : Type 0 where
  pub scalar : scalar_wanted s x ≡ false
  pub types : type_differs s x ≡ false
  pub large : type_too_large s x ≡ false
  pub label : unknown_label s x ≡ false
  pub callee : unknown_callee s x ≡ false
  pub call : call_differs s x ≡ false
  pub returned : return_differs s x ≡ false
  pub cases : switch_case s x ≡ false
  pub entry : entry_target s x ≡ false
  pub cast : cast_width s x ≡ false

pub keeps-op : (s : Setting) (x : Item) → Keeps s x → KeepsOp s x
keeps-op s x h = record {
  scalar = h ScalarWanted;
  types = h TypeDiffers;
  large = h TypeTooLarge;
  label = h UnknownLabel;
  callee = h UnknownCallee;
  call = h CallDiffers;
  returned = h ReturnDiffers;
  cases = h SwitchCase;
  entry = h EntryTarget;
  cast = h CastWidth;
}

abbrev pub KeepsIn : Setting → Scope → Item → Type 0
KeepsIn b s x = (above : List Item) × Keeps (placed b s above) x

abbrev pub KeptFrom : Setting → Scope → List Item → Type 0
KeptFrom b s [] = Unit {0}
KeptFrom b s (x ∷ xs) = KeepsIn b s x × KeptFrom b (with_item b.kind s x) xs

-- the items of a function behind its head: labels and instructions, and its end
abbrev pub IsBody : List Item → Type 0
IsBody [] = ⊥
IsBody (item.End ∷ []) = Unit {0}
IsBody (item.Label n ∷ more) = IsBody more
IsBody (item.Instr r o ∷ more) = IsBody more
IsBody _ = ⊥

-- ---- blocks and results along the items

-- the parts that have to do with blocks, behind an instruction
pub record OpParts (s : Scope) (o : Op) (t : Scope) : Type 0 where
  pub starts : t.starts ≡ s.starts
  pub results : (r : Option ℕ) × (t.results ≡ s.results ++ r ∷ [])
  pub terminated : t.terminated ≡ s.terminated
  pub mixed : t.mixed ≡ s.mixed

pub result-parts : (s : Scope) (n : Option Name) (call : Bool) (k : Option (Option TyScalar)) →
    ((with_result s n call k).starts ≡ s.starts) × ((with_result s n call k).results ≡ s.results) × ((with_result s n call k).terminated ≡ s.terminated)
    × ((with_result s n call k).mixed ≡ s.mixed)
result-parts s n call (Some k) =
    let same = value-parts s n call _ in
    (same.starts, same.results, same.terminated, same.mixed)
result-parts s n call None = let same = no-value-parts s n in (same.starts, same.results, same.terminated, same.mixed)
