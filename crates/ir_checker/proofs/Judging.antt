-- What the pass knows of an item tells the least rule that it breaks.
use Rattle.std.proofs.Common.{◌≡◌, Bool, true, false, not, ◌||◌, List, [], ◌∷◌, length, find, Option, Some, None, refl, sym, ap, ◌∙◌}
use Rattle.std.specs.List.{list_any}
use Rattle.code_form.specs.declared.sign.PortSign.{PortSign}
use Rattle.ir_tree.specs.declared.name.Name.{Name}
use Rattle.ir_tree.specs.declared.operand.Opd.{Opd}
use Rattle.ir_tree.specs.declared.operand.Opd.TheVariants as opd
use Rattle.ir_tree.specs.declared.item.Item.{Item}
use Rattle.ir_tree.specs.declared.item.Item.TheVariants as item
use Rattle.ir_names.specs.Names.{firsts}
use Rattle.ir_names.proofs.Defined.{defined-firsts}
use Rattle.ir_rules.specs.declared.entity.Entity.{Entity}
use Rattle.ir_rules.specs.declared.local.Local.{Local}
use Rattle.ir_rules.specs.declared.rule.Rule.{Rule}
use Rattle.ir_rules.specs.declared.rule.Rule.TheVariants as rule
use Rattle.ir_rules.specs.declared.scope.Scope.{Scope}
use Rattle.ir_rules.specs.Types.{Kinds}
use Rattle.ir_rules.specs.Parts.{Typed, op_operands}
use Rattle.ir_rules.specs.Settings.{Setting}
use Rattle.ir_rules.specs.Operands.{unknown_type, recursive_type, type_too_large, unknown_name, type_differs, literal_range, names_nothing, is_variable}
use Rattle.ir_rules.specs.Blocks.{unknown_label, phi_place, phi_entries, block_open, entry_target, own_block}
use Rattle.ir_rules.specs.Calls.{unknown_callee, call_differs, return_differs, declare_differs}
use Rattle.ir_rules.specs.Paths.{switch_case, result_misplaced, cast_width}
use Rattle.ir_rules.specs.Limits.{limit, is_instruction}
use Rattle.ir_rules.specs.Rules.{outer_double, double_name, number_order, breaks_in, least_rule}
use Rattle.ir_rules.proofs.Passing.{again-exact, low-exact}
use Rattle.ir_block_rules.specs.Alone.{locals_alone, kinds_alone, result_alone}
use Rattle.ir_operand_rules.specs.Each.{setting_in}
use Rattle.ir_call_rules.specs.Alone.{calls_alone}
use Rattle.ir_call_rules.specs.Sources.{bucket, phi_differs}
use Rattle.ir_call_rules.proofs.Alike.{callee-alike, call-alike, entries-alike}
use Rattle.ir_pass.specs.declared.frame.Frame.{Frame}
use Rattle.ir_pass.specs.declared.seen.Seen.{Seen}
use Rattle.ir_pass.specs.Seen.{seen_of, outer_double_in, limit_in}
use Rattle.ir_pass.proofs.SoFar.{double-seen, limit-seen}
use Rattle.ir_checker.specs.declared.broken.Notes.{Notes}
use Rattle.ir_checker.specs.declared.broken.TypeBreaks.{TypeBreaks}
use Rattle.ir_checker.specs.Judged.{pick, either, name_rules, names_unknown, types_differ, numbers_out, operand_rules, block_rules, call_rules, last_rules}
use Rattle.ir_checker.specs.Judged.{Fits, is_global, has_large, AreOf}

-- ---- operands

nothing-first : (s : Setting) (a : Opd) → names_nothing (setting_in s.kind (firsts s.entities) s.function.table) a ≡ names_nothing s a
nothing-first s (opd.Global n) = ap (λ e. not (is_variable e)) (defined-firsts s.entities [] n)
nothing-first s (opd.Get g) = ap (λ e. not (is_variable e)) (defined-firsts s.entities [] g.2)
nothing-first s _ = refl

module _ (s : Setting) (kind : Kinds) (entities : List (Name × Entity)) (locals : List (Name × Local)) (k : ◌≡◌ {A = Kinds} kind s.kind)
    (e : entities ≡ firsts s.entities) (l : locals ≡ s.function.table) (bit : Bool) where
  names-fit : (x : Item) → (is_instruction x ≡ false → bit ≡ unknown_name s x) → names_unknown kind entities locals bit x ≡ unknown_name s x
  names-fit (item.Instr r o) h =
      (λ i. unknown_name (setting_in (k i) (e i) (l i)) (item.Instr None o)) ∙ (λ i. list_any (λ (v : Typed). nothing-first s v.1 i) (op_operands o))
  names-fit (item.TypeDef n t) h = h refl
  names-fit (item.Global n c t g) h = h refl
  names-fit (item.Declare n t ts) h = h refl
  names-fit (item.Head n t ps) h = h refl
  names-fit (item.Label n) h = h refl
  names-fit item.End h = h refl

  types-fit : (x : Item) → (is_instruction x ≡ false → bit ≡ type_differs s x) → types_differ kind entities locals bit x ≡ type_differs s x
  types-fit (item.Instr r o) h = λ i. type_differs (setting_in (k i) (e i) (l i)) (item.Instr None o)
  types-fit (item.TypeDef n t) h = h refl
  types-fit (item.Global n c t g) h = h refl
  types-fit (item.Declare n t ts) h = h refl
  types-fit (item.Head n t ps) h = h refl
  types-fit (item.Label n) h = h refl
  types-fit item.End h = h refl

  numbers-fit : (x : Item) → (is_instruction x ≡ false → bit ≡ literal_range s x) → numbers_out kind entities locals bit x ≡ literal_range s x
  numbers-fit (item.Instr r o) h = λ i. literal_range (setting_in (k i) (e i) (l i)) (item.Instr None o)
  numbers-fit (item.TypeDef n t) h = h refl
  numbers-fit (item.Global n c t g) h = h refl
  numbers-fit (item.Declare n t ts) h = h refl
  numbers-fit (item.Head n t ps) h = h refl
  numbers-fit (item.Label n) h = h refl
  numbers-fit item.End h = h refl

-- ---- the rules behind each of the first ones

abbrev from_scalars : List Rule
from_scalars =
    rule.ScalarWanted ∷ rule.UnknownName ∷ rule.TypeDiffers ∷ rule.LiteralRange ∷ rule.UnknownLabel ∷ rule.PhiPlace ∷ rule.PhiEntries ∷ rule.BlockOpen
    ∷ rule.UnknownCallee ∷ rule.CallDiffers ∷ rule.ReturnDiffers ∷ rule.SwitchCase ∷ rule.GetPath ∷ rule.ResultName ∷ rule.InitDiffers ∷ rule.EntryTarget
    ∷ rule.CastWidth ∷ rule.DeclareDiffers ∷ rule.Limit ∷ []

abbrev from_large : List Rule
from_large = rule.TypeTooLarge ∷ from_scalars

abbrev from_recursive : List Rule
from_recursive = rule.RecursiveType ∷ from_large

abbrev from_unknown : List Rule
from_unknown = rule.UnknownType ∷ from_recursive

abbrev from_numbers : List Rule
from_numbers = rule.NumberOrder ∷ from_unknown

-- ---- each rule

module _ (s : Setting) (x : Item) (kind : Kinds) (entities : List (Name × Entity)) (signs : List PortSign) (f : Frame) (seen : Seen) (notes : Notes) (t : TypeBreaks)
    (fits : Fits s x kind entities signs f seen notes) (are : AreOf s x t) where
  table-is : f.function.table ≡ s.function.table
  table-is = ap (λ (c : Scope). c.table) fits.function

  double-is : either (outer_double_in seen x) f.before.again ≡ double_name s x
  double-is =
      let outer : outer_double_in seen x ≡ outer_double s.above x = ap (λ z. outer_double_in z x) fits.seen ∙ double-seen s.above x in
      let inner = ap (λ (c : Scope). c.again) fits.after ∙ sym (again-exact s x) in
      λ i. outer i || inner i

  order-is : f.before.low ≡ number_order s x
  order-is = ap (λ (c : Scope). c.low) fits.after ∙ sym (low-exact s x)

  names-is : names_unknown kind entities f.function.table t.unknown_name x ≡ unknown_name s x
  names-is = names-fit s kind entities f.function.table fits.kinds fits.entities table-is t.unknown_name x are.unknown_name

  types-is : types_differ kind entities f.function.table t.type_differs x ≡ type_differs s x
  types-is = types-fit s kind entities f.function.table fits.kinds fits.entities table-is t.type_differs x are.type_differs

  numbers-is : numbers_out kind entities f.function.table t.literal_range x ≡ literal_range s x
  numbers-is = numbers-fit s kind entities f.function.table fits.kinds fits.entities table-is t.literal_range x are.literal_range

  label-is : unknown_label (locals_alone f.function.table) x ≡ unknown_label s x
  label-is = ap (λ l. unknown_label (locals_alone l) x) table-is

  place-is : notes.phi_place ≡ phi_place s x
  place-is = ap (λ (n : Notes). n.phi_place) fits.notes

  entries-is : phi_differs f.function.table (bucket f.sources notes.own_block) x ≡ phi_entries s x
  entries-is =
      ap (λ l. phi_differs l (bucket f.sources notes.own_block) x) table-is
      ∙ ap (λ ns. phi_differs s.function.table ns x) (ap (λ (n : Notes). bucket f.sources n.own_block) fits.notes ∙ fits.sources (own_block s))
      ∙ sym (entries-alike s x)

  unended-is : notes.block_open ≡ block_open s x
  unended-is = ap (λ (n : Notes). n.block_open) fits.notes

  callee-is : unknown_callee (calls_alone (λ t. None) entities signs) x ≡ unknown_callee s x
  callee-is = (λ i. unknown_callee (calls_alone (λ t. None) (fits.entities i) (fits.signs i)) x) ∙ sym (callee-alike s x)

  call-is : call_differs (calls_alone kind entities []) x ≡ call_differs s x
  call-is = (λ i. call_differs (calls_alone (fits.kinds i) (fits.entities i) []) x) ∙ sym (call-alike s x)

  result-is : return_differs (result_alone kind f.result) x ≡ return_differs s x
  result-is = λ i. return_differs (result_alone (fits.kinds i) (fits.result i)) x

  case-is : switch_case (calls_alone kind [] []) x ≡ switch_case s x
  case-is = λ i. switch_case (calls_alone (fits.kinds i) [] []) x

  target-is : entry_target (locals_alone f.function.table) x ≡ entry_target s x
  target-is = ap (λ l. entry_target (locals_alone l) x) table-is

  width-is : cast_width (kinds_alone kind) x ≡ cast_width s x
  width-is = λ i. cast_width (kinds_alone (fits.kinds i)) x

  declare-is : declare_differs (calls_alone kind [] signs) x ≡ declare_differs s x
  declare-is = λ i. declare_differs (calls_alone (fits.kinds i) [] (fits.signs i)) x

  limit-is : type_too_large s x ≡ false → limit_in seen notes.registers (length f.before.types) t.full x ≡ limit s x
  limit-is small =
      ap (λ z. limit_in z notes.registers (length f.before.types) t.full x) fits.seen
      ∙ ap (λ (n : Notes). limit_in (seen_of s.above) n.registers (length f.before.types) t.full x) fits.notes
      ∙ ap (λ (c : Scope). limit_in (seen_of s.above) (length s.before.types) (length c.types) t.full x) fits.after
      ∙ limit-seen s x t.full (λ n c ty g same. are.full (ap is_global same) small)

  abbrev rest : Option Rule
  rest =
      pick t.scalar_wanted rule.ScalarWanted
      (operand_rules kind entities f.function.table t x (block_rules f notes x (call_rules kind entities signs f x (last_rules kind signs f seen notes t x))))

  rest-is : type_too_large s x ≡ false → rest ≡ find (breaks_in s x) from_scalars
  rest-is small = λ i.
      pick (are.scalar_wanted i) rule.ScalarWanted
      (pick (names-is i) rule.UnknownName (pick (types-is i) rule.TypeDiffers (pick (numbers-is i) rule.LiteralRange
      (pick (label-is i) rule.UnknownLabel (pick (place-is i) rule.PhiPlace (pick (entries-is i) rule.PhiEntries (pick (unended-is i) rule.BlockOpen
      (pick (callee-is i) rule.UnknownCallee (pick (call-is i) rule.CallDiffers (pick (result-is i) rule.ReturnDiffers (pick (case-is i) rule.SwitchCase
      (pick (are.get_path i) rule.GetPath (pick (result_misplaced x) rule.ResultName (pick (are.init_differs i) rule.InitDiffers
      (pick (target-is i) rule.EntryTarget (pick (width-is i) rule.CastWidth (pick (declare-is i) rule.DeclareDiffers
      (pick (limit-is small i) rule.Limit None))))))))))))))))))

  -- where a type is too large, no later rule is asked
  large-is : pick t.type_too_large rule.TypeTooLarge rest ≡ pick (type_too_large s x) rule.TypeTooLarge (find (breaks_in s x) from_scalars)
  large-is = ap (λ b. pick b rule.TypeTooLarge rest) are.type_too_large ∙ by (type_too_large s x) rest-is
    where
      by : (b : Bool) → (b ≡ false → rest ≡ find (breaks_in s x) from_scalars)
          → pick b rule.TypeTooLarge rest ≡ pick b rule.TypeTooLarge (find (breaks_in s x) from_scalars)
      by true h = refl
      by false h = h refl

  pub judged : name_rules f seen t x (operand_rules kind entities f.function.table t x (block_rules f notes x (call_rules kind entities signs f x (last_rules kind signs f seen notes t x))))
      ≡ least_rule s x
  judged = λ i.
      pick (double-is i) rule.DoubleName (pick (order-is i) rule.NumberOrder (pick (are.unknown_type i) rule.UnknownType
      (pick (are.recursive_type i) rule.RecursiveType (large-is i))))

-- ---- an item that breaks no rule

unpicked : (broken : Bool) (r : Rule) (later : Option Rule) → None ≡ pick broken r later → (broken ≡ false) × (None ≡ later)
unpicked true r later h = absurd (none-some r h)
  where
    none-some : (r : Rule) → ◌≡◌ {A = Option Rule} None (Some r) → ⊥
    none-some r e = cc
unpicked false r later h = (refl, h)

-- no type that is written in it is too large
pub none-large : (s : Setting) (x : Item) → None ≡ least_rule s x → has_large s.types x ≡ false
none-large s x h =
    let names = unpicked (double_name s x) rule.DoubleName (find (breaks_in s x) from_numbers) h in
    let numbers = unpicked (number_order s x) rule.NumberOrder (find (breaks_in s x) from_unknown) names.1 in
    let unknown = unpicked (unknown_type s x) rule.UnknownType (find (breaks_in s x) from_recursive) numbers.1 in
    let recursive = unpicked (recursive_type s x) rule.RecursiveType (find (breaks_in s x) from_large) unknown.1 in
    (unpicked (type_too_large s x) rule.TypeTooLarge (find (breaks_in s x) from_scalars) recursive.1).0
