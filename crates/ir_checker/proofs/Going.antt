-- One turn of the pass over the items of a module.
use Rattle.std.proofs.Common.{◌≡◌, ℕ, suc, ◌+◌, ◌-◌, ◌<◌, ◌≤◌, Bool, List, [], ◌∷◌, length, take, drop, get_or, Option, Some, None, refl, sym, ap, subst, ◌∙◌, arith, add-one}
use Rattle.std.proofs.lemmas.List.{drop_more, drop_all, length-take-le, take_rest}
use Rattle.std.proofs.lemmas.List.Sums.{count_by-le-length}
use Rattle.code_form.specs.declared.sign.PortSign.{PortSign}
use Rattle.ir_tree.specs.declared.name.Name.{Name}
use Rattle.ir_tree.specs.declared.item.Item.{Item}
use Rattle.ir_names.specs.Names.{firsts}
use Rattle.ir_rules.specs.declared.entity.Entity.{Entity}
use Rattle.ir_rules.specs.declared.rule.Rule.{Rule}
use Rattle.ir_rules.specs.declared.rule.Fault.{Fault}
use Rattle.ir_rules.specs.declared.scope.Scope.{Scope}
use Rattle.ir_rules.specs.Types.{Kinds, TypeDefs, type_defs, kind_of}
use Rattle.ir_rules.specs.Scopes.{with_item, scope_of}
use Rattle.ir_rules.specs.Entities.{entities_of}
use Rattle.ir_rules.specs.Settings.{Setting, head_of, function_items, items_before, setting_of, edges_of, result_of}
use Rattle.ir_rules.specs.Limits.{is_function, is_instruction, is_type_definition}
use Rattle.ir_rules.specs.Rules.{rule_at, fault_at, fault_from, fault}
use Rattle.ir_call_rules.specs.Alone.{branches_alone}
use Rattle.ir_call_rules.specs.Sources.{bucket, sources_once}
use Rattle.ir_pass.specs.declared.frame.Frame.{Frame}
use Rattle.ir_pass.specs.declared.seen.Seen.{Seen}
use Rattle.ir_pass.specs.Heads as heads
use Rattle.ir_pass.specs.Frames.{Holds, left}
use Rattle.ir_pass.specs.Seen.{seen_of}
use Rattle.ir_pass.proofs.Heads.{Stands, entered, passed}
use Rattle.ir_pass.proofs.SoFar.{counted}
use Rattle.ir_checker.specs.declared.broken.Notes.{Notes}
use Rattle.ir_checker.specs.Judged.{notes_of, Fits}
use Rattle.ir_checker.specs.Passes.{Arrived, IsJudgedBy}

module _ (items : List Item) (signs : List PortSign) (kind : Kinds) (es : List (Name × Entity)) (same : ◌≡◌ {A = Kinds} kind (kind_of (type_defs items)))
    (all : es ≡ firsts (entities_of kind items)) (i : ℕ) (x : Item) (h : i < length items) (e : x ≡ get_or items i x) (inside : Bool) (old new : Frame) (sn : Seen)
    (ns : Notes) (stands : Stands kind items i inside old) (so : sn ≡ seen_of (take i items)) (came : Arrived kind old (take (length items - i) (drop i items)) x ns new) where
  arrived : Arrived kind old (drop i items) x ns new
  arrived = subst (λ l. Arrived kind old l x ns new) (take_rest items i) came

  abbrev own : Setting
  own = setting_of items signs i x

  abbrev body : List Item
  body = function_items items (head_of items i x)

  abbrev prior : List Item
  prior = items_before items i (head_of items i x)

  holds : Holds kind body prior arrived.frame
  holds = entered kind items i x h e inside old arrived.frame stands arrived.holds

  function-is : new.function ≡ own.function
  function-is = ap (λ (f : Frame). f.function) arrived.new ∙ holds.function ∙ ap (λ k. scope_of k body) same

  before-is : arrived.frame.before ≡ own.before
  before-is = holds.before ∙ ap (λ k. scope_of k prior) same

  entities-are : es ≡ firsts own.entities
  entities-are = all ∙ ap (λ k. firsts (entities_of k items)) same

  sources-are : (b : ℕ) → bucket new.sources b ≡ sources_once own own.edges b
  sources-are b =
      let table = ap (λ (c : Scope). c.table) (holds.function ∙ ap (λ k. scope_of k body) same) in
      ap (λ (f : Frame). bucket f.sources b) arrived.new
      ∙ holds.sources b
      ∙ (λ j. sources_once (branches_alone (table j) []) (edges_of (same j) body) b)

  after-is : new.before ≡ with_item own.kind own.before x
  after-is = ap (λ (f : Frame). f.before) arrived.new ∙ (λ j. with_item (same j) (before-is j) x)

  pub fits : Fits own x kind es signs new sn ns
  fits = record {
    kinds = same;
    entities = entities-are;
    signs = refl;
    function = function-is;
    sources = sources-are;
    result = ap (λ (f : Frame). f.result) arrived.new ∙ holds.result ∙ ap (λ k. result_of k body) same;
    after = after-is;
    seen = so;
    notes = arrived.notes ∙ ap (λ b. notes_of b x) before-is;
  }

  pub told : (defs : TypeDefs) → defs ≡ type_defs items → IsJudgedBy own defs kind es new.function.table
  told defs d = record {
    types = d;
    kinds = same;
    entities = entities-are;
    locals = ap (λ (c : Scope). c.table) function-is;
  }

  pub goes-on : Stands kind items (i + 1) (heads.opened inside x) (left (heads.opened inside x) new x)
  goes-on = subst (λ (f : Frame). Stands kind items (i + 1) (heads.opened inside x) (left (heads.opened inside x) f x)) (sym arrived.new)
      (passed kind items i x h e inside old arrived.frame stands holds)

-- no count passes the number of items
pub few : (items : List Item) (i : ℕ) (sn : Seen) → i ≤ length items → sn ≡ seen_of (take i items) → (sn.functions ≤ i) × (sn.definitions ≤ i) × (sn.instructions ≤ i)
few items i sn h so =
    let all = counted (take i items) in
    let long = length-take-le i items h in
    let f : sn.functions ≡ _ = ap (λ (s : Seen). s.functions) so ∙ all.functions in
    let d : sn.definitions ≡ _ = ap (λ (s : Seen). s.definitions) so ∙ all.definitions in
    let n : sn.instructions ≡ _ = ap (λ (s : Seen). s.instructions) so ∙ all.instructions in (
      omega (arith, count_by-le-length is_function (take i items)),
      omega (arith, count_by-le-length is_type_definition (take i items)),
      omega (arith, count_by-le-length is_instruction (take i items)),
    )

-- ---- the first fault

module _ (items : List Item) (signs : List PortSign) (i : ℕ) (rest : fault_from items signs i (drop i items) ≡ fault items signs) where
  module _ (x : Item) (h : i < length items) (e : x ≡ get_or items i x) where
    turn : fault_at i (rule_at items signs i x) (fault_from items signs (suc i) (drop (i + 1) items)) ≡ fault items signs
    turn = sym (ap (fault_from items signs i) (drop_more items i x h ∙ ap (λ y. y ∷ drop (i + 1) items) (sym e))) ∙ rest

    pub fault-here : (r : Rule) → Some r ≡ rule_at items signs i x → ◌≡◌ {A = Option Fault} (Some (record { item = i; rule = r })) (fault items signs)
    fault-here r is = ap (λ o. fault_at i o (fault_from items signs (suc i) (drop (i + 1) items))) is ∙ turn

    pub fault-later : None ≡ rule_at items signs i x → fault_from items signs (i + 1) (drop (i + 1) items) ≡ fault items signs
    fault-later is =
        let next : i + 1 ≡ suc i = add-one i in
        ap (λ k. fault_from items signs k (drop (i + 1) items)) next ∙ ap (λ o. fault_at i o (fault_from items signs (suc i) (drop (i + 1) items))) is ∙ turn

  pub no-fault : length items ≤ i → ◌≡◌ {A = Option Fault} None (fault items signs)
  no-fault h = sym (ap (fault_from items signs i) (drop_all i items h)) ∙ rest
