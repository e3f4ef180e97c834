-- The room that a code has for a function, and for an instruction.
use Rattle.std.proofs.Common.{◌≡◌, ℕ, suc, ◌+◌, ◌^◌, ◌<◌, ◌≤◌, nat_lt, Bool, true, false, List, [], ◌∷◌, ◌++◌, length, drop, Option, Some, None, slice_get, is_some, ◌&&◌, if◌then◌else◌, refl, sym, ap, ◌∙◌, arith, add-one}
use Rattle.std.specs.List.{fold}
use Rattle.std.proofs.lemmas.List.{length-append, length-drop}
use Rattle.std.proofs.lemmas.Bool.Decides.{nat_tests}
use Rattle.am_base.specs.declared.limits.TheConstants.{MAX_FILE_BYTES, MAX_INSTRUCTIONS, MAX_FUNCTION_REGISTERS}
use Rattle.code_form.specs.declared.code.Code.{Code}
use Rattle.code_form.specs.declared.code.Func.{Func}
use Rattle.code_form.specs.declared.instr.Instr.{Instr}
use Rattle.code_form.specs.declared.code.TyScalar.{TyScalar}
use Rattle.code_form.specs.declared.sign.PortSign.{PortSign}
use Rattle.code_form.specs.Sound.{IsSound}
use Rattle.ir_tree.specs.declared.name.Name.{Name}
use Rattle.ir_tree.specs.declared.type_text.TyText.{TyText}
use Rattle.ir_tree.specs.declared.op.Op.{Op}
use Rattle.ir_tree.specs.declared.item.Item.{Item}
use Rattle.ir_tree.specs.declared.item.Item.TheVariants as item
use Rattle.ir_rules.specs.declared.local.Local.TheVariants.{Value, Block}
use Rattle.ir_rules.specs.declared.rule.Rule.TheVariants.{Limit}
use Rattle.ir_rules.specs.declared.scope.Scope.{Scope}
use Rattle.ir_rules.specs.Types.{Kinds, TypeDefs}
use Rattle.ir_rules.specs.Scopes.{empty_scope, with_parameter, with_block, with_first_block, with_result, with_op, with_item, scope_of, value_type, value_kind, kind_or_none, value_register, has_value, is_call}
use Rattle.ir_rules.specs.Settings.{Setting, upto_end, setting_of}
use Rattle.ir_rules.specs.Limits.{limit, passes_registers}
use Rattle.ir_rules.specs.Rules.{fault}
use Rattle.ir_rules.specs.Modules.{function_code}
use Rattle.ir_rules.proofs.FirstFaults.{fault-none}
use Rattle.ir_sound.proofs.Lists.{neither, get-right}
use Rattle.ir_sound.proofs.Places.{result-parts}
use Rattle.ir_sound.proofs.Scopes.{name-parts, number-results, kinds_list, op-types}
use Rattle.ir_sound.proofs.Starts.{starts-within}
use Rattle.ir_module.specs.Parts.{HasRoom}

-- ---- how many instructions the items of a function have at most

parameters-results : (kind : Kinds) (ps : List (TyText × Option Name)) (s : Scope) → (fold (with_parameter kind) s ps).results ≡ s.results
parameters-results kind [] s = refl
parameters-results kind (p ∷ ps) s =
    parameters-results kind ps (with_parameter kind s p) ∙ (name-parts s p.1 (Value (kind p.0) (length s.types))).results

first-block-results : (s : Scope) → (with_first_block s).results ≡ s.results
first-block-results s = by (nat_lt 0 (length s.starts))
  where
    by : (b : Bool) → (if b then s else with_block s None).results ≡ s.results
    by true = refl
    by false = number-results s (Block (length s.starts))

op-results : (kind : Kinds) (s : Scope) (r : Option Name) (o : Op) → length (with_op kind s r o).results ≡ suc (length s.results)
op-results kind s r o =
    let before = (with_result (with_first_block s) r (is_call o) (value_kind kind o)).results in
    length-append before (value_register s o ∷ [])
    ∙ add-one (length before)
    ∙ ap (λ (l : List (Option ℕ)). suc (length l)) ((result-parts (with_first_block s) r (is_call o) (value_kind kind o)).1 ∙ first-block-results s)

few-results : (s t : Scope) → t.results ≡ s.results → length t.results ≤ suc (length s.results)
few-results s t e = let same = ap (λ (l : List (Option ℕ)). length l) e in omega arith

item-results : (kind : Kinds) (s : Scope) (x : Item) → length (with_item kind s x).results ≤ suc (length s.results)
item-results kind s (item.Head n t ps) =
    few-results s (with_item kind s (item.Head n t ps)) (parameters-results kind ps (record s { again = false; low = false }))
item-results kind s (item.Label n) = few-results s (with_item kind s (item.Label n)) refl
item-results kind s (item.Instr r o) = let same = op-results kind (record s { again = false; low = false }) r o in omega arith
item-results kind s (item.TypeDef n t) = few-results s (with_item kind s (item.TypeDef n t)) refl
item-results kind s (item.Global n b t i) = few-results s (with_item kind s (item.Global n b t i)) refl
item-results kind s (item.Declare n t ts) = few-results s (with_item kind s (item.Declare n t ts)) refl
item-results kind s item.End = few-results s (with_item kind s item.End) refl

items-results : (kind : Kinds) (xs : List Item) (s : Scope) → length (fold (with_item kind) s xs).results ≤ length s.results + length xs
items-results kind [] s = omega arith
items-results kind (x ∷ xs) s =
    let one = item-results kind s x in
    let rest = items-results kind xs (with_item kind s x) in
    omega arith

upto-shorter : (xs : List Item) → length (upto_end xs) ≤ length xs
upto-shorter [] = omega arith
upto-shorter (item.End ∷ xs) = omega arith
upto-shorter (item.Head n t ps ∷ xs) = omega (arith, upto-shorter xs)
upto-shorter (item.Label n ∷ xs) = omega (arith, upto-shorter xs)
upto-shorter (item.Instr r o ∷ xs) = omega (arith, upto-shorter xs)
upto-shorter (item.TypeDef n t ∷ xs) = omega (arith, upto-shorter xs)
upto-shorter (item.Global n b t i ∷ xs) = omega (arith, upto-shorter xs)
upto-shorter (item.Declare n t ts ∷ xs) = omega (arith, upto-shorter xs)

results-few : (kind : Kinds) (items : List Item) (i : ℕ) → length (scope_of kind (upto_end (drop i items))).results ≤ length items
results-few kind items i =
    let all = items-results kind (upto_end (drop i items)) empty_scope in
    let shorter = upto-shorter (drop i items) in
    omega (arith, length-drop i items)

-- ---- a function

room-by : (at results all : ℕ) → at ≤ MAX_INSTRUCTIONS → results ≤ all → all ≤ MAX_FILE_BYTES → at + results < 2 ^ 32
room-by at results all low few most = omega arith

registers-by : (n : ℕ) → n ≤ MAX_FUNCTION_REGISTERS → n < 2 ^ 32
registers-by n h = omega arith

get-next : (funcs rest all : List Func) (f : Func) → funcs ++ f ∷ rest ≡ all → slice_get all (length funcs) ≡ Some f
get-next funcs rest all f e =
    let here : length funcs ≡ length funcs + 0 = omega arith in
    ap (λ (l : List Func). slice_get l (length funcs)) (sym e) ∙ get-right funcs (f ∷ rest) 0 (length funcs) here

few-front : {X : Type 0} (xs ys all : List X) (n : ℕ) → xs ++ ys ≡ all → length all ≤ n → length xs ≤ n
few-front {X} xs ys all n e h = let same = ap (λ (l : List X). length l) e in omega (arith, length-append xs ys)

-- no more instructions than a code may have stand before an item
pub front-few : (code : Code) (xs ys : List Instr) → IsSound code → xs ++ ys ≡ code.instrs → length xs ≤ MAX_INSTRUCTIONS
front-few code xs ys sound e = few-front xs ys code.instrs MAX_INSTRUCTIONS e sound.few_instrs

registers-few : (code : Code) (g : ℕ) (f : Func) → IsSound code → slice_get code.funcs g ≡ Some f → f.registers ≤ MAX_FUNCTION_REGISTERS
registers-few code g f sound there = (sound.funcs g f there).few

-- a function that stands in the code has room
pub function-room : (code : Code) (items : List Item) → IsSound code → length items ≤ MAX_FILE_BYTES → (ds : TypeDefs) (kind : Kinds)
    → (funcs rest : List Func) (at i : ℕ) (n : Name) (t : TyText) (ps : List (TyText × Option Name)) → at ≤ MAX_INSTRUCTIONS
    → funcs ++ function_code ds at n t ps (scope_of kind (upto_end (drop i items))) ∷ rest ≡ code.funcs
    → HasRoom at (scope_of kind (upto_end (drop i items)))
function-room code items sound few ds kind funcs rest at i n t ps low all =
    let scope = scope_of kind (upto_end (drop i items)) in
    record {
      room = room-by at (length scope.results) (length items) low (results-few kind items i) few;
      registers =
          registers-by (length scope.types)
          (registers-few code (length funcs) (function_code ds at n t ps scope) sound (get-next funcs rest code.funcs (function_code ds at n t ps scope) all));
      within = starts-within kind (upto_end (drop i items));
    }

-- ---- an instruction

with-value : (kind : Kinds) (o : Op) → has_value o ≡ true → length (kinds_list (value_kind kind o)) ≡ 1
with-value kind o h = by (value_type o) h
  where
    by : (v : Option TyText) → is_some v ≡ true → length (kinds_list (kind_or_none kind v)) ≡ 1
    by None h = cc
    by (Some t) h = refl

not-more : (before after : ℕ) → after ≡ before + 1 → (nat_lt before after && nat_lt MAX_FUNCTION_REGISTERS after) ≡ false → before < 2 ^ 32
not-more before after e k = grind (arith, nat_tests)

value-room : (b : Setting) (r : Option Name) (o : Op) → limit b (item.Instr r o) ≡ false → has_value o ≡ true → length b.before.types < 2 ^ 32
value-room b r o kept h =
    let x = item.Instr r o in
    let types = op-types b.kind (record b.before { again = false; low = false }) r o in
    let long : length (with_item b.kind b.before x).types ≡ length b.before.types + 1 =
    ap (λ (l : List (Option TyScalar)). length l) types
    ∙ length-append b.before.types (kinds_list (value_kind b.kind o))
    ∙ ap (λ (k : ℕ). length b.before.types + k) (with-value b.kind o h) in
    let registers : passes_registers b.before (with_item b.kind b.before x) ≡ false = (neither _ _ kept).1 in
    not-more (length b.before.types) (length (with_item b.kind b.before x).types) long registers

-- the register of a value is one that a function may have
pub register-room : (items : List Item) (signs : List PortSign) (i : ℕ) (r : Option Name) (o : Op) → fault items signs ≡ None
    → slice_get items i ≡ Some (item.Instr r o) → has_value o ≡ true → length (setting_of items signs i (item.Instr r o)).before.types < 2 ^ 32
register-room items signs i r o faultless there h =
    value-room (setting_of items signs i (item.Instr r o)) r o (fault-none items signs i (item.Instr r o) Limit faultless there) h
