-- No block of a function starts behind its last instruction.
use Rattle.std.proofs.Common.{◌≡◌, ℕ, ◌≤◌, Bool, true, false, List, [], ◌∷◌, ◌++◌, length, Option, Some, None, nat_lt, if◌then◌else◌, sym, subst, arith}
use Rattle.std.specs.List.{fold, All}
use Rattle.std.proofs.lemmas.List.{length-append}
use Rattle.ir_tree.specs.declared.name.Name.{Name}
use Rattle.ir_tree.specs.declared.type_text.TyText.{TyText}
use Rattle.ir_tree.specs.declared.op.Op.{Op}
use Rattle.ir_tree.specs.declared.item.Item.{Item}
use Rattle.ir_tree.specs.declared.item.Item.TheVariants as item
use Rattle.ir_rules.specs.declared.local.Local.TheVariants.{Value, Block}
use Rattle.ir_rules.specs.declared.scope.Scope.{Scope}
use Rattle.ir_rules.specs.Types.{Kinds}
use Rattle.ir_rules.specs.Scopes.{empty_scope, with_name_or_number, with_parameter, with_block, with_first_block, is_call, value_kind, value_register}
use Rattle.ir_rules.specs.Scopes.{with_result, with_op, with_parts}
use Rattle.ir_rules.specs.Scopes.{with_item, scope_of}
use Rattle.ir_sound.proofs.Lists.{Each, each-weaker, each-append, all-each}
use Rattle.ir_sound.proofs.Scopes.{name-parts}
use Rattle.ir_sound.proofs.Places.{result-parts}

abbrev Below : ℕ → List ℕ → Type 0
Below n starts = Each (λ start. start ≤ n) starts

abbrev Within : Scope → Type 0
Within s = Below (length s.results) s.starts

along : (s t : Scope) → t.starts ≡ s.starts → t.results ≡ s.results → Within s → Within t
along s t e g h =
    let P : List ℕ → Type 0 = λ l. Below (length s.results) l in
    let Q : List (Option ℕ) → Type 0 = λ l. Below (length l) t.starts in
    subst Q (sym g) (subst P (sym e) h)

block-within : (s : Scope) (n : Option Name) → Within s → Within (with_block s n)
block-within s n h =
    let what = Block (length s.starts) in
    let t = with_name_or_number s n what in
    let same = name-parts s n what in
    each-append (λ start. start ≤ length t.results) t.starts (length t.results ∷ []) (along s t same.starts same.results h) (omega arith, tt)

first-within : (s : Scope) → Within s → Within (with_first_block s)
first-within s h = by (nat_lt 0 (length s.starts))
  where
    by : (b : Bool) → Within (if b then s else with_block s None)
    by true = h
    by false = block-within s None h

op-within : (k : Kinds) (s : Scope) (r : Option Name) (o : Op) → Within s → Within (with_op k s r o)
op-within k s r o h =
    let t = with_first_block s in
    let u = with_result t r (is_call o) (value_kind k o) in
    let same = result-parts t r (is_call o) (value_kind k o) in
    let more = length-append u.results (value_register s o ∷ []) in
    each-weaker (λ start. start ≤ length u.results) (λ start. start ≤ length (u.results ++ value_register s o ∷ [])) (λ start l. omega arith) u.starts
    (along t u same.0 same.1 (first-within s h))

parameters-within : (k : Kinds) (ps : List (TyText × Option Name)) (s : Scope) → Within s → Within (fold (with_parameter k) s ps)
parameters-within k [] s h = h
parameters-within k (p ∷ ps) s h =
    let what = Value (k p.0) (length s.types) in
    let same = name-parts s p.1 what in
    parameters-within k ps (with_parameter k s p) (along s (with_name_or_number s p.1 what) same.starts same.results h)

parts-within : (k : Kinds) (s : Scope) (x : Item) → Within s → Within (with_parts k s x)
parts-within k s (item.Head n t ps) h = parameters-within k ps s h
parts-within k s (item.Label n) h = block-within s (Some n) h
parts-within k s (item.Instr r o) h = op-within k s r o h
parts-within k s (item.TypeDef n t) h = h
parts-within k s (item.Global n b t i) h = h
parts-within k s (item.Declare n t ts) h = h
parts-within k s item.End h = h

items-within : (k : Kinds) (xs : List Item) (s : Scope) → Within s → Within (fold (with_item k) s xs)
items-within k [] s h = h
items-within k (x ∷ xs) s h = items-within k xs (with_item k s x) (parts-within k (record s { again = false; low = false }) x h)

pub starts-within : (k : Kinds) (xs : List Item) → All (λ start. start ≤ length (scope_of k xs).results) (scope_of k xs).starts
starts-within k xs = all-each (λ start. start ≤ length (scope_of k xs).results) (scope_of k xs).starts (items-within k xs empty_scope tt)
