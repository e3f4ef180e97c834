-- What one pass over a function's items notes of the names of an item is what the rules say of them.
use Rattle.std.proofs.Common.{◌≡◌, ℕ, ◌+◌, Bool, true, false, ◌||◌, List, [], ◌∷◌, ◌++◌, map, length, Option, Some, None, is_some, nat_lt, if◌then◌else◌}
use Rattle.std.proofs.Common.{refl, sym, ap, ◌∙◌}
use Rattle.std.proofs.Common.{arith}
use Rattle.std.proofs.lemmas.Bool.Decides.{nat_tests}
use Rattle.std.specs.List.{fold, list_any}
use Rattle.code_form.specs.declared.code.TyScalar.{TyScalar}
use Rattle.ir_tree.specs.declared.name.Name.{Name}
use Rattle.ir_tree.specs.declared.name.Name.TheVariants.{Number}
use Rattle.ir_tree.specs.declared.type_text.TyText.{TyText}
use Rattle.ir_tree.specs.declared.op.Op.{Op}
use Rattle.ir_tree.specs.declared.item.Item.{Item}
use Rattle.ir_tree.specs.declared.item.Item.TheVariants as item
use Rattle.ir_names.specs.Names.{same_name, defined, with_first}
use Rattle.ir_names.proofs.Defined.{same-sym, has-first}
use Rattle.ir_rules.specs.declared.local.Local.{Local}
use Rattle.ir_rules.specs.declared.local.Local.TheVariants.{Value, NoType, Block}
use Rattle.ir_rules.specs.declared.scope.Scope.{Scope}
use Rattle.ir_rules.specs.Types.{Kinds}
use Rattle.ir_rules.specs.Scopes.{counter_after, is_name, is_low, with_name, with_name_or_number, with_parameter, with_block, with_first_block, value_type}
use Rattle.ir_rules.specs.Scopes.{value_kind, kind_or_none}
use Rattle.ir_rules.specs.Scopes.{is_call, with_result, with_parts, with_item, result_name, first_block_name, written_names, numbered_names, has_low}
use Rattle.ir_rules.specs.Rules.{is_double_local, inner_double, number_order}
use Rattle.ir_rules.specs.Settings.{Setting}

-- ---- tests

nor : (a : Bool) → (a || false) ≡ a
nor true = refl
nor false = refl

or_assoc : (a b c : Bool) → ((a || b) || c) ≡ (a || (b || c))
or_assoc true b c = refl
or_assoc false b c = refl

shuffled : (a b c d e : Bool) → (((a || b) || c) || (d || e)) ≡ ((b || d) || ((a || c) || e))
shuffled true true c d e = refl
shuffled true false c true e = refl
shuffled true false c false e = refl
shuffled false true c d e = refl
shuffled false false true true e = refl
shuffled false false true false e = refl
shuffled false false false true e = refl
shuffled false false false false e = refl

regrouped : (a b c d : Bool) → ((a || b) || (c || d)) ≡ (a || ((b || c) || d))
regrouped true b c d = refl
regrouped false true c d = refl
regrouped false false c d = refl

-- ---- names

-- with one more name defined, the names are twice what they were, or one of them is that name
double-first : (t : List (Name × Local)) (n : Name) (what : Local) (ns : List Name)
    → is_double_local (with_first t (n, what)) ns ≡ (list_any (same_name n) ns || is_double_local t ns)
double-first t n what [] = refl
double-first t n what (m ∷ ms) =
    ap (λ b. (b || list_any (same_name m) ms) || is_double_local (with_first t (n, what)) ms) (has-first t (n, what) m)
    ∙ ap (λ b. ((is_some (defined t m) || same_name m n) || list_any (same_name m) ms) || b) (double-first t n what ms)
    ∙ ap (λ b. ((is_some (defined t m) || b) || list_any (same_name m) ms) || (list_any (same_name n) ms || is_double_local t ms)) (same-sym m n)
    ∙ shuffled (is_some (defined t m)) (same_name n m) (list_any (same_name m) ms) (list_any (same_name n) ms) (is_double_local t ms)

-- what has been noted, or will be of names that are still to come
abbrev again_with : Scope → List (Option Name) → Bool
again_with s rest = s.again || is_double_local s.table (numbered_names s.counter rest)

abbrev low_with : Scope → List (Option Name) → Bool
low_with s rest = s.low || has_low s.counter rest

again-name : (s : Scope) (n : Name) (what : Local) (rest : List (Option Name)) → again_with (with_name s n what) rest ≡ again_with s (Some n ∷ rest)
again-name s n what rest =
    let ns = numbered_names (counter_after n s.counter) rest in
    ap (λ b. (s.again || is_some (defined s.table n)) || b) (double-first s.table n what ns)
    ∙ regrouped s.again (is_some (defined s.table n)) (list_any (same_name n) ns) (is_double_local s.table ns)

again-step : (s : Scope) (o : Option Name) (what : Local) (rest : List (Option Name)) → again_with (with_name_or_number s o what) rest ≡ again_with s (o ∷ rest)
again-step s (Some n) what rest = again-name s n what rest
again-step s None what rest = by (is_name s.counter)
  where
    by : (b : Bool) → again_with (if b then with_name s (Number s.counter) what else s) rest
        ≡ (s.again || is_double_local s.table (if b then Number s.counter ∷ numbered_names (s.counter + 1) rest else numbered_names s.counter rest))
    by true = again-name s (Number s.counter) what rest
    by false = refl

low-name : (s : Scope) (n : Name) (what : Local) (rest : List (Option Name)) → low_with (with_name s n what) rest ≡ low_with s (Some n ∷ rest)
low-name s n what rest = or_assoc s.low (is_low s.counter n) (has_low (counter_after n s.counter) rest)

not-below : (n : ℕ) → nat_lt n n ≡ false
not-below n = grind (arith, nat_tests)

low-step : (s : Scope) (o : Option Name) (what : Local) (rest : List (Option Name)) → low_with (with_name_or_number s o what) rest ≡ low_with s (o ∷ rest)
low-step s (Some n) what rest = low-name s n what rest
low-step s None what rest = by (is_name s.counter)
  where
    by : (b : Bool) → low_with (if b then with_name s (Number s.counter) what else s) rest ≡ (s.low
        || (if b then has_low (s.counter + 1) rest else has_low s.counter rest))
    by true = low-name s (Number s.counter) what rest ∙ ap (λ b. s.low || (b || has_low (s.counter + 1) rest)) (not-below s.counter)
    by false = refl

-- ---- items

again-params : (kind : Kinds) (ps : List (TyText × Option Name)) (s : Scope) → (fold (with_parameter kind) s ps).again ≡ again_with s (map (λ p. p.1) ps)
again-params kind [] s = sym (nor s.again)
again-params kind (p ∷ ps) s = again-params kind ps (with_parameter kind s p) ∙ again-step s p.1 (Value (kind p.0) (length s.types)) (map (λ p. p.1) ps)

low-params : (kind : Kinds) (ps : List (TyText × Option Name)) (s : Scope) → (fold (with_parameter kind) s ps).low ≡ low_with s (map (λ p. p.1) ps)
low-params kind [] s = sym (nor s.low)
low-params kind (p ∷ ps) s = low-params kind ps (with_parameter kind s p) ∙ low-step s p.1 (Value (kind p.0) (length s.types)) (map (λ p. p.1) ps)

again-block : (s : Scope) (rest : List (Option Name)) → again_with (with_first_block s) rest ≡ again_with s (first_block_name s ++ rest)
again-block s rest = by (nat_lt 0 (length s.starts))
  where
    by : (b : Bool) → again_with (if b then s else with_block s None) rest ≡ again_with s ((if b then [] else None ∷ []) ++ rest)
    by true = refl
    by false = again-step s None (Block (length s.starts)) rest

low-block : (s : Scope) (rest : List (Option Name)) → low_with (with_first_block s) rest ≡ low_with s (first_block_name s ++ rest)
low-block s rest = by (nat_lt 0 (length s.starts))
  where
    by : (b : Bool) → low_with (if b then s else with_block s None) rest ≡ low_with s ((if b then [] else None ∷ []) ++ rest)
    by true = refl
    by false = low-step s None (Block (length s.starts)) rest

-- the names of a result, by whether the instruction is a call and whether it has a value
abbrev result_names : Option Name → Bool → Option (Option TyScalar) → List (Option Name)
result_names (Some n) call t = Some n ∷ []
result_names None call t = if call then (if is_some t then None ∷ [] else []) else []

again-result : (s : Scope) (r : Option Name) (call : Bool) (t : Option (Option TyScalar))
    → (with_result s r call t).again ≡ again_with s (result_names r call t)
again-result s (Some n) call (Some t) = sym (nor _) ∙ again-step s (Some n) (Value t (length s.types)) []
again-result s (Some n) call None = sym (nor _) ∙ again-step s (Some n) NoType []
again-result s None true (Some t) = sym (nor _) ∙ again-step s None (Value t (length s.types)) []
again-result s None false (Some t) = sym (nor _)
again-result s None true None = sym (nor _)
again-result s None false None = sym (nor _)

low-result : (s : Scope) (r : Option Name) (call : Bool) (t : Option (Option TyScalar))
    → (with_result s r call t).low ≡ low_with s (result_names r call t)
low-result s (Some n) call (Some t) = sym (nor _) ∙ low-step s (Some n) (Value t (length s.types)) []
low-result s (Some n) call None = sym (nor _) ∙ low-step s (Some n) NoType []
low-result s None true (Some t) = sym (nor _) ∙ low-step s None (Value t (length s.types)) []
low-result s None false (Some t) = sym (nor _)
low-result s None true None = sym (nor _)
low-result s None false None = sym (nor _)

value-some : (kind : Kinds) (t : Option TyText) → is_some (kind_or_none kind t) ≡ is_some t
value-some kind None = refl
value-some kind (Some t) = refl

names-same : (kind : Kinds) (r : Option Name) (o : Op) → result_names r (is_call o) (value_kind kind o) ≡ result_name r o
names-same kind (Some n) o = refl
names-same kind None o = ap (λ b. if is_call o then (if b then None ∷ [] else []) else []) (value-some kind (value_type o))

again-parts : (kind : Kinds) (s : Scope) (x : Item) → (with_parts kind s x).again ≡ again_with s (written_names s x)
again-parts kind s (item.Head n t ps) = again-params kind ps s
again-parts kind s (item.Label n) = sym (nor _) ∙ again-step s (Some n) (Block (length s.starts)) []
again-parts kind s (item.Instr r o) =
    again-result (with_first_block s) r (is_call o) (value_kind kind o)
    ∙ ap (again_with (with_first_block s)) (names-same kind r o)
    ∙ again-block s (result_name r o)
again-parts kind s (item.TypeDef n t) = sym (nor _)
again-parts kind s (item.Global n c t i) = sym (nor _)
again-parts kind s (item.Declare n t ts) = sym (nor _)
again-parts kind s item.End = sym (nor _)

low-parts : (kind : Kinds) (s : Scope) (x : Item) → (with_parts kind s x).low ≡ low_with s (written_names s x)
low-parts kind s (item.Head n t ps) = low-params kind ps s
low-parts kind s (item.Label n) = sym (nor _) ∙ low-step s (Some n) (Block (length s.starts)) []
low-parts kind s (item.Instr r o) =
    low-result (with_first_block s) r (is_call o) (value_kind kind o)
    ∙ ap (low_with (with_first_block s)) (names-same kind r o)
    ∙ low-block s (result_name r o)
low-parts kind s (item.TypeDef n t) = sym (nor _)
low-parts kind s (item.Global n c t i) = sym (nor _)
low-parts kind s (item.Declare n t ts) = sym (nor _)
low-parts kind s item.End = sym (nor _)

abbrev fresh : Scope → Scope
fresh s = record s { again = false; low = false }

same-names : (s : Scope) (x : Item) → written_names s x ≡ written_names (fresh s) x
same-names s (item.Head n t ps) = refl
same-names s (item.Label n) = refl
same-names s (item.Instr r o) = refl
same-names s (item.TypeDef n t) = refl
same-names s (item.Global n c t i) = refl
same-names s (item.Declare n t ts) = refl
same-names s item.End = refl

pub again-exact : (s : Setting) (x : Item) → inner_double s x ≡ (with_item s.kind s.before x).again
again-exact s x = ap (λ ns. is_double_local s.before.table (numbered_names s.before.counter ns)) (same-names s.before x)
    ∙ sym (again-parts s.kind (fresh s.before) x)

pub low-exact : (s : Setting) (x : Item) → number_order s x ≡ (with_item s.kind s.before x).low
low-exact s x = ap (has_low s.before.counter) (same-names s.before x) ∙ sym (low-parts s.kind (fresh s.before) x)
