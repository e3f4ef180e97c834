-- What the pass has seen is what the rules say of the items before.
use Rattle.std.proofs.Common.{◌≡◌, ℕ, ◌+◌, ◌≤◌, Bool, true, false, ◌||◌, ◌&&◌, List, [], ◌∷◌, ◌++◌, map, length, take, get_or, ◌<◌, Option, Some, None, is_some, cond, nat_lt, refl, sym, ap, ◌∙◌, arith}
use Rattle.std.specs.List.{fold, list_any, count_by}
use Rattle.std.proofs.lemmas.List.{take_more}
use Rattle.std.proofs.lemmas.List.Sums.{fold-append}
use Rattle.am_base.specs.declared.limits.TheConstants.{MAX_FUNCTIONS, MAX_TYPE_DEFINITIONS, MAX_INSTRUCTIONS}
use Rattle.ir_tree.specs.declared.name.Name.{Name}
use Rattle.ir_tree.specs.declared.type_text.TyText.{TyText}
use Rattle.ir_tree.specs.declared.item.Item.{Item}
use Rattle.ir_tree.specs.declared.item.Item.TheVariants as item
use Rattle.ir_names.specs.Names.{same_name, defined, with_first}
use Rattle.ir_names.proofs.Defined.{has-first}
use Rattle.ir_rules.specs.Types.{type_defs}
use Rattle.ir_rules.specs.Entities.{same_bytes, global_names}
use Rattle.ir_rules.specs.Scopes.{with_item}
use Rattle.ir_rules.specs.Settings.{Setting}
use Rattle.ir_rules.specs.Limits.{limit, is_full, passes_registers, is_function, is_instruction, is_type_definition}
use Rattle.ir_rules.specs.Rules.{outer_double}
use Rattle.ir_pass.specs.Seen.{no_seen, text_name, with_global, with_seen, seen_of, outer_double_in, limit_in}
use Rattle.ir_pass.specs.declared.seen.Seen.{Seen}

or_assoc : (a b c : Bool) → ((a || b) || c) ≡ (a || (b || c))
or_assoc true b c = refl
or_assoc false b c = refl

nor : (a : Bool) → a ≡ (a || false)
nor true = refl
nor false = refl

some-first : {X : Type 0} (b : Bool) (x : X) (o : Option X) → is_some (cond b (Some x) o) ≡ (b || is_some o)
some-first true x o = refl
some-first false x o = refl

-- ---- names

types-seen : (xs : List Item) (s : Seen) (n : Name) → is_some (defined (fold with_seen s xs).types n) ≡ (is_some (defined s.types n) || is_some (defined (type_defs xs) n))
types-seen [] s n = nor (is_some (defined s.types n))
types-seen (item.TypeDef m t ∷ xs) s n =
    types-seen xs (with_seen s (item.TypeDef m t)) n
    ∙ ap (λ b. b || is_some (defined (type_defs xs) n)) (has-first s.types (m, tt) n)
    ∙ or_assoc (is_some (defined s.types n)) (same_name n m) (is_some (defined (type_defs xs) n))
    ∙ ap (λ b. is_some (defined s.types n) || b) (sym (some-first (same_name n m) t (defined (type_defs xs) n)))
types-seen (item.Global m c t i ∷ xs) s n = types-seen xs (with_global s m) n
types-seen (item.Declare m t ts ∷ xs) s n = types-seen xs (with_global s m) n
types-seen (item.Head m t ps ∷ xs) s n = types-seen xs (with_seen s (item.Head m t ps)) n
types-seen (item.Label m ∷ xs) s n = types-seen xs s n
types-seen (item.Instr r o ∷ xs) s n = types-seen xs (with_seen s (item.Instr r o)) n
types-seen (item.End ∷ xs) s n = types-seen xs s n

abbrev known : Seen → Name → Bool
known s n = is_some (defined s.globals (text_name n))

global-more : (s : Seen) (m n : Name) (rest : Bool) → ((known (with_global s m) n) || rest) ≡ (known s n || (same_bytes n m || rest))
global-more s m n rest = ap (λ b. b || rest) (has-first s.globals (text_name m, tt) (text_name n)) ∙ or_assoc (known s n) (same_bytes n m) rest

globals-seen : (xs : List Item) (s : Seen) (n : Name) → known (fold with_seen s xs) n ≡ (known s n || list_any (same_bytes n) (global_names xs))
globals-seen [] s n = nor (known s n)
globals-seen (item.TypeDef m t ∷ xs) s n = globals-seen xs (with_seen s (item.TypeDef m t)) n
globals-seen (item.Global m c t i ∷ xs) s n = globals-seen xs (with_global s m) n ∙ global-more s m n (list_any (same_bytes n) (global_names xs))
globals-seen (item.Declare m t ts ∷ xs) s n = globals-seen xs (with_global s m) n ∙ global-more s m n (list_any (same_bytes n) (global_names xs))
globals-seen (item.Head m t ps ∷ xs) s n =
    globals-seen xs (with_seen s (item.Head m t ps)) n ∙ global-more s m n (list_any (same_bytes n) (global_names xs))
globals-seen (item.Label m ∷ xs) s n = globals-seen xs s n
globals-seen (item.Instr r o ∷ xs) s n = globals-seen xs (with_seen s (item.Instr r o)) n
globals-seen (item.End ∷ xs) s n = globals-seen xs s n

pub double-seen : (above : List Item) (x : Item) → outer_double_in (seen_of above) x ≡ outer_double above x
double-seen above (item.TypeDef n t) = types-seen above no_seen n
double-seen above (item.Global n c t i) = globals-seen above no_seen n
double-seen above (item.Declare n t ts) = globals-seen above no_seen n
double-seen above (item.Head n t ps) = globals-seen above no_seen n
double-seen above (item.Label n) = refl
double-seen above (item.Instr r o) = refl
double-seen above item.End = refl

-- ---- counts

-- a count with one element more
abbrev counts : (Item → Bool) → ℕ → Item → ℕ
counts test n x = n + cond (test x) 1 0

same : (test : Item → Bool) (n : ℕ) (xs : List Item) → fold (counts test) n xs ≡ fold (counts test) (n + 0) xs
same test n xs = let here : n ≡ n + 0 = omega arith in ap (λ m. fold (counts test) m xs) here

functions-seen : (xs : List Item) (s : Seen) → (fold with_seen s xs).functions ≡ fold (counts is_function) s.functions xs
functions-seen [] s = refl
functions-seen (item.TypeDef m t ∷ xs) s = functions-seen xs (with_seen s (item.TypeDef m t)) ∙ same is_function s.functions xs
functions-seen (item.Global m c t i ∷ xs) s = functions-seen xs (with_global s m) ∙ same is_function s.functions xs
functions-seen (item.Declare m t ts ∷ xs) s = functions-seen xs (with_global s m) ∙ same is_function s.functions xs
functions-seen (item.Head m t ps ∷ xs) s = functions-seen xs (with_seen s (item.Head m t ps))
functions-seen (item.Label m ∷ xs) s = functions-seen xs s ∙ same is_function s.functions xs
functions-seen (item.Instr r o ∷ xs) s = functions-seen xs (with_seen s (item.Instr r o)) ∙ same is_function s.functions xs
functions-seen (item.End ∷ xs) s = functions-seen xs s ∙ same is_function s.functions xs

definitions-seen : (xs : List Item) (s : Seen) → (fold with_seen s xs).definitions ≡ fold (counts is_type_definition) s.definitions xs
definitions-seen [] s = refl
definitions-seen (item.TypeDef m t ∷ xs) s = definitions-seen xs (with_seen s (item.TypeDef m t))
definitions-seen (item.Global m c t i ∷ xs) s = definitions-seen xs (with_global s m) ∙ same is_type_definition s.definitions xs
definitions-seen (item.Declare m t ts ∷ xs) s = definitions-seen xs (with_global s m) ∙ same is_type_definition s.definitions xs
definitions-seen (item.Head m t ps ∷ xs) s = definitions-seen xs (with_seen s (item.Head m t ps)) ∙ same is_type_definition s.definitions xs
definitions-seen (item.Label m ∷ xs) s = definitions-seen xs s ∙ same is_type_definition s.definitions xs
definitions-seen (item.Instr r o ∷ xs) s = definitions-seen xs (with_seen s (item.Instr r o)) ∙ same is_type_definition s.definitions xs
definitions-seen (item.End ∷ xs) s = definitions-seen xs s ∙ same is_type_definition s.definitions xs

instructions-seen : (xs : List Item) (s : Seen) → (fold with_seen s xs).instructions ≡ fold (counts is_instruction) s.instructions xs
instructions-seen [] s = refl
instructions-seen (item.TypeDef m t ∷ xs) s = instructions-seen xs (with_seen s (item.TypeDef m t)) ∙ same is_instruction s.instructions xs
instructions-seen (item.Global m c t i ∷ xs) s = instructions-seen xs (with_global s m) ∙ same is_instruction s.instructions xs
instructions-seen (item.Declare m t ts ∷ xs) s = instructions-seen xs (with_global s m) ∙ same is_instruction s.instructions xs
instructions-seen (item.Head m t ps ∷ xs) s = instructions-seen xs (with_seen s (item.Head m t ps)) ∙ same is_instruction s.instructions xs
instructions-seen (item.Label m ∷ xs) s = instructions-seen xs s ∙ same is_instruction s.instructions xs
instructions-seen (item.Instr r o ∷ xs) s = instructions-seen xs (with_seen s (item.Instr r o))
instructions-seen (item.End ∷ xs) s = instructions-seen xs s ∙ same is_instruction s.instructions xs

pub record Counted (above : List Item) : Type 0 where
  pub functions : (seen_of above).functions ≡ count_by is_function above
  pub definitions : (seen_of above).definitions ≡ count_by is_type_definition above
  pub instructions : (seen_of above).instructions ≡ count_by is_instruction above

pub counted : (above : List Item) → Counted above
counted above = record {
  functions = functions-seen above no_seen;
  definitions = definitions-seen above no_seen;
  instructions = instructions-seen above no_seen;
}

-- the rule on limits by what the pass has seen and by whether there is room for a global
pub limit-seen : (s : Setting) (x : Item) (full : Bool) → ((n : Name) (c : Bool) (t : TyText) (i : _) → x ≡ item.Global n c t i → full ≡ limit s x)
    → limit_in (seen_of s.above) (length s.before.types) (length (with_item s.kind s.before x).types) full x ≡ limit s x
limit-seen s (item.TypeDef n t) full g = ap (is_full MAX_TYPE_DEFINITIONS) (counted s.above).definitions
limit-seen s (item.Global n c t i) full g = g n c t i refl
limit-seen s (item.Declare n t ts) full g = refl
limit-seen s (item.Head n t ps) full g =
    ap (λ k. is_full MAX_FUNCTIONS k || passes_registers s.before (with_item s.kind s.before (item.Head n t ps))) (counted s.above).functions
limit-seen s (item.Label n) full g = refl
limit-seen s (item.Instr r o) full g =
    ap (λ k. is_full MAX_INSTRUCTIONS k || passes_registers s.before (with_item s.kind s.before (item.Instr r o))) (counted s.above).instructions
limit-seen s item.End full g = refl

-- one item more is seen, and no count passes the number of items
module _ (items : List Item) (i : ℕ) (x : Item) (h : i < length items) (e : x ≡ get_or items i x) where
  pub seen-more : with_seen (seen_of (take i items)) x ≡ seen_of (take (i + 1) items)
  seen-more = sym (ap seen_of (take_more items i x h ∙ ap (λ y. take i items ++ y ∷ []) (sym e)) ∙ fold-append with_seen no_seen (take i items) (x ∷ []))
