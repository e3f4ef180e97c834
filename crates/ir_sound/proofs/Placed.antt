-- The blocks of all functions lie one behind the other.
use Rattle.std.proofs.Common.{◌≡◌, ℕ, suc, ◌+◌, Bool, true, false, List, [], ◌∷◌, ◌++◌, length, None, refl, ap, subst, arith}
use Rattle.std.specs.List.{fold, flat_map}
use Rattle.code_form.specs.declared.code.Block.{Block}
use Rattle.code_form.specs.declared.code.Func.{Func}
use Rattle.code_form.specs.declared.sign.PortSign.{PortSign}
use Rattle.code_form.specs.Sound.{AreLaid}
use Rattle.ir_tree.specs.declared.item.Item.{Item}
use Rattle.ir_tree.specs.declared.item.Item.TheVariants as item
use Rattle.ir_rules.specs.declared.scope.Scope.{Scope}
use Rattle.ir_rules.specs.Types.{Kinds}
use Rattle.ir_rules.specs.Scopes.{empty_scope, with_item}
use Rattle.ir_rules.specs.Settings.{upto_end}
use Rattle.ir_rules.specs.Rules.{fault}
use Rattle.ir_rules.specs.Memory.{Addresses}
use Rattle.ir_rules.specs.Modules.{functions_from, instrs_from, results_from, blocks_from}
use Rattle.ir_sound.specs.Whole.{AreWhole}
use Rattle.ir_sound.proofs.Places.{places_in}
use Rattle.ir_sound.proofs.Blocks.{function-blocked}
use Rattle.ir_sound.proofs.Laid.{function-laid, laid-append}
use Rattle.ir_sound.proofs.Walk.{Along, along-on, along-instr, along-start, head-kept, defs, kind, base}

abbrev pub instr_count : List Item → ℕ
instr_count [] = 0
instr_count (item.Instr r o ∷ more) = suc (instr_count more)
instr_count (x ∷ more) = instr_count more

pub length-instrs : (items : List Item) (signs : List PortSign) (addresses : Addresses) (i : ℕ) (xs : List Item)
    → length (instrs_from items signs addresses i xs) ≡ instr_count xs
length-instrs items signs addresses i [] = refl
length-instrs items signs addresses i (item.Instr r o ∷ xs) = ap suc (length-instrs items signs addresses (suc i) xs)
length-instrs items signs addresses i (item.Label n ∷ xs) = length-instrs items signs addresses (suc i) xs
length-instrs items signs addresses i (item.TypeDef n t ∷ xs) = length-instrs items signs addresses (suc i) xs
length-instrs items signs addresses i (item.Global n c t v ∷ xs) = length-instrs items signs addresses (suc i) xs
length-instrs items signs addresses i (item.Declare n t ts ∷ xs) = length-instrs items signs addresses (suc i) xs
length-instrs items signs addresses i (item.Head n t ps ∷ xs) = length-instrs items signs addresses (suc i) xs
length-instrs items signs addresses i (item.End ∷ xs) = length-instrs items signs addresses (suc i) xs

pub length-results : (items : List Item) (signs : List PortSign) (i : ℕ) (xs : List Item) → length (results_from items signs i xs) ≡ instr_count xs
length-results items signs i [] = refl
length-results items signs i (item.Instr r o ∷ xs) = ap suc (length-results items signs (suc i) xs)
length-results items signs i (item.Label n ∷ xs) = length-results items signs (suc i) xs
length-results items signs i (item.TypeDef n t ∷ xs) = length-results items signs (suc i) xs
length-results items signs i (item.Global n c t v ∷ xs) = length-results items signs (suc i) xs
length-results items signs i (item.Declare n t ts ∷ xs) = length-results items signs (suc i) xs
length-results items signs i (item.Head n t ps ∷ xs) = length-results items signs (suc i) xs
length-results items signs i (item.End ∷ xs) = length-results items signs (suc i) xs

pub length-places : (k : Kinds) (s : Scope) (xs : List Item) → length (places_in k s xs) ≡ instr_count xs
length-places k s [] = refl
length-places k s (item.Instr r o ∷ xs) = ap suc (length-places k (with_item k s (item.Instr r o)) xs)
length-places k s (item.Label n ∷ xs) = length-places k (with_item k s (item.Label n)) xs
length-places k s (item.TypeDef n t ∷ xs) = length-places k (with_item k s (item.TypeDef n t)) xs
length-places k s (item.Global n c t v ∷ xs) = length-places k (with_item k s (item.Global n c t v)) xs
length-places k s (item.Declare n t ts ∷ xs) = length-places k (with_item k s (item.Declare n t ts)) xs
length-places k s (item.Head n t ps ∷ xs) = length-places k (with_item k s (item.Head n t ps)) xs
length-places k s (item.End ∷ xs) = length-places k (with_item k s item.End) xs

abbrev blocks_of : List Func → List Block
blocks_of fs = flat_map (λ (f : Func). f.blocks) fs

laid-along : (a b c d : ℕ) (bs : List Block) → a ≡ c → b ≡ d → AreLaid a bs b → AreLaid c bs d
laid-along a b c d bs e f h =
    let P : ℕ → Type 0 = λ n. AreLaid n bs b in
    let Q : ℕ → Type 0 = λ n. AreLaid c bs n in
    subst Q f (subst P e h)

-- where the blocks of the functions begin that stand in some items
abbrev from_here : Bool → ℕ → List Item → ℕ
from_here true at rest = at + instr_count (upto_end rest)
from_here false at rest = at

module _ (items : List Item) (signs : List PortSign) (faultless : fault items signs ≡ None) where
  all-laid : (inside : Bool) (front rest : List Item) (i at : ℕ) → Along items signs faultless front rest i at → AreWhole inside rest
      → AreLaid (from_here inside at rest) (blocks_of (functions_from (defs items signs faultless) at rest)) (at + instr_count rest)
  all-laid false front [] i at a w = omega arith
  all-laid true front [] i at a w = cc
  all-laid true front (item.Label n ∷ rest) i at a w =
      all-laid true (front ++ item.Label n ∷ []) rest (suc i) at (along-on items signs faultless front (item.Label n) rest i at a refl) w.1
  all-laid true front (item.Instr r o ∷ rest) i at a w =
      laid-along _ _ _ _ (blocks_of (functions_from (defs items signs faultless) (suc at) rest)) (omega arith) (omega arith)
      (all-laid true (front ++ item.Instr r o ∷ []) rest (suc i) (suc at) (along-instr items signs faultless front r o rest i at a) w.1)
  all-laid true front (item.End ∷ rest) i at a w =
      laid-along at (at + instr_count rest) (at + 0) (at + instr_count rest) (blocks_of (functions_from (defs items signs faultless) at rest))
      (omega arith) refl
      (all-laid false (front ++ item.End ∷ []) rest (suc i) at (along-on items signs faultless front item.End rest i at a refl) w.1)
  all-laid false front (item.TypeDef n t ∷ rest) i at a w =
      all-laid false (front ++ item.TypeDef n t ∷ []) rest (suc i) at (along-on items signs faultless front (item.TypeDef n t) rest i at a refl) w.1
  all-laid false front (item.Global n c t v ∷ rest) i at a w =
      all-laid false (front ++ item.Global n c t v ∷ []) rest (suc i) at (along-on items signs faultless front (item.Global n c t v) rest i at a refl) w.1
  all-laid false front (item.Declare n t ts ∷ rest) i at a w =
      all-laid false (front ++ item.Declare n t ts ∷ []) rest (suc i) at (along-on items signs faultless front (item.Declare n t ts) rest i at a refl) w.1
  all-laid false front (item.Head n t ps ∷ rest) i at a w =
      let x = item.Head n t ps in
      let k = kind items signs faultless in
      let f = head-kept items signs faultless front n t ps rest i at a w.1 in
      let s = fold (with_item k) empty_scope (x ∷ upto_end rest) in
      let l = places_in k empty_scope (x ∷ upto_end rest) in
      let own = function-laid at s l (function-blocked (base items signs faultless i) n t ps (upto_end rest) f.0 f.1) in
      let count : length l ≡ instr_count (upto_end rest) = length-places k (with_item k empty_scope x) (upto_end rest) in
      laid-append at (at + instr_count (upto_end rest)) (at + instr_count rest) (blocks_from at s.starts (length s.results)) _
      (laid-along at (at + length l) at (at + instr_count (upto_end rest)) (blocks_from at s.starts (length s.results)) refl (ap (λ n. at + n) count) own)
      (all-laid true (front ++ x ∷ []) rest (suc i) at (along-on items signs faultless front x rest i at a refl) w.1)
  all-laid false front (item.Label n ∷ rest) i at a w = (let no = w.0 in cc)
  all-laid false front (item.Instr r o ∷ rest) i at a w = (let no = w.0 in cc)
  all-laid false front (item.End ∷ rest) i at a w = (let no = w.0 in cc)
  all-laid true front (item.TypeDef n t ∷ rest) i at a w = (let no = w.0 in cc)
  all-laid true front (item.Global n c t v ∷ rest) i at a w = (let no = w.0 in cc)
  all-laid true front (item.Declare n t ts ∷ rest) i at a w = (let no = w.0 in cc)
  all-laid true front (item.Head n t ps ∷ rest) i at a w = (let no = w.0 in cc)

  -- the blocks of the code lie one behind the other from its first place to its end
  pub code-laid : AreWhole false items → AreLaid 0 (blocks_of (functions_from (defs items signs faultless) 0 items)) (instr_count items)
  code-laid w = laid-along 0 (0 + instr_count items) 0 (instr_count items) _ refl (omega arith)
      (all-laid false [] items 0 0 (along-start items signs faultless) w)
