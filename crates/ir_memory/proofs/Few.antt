-- A module that keeps the rules has so few registers, blocks and functions that a code can number them.
use Rattle.std.proofs.Common.{◌≡◌, ℕ, zero, suc, ◌+◌, ◌-◌, ◌^◌, ◌<◌, ◌≤◌, nat_lt, Bool, true, false, List, [], ◌∷◌, ◌++◌, length, take, Option, Some, None, slice_get, refl, sym, ap, subst, ◌∙◌, arith, append_assoc, append-nil}
use Rattle.std.proofs.lemmas.Bool.Decides.{nat_tests}
use Rattle.std.proofs.lemmas.Option.{slice_get_within}
use Rattle.am_base.specs.declared.limits.TheConstants.{MAX_INSTRUCTIONS}
use Rattle.code_form.specs.declared.code.Func.{Func}
use Rattle.code_form.specs.declared.instr.Instr.{Instr}
use Rattle.code_form.specs.declared.sign.PortSign.{PortSign}
use Rattle.ir_tree.specs.declared.name.Name.{Name}
use Rattle.ir_tree.specs.declared.item.Item.{Item}
use Rattle.ir_tree.specs.declared.item.Item.TheVariants as item
use Rattle.ir_names.specs.Names.{defined, firsts}
use Rattle.ir_names.proofs.Defined.{defined-firsts}
use Rattle.ir_rules.specs.declared.entity.Entity.{Entity}
use Rattle.ir_rules.specs.declared.entity.Entity.TheVariants.{Defined, Declared, Variable}
use Rattle.ir_rules.specs.declared.local.Local.{Local}
use Rattle.ir_rules.specs.declared.local.Local.TheVariants.{Value, NoType, Block}
use Rattle.ir_rules.specs.declared.scope.Scope.{Scope}
use Rattle.ir_rules.specs.Types.{Kinds, type_defs, kind_of}
use Rattle.ir_rules.specs.Scopes.{scope_of, empty_scope}
use Rattle.ir_rules.specs.Entities.{entities_of}
use Rattle.ir_rules.specs.Settings.{open_from, function_items, upto_end}
use Rattle.ir_rules.specs.Blocks.{block_number}
use Rattle.ir_rules.specs.Codes.{register_of}
use Rattle.ir_rules.specs.Memory.{addresses_of}
use Rattle.ir_rules.specs.Rules.{fault}
use Rattle.ir_rules.specs.Modules.{functions_from, instrs_from}
use Rattle.ir_sound.specs.Whole.{AreWhole}
use Rattle.ir_sound.proofs.Lists.{get-some}
use Rattle.ir_sound.proofs.Places.{Place, places_in}
use Rattle.ir_sound.proofs.Scopes.{scope-good}
use Rattle.ir_sound.proofs.Blocks.{Blocked, function-blocked}
use Rattle.ir_sound.proofs.Registers.{function-few}
use Rattle.ir_sound.proofs.Names.{named-function, few-functions, few-instrs}
use Rattle.ir_sound.proofs.Placed.{length-instrs}
use Rattle.ir_sound.proofs.Walk.{Along, IsFunction, along-start, along-on, along-instr, head-function, original-instr, base}
use Rattle.ir_pass.specs.Heads.{next_head}
use Rattle.ir_memory.proofs.Opens.{open-last}
use Rattle.ir_op_codes.specs.Alone.{function_number}

-- ---- blocks

-- each block begins behind the one before it, so no block has a number that is greater than its start
module _ (starts : List ℕ) (count : ℕ) (terminated mixed : Bool) (l : List Place) (blocked : Blocked starts count terminated mixed l) where
  rising : (b start : ℕ) → slice_get starts b ≡ Some start → b ≤ start
  rising zero start e = omega arith
  rising (suc b) start e =
      let room : suc b < length starts = slice_get_within starts (suc b) start e in
      let p = get-some starts b (omega arith) in
      let before : b ≤ p.0 = rising b p.0 p.1 in
      let above : p.0 < start = (blocked.closed b p.0 start p.1 e).1.some in
      omega arith

  begun : (b start : ℕ) → slice_get starts b ≡ Some start → start ≤ length l
  begun b start e = by (nat_lt (suc b) (length starts)) refl
    where
      by : (t : Bool) → nat_lt (suc b) (length starts) ≡ t → start ≤ length l
      by true h =
          let p = get-some starts (suc b) (grind (arith, nat_tests)) in
          let c = blocked.closed b start p.0 e p.1 in
          let within = c.0.within in
          let some = c.1.some in
          omega arith
      by false h =
          let room : b < length starts = slice_get_within starts b start e in
          let end : length starts ≤ suc b = grind (arith, nat_tests) in
          (blocked.last b start e (omega arith)).from

  numbered : (b : ℕ) → b < length starts → b ≤ length l
  numbered b h =
      let p = get-some starts b h in
      let low = rising b p.0 p.1 in
      let high = begun b p.0 p.1 in
      omega arith

-- ---- names

abbrev pub IsFew : Local → Type 0
IsFew (Value kind r) = r < 2 ^ 32
IsFew NoType = Unit {0}
IsFew (Block b) = b < 2 ^ 32

abbrev pub AreFew : Scope → Type 0
AreFew s = (n : Name) (l : Local) → defined s.table n ≡ Some l → IsFew l

pub few-registers : (s : Scope) → AreFew s → (n : Name) → register_of (defined s.table n) < 2 ^ 32
few-registers s few n = by (defined s.table n) refl
  where
    by : (o : Option Local) → defined s.table n ≡ o → register_of o < 2 ^ 32
    by None e = omega arith
    by (Some (Value k r)) e = few n (Value k r) e
    by (Some NoType) e = omega arith
    by (Some (Block b)) e = omega arith

pub few-blocks : (s : Scope) → AreFew s → (n : Name) → block_number (defined s.table n) < 2 ^ 32
few-blocks s few n = by (defined s.table n) refl
  where
    by : (o : Option Local) → defined s.table n ≡ o → block_number o < 2 ^ 32
    by None e = omega arith
    by (Some (Value k r)) e = omega arith
    by (Some NoType) e = omega arith
    by (Some (Block b)) e = few n (Block b) e

module _ (items : List Item) (signs : List PortSign) (whole : AreWhole false items) (faultless : fault items signs ≡ None) where
  abbrev k : Kinds
  k = kind_of (type_defs items)

  -- an instruction of the code is one of at most 65,536
  place-few : (place : ℕ) (i : Instr) → slice_get (instrs_from items signs (addresses_of (type_defs items) items) 0 items) place ≡ Some i → place < MAX_INSTRUCTIONS
  place-few place i e =
      let room = slice_get_within (instrs_from items signs (addresses_of (type_defs items) items) 0 items) place i e in
      let all = few-instrs items signs faultless in
      let same = length-instrs items signs (addresses_of (type_defs items) items) 0 items in
      omega arith

  module _ (f : Func) (h at : ℕ) (it : IsFunction items signs faultless f h at) where
    abbrev xs : List Item
    xs = item.Head it.name it.type_of it.params ∷ upto_end it.rest

    abbrev l : List Place
    l = places_in k empty_scope xs

    items-are : function_items items (Some h) ≡ xs
    items-are = ap upto_end it.begins

    few-places : length l ≤ MAX_INSTRUCTIONS
    few-places = by (length l) refl
      where
        by : (n : ℕ) → length l ≡ n → n ≤ MAX_INSTRUCTIONS
        by zero e = omega arith
        by (suc n) e =
            let p = get-some l n (omega arith) in
            let c = it.coded n p.0 p.1 in
            let b = place-few (at + n) _ (original-instr items signs (addresses_of (type_defs items) items) 0 items (at + n) _ c.original) in
            omega arith

    function-names : AreFew (scope_of k xs)
    function-names n (Value t r) e =
        let room = slice_get_within (scope_of k xs).types r t (scope-good k xs n (Value t r) e) in
        let most = function-few (base items signs faultless h) it.name it.type_of it.params (upto_end it.rest) it.keeping it.body in
        omega arith
    function-names n NoType e = tt
    function-names n (Block b) e =
        let room : b < length (scope_of k xs).starts = scope-good k xs n (Block b) e in
        let all = function-blocked (base items signs faultless h) it.name it.type_of it.params (upto_end it.rest) it.keeping it.body in
        let low = numbered (scope_of k xs).starts (length (scope_of k xs).results) (scope_of k xs).terminated (scope_of k xs).mixed l all.blocked b room in
        let few = few-places in
        omega arith

    head-names : AreFew (scope_of k (function_items items (Some h)))
    head-names = subst (λ ys. AreFew (scope_of k ys)) (sym items-are) function-names

  -- ---- along the items

  abbrev OpenFew : Option ℕ → Type 0
  OpenFew o = AreFew (scope_of k (function_items items o))

  none-few : OpenFew None
  none-few n l e = cc

  next-few : (inside : Bool) (front : List Item) (x : Item) (rest : List Item) (i at : ℕ) → Along items signs faultless front (x ∷ rest) i at
      → AreWhole inside (x ∷ rest) → OpenFew (open_from 0 None front) → OpenFew (open_from 0 None (front ++ x ∷ []))
  next-few inside front x rest i at a w few =
      subst OpenFew (sym (open-last x 0 None front)) (by inside x a w)
    where
      by : (inside : Bool) (x : Item) → Along items signs faultless front (x ∷ rest) i at → AreWhole inside (x ∷ rest)
          → OpenFew (next_head (0 + length front) (open_from 0 None front) x)
      by false (item.Head n t ps) a w =
          let number : i ≡ 0 + length front = a.number ∙ omega arith in
          subst (λ h. OpenFew (Some h)) number (head-names _ i at (head-function items signs faultless front n t ps rest i at a w.1))
      by true (item.Head n t ps) a w = (let no = w.0 in cc)
      by inside item.End a w = none-few
      by inside (item.Label n) a w = few
      by inside (item.Instr r o) a w = few
      by inside (item.TypeDef n t) a w = few
      by inside (item.Global n c t v) a w = few
      by inside (item.Declare n t ts) a w = few

  front-is : (front : List Item) (x : Item) (ys : List Item) → open_from 0 None ((front ++ x ∷ []) ++ ys) ≡ open_from 0 None (front ++ x ∷ ys)
  front-is front x ys = ap (open_from 0 None) (append_assoc front (x ∷ []) ys)

  along-few : (inside : Bool) (front rest : List Item) (i at : ℕ) → Along items signs faultless front rest i at → AreWhole inside rest
      → OpenFew (open_from 0 None front) → (j : ℕ) → OpenFew (open_from 0 None (front ++ take j rest))
  along-few inside front rest i at a w few zero = subst (λ l. OpenFew (open_from 0 None l)) (sym (append-nil front)) few
  along-few inside front [] i at a w few (suc j) = subst (λ l. OpenFew (open_from 0 None l)) (sym (append-nil front)) few
  along-few true front (item.Label n ∷ rest) i at a w few (suc j) =
      let x = item.Label n in
      subst OpenFew (front-is front x (take j rest)) (along-few true (front ++ x ∷ []) rest (suc i) at (along-on items signs faultless front x rest i at a refl) w.1
      (next-few true front x rest i at a w few) j)
  along-few true front (item.Instr r o ∷ rest) i at a w few (suc j) =
      let x = item.Instr r o in
      subst OpenFew (front-is front x (take j rest)) (along-few true (front ++ x ∷ []) rest (suc i) (suc at) (along-instr items signs faultless front r o rest i at a) w.1
      (next-few true front x rest i at a w few) j)
  along-few true front (item.End ∷ rest) i at a w few (suc j) =
      let x = item.End in
      subst OpenFew (front-is front x (take j rest)) (along-few false (front ++ x ∷ []) rest (suc i) at (along-on items signs faultless front x rest i at a refl) w.1
      (next-few true front x rest i at a w few) j)
  along-few false front (item.TypeDef n t ∷ rest) i at a w few (suc j) =
      let x = item.TypeDef n t in
      subst OpenFew (front-is front x (take j rest)) (along-few false (front ++ x ∷ []) rest (suc i) at (along-on items signs faultless front x rest i at a refl) w.1
      (next-few false front x rest i at a w few) j)
  along-few false front (item.Global n c t v ∷ rest) i at a w few (suc j) =
      let x = item.Global n c t v in
      subst OpenFew (front-is front x (take j rest)) (along-few false (front ++ x ∷ []) rest (suc i) at (along-on items signs faultless front x rest i at a refl) w.1
      (next-few false front x rest i at a w few) j)
  along-few false front (item.Declare n t ts ∷ rest) i at a w few (suc j) =
      let x = item.Declare n t ts in
      subst OpenFew (front-is front x (take j rest)) (along-few false (front ++ x ∷ []) rest (suc i) at (along-on items signs faultless front x rest i at a refl) w.1
      (next-few false front x rest i at a w few) j)
  along-few false front (item.Head n t ps ∷ rest) i at a w few (suc j) =
      let x = item.Head n t ps in
      subst OpenFew (front-is front x (take j rest)) (along-few true (front ++ x ∷ []) rest (suc i) at (along-on items signs faultless front x rest i at a refl) w.1
      (next-few false front x rest i at a w few) j)
  along-few false front (item.Label n ∷ rest) i at a w few (suc j) = (let no = w.0 in cc)
  along-few false front (item.Instr r o ∷ rest) i at a w few (suc j) = (let no = w.0 in cc)
  along-few false front (item.End ∷ rest) i at a w few (suc j) = (let no = w.0 in cc)
  along-few true front (item.TypeDef n t ∷ rest) i at a w few (suc j) = (let no = w.0 in cc)
  along-few true front (item.Global n c t v ∷ rest) i at a w few (suc j) = (let no = w.0 in cc)
  along-few true front (item.Declare n t ts ∷ rest) i at a w few (suc j) = (let no = w.0 in cc)
  along-few true front (item.Head n t ps ∷ rest) i at a w few (suc j) = (let no = w.0 in cc)

  -- what is defined in the function that is open before item i
  pub few-locals : (i : ℕ) → AreFew (scope_of k (function_items items (open_from 0 None (take i items))))
  few-locals i = along-few false [] items 0 0 (along-start items signs faultless) whole none-few i

  pub few-entities : (n : Name) → function_number (defined (firsts (entities_of k items)) n) < 2 ^ 32
  few-entities n = ap-below (defined-firsts (entities_of k items) [] n) (by (defined (entities_of k items) n) refl)
    where
      ap-below : {o p : Option Entity} → o ≡ p → function_number p < 2 ^ 32 → function_number o < 2 ^ 32
      ap-below e h = subst (λ (o : Option Entity). function_number o < 2 ^ 32) (sym e) h

      by : (o : Option Entity) → defined (entities_of k items) n ≡ o → function_number o < 2 ^ 32
      by None e = omega arith
      by (Some (Declared sign)) e = omega arith
      by (Some Variable) e = omega arith
      by (Some (Defined j sign)) e =
          let g = named-function (type_defs items) items n j sign e in
          let room = slice_get_within (functions_from (type_defs items) 0 items) j g.0 g.1 in
          let most = few-functions items signs faultless (type_defs items) in
          omega arith
