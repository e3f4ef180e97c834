-- Where the globals of a module that keeps the rules lie, and how long its memory is.
use Rattle.std.proofs.Common.{◌≡◌, ℕ, ◌+◌, ◌^◌, ◌<◌, ◌≤◌, Bool, true, false, cond, List, [], ◌∷◌, ◌++◌, map, length, take, slice_get, nat_lt}
use Rattle.std.proofs.Common.{Option, Some, None, unwrap_or, refl, sym, ap, ◌∙◌, subst, arith, append_assoc, append-nil, lit≤}
use Rattle.std.specs.List.{fold}
use Rattle.std.proofs.lemmas.List.{length-append, take_at}
use Rattle.std.proofs.lemmas.Bool.Decides.{nat_tests}
use Rattle.am_base.specs.declared.limits.TheConstants.{FIRST_ADDRESS, MEMORY_BYTES}
use Rattle.code_form.specs.declared.sign.PortSign.{PortSign}
use Rattle.type_layout.specs.Layout.{round_up}
use Rattle.type_layout.specs.Types.{size_of, align_of}
use Rattle.ir_tree.specs.declared.name.Name.{Name}
use Rattle.ir_tree.specs.declared.type_text.TyText.{TyText}
use Rattle.ir_tree.specs.declared.operand.Init.{Init}
use Rattle.ir_tree.specs.declared.item.Item.{Item}
use Rattle.ir_tree.specs.declared.item.Item.TheVariants as item
use Rattle.ir_names.specs.Names.{same_name, defined}
use Rattle.ir_rules.specs.declared.rule.Rule.TheVariants.{Limit, InitDiffers}
use Rattle.ir_rules.specs.Types.{TypeDefs, type_defs, expanded}
use Rattle.ir_rules.specs.Settings.{setting_of}
use Rattle.ir_rules.specs.Rules.{fault}
use Rattle.ir_rules.specs.Limits.{limit}
use Rattle.ir_rules.specs.Initialisers.{init_fits, init_differs}
use Rattle.ir_rules.specs.Memory.{Global, constants_of, variables_of, place_of, end_from, places_from, constants_end, globals_end, stack_base_of, places_of}
use Rattle.ir_rules.specs.Memory.{addresses_of}
use Rattle.ir_rules.specs.Memory.{address_in, padded, init_bytes, with_global, opening_bytes}
use Rattle.ir_rules.proofs.FirstFaults.{fault-none}
use Rattle.ir_sound.proofs.Lists.{no, Each, each-weaker, each-append, fold-append, get-right}
use Rattle.ir_sound.proofs.InitBytes.{length-padded, length-init}

-- ---- places rise

rounded : (n align : ℕ) → n ≤ round_up n align
rounded n align = omega arith

pub end-rises : (defs : TypeDefs) (gs : List Global) (at : ℕ) → at ≤ end_from defs at gs
end-rises defs [] at = omega arith
end-rises defs (g ∷ gs) at =
    let p = rounded at (align_of (expanded defs g.1)) in
    omega (arith, end-rises defs gs (place_of defs at g + size_of (expanded defs g.1)))

places-within : (defs : TypeDefs) (gs : List Global) (at : ℕ) → Each (λ (p : ℕ × Global). p.0 ≤ end_from defs at gs) (places_from defs at gs)
places-within defs [] at = tt
places-within defs (g ∷ gs) at =
    let next = place_of defs at g + size_of (expanded defs g.1) in
    let rest = end-rises defs gs next in
    (omega arith, places-within defs gs next)

-- ---- addresses

defined-each : (P : ℕ → Type 0) (ps : List (ℕ × Global)) (n : Name) (a : ℕ) → Each (λ (p : ℕ × Global). P p.0) ps
    → defined (map (λ (p : ℕ × Global). (p.1.0, p.0)) ps) n ≡ Some a → P a
defined-each P [] n a all h = cc
defined-each P (p ∷ ps) n a all h = by (same_name n p.1.0) h (defined-each P ps n a all.1)
  where
    by : (b : Bool) → cond b (Some p.0) (defined (map (λ (p : ℕ × Global). (p.1.0, p.0)) ps) n) ≡ Some a
        → (defined (map (λ (p : ℕ × Global). (p.1.0, p.0)) ps) n ≡ Some a → P a) → P a
    by true e rest = let same : p.0 ≡ a = cc in subst P same all.0
    by false e rest = rest e

all-within : (defs : TypeDefs) (items : List Item) → Each (λ (p : ℕ × Global). p.0 ≤ globals_end defs items) (places_of defs items)
all-within defs items =
    let constants = places-within defs (constants_of items) FIRST_ADDRESS in
    let rise = end-rises defs (variables_of items) (constants_end defs items) in
    each-append _ (places_from defs FIRST_ADDRESS (constants_of items)) (places_from defs (constants_end defs items) (variables_of items))
    (each-weaker (λ (p : ℕ × Global). p.0 ≤ constants_end defs items) (λ (p : ℕ × Global). p.0 ≤ globals_end defs items) (λ p h. omega arith)
    (places_from defs FIRST_ADDRESS (constants_of items)) constants)
    (places-within defs (variables_of items) (constants_end defs items))

pub address-within : (defs : TypeDefs) (items : List Item) (n : Name) → address_in (addresses_of defs items) n ≤ globals_end defs items
address-within defs items n = by (defined (addresses_of defs items) n) refl
  where
    by : (o : Option ℕ) → defined (addresses_of defs items) n ≡ o → unwrap_or o 0 ≤ globals_end defs items
    by (Some a) e = defined-each (λ a. a ≤ globals_end defs items) (places_of defs items) n a (all-within defs items) e
    by None e = omega arith

-- ---- the memory is not too large

constants-append : (xs ys : List Item) → constants_of (xs ++ ys) ≡ constants_of xs ++ constants_of ys
constants-append [] ys = refl
constants-append (item.Global n true t i ∷ xs) ys = ap (λ l. (n, t, i) ∷ l) (constants-append xs ys)
constants-append (item.Global n false t i ∷ xs) ys = constants-append xs ys
constants-append (item.TypeDef n t ∷ xs) ys = constants-append xs ys
constants-append (item.Declare n t ts ∷ xs) ys = constants-append xs ys
constants-append (item.Head n t ps ∷ xs) ys = constants-append xs ys
constants-append (item.Label n ∷ xs) ys = constants-append xs ys
constants-append (item.Instr r o ∷ xs) ys = constants-append xs ys
constants-append (item.End ∷ xs) ys = constants-append xs ys

variables-append : (xs ys : List Item) → variables_of (xs ++ ys) ≡ variables_of xs ++ variables_of ys
variables-append [] ys = refl
variables-append (item.Global n true t i ∷ xs) ys = variables-append xs ys
variables-append (item.Global n false t i ∷ xs) ys = ap (λ l. (n, t, i) ∷ l) (variables-append xs ys)
variables-append (item.TypeDef n t ∷ xs) ys = variables-append xs ys
variables-append (item.Declare n t ts ∷ xs) ys = variables-append xs ys
variables-append (item.Head n t ps ∷ xs) ys = variables-append xs ys
variables-append (item.Label n ∷ xs) ys = variables-append xs ys
variables-append (item.Instr r o ∷ xs) ys = variables-append xs ys
variables-append (item.End ∷ xs) ys = variables-append xs ys

base-same : (defs : TypeDefs) (xs : List Item) (x : Item) → constants_of (x ∷ []) ≡ [] → variables_of (x ∷ []) ≡ []
    → stack_base_of defs (xs ++ x ∷ []) ≡ stack_base_of defs xs
base-same defs xs x c v =
    let constants = constants-append xs (x ∷ []) ∙ ap (λ (l : List Global). constants_of xs ++ l) c ∙ append-nil (constants_of xs) in
    let variables = variables-append xs (x ∷ []) ∙ ap (λ (l : List Global). variables_of xs ++ l) v ∙ append-nil (variables_of xs) in
    ap (λ (l : List Global). round_up (end_from defs (end_from defs FIRST_ADDRESS l) (variables_of (xs ++ x ∷ []))) 16) constants
    ∙ ap (λ (l : List Global). round_up (end_from defs (end_from defs FIRST_ADDRESS (constants_of xs)) l) 16) variables

module _ (items : List Item) (signs : List PortSign) (faultless : fault items signs ≡ None) where
  abbrev Small : List Item → Type 0
  Small xs = stack_base_of (type_defs items) xs ≤ MEMORY_BYTES

  at-front : (front : List Item) (x : Item) (rest : List Item) → items ≡ front ++ x ∷ rest → slice_get items (length front) ≡ Some x
  at-front front x rest is = ap (λ (l : List Item). slice_get l (length front)) is ∙ get-right front (x ∷ rest) 0 (length front) (omega arith)

  global-small : (front : List Item) (n : Name) (c : Bool) (t : TyText) (v : Init) (rest : List Item) → items ≡ front ++ item.Global n c t v ∷ rest
      → Small (front ++ item.Global n c t v ∷ [])
  global-small front n c t v rest is =
      let x = item.Global n c t v in
      let i = length front in
      let l : limit (setting_of items signs i x) x ≡ false = fault-none items signs i x Limit faultless (at-front front x rest is) in
      let whole : take i items ≡ front = ap (take i) is ∙ take_at front (x ∷ rest) i refl in
      let below : nat_lt MEMORY_BYTES (stack_base_of (type_defs items) (take i items ++ x ∷ [])) ≡ false = l in
      let P : List Item → Type 0 = λ l. nat_lt MEMORY_BYTES (stack_base_of (type_defs items) (l ++ x ∷ [])) ≡ false in
      not-over (stack_base_of (type_defs items) (front ++ x ∷ [])) (subst P whole below)
    where
      not-over : (n : ℕ) → nat_lt MEMORY_BYTES n ≡ false → n ≤ MEMORY_BYTES
      not-over n h = grind (arith, nat_tests)

  plain : (front : List Item) (x : Item) (rest : List Item) → items ≡ front ++ x ∷ rest → Small front → constants_of (x ∷ []) ≡ [] → variables_of (x ∷ []) ≡ []
      → (items ≡ (front ++ x ∷ []) ++ rest → Small (front ++ x ∷ []) → Small items) → Small items
  plain front x rest is h c v next =
      let P : ℕ → Type 0 = λ n. n ≤ MEMORY_BYTES in
      next (is ∙ sym (append_assoc front (x ∷ []) rest)) (subst P (sym (base-same (type_defs items) front x c v)) h)

  small-along : (front rest : List Item) → items ≡ front ++ rest → Small front → Small items
  small-along front [] is h = let P : List Item → Type 0 = Small in subst P (sym (is ∙ append-nil front)) h
  small-along front (item.Global n c t v ∷ rest) is h =
      let x = item.Global n c t v in
      small-along (front ++ x ∷ []) rest (is ∙ sym (append_assoc front (x ∷ []) rest)) (global-small front n c t v rest is)
  small-along front (item.TypeDef n t ∷ rest) is h = plain front (item.TypeDef n t) rest is h refl refl (small-along (front ++ item.TypeDef n t ∷ []) rest)
  small-along front (item.Declare n t ts ∷ rest) is h = plain front (item.Declare n t ts) rest is h refl refl
      (small-along (front ++ item.Declare n t ts ∷ []) rest)
  small-along front (item.Head n t ps ∷ rest) is h = plain front (item.Head n t ps) rest is h refl refl (small-along (front ++ item.Head n t ps ∷ []) rest)
  small-along front (item.Label n ∷ rest) is h = plain front (item.Label n) rest is h refl refl (small-along (front ++ item.Label n ∷ []) rest)
  small-along front (item.Instr r o ∷ rest) is h = plain front (item.Instr r o) rest is h refl refl (small-along (front ++ item.Instr r o ∷ []) rest)
  small-along front (item.End ∷ rest) is h = plain front item.End rest is h refl refl (small-along (front ++ item.End ∷ []) rest)

  pub base-small : stack_base_of (type_defs items) items ≤ MEMORY_BYTES
  base-small = small-along [] items refl (lit≤ tt)

  -- ---- opening bytes

  abbrev Whole : Global → Type 0
  Whole g = init_fits (type_defs items) g.2 (expanded (type_defs items) g.1) ≡ true

  global-whole : (front : List Item) (n : Name) (c : Bool) (t : TyText) (v : Init) (rest : List Item) → items ≡ front ++ item.Global n c t v ∷ rest
      → Whole (n, t, v)
  global-whole front n c t v rest is =
      let x = item.Global n c t v in
      let i = length front in
      let d : init_differs (setting_of items signs i x) x ≡ false = fault-none items signs i x InitDiffers faultless (at-front front x rest is) in
      no _ d

  constants-whole : (front rest : List Item) → items ≡ front ++ rest → Each Whole (constants_of rest)
  constants-whole front [] is = tt
  constants-whole front (item.Global n true t v ∷ rest) is = (
    global-whole front n true t v rest is,
    constants-whole (front ++ item.Global n true t v ∷ []) rest (is
        ∙ sym (append_assoc front (item.Global n true t v ∷ []) rest)),
  )
  constants-whole front (item.Global n false t v ∷ rest) is =
      constants-whole (front ++ item.Global n false t v ∷ []) rest (is ∙ sym (append_assoc front (item.Global n false t v ∷ []) rest))
  constants-whole front (item.TypeDef n t ∷ rest) is = constants-whole (front ++ item.TypeDef n t ∷ []) rest (is
      ∙ sym (append_assoc front (item.TypeDef n t ∷ []) rest))
  constants-whole front (item.Declare n t ts ∷ rest) is = constants-whole (front ++ item.Declare n t ts ∷ []) rest (is
      ∙ sym (append_assoc front (item.Declare n t ts ∷ []) rest))
  constants-whole front (item.Head n t ps ∷ rest) is = constants-whole (front ++ item.Head n t ps ∷ []) rest (is
      ∙ sym (append_assoc front (item.Head n t ps ∷ []) rest))
  constants-whole front (item.Label n ∷ rest) is = constants-whole (front ++ item.Label n ∷ []) rest (is ∙ sym (append_assoc front (item.Label n ∷ []) rest))
  constants-whole front (item.Instr r o ∷ rest) is = constants-whole (front ++ item.Instr r o ∷ []) rest (is
      ∙ sym (append_assoc front (item.Instr r o ∷ []) rest))
  constants-whole front (item.End ∷ rest) is = constants-whole (front ++ item.End ∷ []) rest (is ∙ sym (append_assoc front (item.End ∷ []) rest))

  variables-whole : (front rest : List Item) → items ≡ front ++ rest → Each Whole (variables_of rest)
  variables-whole front [] is = tt
  variables-whole front (item.Global n false t v ∷ rest) is = (
    global-whole front n false t v rest is,
    variables-whole (front ++ item.Global n false t v ∷ []) rest (is
        ∙ sym (append_assoc front (item.Global n false t v ∷ []) rest)),
  )
  variables-whole front (item.Global n true t v ∷ rest) is =
      variables-whole (front ++ item.Global n true t v ∷ []) rest (is ∙ sym (append_assoc front (item.Global n true t v ∷ []) rest))
  variables-whole front (item.TypeDef n t ∷ rest) is = variables-whole (front ++ item.TypeDef n t ∷ []) rest (is
      ∙ sym (append_assoc front (item.TypeDef n t ∷ []) rest))
  variables-whole front (item.Declare n t ts ∷ rest) is = variables-whole (front ++ item.Declare n t ts ∷ []) rest (is
      ∙ sym (append_assoc front (item.Declare n t ts ∷ []) rest))
  variables-whole front (item.Head n t ps ∷ rest) is = variables-whole (front ++ item.Head n t ps ∷ []) rest (is
      ∙ sym (append_assoc front (item.Head n t ps ∷ []) rest))
  variables-whole front (item.Label n ∷ rest) is = variables-whole (front ++ item.Label n ∷ []) rest (is ∙ sym (append_assoc front (item.Label n ∷ []) rest))
  variables-whole front (item.Instr r o ∷ rest) is = variables-whole (front ++ item.Instr r o ∷ []) rest (is
      ∙ sym (append_assoc front (item.Instr r o ∷ []) rest))
  variables-whole front (item.End ∷ rest) is = variables-whole (front ++ item.End ∷ []) rest (is ∙ sym (append_assoc front (item.End ∷ []) rest))

  abbrev step : List ℕ → ℕ × Global → List ℕ
  step = with_global (type_defs items) (addresses_of (type_defs items) items)

  bytes-within : (gs : List Global) (at : ℕ) (bytes : List ℕ) → length bytes ≤ at → Each Whole gs
      → length (fold step bytes (places_from (type_defs items) at gs)) ≤ end_from (type_defs items) at gs
  bytes-within [] at bytes h all = h
  bytes-within (g ∷ gs) at bytes h all =
      let place = place_of (type_defs items) at g in
      let own = init_bytes (type_defs items) (addresses_of (type_defs items) items) g.2 (expanded (type_defs items) g.1) in
      let long : length own ≡ size_of (expanded (type_defs items) g.1) = length-init (type_defs items) (addresses_of (type_defs items) items) g.2 _ all.0 in
      let pad : length (padded place bytes) ≡ place = length-padded place bytes (omega arith) in
      bytes-within gs (place + size_of (expanded (type_defs items) g.1)) (padded place bytes ++ own)
      (omega (arith, length-append (padded place bytes) own)) all.1

  -- the memory reaches to the stack base
  pub memory-length : length (opening_bytes (type_defs items) items) ≡ stack_base_of (type_defs items) items
  memory-length =
      let d = type_defs items in
      let first = fold step [] (places_from d FIRST_ADDRESS (constants_of items)) in
      let one : length first ≤ constants_end d items = bytes-within (constants_of items) FIRST_ADDRESS [] (omega arith) (constants-whole [] items refl) in
      let two = bytes-within (variables_of items) (constants_end d items) first one (variables-whole [] items refl) in
      let whole = fold-append step [] (places_from d FIRST_ADDRESS (constants_of items)) (places_from d (constants_end d items) (variables_of items)) in
      let long = ap (λ (l : List ℕ). length l) whole in
      length-padded (stack_base_of d items) (fold step [] (places_of d items)) (omega arith)

  pub constants-from : FIRST_ADDRESS ≤ constants_end (type_defs items) items
  constants-from = end-rises (type_defs items) (constants_of items) FIRST_ADDRESS

  pub constants-to : constants_end (type_defs items) items ≤ stack_base_of (type_defs items) items
  constants-to = omega (arith, end-rises (type_defs items) (variables_of items) (constants_end (type_defs items) items))

  pub address-small : (n : Name) → address_in (addresses_of (type_defs items) items) n < 2 ^ 64
  address-small n = omega (arith, address-within (type_defs items) items n, base-small)
