-- Where globals end that begin at an address or behind it.
use Rattle.std.proofs.Common.{◌≡◌, ◌⊎◌, inl, inr, ℕ, ◌+◌, ◌-◌, ◌*◌, ◌/◌, ◌%◌, ◌<◌, ◌≤◌, nat_lt, true, false, List, [], ◌∷◌, ◌++◌, refl, sym, ap, subst, ◌∙◌, arith}
use Rattle.std.proofs.lemmas.Bool.{cases_lt, lt-ltb, le-ltb}
use Rattle.am_base.specs.declared.limits.TheConstants.{MEMORY_BYTES}
use Rattle.type_layout.specs.Layout.{round_up}
use Rattle.type_layout.specs.Types.{size_of, align_of}
use Rattle.ir_tree.specs.declared.item.Item.{Item}
use Rattle.ir_tree.specs.declared.item.Item.TheVariants as item
use Rattle.ir_rules.specs.Types.{TypeDefs, expanded}
use Rattle.ir_rules.specs.Memory.{Global, constants_of, variables_of, place_of, end_from}
use Rattle.ir_room.specs.Ends.{limited, near, end_after}
use Rattle.ir_room.proofs.Aligned.{Divides, aligned}

-- ---- a multiple of 8 in front of all globals

abbrev Shifts : ℕ → ℕ → ℕ → Type 0
Shifts q r a = (8 * q + r) % a ≡ r % a

shifts : (q r a : ℕ) → Divides a → Shifts q r a
shifts q r a d = by d.is
  where
    by : (a ≡ 1) ⊎ ((a ≡ 2) ⊎ ((a ≡ 4) ⊎ (a ≡ 8))) → Shifts q r a
    by (inl e) = let h : Shifts q r 1 = omega arith in subst (Shifts q r) (sym e) h
    by (inr (inl e)) = let h : Shifts q r 2 = omega arith in subst (Shifts q r) (sym e) h
    by (inr (inr (inl e))) = let h : Shifts q r 4 = omega arith in subst (Shifts q r) (sym e) h
    by (inr (inr (inr e))) = let h : Shifts q r 8 = omega arith in subst (Shifts q r) (sym e) h

rounds : (q r a : ℕ) → Divides a → round_up (8 * q + r) a ≡ 8 * q + round_up r a
rounds q r a d =
    let same = ap (λ m. 8 * q + r + (a - m) % a) (shifts q r a d) in
    let back : 8 * q + r + (a - r % a) % a ≡ 8 * q + (r + (a - r % a) % a) = omega arith in
    same ∙ back

pub moves : (defs : TypeDefs) (q : ℕ) (gs : List Global) (at : ℕ) → end_from defs (8 * q + at) gs ≡ 8 * q + end_from defs at gs
moves defs q [] at = refl
moves defs q (g ∷ gs) at =
    let size = size_of (expanded defs g.1) in
    let place = rounds q at (align_of (expanded defs g.1)) (aligned (expanded defs g.1)) in
    let on : 8 * q + place_of defs at g + size ≡ 8 * q + (place_of defs at g + size) = omega arith in
    ap (λ p. end_from defs (p + size) gs) place ∙ ap (λ p. end_from defs p gs) on ∙ moves defs q gs (place_of defs at g + size)

-- ---- one global more

pub end-append : (defs : TypeDefs) (gs : List Global) (g : Global) (at : ℕ) → end_from defs at (gs ++ g ∷ []) ≡ place_of defs (end_from defs at gs) g + size_of (expanded defs g.1)
end-append defs [] g at = refl
end-append defs (h ∷ gs) g at = end-append defs gs g (place_of defs at h + size_of (expanded defs h.1))

pub end-rises : (defs : TypeDefs) (gs : List Global) (at : ℕ) → at ≤ end_from defs at gs
end-rises defs [] at = omega arith
end-rises defs (g ∷ gs) at = omega (arith, end-rises defs gs (place_of defs at g + size_of (expanded defs g.1)))

pub constants-append : (xs ys : List Item) → constants_of (xs ++ ys) ≡ constants_of xs ++ constants_of ys
constants-append [] ys = refl
constants-append (item.Global n true t i ∷ xs) ys = ap (λ l. (n, t, i) ∷ l) (constants-append xs ys)
constants-append (item.Global n false t i ∷ xs) ys = constants-append xs ys
constants-append (item.TypeDef n t ∷ xs) ys = constants-append xs ys
constants-append (item.Declare n t ts ∷ xs) ys = constants-append xs ys
constants-append (item.Head n t ps ∷ xs) ys = constants-append xs ys
constants-append (item.Label n ∷ xs) ys = constants-append xs ys
constants-append (item.Instr r o ∷ xs) ys = constants-append xs ys
constants-append (item.End ∷ xs) ys = constants-append xs ys

pub variables-append : (xs ys : List Item) → variables_of (xs ++ ys) ≡ variables_of xs ++ variables_of ys
variables-append [] ys = refl
variables-append (item.Global n true t i ∷ xs) ys = variables-append xs ys
variables-append (item.Global n false t i ∷ xs) ys = ap (λ l. (n, t, i) ∷ l) (variables-append xs ys)
variables-append (item.TypeDef n t ∷ xs) ys = variables-append xs ys
variables-append (item.Declare n t ts ∷ xs) ys = variables-append xs ys
variables-append (item.Head n t ps ∷ xs) ys = variables-append xs ys
variables-append (item.Label n ∷ xs) ys = variables-append xs ys
variables-append (item.Instr r o ∷ xs) ys = variables-append xs ys
variables-append (item.End ∷ xs) ys = variables-append xs ys

-- ---- addresses behind the memory count as one

divides-near : (a : ℕ) → Divides a → near a ≡ a
divides-near a d = by d.is
  where
    by : (a ≡ 1) ⊎ ((a ≡ 2) ⊎ ((a ≡ 4) ⊎ (a ≡ 8))) → near a ≡ a
    by (inl e) = omega arith
    by (inr (inl e)) = omega arith
    by (inr (inr (inl e))) = omega arith
    by (inr (inr (inr e))) = omega arith

rises : (at a : ℕ) → at ≤ round_up at a
rises at a = omega arith

end-limited : (at size a : ℕ) → limited (round_up (limited at) a + limited size) ≡ limited (round_up at a + size)
end-limited at size a = by (cases_lt (MEMORY_BYTES + 1) at)
  where
    by : (MEMORY_BYTES + 1 < at) ⊎ (at ≤ MEMORY_BYTES + 1) → limited (round_up (limited at) a + limited size) ≡ limited (round_up at a + size)
    by (inl h) =
        let low = rises at a in
        let same : limited at ≡ MEMORY_BYTES + 1 = omega arith in
        let lower = rises (MEMORY_BYTES + 1) a in
        let left : limited (round_up (MEMORY_BYTES + 1) a + limited size) ≡ MEMORY_BYTES + 1 = omega arith in
        let right : MEMORY_BYTES + 1 ≡ limited (round_up at a + size) = omega arith in
        ap (λ m. limited (round_up m a + limited size)) same ∙ left ∙ right
    by (inr h) =
        let same : limited at ≡ at = omega arith in
        let rest : limited (round_up at a + limited size) ≡ limited (round_up at a + size) = omega arith in
        ap (λ m. limited (round_up m a + limited size)) same ∙ rest

pub twice : (at : ℕ) → limited (limited at) ≡ limited at
twice at = omega arith

pub after-limited : (at size a : ℕ) (offsets : List ℕ) → Divides a → end_after (limited at) (record { size = size; align = a; offsets = offsets }) ≡ limited (round_up at a + size)
after-limited at size a offsets d =
    ap (λ m. limited (round_up m (near a) + limited size)) (twice at)
    ∙ ap (λ m. limited (round_up (limited at) m + limited size)) (divides-near a d)
    ∙ end-limited at size a

-- ---- whether the memory has room

tests : (a b : ℕ) → (MEMORY_BYTES < a → MEMORY_BYTES < b) → (MEMORY_BYTES < b → MEMORY_BYTES < a) → nat_lt MEMORY_BYTES a ≡ nat_lt MEMORY_BYTES b
tests a b f g = by (cases_lt MEMORY_BYTES a)
  where
    by : (MEMORY_BYTES < a) ⊎ (a ≤ MEMORY_BYTES) → nat_lt MEMORY_BYTES a ≡ nat_lt MEMORY_BYTES b
    by (inl h) = lt-ltb MEMORY_BYTES a h ∙ sym (lt-ltb MEMORY_BYTES b (f h))
    by (inr h) = le-ltb MEMORY_BYTES a h ∙ sym (le-ltb MEMORY_BYTES b (by' (cases_lt MEMORY_BYTES b)))
      where
        by' : (MEMORY_BYTES < b) ⊎ (b ≤ MEMORY_BYTES) → b ≤ MEMORY_BYTES
        by' (inl k) = let back = g k in absurd (omega arith)
        by' (inr k) = k

-- the memory ends at a multiple of 16
over : (n : ℕ) → nat_lt MEMORY_BYTES n ≡ nat_lt MEMORY_BYTES (round_up n 16)
over n = tests n (round_up n 16) (λ h. omega arith) (λ h. omega arith)

module _ (defs : TypeDefs) (gs : List Global) (c : ℕ) where
  abbrev from : ℕ
  from = limited c

  abbrev rest : ℕ
  rest = limited (end_from defs (from % 8) gs)

  whole : end_from defs from gs ≡ 8 * (from / 8) + end_from defs (from % 8) gs
  whole = let parts : from ≡ 8 * (from / 8) + from % 8 = omega arith in ap (λ m. end_from defs m gs) parts ∙ moves defs (from / 8) gs (from % 8)

  pub full : nat_lt MEMORY_BYTES (from / 8 * 8 + rest) ≡ nat_lt MEMORY_BYTES (round_up (end_from defs c gs) 16)
  full = tests (from / 8 * 8 + rest) (end_from defs c gs) there back ∙ over (end_from defs c gs)
    where
      small : c ≤ MEMORY_BYTES + 1 → from ≡ c
      small h = omega arith

      there : MEMORY_BYTES < from / 8 * 8 + rest → MEMORY_BYTES < end_from defs c gs
      there h = by (cases_lt (MEMORY_BYTES + 1) c)
        where
          by : (MEMORY_BYTES + 1 < c) ⊎ (c ≤ MEMORY_BYTES + 1) → MEMORY_BYTES < end_from defs c gs
          by (inl k) = let up = end-rises defs gs c in omega arith
          by (inr k) = let e = ap (λ m. end_from defs m gs) (small k) in let w = whole in omega arith

      back : MEMORY_BYTES < end_from defs c gs → MEMORY_BYTES < from / 8 * 8 + rest
      back h = by (cases_lt (MEMORY_BYTES + 1) c)
        where
          by : (MEMORY_BYTES + 1 < c) ⊎ (c ≤ MEMORY_BYTES + 1) → MEMORY_BYTES < from / 8 * 8 + rest
          by (inl k) = let up = end-rises defs gs (from % 8) in omega arith
          by (inr k) = let e = ap (λ m. end_from defs m gs) (small k) in let w = whole in omega arith
