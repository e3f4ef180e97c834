-- Where the blocks of a function lie.
use Rattle.std.proofs.Common.{◌≡◌, ◌⊎◌, inl, inr, ℕ, zero, suc, ◌+◌, ◌-◌, ◌≤◌, List, [], ◌∷◌, ◌++◌, length, slice_get, Some}
use Rattle.std.proofs.Common.{refl, sym, ap, ◌∙◌, subst, arith}
use Rattle.code_form.specs.declared.code.Block.{Block}
use Rattle.code_form.specs.Sound.{AreLaid}
use Rattle.ir_rules.specs.Modules.{blocks_from}
use Rattle.ir_rules.specs.declared.scope.Scope.{Scope}
use Rattle.ir_sound.proofs.Lists.{get-some}
use Rattle.ir_sound.proofs.Places.{Place}
use Rattle.ir_sound.proofs.Blocks.{Spans, Ended, AllBlocked}

-- a block of the code is one of the starts with the next one, or with the end
pub record IsBlockAt (at : ℕ) (starts : List ℕ) (count b : ℕ) (block : Block) : Type 0 where
  pub start : ℕ
  pub is : slice_get starts b ≡ Some start
  pub first : block.first ≡ at + start
  pub next : ℕ
  pub len : block.len ≡ next - start
  pub which : (slice_get starts (suc b) ≡ Some next) ⊎ ((suc b ≡ length starts) × (count ≡ next))

pub block-at : (at : ℕ) (starts : List ℕ) (count b : ℕ) (block : Block) → slice_get (blocks_from at starts count) b ≡ Some block
    → IsBlockAt at starts count b block
block-at at [] count b block h = cc
block-at at (start ∷ []) count zero block h =
    let same : ◌≡◌ {A = Block} (record { first = at + start; len = count - start }) block = cc in
    record {
      start = start;
      is = refl;
      first = ap (λ (b : Block). b.first) (sym same);
      next = count;
      len = ap (λ (b : Block). b.len) (sym same);
      which = inr (refl, refl);
    }
block-at at (start ∷ []) count (suc b) block h = cc
block-at at (start ∷ next ∷ more) count zero block h =
    let same : ◌≡◌ {A = Block} (record { first = at + start; len = next - start }) block = cc in
    record {
      start = start;
      is = refl;
      first = ap (λ (b : Block). b.first) (sym same);
      next = next;
      len = ap (λ (b : Block). b.len) (sym same);
      which = inl refl;
    }
block-at at (start ∷ next ∷ more) count (suc b) block h =
    let there = block-at at (next ∷ more) count b block h in
    record {
      start = there.start;
      is = there.is;
      first = there.first;
      next = there.next;
      len = there.len;
      which = elim there.which [ inl e ↦ inl e | inr e ↦ inr (ap suc e.0, e.1) ];
    }

pub length-blocks : (at : ℕ) (starts : List ℕ) (count : ℕ) → length (blocks_from at starts count) ≡ length starts
length-blocks at [] count = refl
length-blocks at (start ∷ []) count = refl
length-blocks at (start ∷ next ∷ more) count = ap suc (length-blocks at (next ∷ more) count)

-- a block with what is known of its places, by their numbers in the function
pub record IsBlockOf (at b : ℕ) (block : Block) (l : List Place) : Type 0 where
  pub start : ℕ
  pub first : block.first ≡ at + start
  pub spans : Spans b start (start + block.len) l
  pub ended : Ended start (start + block.len) l

block-from : (at b start next : ℕ) (block : Block) (l : List Place) → block.first ≡ at + start → block.len ≡ next - start → Spans b start next l
    → Ended start next l
    → IsBlockOf at b block l
block-from at b start next block l first len spans ended =
    let some = ended.some in
    let same : next ≡ start + block.len = omega arith in
    let P : ℕ → Type 0 = λ n. Spans b start n l in
    let Q : ℕ → Type 0 = λ n. Ended start n l in
    record { start = start; first = first; spans = subst P same spans; ended = subst Q same ended }

module _ (at : ℕ) (f : Scope) (l : List Place) (all : AllBlocked f l) where
  pub block-of : (b : ℕ) (block : Block) → slice_get (blocks_from at f.starts (length f.results)) b ≡ Some block → IsBlockOf at b block l
  block-of b block h =
      let is = block-at at f.starts (length f.results) b block h in
      elim is.which [
        | inl e ↦ (let two = all.blocked.closed b is.start is.next is.is e in block-from at b is.start is.next block l is.first is.len two.0 two.1)
        | inr e ↦ (
            let o = all.blocked.last b is.start is.is e.0 in
            let same : length l ≡ is.next = sym all.blocked.counted ∙ e.1 in
            let P : ℕ → Type 0 = λ n. Spans b is.start n l × Ended is.start n l in
            let two : Spans b is.start is.next l × Ended is.start is.next l = subst P same (o.spans, o.ended all.terminated) in
            block-from at b is.start is.next block l is.first is.len two.0 two.1)
      ]

-- blocks that begin one behind the other are laid to their end
laid-from : (at : ℕ) (starts : List ℕ) (count from : ℕ) → slice_get starts 0 ≡ Some from
    → ((b start next : ℕ) → slice_get starts b ≡ Some start → slice_get starts (suc b) ≡ Some next → start ≤ next)
    → ((b start : ℕ) → slice_get starts b ≡ Some start → suc b ≡ length starts → start ≤ count)
    → AreLaid (at + from) (blocks_from at starts count) (at + count)
laid-from at [] count from h rise end = cc
laid-from at (start ∷ []) count from h rise end =
    let same : start ≡ from = cc in
    let below = end 0 start refl refl in
    (omega arith, omega arith)
laid-from at (start ∷ next ∷ more) count from h rise end =
    let same : start ≡ from = cc in
    let below = rise 0 start next refl refl in
    let rest = laid-from at (next ∷ more) count next refl (λ b. rise (suc b)) (λ b s e l. end (suc b) s e (ap suc l)) in
    let there : at + next ≡ (at + from) + (next - start) = omega arith in
    let P : ℕ → Type 0 = λ n. AreLaid n (blocks_from at (next ∷ more) count) (at + count) in
    (omega arith, subst P there rest)

-- the blocks of a function lie one behind the other from its first place on
pub function-laid : (at : ℕ) (f : Scope) (l : List Place) → AllBlocked f l → AreLaid at (blocks_from at f.starts (length f.results)) (at + length l)
function-laid at f l all =
    let first = get-some f.starts 0 all.some in
    let zero_is = all.blocked.first first.0 first.1 in
    let count = all.blocked.counted in
    let P : ℕ → Type 0 = λ n. AreLaid n (blocks_from at f.starts (length f.results)) (at + length l) in
    let Q : ℕ → Type 0 = λ n. AreLaid (at + first.0) (blocks_from at f.starts (length f.results)) (at + n) in
    let here : at + first.0 ≡ at = omega arith in
    subst P here (subst Q count (laid-from at f.starts (length f.results) first.0 first.1
    (λ b start next g h. (let two = all.blocked.closed b start next g h in let some = two.1.some in omega arith))
    (λ b start g e. (let o = all.blocked.last b start g e in let from = o.from in omega arith))))

pub laid-append : (from mid to : ℕ) (xs ys : List Block) → AreLaid from xs mid → AreLaid mid ys to → AreLaid from (xs ++ ys) to
laid-append from mid to [] ys g h = let P : ℕ → Type 0 = λ n. AreLaid n ys to in subst P (sym g) h
laid-append from mid to (b ∷ xs) ys g h = (g.0, laid-append (from + b.len) mid to xs ys g.1 h)
