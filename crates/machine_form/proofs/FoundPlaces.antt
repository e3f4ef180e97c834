-- Places are found: the function of a place, a block of it, and the place behind the `phi` of a block.
use Rattle.std.proofs.Common.{◌≡◌, ℕ, zero, suc, ◌+◌, ◌-◌, ◌<◌, ◌≤◌, Bool, true, false, List, [], ◌∷◌, length, take, drop, Some, slice_get, arith, sym, ◌∙◌, ap}
use Rattle.std.proofs.Common.{refl, subst, ◌||◌}
use Rattle.std.specs.Prelude.{unwrap_or, flat_map}
use Rattle.std.proofs.lemmas.List.{length-take-le, length-drop}
use Rattle.std.proofs.lemmas.Bool.Decides.{nat_tests}
use Rattle.code_form.specs.declared.instr.Instr.{Instr}
use Rattle.code_form.specs.declared.instr.Instr.TheVariants.{Phi, Unreachable}
use Rattle.code_form.specs.declared.code.Block.{Block}
use Rattle.code_form.specs.declared.code.Func.{Func}
use Rattle.code_form.specs.declared.code.Code.{Code}
use Rattle.code_form.specs.Places.{no_block, instr_at, lies_in, lies_in_some, function_in, function_of, block_of, instrs_of, is_phi, is_terminator}
use Rattle.code_form.specs.Sound.{IsSound, IsSoundBlock, IsPlaceOf, AreLaid}
use Rattle.machine_form.specs.After.{phis_in}
use Rattle.machine_form.proofs.Fits.{laid-le, laid_front}

-- ---- the function of a place

or_first : (a b : Bool) → a ≡ true → (a || b) ≡ true
or_first true b e = refl
or_first false b e = cc

or_second : (a b : Bool) → b ≡ true → (a || b) ≡ true
or_second true b e = refl
or_second false b e = e

or_neither : (a b : Bool) → a ≡ false → b ≡ false → (a || b) ≡ false
or_neither true b e d = cc
or_neither false b e d = d

pub within : (b : Block) (at : ℕ) → b.first ≤ at → at < b.first + b.len → lies_in at b ≡ true
within b at from below = grind (arith, nat_tests)

pub past : (b : Block) (at : ℕ) → b.first + b.len ≤ at → lies_in at b ≡ false
past b at l = grind (arith, nat_tests)

lies : (blocks : List Block) (n at : ℕ) (block : Block) → slice_get blocks n ≡ Some block → lies_in at block ≡ true → lies_in_some at blocks ≡ true
lies [] n at block e h = cc
lies (b ∷ blocks) zero at block e h = let same : block ≡ b = cc in or_first (lies_in at b) (lies_in_some at blocks) (sym (ap (lies_in at) same) ∙ h)
lies (b ∷ blocks) (suc n) at block e h = or_second (lies_in at b) (lies_in_some at blocks) (lies blocks n at block e h)

pub lies_past : (from : ℕ) (blocks : List Block) (to at : ℕ) → AreLaid from blocks to → to ≤ at → lies_in_some at blocks ≡ false
lies_past from [] to at h l = refl
lies_past from (b ∷ blocks) to at h l =
    let more : from + b.len ≤ to = laid-le (from + b.len) blocks to h.1 in
    or_neither (lies_in at b) (lies_in_some at blocks) (past b at (omega (arith, h.0, more))) (lies_past (from + b.len) blocks to at h.1 l)

pub block_from : (from : ℕ) (blocks : List Block) (to n : ℕ) (block : Block) → AreLaid from blocks to → slice_get blocks n ≡ Some block → from ≤ block.first
block_from from [] to n block h e = cc
block_from from (b ∷ blocks) to zero block h e =
    let same : b.first ≡ block.first = let d : b ≡ block = cc in ap (λ (c : Block). c.first) d in
    omega (arith, h.0)
block_from from (b ∷ blocks) to (suc n) block h e = let rest : from + b.len ≤ block.first = block_from (from + b.len) blocks to n block h.1 e in omega arith

function_from : (from : ℕ) (funcs : List Func) (to g n : ℕ) (f : Func) (block : Block) → AreLaid from (flat_map (λ (f : Func). f.blocks) funcs) to
    → slice_get funcs g ≡ Some f → slice_get f.blocks n ≡ Some block → from ≤ block.first
function_from from [] to g n f block h e d = cc
function_from from (k ∷ funcs) to zero n f block h e d =
    let same : f ≡ k = cc in
    let front = laid_front from k.blocks (flat_map (λ (f : Func). f.blocks) funcs) to h in
    let P : Func → Type 0 = λ j. slice_get j.blocks n ≡ Some block in
    block_from from k.blocks front.0 n block front.1 (subst P same d)
function_from from (k ∷ funcs) to (suc g) n f block h e d =
    let front = laid_front from k.blocks (flat_map (λ (f : Func). f.blocks) funcs) to h in
    let less : from ≤ front.0 = laid-le from k.blocks front.0 front.1 in
    let rest : front.0 ≤ block.first = function_from front.0 funcs to g n f block front.2 e d in
    omega arith

found : (from : ℕ) (funcs : List Func) (to g n at : ℕ) (f : Func) (block : Block) → AreLaid from (flat_map (λ (f : Func). f.blocks) funcs) to
    → slice_get funcs g ≡ Some f
    → slice_get f.blocks n ≡ Some block → block.first ≤ at → at < block.first + block.len → function_in funcs at ≡ f
found from [] to g n at f block h e d from_at below = cc
found from (k ∷ funcs) to zero n at f block h e d from_at below =
    let same : k ≡ f = cc in
    let P : Func → Type 0 = λ j. lies_in_some at j.blocks ≡ true in
    let here : lies_in_some at k.blocks ≡ true = subst P (sym same) (lies f.blocks n at block d (within block at from_at below)) in
    rw here same
found from (k ∷ funcs) to (suc g) n at f block h e d from_at below =
    let front = laid_front from k.blocks (flat_map (λ (f : Func). f.blocks) funcs) to h in
    let rest : front.0 ≤ block.first = function_from front.0 funcs to g n f block front.2 e d in
    let not_here : lies_in_some at k.blocks ≡ false = lies_past from k.blocks front.0 at front.1 (omega arith) in
    rw not_here (found front.0 funcs to g n at f block front.2 e d from_at below)

pub function_found : (code : Code) (g : ℕ) (f : Func) (at : ℕ) → IsSound code → slice_get code.funcs g ≡ Some f → IsPlaceOf f at → function_of code at ≡ f
function_found code g f at sound is p = found 0 code.funcs (length code.instrs) g p.number at f p.block sound.laid is p.is p.from p.below

pub some_at : {X : Type 0} (xs : List X) (i : ℕ) → i < length xs → (x : X) × (slice_get xs i ≡ Some x)
some_at [] i l = absurd (omega arith)
some_at (x ∷ xs) zero l = (x, refl)
some_at (x ∷ xs) (suc i) l = some_at xs i (omega arith)

pub block_found : (code : Code) (g : ℕ) (f : Func) (at b : ℕ) (block : Block) → IsSound code → slice_get code.funcs g ≡ Some f → IsPlaceOf f at
    → slice_get f.blocks b ≡ Some block → block_of code at b ≡ block
block_found code g f at b block sound is p e =
    ap (λ (h : Func). unwrap_or (slice_get h.blocks b) no_block) (function_found code g f at sound is p) ∙ ap (λ o. unwrap_or o no_block) e

-- ---- the instructions of a block

taken : {X : Type 0} (n : ℕ) (xs : List X) (i : ℕ) → i < n → slice_get (take n xs) i ≡ slice_get xs i
taken zero xs i l = absurd (omega arith)
taken (suc n) [] i l = refl
taken (suc n) (x ∷ xs) zero l = refl
taken (suc n) (x ∷ xs) (suc i) l = taken n xs i (omega arith)

dropped : {X : Type 0} (m : ℕ) (xs : List X) (i k : ℕ) → k ≡ m + i → slice_get (drop m xs) i ≡ slice_get xs k
dropped zero xs i k e = let same : i ≡ k = omega arith in ap (λ (n : ℕ). slice_get xs n) same
dropped (suc m) [] i k e = refl
dropped (suc m) (x ∷ xs) i zero e = absurd (omega arith)
dropped (suc m) (x ∷ xs) i (suc k) e = dropped m xs i k (omega arith)

pub part_at : {X : Type 0} (m n : ℕ) (xs : List X) (i : ℕ) → i < n → slice_get (take n (drop m xs)) i ≡ slice_get xs (m + i)
part_at m n xs i l = taken n (drop m xs) i l ∙ dropped m xs i (m + i) refl

-- ---- the `phi` at the front

terminator_no_phi : (i : Instr) → is_terminator i ≡ true → is_phi i ≡ false
terminator_no_phi (Phi entries) e = cc
terminator_no_phi _ e = refl

phis_le : (is : List Instr) (i : ℕ) → i < length is → is_phi (unwrap_or (slice_get is i) Unreachable) ≡ false → phis_in is ≤ i
phis_le [] i l h = absurd (omega arith)
phis_le (Phi entries ∷ is) zero l h = cc
phis_le (Phi entries ∷ is) (suc i) l h = let rest : phis_in is ≤ i = phis_le is i (omega arith) h in omega arith
phis_le (_ ∷ is) i l h = omega arith

phis_stop : (is : List Instr) → phis_in is < length is → is_phi (unwrap_or (slice_get is (phis_in is)) Unreachable) ≡ false
phis_stop [] l = absurd (omega arith)
phis_stop (Phi entries ∷ is) l = phis_stop is (omega arith)
phis_stop (_ ∷ is) l = refl

module _ (code : Code) (f : Func) (b : ℕ) (block : Block) (inside : block.first + block.len ≤ length code.instrs) (sound : IsSoundBlock code f b block) where
  pub length-instrs_of : length (instrs_of code block) ≡ block.len
  length-instrs_of = length-take-le block.len (drop block.first code.instrs) (omega (arith, length-drop block.first code.instrs))

  pub phis_before_last : phis_in (instrs_of code block) < block.len
  phis_before_last =
      let last : ℕ = block.len - 1 in
      let at_last : is_phi (instr_at code (block.first + (block.len - 1))) ≡ false =
      terminator_no_phi (instr_at code (block.first + (block.len - 1)))
      ((sound.ends (block.len - 1) (omega (arith, sound.some))).1 (omega (arith, sound.some))) in
      let e = part_at block.first block.len code.instrs (block.len - 1) (omega (arith, sound.some)) in
      let no_phi = ap (λ o. is_phi (unwrap_or o Unreachable)) e ∙ at_last in
      let le : phis_in (instrs_of code block) ≤ block.len - 1 = phis_le (instrs_of code block) (block.len - 1)
      (omega (arith, length-instrs_of, sound.some)) no_phi in
      omega (arith, sound.some)

  entry_no_phi : is_phi (instr_at code (block.first + phis_in (instrs_of code block))) ≡ false
  entry_no_phi =
      let less : phis_in (instrs_of code block) < block.len = phis_before_last in
      let stop = phis_stop (instrs_of code block) (omega (arith, length-instrs_of)) in
      let e = part_at block.first block.len code.instrs (phis_in (instrs_of code block)) less in
      sym (ap (λ o. is_phi (unwrap_or o Unreachable)) e) ∙ stop

  pub entry_stands : slice_get f.blocks b ≡ Some block → IsPlaceOf f (block.first + phis_in (instrs_of code block))
  entry_stands is = record {
    block = block;
    number = b;
    is = is;
    from = omega arith;
    below = let less : phis_in (instrs_of code block) < block.len =
        phis_before_last in omega arith;
  }

  pub entry_is_no_phi : is_phi (instr_at code (block.first + phis_in (instrs_of code block))) ≡ false
  entry_is_no_phi = entry_no_phi
