-- The places of a function are places of the code.
use Rattle.std.proofs.Common.{◌≡◌, ℕ, zero, suc, ◌+◌, ◌-◌, ◌<◌, ◌≤◌, List, [], ◌∷◌, ◌++◌, length, Some, refl, sym, ap, ◌∙◌, subst, arith, slice_get, unwrap_or, inl, inr}
use Rattle.std.specs.List.{flat_map}
use Rattle.std.proofs.lemmas.Option.{slice_get_cases}
use Rattle.code_form.specs.Places.{function_at, no_block, no_function}
use Rattle.code_form.specs.Sound.{AreLaid, IsSound}
use Rattle.code_form.specs.declared.code.Block.{Block}
use Rattle.code_form.specs.declared.code.Code.{Code}
use Rattle.code_form.specs.declared.code.Func.{Func}
use Rattle.mutant_records.specs.Lists.{HasPlaces, block_end}

laid-le : (from : ℕ) (blocks : List Block) (to : ℕ) → AreLaid from blocks to → from ≤ to
laid-le from [] to h = omega (arith, h)
laid-le from (b ∷ blocks) to h = let rest = laid-le (from + b.len) blocks to h.1 in omega arith

laid_front : (from : ℕ) (blocks more : List Block) (to : ℕ) → AreLaid from (blocks ++ more) to → (middle : ℕ) × AreLaid from blocks middle × AreLaid middle more to
laid_front from [] more to h = (from, refl, h)
laid_front from (b ∷ blocks) more to h = let rest = laid_front (from + b.len) blocks more to h.1 in (rest.0, (h.0, rest.1), rest.2)

record Laid (from : ℕ) (f : Func) (to : ℕ) : Type 0 where
  begin : ℕ
  end : ℕ
  laid : AreLaid begin f.blocks end
  within : end ≤ to

laid_function : (from : ℕ) (funcs : List Func) (to g : ℕ) (f : Func) → AreLaid from (flat_map (λ (f : Func). f.blocks) funcs) to → slice_get funcs g ≡ Some f → Laid from f to
laid_function from [] to g f h e = cc
laid_function from (k ∷ funcs) to zero f h e =
    let same : k ≡ f = cc in
    let front = laid_front from k.blocks (flat_map (λ (f : Func). f.blocks) funcs) to h in
    subst (λ j. Laid from j to) same (record { begin = from; end = front.0; laid = front.1; within = laid-le front.0 (flat_map (λ (f : Func). f.blocks) funcs) to front.2 })
laid_function from (k ∷ funcs) to (suc g) f h e =
    let front = laid_front from k.blocks (flat_map (λ (f : Func). f.blocks) funcs) to h in
    let later = laid_function front.0 funcs to g f front.2 e in
    record { begin = later.begin; end = later.end; laid = later.laid; within = later.within }

last_is : (from : ℕ) (x : Block) (xs : List Block) (to : ℕ) → AreLaid from (x ∷ xs) to → block_end (unwrap_or (slice_get (x ∷ xs) (length xs)) no_block) ≡ to
last_is from x [] to h = ap (λ n. n + x.len) h.0 ∙ h.1
last_is from x (y ∷ ys) to h = last_is (from + x.len) y ys to h.1

ends : (from : ℕ) (blocks : List Block) (to : ℕ) → 0 < length blocks → AreLaid from blocks to
    → ((unwrap_or (slice_get blocks 0) no_block).first ≡ from) × (block_end (unwrap_or (slice_get blocks (length blocks - 1)) no_block) ≡ to)
ends from [] to some h = absurd (omega arith)
ends from (x ∷ xs) to some h =
    let index : length (x ∷ xs) - 1 ≡ length xs = omega arith in
    (h.0, ap (λ i. block_end (unwrap_or (slice_get (x ∷ xs) i) no_block)) index ∙ last_is from x xs to h)

-- a function of a sound code has places of the code
pub has_places : (code : Code) (g : ℕ) → IsSound code → g < length code.funcs → HasPlaces code (function_at code g)
has_places code g sound h = elim (slice_get_cases code.funcs g).1 [
  | inl at ↦ by at.0 at.2
  | inr past ↦ let out : length code.funcs ≤ g = past.0 in absurd (omega arith)
]
  where
    by : (f : Func) → slice_get code.funcs g ≡ Some f → HasPlaces code (function_at code g)
    by f e =
        let is : f ≡ function_at code g = sym (ap (λ o. unwrap_or o no_function) e) in
        let laid = laid_function 0 code.funcs (length code.instrs) g f sound.laid e in
        let both = ends laid.begin f.blocks laid.end (sound.funcs g f e).some laid.laid in
        let rises = laid-le laid.begin f.blocks laid.end laid.laid in
        let within = laid.within in
        subst (λ j. HasPlaces code j) is (record { rising = rw (both.0, both.1) rises; within = rw both.1 within; few = sound.few_instrs })
