-- The instruction that a variant has at a place fits its function.
use Rattle.std.proofs.Common.{◌≡◌, ℕ, zero, suc, ◌+◌, ◌-◌, ◌<◌, ◌≤◌, Bool, true, false, List, [], ◌∷◌, ◌++◌, length, Option, Some, None, slice_get, arith, sym}
use Rattle.std.proofs.Common.{◌∙◌, ap, refl, subst}
use Rattle.std.specs.Prelude.{slice_set, unwrap_or, flat_map}
use Rattle.code_form.specs.declared.instr.Operand.{Operand}
use Rattle.code_form.specs.declared.instr.Callee.{Callee}
use Rattle.code_form.specs.declared.instr.Callee.TheVariants.{Func as CallFunc, Port, PutChar, GetChar, Exit, Abort}
use Rattle.code_form.specs.declared.instr.Instr.{Instr}
use Rattle.code_form.specs.declared.instr.Instr.TheVariants.{Bin, Cmp, Select, Cast, Freeze, Alloca, Load, Store, Get, Phi, Call, Jump, Branch, Switch, Ret}
use Rattle.code_form.specs.declared.instr.Instr.TheVariants.{Unreachable}
use Rattle.code_form.specs.declared.code.TyScalar.{TyScalar}
use Rattle.code_form.specs.declared.code.Block.{Block}
use Rattle.code_form.specs.declared.code.Func.{Func}
use Rattle.code_form.specs.declared.code.Code.{Code}
use Rattle.code_form.specs.Places.{instr_at, result_at, is_phi, is_terminator}
use Rattle.code_form.specs.Sound.{IsSound, IsPlaceOf, InstrFits, CallFits, AreLaid}
use Rattle.code_form.specs.Variant.{Table, replacements_at, instr_of}
use Rattle.code_form.specs.Fit.{FitsPlace, FitsTable, with_instr}

-- whether an instruction fits isn't changed by the other instructions of the code
call_fits_alike : (code : Code) (at : ℕ) (j : Instr) (types : List TyScalar) (r : Option ℕ) (callee : Callee) (args : List Operand)
    → CallFits (with_instr code at j) types r callee args → CallFits code types r callee args
call_fits_alike code at j types r (CallFunc g) args h = h
call_fits_alike code at j types r (Port p) args h = h
call_fits_alike code at j types r PutChar args h = h
call_fits_alike code at j types r GetChar args h = h
call_fits_alike code at j types r Exit args h = h
call_fits_alike code at j types r Abort args h = h

fits_alike : (code : Code) (at : ℕ) (j : Instr) (f : Func) (r : Option ℕ) (i : Instr) → InstrFits (with_instr code at j) f r i → InstrFits code f r i
fits_alike code at j f r (Bin op w a b) h = h
fits_alike code at j f r (Cmp p w a b) h = h
fits_alike code at j f r (Select c a b) h = h
fits_alike code at j f r (Cast c from to a) h = h
fits_alike code at j f r (Freeze a) h = h
fits_alike code at j f r (Alloca size align count) h = h
fits_alike code at j f r (Load w a) h = h
fits_alike code at j f r (Store w a b) h = h
fits_alike code at j f r (Get a literal indices) h = h
fits_alike code at j f r (Phi entries) h = h
fits_alike code at j f r (Call callee args) h = call_fits_alike code at j f.types r callee args h
fits_alike code at j f r (Jump b) h = h
fits_alike code at j f r (Branch c b d) h = h
fits_alike code at j f r (Switch w a other cases) h = h
fits_alike code at j f r (Ret None) h = h
fits_alike code at j f r (Ret (Some a)) h = h
fits_alike code at j f r Unreachable h = h

get-set_same : (is : List Instr) (at : ℕ) (i : Instr) → at < length is → slice_get (slice_set is at i) at ≡ Some i
get-set_same [] at i l = absurd (omega arith)
get-set_same (x ∷ is) zero i l = refl
get-set_same (x ∷ is) (suc at) i l = get-set_same is at i (omega arith)

-- the instruction at a place of a sound code fits the place's function
pub original_fits : (code : Code) (g : ℕ) (f : Func) (at : ℕ) → IsSound code → slice_get code.funcs g ≡ Some f → IsPlaceOf f at
    → InstrFits code f (result_at code at) (instr_at code at)
original_fits code g f at sound is p =
    let P : ℕ → Type 0 = λ n. InstrFits code f (result_at code n) (instr_at code n) in
    let e : p.block.first + (at - p.block.first) ≡ at = omega (arith, p.from) in
    subst P e (((sound.funcs g f is).blocks p.number p.block p.is).fits (at - p.block.first) (omega (arith, p.from, p.below)))

-- an instruction that isn't a terminator isn't the last one of its block
inside_block : (code : Code) (g : ℕ) (f : Func) (at : ℕ) → IsSound code → slice_get code.funcs g ≡ Some f → (p : IsPlaceOf f at)
    → is_terminator (instr_at code at) ≡ false → at + 1 < p.block.first + p.block.len
inside_block code g f at sound is p e =
    let same : p.block.first + (at - p.block.first) ≡ at = omega (arith, p.from) in
    let at_same : is_terminator (instr_at code (p.block.first + (at - p.block.first))) ≡ false = ap (λ n. is_terminator (instr_at code n)) same ∙ e in
    let inner = ((sound.funcs g f is).blocks p.number p.block p.is).ends (at - p.block.first) (omega (arith, p.from, p.below)) in
    let not_last : at - p.block.first + 1 ≡ p.block.len → ⊥ = λ last. true_false (sym (inner.1 last) ∙ at_same) in
    omega (arith, p.from, p.below, not_last)
  where
    true_false : true ≡ false → ⊥
    true_false e = cc

pub stands_next : (code : Code) (g : ℕ) (f : Func) (at : ℕ) → IsSound code → slice_get code.funcs g ≡ Some f → IsPlaceOf f at
    → is_terminator (instr_at code at) ≡ false → IsPlaceOf f (at + 1)
stands_next code g f at sound is p e =
    let within = inside_block code g f at sound is p e in
    record { block = p.block; number = p.number; is = p.is; from = omega (arith, p.from); below = omega (arith, within) }

-- no `phi` follows an instruction that isn't one
pub no_phi_next : (code : Code) (g : ℕ) (f : Func) (at : ℕ) → IsSound code → slice_get code.funcs g ≡ Some f → IsPlaceOf f at
    → is_terminator (instr_at code at) ≡ false
    → is_phi (instr_at code at) ≡ false → is_phi (instr_at code (at + 1)) ≡ false
no_phi_next code g f at sound is p e no_phi =
    let within = inside_block code g f at sound is p e in
    let first : p.block.first + (at - p.block.first) ≡ at = omega (arith, p.from) in
    let second : p.block.first + (at - p.block.first) + 1 ≡ at + 1 = omega (arith, p.from) in
    let front = ((sound.funcs g f is).blocks p.number p.block p.is).phis_first (at - p.block.first) (omega (arith, p.from, within)) in
    by (is_phi (instr_at code (at + 1))) refl (λ h. sym (ap (λ n. is_phi (instr_at code n)) first) ∙ front (ap (λ n. is_phi (instr_at code n)) second ∙ h))
  where
    by : (b : Bool) → is_phi (instr_at code (at + 1)) ≡ b → (is_phi (instr_at code (at + 1)) ≡ true → is_phi (instr_at code at) ≡ true)
        → is_phi (instr_at code (at + 1)) ≡ false
    by false h back = h
    by true h back = let t = back h in cc

module _ (code : Code) (table : Table) (sound : IsSound code) (fits : FitsTable code table) (g : ℕ) (f : Func) (at : ℕ) (is : slice_get code.funcs g ≡ Some f)
    (p : IsPlaceOf f at) where
  replaced_fits : (i : Instr) → FitsPlace code at i → InstrFits code f (result_at code at) i
  replaced_fits i h =
      let there : instr_at (with_instr code at i) at ≡ i = ap (λ o. unwrap_or o Unreachable) (get-set_same code.instrs at i h.within) in
      let P : Instr → Type 0 = λ j. InstrFits (with_instr code at i) f (result_at code at) j in
      fits_alike code at i f (result_at code at) i (subst P there (original_fits (with_instr code at i) g f at h.sound is p))

  pub variant_fits : (v : ℕ) → InstrFits code f (result_at code at) (instr_of code table at v)
  variant_fits zero = original_fits code g f at sound is p
  variant_fits (suc k) = by (slice_get (replacements_at table at) k) refl
    where
      by : (o : Option Instr) → slice_get (replacements_at table at) k ≡ o → InstrFits code f (result_at code at) (unwrap_or o (instr_at code at))
      by None e = original_fits code g f at sound is p
      by (Some i) e = replaced_fits i (fits.each at k i e)

  pub variant_terminates : (v : ℕ) → is_terminator (instr_of code table at v) ≡ is_terminator (instr_at code at)
  variant_terminates zero = refl
  variant_terminates (suc k) = by (slice_get (replacements_at table at) k) refl
    where
      by : (o : Option Instr) → slice_get (replacements_at table at) k ≡ o → is_terminator (unwrap_or o (instr_at code at)) ≡ is_terminator (instr_at code at)
      by None e = refl
      by (Some i) e = (fits.each at k i e).terminates

  -- after an instruction that isn't a terminator the next place is one of the function too
  pub variant_goes_on : (v : ℕ) → is_terminator (instr_of code table at v) ≡ false → IsPlaceOf f (at + 1)
  variant_goes_on v e = stands_next code g f at sound is p (sym (variant_terminates v) ∙ e)

  pub variant_no_phi : (v : ℕ) → is_terminator (instr_of code table at v) ≡ false → is_phi (instr_at code at) ≡ false → is_phi (instr_at code (at + 1)) ≡ false
  variant_no_phi v e no_phi = no_phi_next code g f at sound is p (sym (variant_terminates v) ∙ e) no_phi

-- ---- places of a function are places of the code

pub laid-le : (from : ℕ) (blocks : List Block) (to : ℕ) → AreLaid from blocks to → from ≤ to
laid-le from [] to h = omega (arith, h)
laid-le from (b ∷ blocks) to h = let rest = laid-le (from + b.len) blocks to h.1 in omega arith

pub laid_front : (from : ℕ) (blocks more : List Block) (to : ℕ) → AreLaid from (blocks ++ more) to → (middle : ℕ) × AreLaid from blocks middle
    × AreLaid middle more to
laid_front from [] more to h = (from, refl, h)
laid_front from (b ∷ blocks) more to h = let rest = laid_front (from + b.len) blocks more to h.1 in (rest.0, (h.0, rest.1), rest.2)

laid_block : (from : ℕ) (blocks : List Block) (to n : ℕ) (block : Block) → AreLaid from blocks to → slice_get blocks n ≡ Some block
    → block.first + block.len ≤ to
laid_block from [] to n block h e = cc
laid_block from (b ∷ blocks) to zero block h e =
    let same : b ≡ block = cc in
    let rest = laid-le (from + b.len) blocks to h.1 in
    let P : Block → Type 0 = λ c. c.first + c.len ≤ to in
    subst P same (omega (arith, h.0))
laid_block from (b ∷ blocks) to (suc n) block h e = laid_block (from + b.len) blocks to n block h.1 e

pub laid_function : (from : ℕ) (funcs : List Func) (to g n : ℕ) (f : Func) (block : Block) → AreLaid from (flat_map (λ (f : Func). f.blocks) funcs) to
    → slice_get funcs g ≡ Some f → slice_get f.blocks n ≡ Some block → block.first + block.len ≤ to
laid_function from [] to g n f block h e d = cc
laid_function from (k ∷ funcs) to zero n f block h e d =
    let same : f ≡ k = cc in
    let front = laid_front from k.blocks (flat_map (λ (f : Func). f.blocks) funcs) to h in
    let P : Func → Type 0 = λ j. slice_get j.blocks n ≡ Some block in
    let inside = laid_block from k.blocks front.0 n block front.1 (subst P same d) in
    let rest = laid-le front.0 (flat_map (λ (f : Func). f.blocks) funcs) to front.2 in
    omega arith
laid_function from (k ∷ funcs) to (suc g) n f block h e d =
    let front = laid_front from k.blocks (flat_map (λ (f : Func). f.blocks) funcs) to h in
    laid_function front.0 funcs to g n f block front.2 e d

pub place_within : (code : Code) (g : ℕ) (f : Func) (at : ℕ) → IsSound code → slice_get code.funcs g ≡ Some f → IsPlaceOf f at → at < length code.instrs
place_within code g f at sound is p =
    let inside = laid_function 0 code.funcs (length code.instrs) g p.number f p.block sound.laid is p.is in
    omega (arith, p.below)
