-- The state in which a case begins is sound.
use Rattle.std.proofs.Common.{◌≡◌, ℕ, zero, suc, ◌+◌, ◌-◌, ◌≤◌, ◌<◌, false, List, [], ◌∷◌, length, length-append, take, set, replicate, get_or, Option, Some}
use Rattle.std.proofs.Common.{None, slice_get, arith, sym, ◌∙◌, ap, refl, subst}
use Rattle.std.specs.Prelude.{unwrap_or, All}
use Rattle.std.proofs.lemmas.List.{length-replicate}
use Rattle.std.proofs.lemmas.Option.{slice_get-get_or}
use Rattle.am_base.specs.declared.limits.TheConstants.{MEMORY_BYTES}
use Rattle.am_base.specs.Word.{IsWord}
use Rattle.code_form.specs.declared.code.TyScalar.{TyScalar}
use Rattle.code_form.specs.declared.code.TyScalar.TheVariants.{Int, Ptr}
use Rattle.code_form.specs.declared.code.Block.{Block}
use Rattle.code_form.specs.declared.code.Func.{Func}
use Rattle.code_form.specs.declared.code.Code.{Code}
use Rattle.code_form.specs.declared.case.Case.{Case}
use Rattle.code_form.specs.Places.{no_function, no_block, function_at, begins_at, instr_at, is_phi}
use Rattle.code_form.specs.Sound.{IsSound, IsPlaceOf, width_of}
use Rattle.code_form.specs.Fit.{FitsCase, AreArguments}
use Rattle.machine_form.specs.State.{register, with_writes}
use Rattle.machine_form.specs.Calls.{numbered}
use Rattle.machine_form.specs.Start.{zeros, opening_frame, opening_bytes, start_of}
use Rattle.machine_form.specs.StepLaw.{BeginsSound}
use Rattle.machine_form.specs.SoundState.{AreTyped, IsFrameOf, IsSoundState}
use Rattle.machine_form.proofs.SoundStates.{write_keeps_types, length-with_writes}

pub function_at-is : (code : Code) (n : ℕ) (f : Func) → slice_get code.funcs n ≡ Some f → function_at code n ≡ f
function_at-is code n f e = ap (λ o. unwrap_or o no_function) e

pub defined_at : (code : Code) (n : ℕ) → n < length code.funcs → slice_get code.funcs n ≡ Some (function_at code n)
defined_at code n l = by (slice_get code.funcs n) refl
  where
    by : (o : Option Func) → slice_get code.funcs n ≡ o → o ≡ Some (unwrap_or o no_function)
    by None e = absurd (none_within e)
      where
        none_within : slice_get code.funcs n ≡ None → ⊥
        none_within e = let there : slice_get code.funcs n ≡ Some (get_or code.funcs n no_function) = slice_get-get_or code.funcs n no_function l in cc
    by (Some f) e = refl

length-arguments : (params : List TyScalar) (args : List ℕ) → AreArguments params args → length args ≡ length params
length-arguments [] [] h = refl
length-arguments [] (n ∷ args) h = absurd h
length-arguments (t ∷ params) [] h = absurd h
length-arguments (Ptr ∷ params) (n ∷ args) h = absurd h
length-arguments (Int w ∷ params) (n ∷ args) h = ap suc (length-arguments params args h.1)

pub length-front : {X : Type 0} (k : ℕ) (xs : List X) → length (take k xs) ≤ length xs
length-front zero xs = omega arith
length-front (suc k) [] = omega arith
length-front (suc k) (x ∷ xs) = let rest = length-front k xs in omega arith

-- a function has a register for each argument
pub arguments_fit : (code : Code) (case : Case) (f : Func) → IsSound code → FitsCase code case → slice_get code.funcs case.function ≡ Some f
    → length case.args ≤ f.registers
arguments_fit code case f sound fits is =
    let inner = sound.funcs case.function f is in
    let P : Func → Type 0 = λ g. AreArguments g.params case.args in
    let args = length-arguments f.params case.args (subst P (function_at-is code case.function f is) fits.args) in
    let front = length-front (length f.params) f.types in
    omega (arith, args, front, ap length inner.params, inner.typed)

-- ---- the registers

abbrev no_word : Option ℕ
no_word = None

unset : (n r x : ℕ) → register (replicate n no_word) r ≡ Some x → ⊥
unset zero r x e = cc
unset (suc n) zero x e = cc
unset (suc n) (suc r) x e = unset n r x e

-- each argument is a word of the type of its register
argument_word : (params types : List TyScalar) (args : List ℕ) → take (length params) types ≡ params → AreArguments params args
    → (i x : ℕ) (t : TyScalar) → slice_get args i ≡ Some x → slice_get types i ≡ Some t → IsWord (width_of t) x
argument_word [] types [] e h i x t a b = cc
argument_word [] types (n ∷ args) e h i x t a b = absurd h
argument_word (p ∷ params) types [] e h i x t a b = absurd h
argument_word (Ptr ∷ params) types (n ∷ args) e h i x t a b = absurd h
argument_word (Int w ∷ params) [] (n ∷ args) e h i x t a b = cc
argument_word (Int w ∷ params) (u ∷ types) (n ∷ args) e h zero x t a b =
    let same : Int w ≡ t = cc in
    let word : n ≡ x = cc in
    let P : TyScalar → Type 0 = λ k. IsWord (width_of k) x in
    let Q : ℕ → Type 0 = λ k. IsWord w k in
    subst P same (subst Q word h.0)
argument_word (Int w ∷ params) (u ∷ types) (n ∷ args) e h (suc i) x t a b = argument_word params types args (cc) h.1 i x t a b

arguments_typed : (types : List TyScalar) (args : List ℕ) (registers : List (Option ℕ)) (r : ℕ) → AreTyped types registers
    → ((i x : ℕ) (t : TyScalar) → slice_get args i ≡ Some x → slice_get types (r + i) ≡ Some t → IsWord (width_of t) x)
    → AreTyped types (with_writes registers (numbered r args))
arguments_typed types [] registers r h words = h
arguments_typed types (x ∷ args) registers r h words =
    let P : TyScalar → ℕ → Type 0 = λ t n. slice_get types n ≡ Some t in
    let here : (t : TyScalar) → slice_get types r ≡ Some t → IsWord (width_of t) x =
    (λ t a. let e : r ≡ r + 0 = omega arith in words 0 x t refl (subst (P t) e a)) in
    let rest : (i y : ℕ) (t : TyScalar) → slice_get args i ≡ Some y → slice_get types (r + 1 + i) ≡ Some t → IsWord (width_of t) y =
    (λ i y t b a. let e : r + 1 + i ≡ r + suc i = omega arith in words (suc i) y t b (subst (P t) e a)) in
    arguments_typed types args (set registers r (Some x)) (r + 1) (write_keeps_types types registers r x h here) rest

-- ---- the state

first_place : (f : Func) (block : Block) → slice_get f.blocks 0 ≡ Some block → 0 < block.len → IsPlaceOf f (unwrap_or (slice_get f.blocks 0) no_block).first
first_place f block e l =
    let same : block ≡ unwrap_or (slice_get f.blocks 0) no_block = sym (ap (λ o. unwrap_or o no_block) e) in
    let P : Block → Type 0 = λ b. IsPlaceOf f b.first in
    subst P same (record { block = block; number = 0; is = e; from = omega arith; below = omega arith })

first_no_phi : (code : Code) (f : Func) (block : Block) → slice_get f.blocks 0 ≡ Some block → is_phi (instr_at code block.first) ≡ false
    → is_phi (instr_at code (unwrap_or (slice_get f.blocks 0) no_block).first) ≡ false
first_no_phi code f block e h =
    let same : block ≡ unwrap_or (slice_get f.blocks 0) no_block = sym (ap (λ o. unwrap_or o no_block) e) in
    let P : Block → Type 0 = λ b. is_phi (instr_at code b.first) ≡ false in
    subst P same h

first_of : (blocks : List Block) → 0 < length blocks → (block : Block) × (slice_get blocks 0 ≡ Some block)
first_of [] l = absurd (omega arith)
first_of (b ∷ blocks) l = (b, refl)

-- the frame in which a function begins, with words of the types of its first registers
pub begun_frame : (code : Code) (g : ℕ) (f : Func) (args : List ℕ) (result : Option ℕ) (restores : ℕ) → IsSound code → slice_get code.funcs g ≡ Some f
    → ((i x : ℕ) (t : TyScalar) → slice_get args i ≡ Some x → slice_get f.types i ≡ Some t → IsWord (width_of t) x)
    → IsFrameOf code g f (record {
      place = begins_at code g;
      registers = with_writes (replicate (function_at code g).registers None) (numbered 0 args);
      result =
          result;
      restores = restores;
    })
begun_frame code g f args result restores sound is words =
    let inner = sound.funcs g f is in
    let same : f ≡ function_at code g = sym (function_at-is code g f is) in
    let block = first_of f.blocks inner.some in
    let Stands : Func → Type 0 = λ h. IsPlaceOf f (unwrap_or (slice_get h.blocks 0) no_block).first in
    let Begins : Func → Type 0 = λ h. is_phi (instr_at code (unwrap_or (slice_get h.blocks 0) no_block).first) ≡ false in
    let Length : Func → Type 0 = λ h. length (with_writes (replicate h.registers None) (numbered 0 args)) ≡ f.registers in
    let Typed : Func → Type 0 = λ h. AreTyped f.types (with_writes (replicate h.registers None) (numbered 0 args)) in
    let stands : Stands f = first_place f block.0 block.1 (inner.blocks 0 block.0 block.1).some in
    let begins : Begins f = first_no_phi code f block.0 block.1 ((inner.blocks 0 block.0 block.1).no_entry_phi refl) in
    let long : Length f = length-with_writes (replicate f.registers None) (numbered 0 args) ∙ length-replicate f.registers no_word in
    let typed : Typed f = arguments_typed f.types args (replicate f.registers None) 0 (λ r x t a e. absurd (unset f.registers r x e))
    (λ i x t a b. words i x t a (let e : 0 + i ≡ i = omega arith in let P : ℕ → Type 0 = λ n. slice_get f.types n ≡ Some t in subst P e b)) in
    record { is = is; stands = subst Stands same stands; no_phi = subst Begins same begins; registers = subst Length same long; words = subst Typed same typed }

length-zeros : (n : ℕ) → length (zeros n) ≡ n
unfolding zeros
length-zeros n = length-replicate n 0

-- the opening bytes fill the memory
opening_length : (code : Code) → IsSound code → length (opening_bytes code) ≡ MEMORY_BYTES
opening_length code sound =
    omega (
      arith,
      length-append code.memory (zeros (MEMORY_BYTES - length code.memory)),
      length-zeros (MEMORY_BYTES - length code.memory),
      sound.memory,
      sound.base,
    )

-- the state is sound where the opening bytes are bytes
pub start_sound : (code : Code) (case : Case) (f : Func) → IsSound code → FitsCase code case → slice_get code.funcs case.function ≡ Some f
    → All (λ b. b < 256) (opening_bytes code)
    → IsSoundState code (start_of code case)
start_sound code case f sound fits is small =
    let inner = sound.funcs case.function f is in
    let Args : Func → Type 0 = λ g. AreArguments g.params case.args in
    let args : AreArguments f.params case.args = subst Args (function_at-is code case.function f is) fits.args in
    let frame : IsFrameOf code case.function f (opening_frame code case) =
    begun_frame code case.function f case.args None code.stack_base sound is (argument_word f.params f.types case.args inner.params args) in
    record {
      number = case.function;
      function = f;
      running = frame;
      callers = omega arith;
      restores = omega arith;
      top = omega (arith, sound.base);
      memory = opening_length code sound;
      bytes = small;
      frames = omega arith;
      registers = omega (arith, frame.registers, inner.few);
      output = omega arith;
      input = fits.input;
      position = omega arith;
    }

pub states_begin : BeginsSound
states_begin code case sound fits small = start_sound code case (function_at code case.function) sound fits (defined_at code case.function fits.defined) small
