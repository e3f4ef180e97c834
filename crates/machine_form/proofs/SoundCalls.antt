-- What calls of functions and returns keep: the state after them is sound.
use Rattle.std.proofs.Common.{◌≡◌, ℕ, zero, suc, ◌+◌, ◌-◌, ◌≤◌, false, List, [], ◌∷◌, length, take, Option, Some, None, slice_get, arith, sym, ap, refl, subst}
use Rattle.std.specs.Prelude.{nat_lt}
use Rattle.std.proofs.lemmas.Bool.Decides.{nat_tests}
use Rattle.std.proofs.lemmas.List.Sums.{sum_by-cons}
use Rattle.am_base.specs.declared.limits.TheConstants.{MAX_FRAMES, MAX_LIVE_REGISTERS}
use Rattle.am_base.specs.declared.outcome.Trap.TheVariants.{DepthFull, RegistersFull}
use Rattle.am_base.specs.Word.{IsWord}
use Rattle.code_form.specs.declared.instr.Operand.{Operand}
use Rattle.code_form.specs.declared.code.TyScalar.{TyScalar}
use Rattle.code_form.specs.declared.code.Func.{Func}
use Rattle.code_form.specs.declared.code.Code.{Code}
use Rattle.code_form.specs.Places.{function_at, result_at, instr_at, is_phi}
use Rattle.code_form.specs.Sound.{IsSound, IsPlaceOf, HaveTypes, GivesMaybe, width_of}
use Rattle.machine_form.specs.declared.change.Control.TheVariants.{Enter}
use Rattle.machine_form.specs.declared.frame.Frame.{Frame}
use Rattle.machine_form.specs.State.{State, with_writes, frames_of, registers_in_use}
use Rattle.machine_form.specs.Straight.{value_of, values_of, joined, trap_change}
use Rattle.machine_form.specs.Calls.{numbered, enter_change, write_back, return_change}
use Rattle.machine_form.specs.After.{after_change, moved, frame_of_call}
use Rattle.machine_form.specs.SoundState.{AreTyped, IsFrameOf, AreSoundCallers, IsSoundState}
use Rattle.machine_form.proofs.StartStates.{function_at-is, begun_frame}
use Rattle.machine_form.proofs.SoundStates.{write_keeps_types, one_type, length-with_writes, moved_frame, operand_word, end_sound}
use Rattle.machine_form.proofs.SoundSteps.{unless_sound}

abbrev registers_of : Frame → ℕ
registers_of f = length f.registers

-- ---- calls

module _ (code : Code) (s : State) (g : ℕ) (f : Func) (frame : IsFrameOf code g f s.running) where
  -- the words of the arguments are of the types of the called function's first registers
  argument_words : (params types : List TyScalar) (args : List Operand) (xs : List ℕ) → take (length params) types ≡ params → HaveTypes f.types params args
      → values_of s args ≡ Some xs
      → (i x : ℕ) (t : TyScalar) → slice_get xs i ≡ Some x → slice_get types i ≡ Some t → IsWord (width_of t) x
  argument_words [] types [] xs e h v i x t a b =
      let none : [] ≡ xs = cc in
      let P : List ℕ → Type 0 = λ ys. slice_get ys i ≡ Some x in
      let there : slice_get [] i ≡ Some x = subst P (sym none) a in
      cc
  argument_words [] types (o ∷ args) xs e h v i x t a b = absurd h
  argument_words (p ∷ params) types [] xs e h v i x t a b = absurd h
  argument_words (p ∷ params) [] (o ∷ args) xs e h v i x t a b = cc
  argument_words (p ∷ params) (u ∷ types) (o ∷ args) xs e h v i x t a b =
      by (value_of s o) refl (values_of s args) (argument_words params types args) v
    where
      by : (y : Option ℕ) → value_of s o ≡ y → (ys : Option (List ℕ))
          → ((xs : List ℕ) → take (length params) types ≡ params → HaveTypes f.types params args → ys ≡ Some xs
          → (i x : ℕ) (t : TyScalar) → slice_get xs i ≡ Some x → slice_get types i ≡ Some t → IsWord (width_of t) x)
          → joined y ys ≡ Some xs → IsWord (width_of t) x
      by None c ys rest d = cc
      by (Some y) c None rest d = cc
      by (Some y) c (Some ys) rest d =
          let same : xs ≡ y ∷ ys = cc in
          let P : List ℕ → Type 0 = λ zs. slice_get zs i ≡ Some x in
          at i (subst P same a) b
        where
          at : (i : ℕ) → slice_get (y ∷ ys) i ≡ Some x → slice_get (u ∷ types) i ≡ Some t → IsWord (width_of t) x
          at zero a b =
              let kind : p ≡ t = cc in
              let word : y ≡ x = cc in
              let P : TyScalar → Type 0 = λ k. IsWord (width_of k) x in
              subst P kind (operand_word code s g f frame p o h.0 x (cc))
          at (suc i) a b = rest ys (cc) h.1 refl i x t a b

module _ (code : Code) (s : State) (code_sound : IsSound code) (sound : IsSoundState code s) (stands : IsPlaceOf sound.function (s.running.place + 1))
    (no_phi : is_phi (instr_at code (s.running.place + 1)) ≡ false) where
  entered : (g : ℕ) (f : Func) (xs : List ℕ) → slice_get code.funcs g ≡ Some f
      → ((i x : ℕ) (t : TyScalar) → slice_get xs i ≡ Some x → slice_get f.types i ≡ Some t → IsWord (width_of t) x)
      → GivesMaybe sound.function.types (result_at code s.running.place) f.result → frames_of s + 1 ≤ MAX_FRAMES
      → registers_in_use s + (function_at code g).registers ≤ MAX_LIVE_REGISTERS
      → IsSoundState code (after_change code s (record { writes = numbered 0 xs; bytes = []; top = s.top; put = None; took = false; control = Enter g }))
  entered g f xs is words gives few_frames few_registers =
      let frame = begun_frame code g f xs (result_at code s.running.place) s.top code_sound is words in
      let caller = moved s.running [] (s.running.place + 1) in
      let back : s.running.place + 1 - 1 ≡ s.running.place = omega arith in
      let registers : f.registers ≡ (function_at code g).registers = ap (λ (h : Func). h.registers) (sym (function_at-is code g f is)) in
      record {
        number = g;
        function = f;
        running = frame;
        callers = (
          sound.number,
          sound.function,
          moved_frame code sound.number sound.function s.running [] (s.running.place + 1) sound.running sound.running.words stands no_phi,
          record { after = omega arith; register = ap (result_at code) (sym back); fits = gives; restored = sound.restores },
          sound.callers,
        );
        restores = omega arith;
        top = sound.top;
        memory = sound.memory;
        bytes = sound.bytes;
        frames = omega arith;
        registers =
            omega (
              arith,
              sum_by-cons registers_of (frame_of_call code s g (numbered 0 xs)) (caller ∷ s.callers),
              sum_by-cons registers_of caller s.callers,
              sum_by-cons registers_of s.running s.callers,
              frame.registers,
              registers,
              few_registers,
            );
        output = sound.output;
        input = sound.input;
        position = omega (arith, sound.position);
      }

  pub enter_sound : (g : ℕ) (f : Func) (args : List Operand) (xs : List ℕ) → slice_get code.funcs g ≡ Some f → HaveTypes sound.function.types f.params args
      → GivesMaybe sound.function.types (result_at code s.running.place) f.result → values_of s args ≡ Some xs
      → IsSoundState code (after_change code s (enter_change code s g xs))
  enter_sound g f args xs is types gives v =
      unless_sound code s sound (nat_lt MAX_FRAMES (frames_of s + 1)) (trap_change s DepthFull) _ (end_sound code s sound _) (λ few_frames.
      unless_sound code s sound (nat_lt MAX_LIVE_REGISTERS (registers_in_use s + (function_at code g).registers)) (trap_change s RegistersFull) _
      (end_sound code s sound _) (λ few_registers.
      entered g f xs is (argument_words code s sound.number sound.function sound.running f.params f.types args xs (code_sound.funcs g f is).params types v)
      gives (most (frames_of s + 1) MAX_FRAMES few_frames)
      (most (registers_in_use s + (function_at code g).registers) MAX_LIVE_REGISTERS few_registers)))
    where
      most : (n m : ℕ) → nat_lt m n ≡ false → n ≤ m
      most n m e = grind (arith, nat_tests)

-- ---- returns

-- the word, where there is one, is of the type, where there is one
abbrev pub IsWordOf : Option TyScalar → Option ℕ → Type 0
IsWordOf t word = (x : ℕ) → word ≡ Some x → (u : TyScalar) × (t ≡ Some u) × IsWord (width_of u) x

back_typed : (types : List TyScalar) (registers : List (Option ℕ)) (result word : Option ℕ) (t : Option TyScalar) → AreTyped types registers
    → GivesMaybe types result t → IsWordOf t word
    → AreTyped types (with_writes registers (write_back result word))
back_typed types registers None None t typed gives h = typed
back_typed types registers None (Some x) t typed gives h = typed
back_typed types registers (Some r) None t typed gives h = typed
back_typed types registers (Some r) (Some x) None typed gives h = absurd (cc)
back_typed types registers (Some r) (Some x) (Some u) typed gives h =
    let w = h x refl in
    let same : w.0 ≡ u = cc in
    let P : TyScalar → Type 0 = λ k. IsWord (width_of k) x in
    let word : IsWord (width_of u) x = subst P same w.2 in
    write_keeps_types types registers r x typed (λ k d. one_type (slice_get types r) u k x gives word d)

module _ (code : Code) (s : State) (sound : IsSoundState code s) where
  -- the state with other callers
  abbrev with_callers : List Frame → State
  with_callers cs = record s { callers = cs }

  returned : (word : Option ℕ) (cs : List Frame) → IsWordOf sound.function.result word
      → AreSoundCallers code sound.function s.running.result s.running.restores cs → length cs + 1 ≤ MAX_FRAMES
      → registers_in_use (with_callers cs) ≤ MAX_LIVE_REGISTERS → IsSoundState code
      (after_change code (with_callers cs) (return_change (with_callers cs) cs word))
  returned word [] h callers few_frames few_registers = record {
    number = sound.number;
    function = sound.function;
    running = sound.running;
    callers = callers;
    restores = sound.restores;
    top = sound.top;
    memory = sound.memory;
    bytes = sound.bytes;
    frames = few_frames;
    registers = few_registers;
    output = sound.output;
    input = sound.input;
    position = omega (arith, sound.position);
  }
  returned word (caller ∷ more) h callers few_frames few_registers =
      let ws = write_back s.running.result word in
      record {
        number = callers.0;
        function = callers.1;
        running = moved_frame code callers.0 callers.1 caller ws caller.place callers.2
            (back_typed callers.1.types caller.registers s.running.result word sound.function.result callers.2.words callers.3.fits h) callers.2.stands
            callers.2.no_phi;
        callers = callers.4;
        restores = callers.3.restored;
        top = omega (arith, sound.restores, sound.top);
        memory = sound.memory;
        bytes = sound.bytes;
        frames = omega (arith, few_frames);
        registers =
            omega (
              arith,
              sum_by-cons registers_of (moved caller ws caller.place) more,
              sum_by-cons registers_of caller more,
              sum_by-cons registers_of s.running (caller ∷ more),
              length-with_writes caller.registers ws,
              few_registers,
            );
        output = sound.output;
        input = sound.input;
        position = omega (arith, sound.position);
      }

  pub return_sound : (word : Option ℕ) → IsWordOf sound.function.result word → IsSoundState code (after_change code s (return_change s s.callers word))
  return_sound word h = returned word s.callers h sound.callers sound.frames sound.registers
