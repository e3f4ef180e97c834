-- The change of each instruction leads from a sound state to a sound state.
use Rattle.std.proofs.Common.{◌≡◌, ℕ, pos, ◌+◌, ◌<◌, List, map, get_or, Option, Some, None, Bool, true, false, cond, slice_get, arith, refl, subst}
use Rattle.std.specs.Prelude.{◌==◌, ◌+ℤ◌, All}
use Rattle.std.proofs.lemmas.Option.{slice_get_within, slice_get-get_or}
use Rattle.am_base.specs.declared.word.Width.{Width}
use Rattle.am_base.specs.declared.word.Width.TheVariants.{W1, W64}
use Rattle.am_base.specs.Word.{IsWord, binary_of, compare_of, first_of}
use Rattle.code_form.specs.declared.instr.Operand.{Operand}
use Rattle.code_form.specs.declared.instr.Callee.{Callee}
use Rattle.code_form.specs.declared.instr.Callee.TheVariants.{Func as CallFunc, Port, PutChar, GetChar, Exit, Abort}
use Rattle.code_form.specs.declared.instr.Instr.{Instr}
use Rattle.code_form.specs.declared.instr.Instr.TheVariants.{Bin, Cmp, Select, Cast, Freeze, Alloca, Load, Store, Get, Phi, Call, Jump, Branch, Switch, Ret}
use Rattle.code_form.specs.declared.instr.Instr.TheVariants.{Unreachable}
use Rattle.code_form.specs.declared.code.TyScalar.TheVariants.{Int, Ptr}
use Rattle.code_form.specs.declared.code.Code.{Code}
use Rattle.code_form.specs.Places.{instr_at, result_at, is_phi, is_terminator}
use Rattle.code_form.specs.Sound.{IsSound, IsPlaceOf, InstrFits, CallFits, GivesMaybe, width_of}
use Rattle.code_form.specs.Variant.{instr_of}
use Rattle.machine_form.specs.State.{State}
use Rattle.machine_form.specs.Straight.{value_of, values_of, scaled_sum}
use Rattle.machine_form.specs.Edge.{case_of}
use Rattle.machine_form.specs.Calls.{Answers, call_change}
use Rattle.machine_form.specs.Next.{next_of}
use Rattle.machine_form.specs.After.{after_change}
use Rattle.machine_form.specs.SoundState.{IsSoundState}
use Rattle.machine_form.specs.StepLaw.{KeepsStates}
use Rattle.am_base.proofs.ResultWords.{word_of-lt, flag-lt, binary_of-lt}
use Rattle.machine_form.proofs.Fits.{variant_fits, variant_goes_on, variant_no_phi}
use Rattle.machine_form.proofs.SoundStates.{operand_word, operand_of_width, end_sound}
use Rattle.machine_form.proofs.SoundSteps.{value_sound, word_sound, result_sound, cast_sound, alloca_sound, load_sound, store_sound, port_sound, put_sound}
use Rattle.machine_form.proofs.SoundSteps.{take_sound}
use Rattle.machine_form.proofs.SoundEdges.{jump_sound, branch_target, case_target}
use Rattle.machine_form.proofs.SoundCalls.{enter_sound, return_sound}

module _ (code : Code) (answers : Answers) (s : State) (code_sound : IsSound code) (sound : IsSoundState code s) (small : All (λ b. b < 256) s.input) where
  input_small : (b : ℕ) → slice_get s.input s.position ≡ Some b → b < 256
  input_small b e =
      let within = slice_get_within s.input s.position b e in
      let there : slice_get s.input s.position ≡ Some (get_or s.input s.position 0) = slice_get-get_or s.input s.position 0 within in
      let same : get_or s.input s.position 0 ≡ b = cc in
      let byte = small s.position 0 within in
      omega (arith, byte)

  -- the operands of `select`, of which one is its word
  chosen : (b : Bool) (w : Width) (x y : ℕ) → IsWord w x → IsWord w y → IsWord w (cond b x y)
  chosen true w x y h g = h
  chosen false w x y h g = g

  call_sound : (r : Option ℕ) (callee : Callee) (args : List Operand) (xs : List ℕ) → r ≡ result_at code s.running.place → values_of s args ≡ Some xs
      → CallFits code sound.function.types r callee args
      → IsPlaceOf sound.function (s.running.place + 1) → is_phi (instr_at code (s.running.place + 1)) ≡ false
      → IsSoundState code (after_change code s (call_change code answers s r callee xs))
  call_sound r (CallFunc g) args xs own v f stands no_phi =
      let P : Option ℕ → Type 0 = λ q. GivesMaybe sound.function.types q f.0.result in
      enter_sound code s code_sound sound stands no_phi g f.0 args xs f.1 f.2 (subst P own f.3) v
  call_sound r (Port p) args xs own v f stands no_phi = port_sound code s sound stands no_phi r (slice_get code.signs p) f.0 (answers p xs) f.1 f.3
  call_sound r PutChar args xs own v f stands no_phi = put_sound code s sound stands no_phi r (first_of xs) f.1
  call_sound r GetChar args xs own v f stands no_phi = take_sound code s sound stands no_phi input_small r (slice_get s.input s.position) refl f.1
  call_sound r Exit args xs own v f stands no_phi = end_sound code s sound _
  call_sound r Abort args xs own v f stands no_phi = end_sound code s sound _

  pub step_sound : (r : Option ℕ) (i : Instr) → r ≡ result_at code s.running.place → InstrFits code sound.function r i
      → (is_terminator i ≡ false → IsPlaceOf sound.function (s.running.place + 1))
      → (is_terminator i ≡ false → is_phi (instr_at code (s.running.place + 1)) ≡ false)
      → IsSoundState code (after_change code s (next_of code answers s r i))
  step_sound r (Bin op w a b) own f stands no_phi =
      value_sound code s sound (value_of s a) _ (λ x p. value_sound code s sound (value_of s b) _ (λ y q.
      result_sound code s sound (stands refl) (no_phi refl) r w (binary_of op w x y) f.2
      (λ v. binary_of-lt op w x y v (operand_of_width code s sound.number sound.function sound.running w a f.0 x p)
      (operand_of_width code s sound.number sound.function sound.running w b f.1 y q))))
  step_sound r (Cmp p w a b) own f stands no_phi =
      value_sound code s sound (value_of s a) _ (λ x _. value_sound code s sound (value_of s b) _ (λ y _.
      word_sound code s sound (stands refl) (no_phi refl) r _ (Int W1) f.2 (flag-lt (compare_of p w x y))))
  step_sound r (Select c a b) own f stands no_phi =
      value_sound code s sound (value_of s c) _ (λ n _. value_sound code s sound (value_of s a) _ (λ x p. value_sound code s sound (value_of s b) _ (λ y q.
      word_sound code s sound (stands refl) (no_phi refl) r _ f.1.0 f.1.3
      (chosen (n == 1) (width_of f.1.0) x y (operand_word code s sound.number sound.function sound.running f.1.0 a f.1.1 x p)
      (operand_word code s sound.number sound.function sound.running f.1.0 b f.1.2 y q)))))
  step_sound r (Cast c from to a) own f stands no_phi =
      value_sound code s sound (value_of s a) _ (λ x p. cast_sound code s sound (stands refl) (no_phi refl) r c from to a x f p)
  step_sound r (Freeze a) own f stands no_phi =
      value_sound code s sound (value_of s a) _ (λ x p.
      word_sound code s sound (stands refl) (no_phi refl) r x f.0 f.2 (operand_word code s sound.number sound.function sound.running f.0 a f.1 x p))
  step_sound r (Alloca size align count) own f stands no_phi =
      value_sound code s sound (value_of s count) _ (λ n _. alloca_sound code s sound (stands refl) (no_phi refl) r size align n f.3)
  step_sound r (Load w a) own f stands no_phi = value_sound code s sound (value_of s a) _ (λ x _. load_sound code s sound (stands refl) (no_phi refl) r w x f.1)
  step_sound r (Store w a b) own f stands no_phi =
      value_sound code s sound (value_of s a) _ (λ x _. value_sound code s sound (value_of s b) _
      (λ y _. store_sound code s sound (stands refl) (no_phi refl) w x y))
  step_sound r (Get a literal indices) own f stands no_phi =
      value_sound code s sound (value_of s a) _ (λ x _. value_sound code s sound (values_of s (map (λ i. i.2) indices)) _ (λ xs _.
      word_sound code s sound (stands refl) (no_phi refl) r _ Ptr f.3 (word_of-lt W64 (pos (x + literal) +ℤ scaled_sum indices xs))))
  step_sound r (Phi entries) own f stands no_phi = end_sound code s sound _
  step_sound r (Call callee args) own f stands no_phi =
      value_sound code s sound (values_of s args) _ (λ xs v. call_sound r callee args xs own v f (stands refl) (no_phi refl))
  step_sound r (Jump b) own f stands no_phi = jump_sound code s code_sound sound b f.0
  step_sound r (Branch c b d) own f stands no_phi =
      value_sound code s sound (value_of s c) _ (λ n _. jump_sound code s code_sound sound (cond (n == 1) b d)
      (branch_target sound.function (n == 1) b d f.1 f.2))
  step_sound r (Switch w a other cases) own f stands no_phi =
      value_sound code s sound (value_of s a) _ (λ x _. jump_sound code s code_sound sound (case_of cases x other)
      (case_target sound.function w cases x other f.1 f.2))
  step_sound r (Ret None) own f stands no_phi = return_sound code s sound None (λ x e. absurd (cc))
  step_sound r (Ret (Some a)) own f stands no_phi =
      value_sound code s sound (value_of s a) _ (λ x p. return_sound code s sound (Some x) (λ y e.
      let word : IsWord (width_of f.0.0) x = operand_word code s sound.number sound.function sound.running f.0.0 a f.0.2 x p in
      let same : x ≡ y = cc in
      let P : ℕ → Type 0 = λ z. IsWord (width_of f.0.0) z in
      (f.0.0, f.0.1, subst P same word)))
  step_sound r Unreachable own f stands no_phi = end_sound code s sound _

pub states_stay : KeepsStates
states_stay code table answers s v sound fits state small =
    step_sound code answers s sound state small (result_at code s.running.place) (instr_of code table s.running.place v) refl
    (variant_fits code table sound fits state.number state.function s.running.place state.running.is state.running.stands v)
    (variant_goes_on code table sound fits state.number state.function s.running.place state.running.is state.running.stands v)
    (λ e. variant_no_phi code table sound fits state.number state.function s.running.place state.running.is state.running.stands v e state.running.no_phi)
