-- What a change keeps of a sound state.
use Rattle.std.proofs.Common.{◌≡◌, ◌⊎◌, ℕ, zero, suc, ◌<◌, ◌≤◌, false, List, [], ◌∷◌, length, set, Option, Some, None, slice_get, arith, ◌∙◌, ap, refl, subst}
use Rattle.std.proofs.Common.{inl, inr}
use Rattle.std.specs.Prelude.{All}
use Rattle.std.proofs.Math.ListN.{length-set}
use Rattle.std.proofs.lemmas.List.Elements.{All-set, All-head, All-tail}
use Rattle.std.proofs.lemmas.List.Sums.{sum_by-cons}
use Rattle.am_base.specs.declared.limits.TheConstants.{MAX_OUTPUT_BYTES, MEMORY_BYTES}
use Rattle.am_base.specs.declared.word.Width.{Width}
use Rattle.am_base.specs.declared.outcome.Ending.{Ending}
use Rattle.am_base.specs.Word.{IsWord}
use Rattle.code_form.specs.declared.instr.Operand.{Operand}
use Rattle.code_form.specs.declared.instr.Operand.TheVariants.{Reg, Word}
use Rattle.code_form.specs.declared.code.TyScalar.{TyScalar}
use Rattle.code_form.specs.declared.code.Func.{Func}
use Rattle.code_form.specs.declared.code.Code.{Code}
use Rattle.code_form.specs.Places.{instr_at, is_phi}
use Rattle.code_form.specs.Sound.{IsPlaceOf, width_of, HasType, HasWidth, Gives}
use Rattle.machine_form.specs.declared.frame.Frame.{Frame}
use Rattle.machine_form.specs.State.{State, register, with_writes, with_bytes}
use Rattle.machine_form.specs.Straight.{value_of, write_of, end_change}
use Rattle.machine_form.specs.After.{after_change, moved}
use Rattle.machine_form.specs.SoundState.{AreTyped, IsFrameOf, IsSoundState}

-- ---- registers

read_after_write : (registers : List (Option ℕ)) (r q v x : ℕ) → register (set registers r (Some v)) q ≡ Some x → ((q ≡ r) × (v ≡ x))
    ⊎ (register registers q ≡ Some x)
read_after_write [] r q v x e = inr e
read_after_write (y ∷ ys) zero zero v x e = inl (refl, cc)
read_after_write (y ∷ ys) zero (suc q) v x e = inr e
read_after_write (y ∷ ys) (suc r) zero v x e = inr e
read_after_write (y ∷ ys) (suc r) (suc q) v x e = elim (read_after_write ys r q v x e) [ inl p ↦ inl (ap suc p.0, p.1) | inr p ↦ inr p ]

-- a word of the register's type keeps the registers typed
pub write_keeps_types : (types : List TyScalar) (registers : List (Option ℕ)) (r v : ℕ) → AreTyped types registers
    → ((t : TyScalar) → slice_get types r ≡ Some t → IsWord (width_of t) v)
    → AreTyped types (set registers r (Some v))
write_keeps_types types registers r v h word q x t a e = elim (read_after_write registers r q v x e) [
  | inl p ↦ let P : ℕ → Type 0 = λ n. slice_get types n ≡ Some t in let w = word t (subst P p.0 a) in omega (arith, p.1, w)
  | inr p ↦ h q x t a p
]

pub one_type : (o : Option TyScalar) (t u : TyScalar) (x : ℕ) → o ≡ Some t → IsWord (width_of t) x → o ≡ Some u → IsWord (width_of u) x
one_type o t u x e word d = let same : t ≡ u = cc in let P : TyScalar → Type 0 = λ k. IsWord (width_of k) x in subst P same word

-- the write of a result of its register's type keeps the registers typed
pub result_keeps_types : (types : List TyScalar) (registers : List (Option ℕ)) (r : Option ℕ) (x : ℕ) (t : TyScalar) → AreTyped types registers
    → Gives types r t → IsWord (width_of t) x
    → AreTyped types (with_writes registers (write_of r x))
result_keeps_types types registers None x t typed h word = absurd h
result_keeps_types types registers (Some r) x t typed h word = write_keeps_types types registers r x typed (λ u d. one_type (slice_get types r) t u x h word d)

pub length-with_writes : (registers : List (Option ℕ)) (ws : List (ℕ × ℕ)) → length (with_writes registers ws) ≡ length registers
length-with_writes registers [] = refl
length-with_writes registers (w ∷ ws) = length-with_writes (set registers w.0 (Some w.1)) ws ∙ length-set registers w.0 (Some w.1)

-- ---- memory

pub length-with_bytes : (bytes : List ℕ) (ws : List (ℕ × ℕ)) → length (with_bytes bytes ws) ≡ length bytes
length-with_bytes bytes [] = refl
length-with_bytes bytes (w ∷ ws) = length-with_bytes (set bytes w.0 w.1) ws ∙ length-set bytes w.0 w.1

pub bytes_stay : (bytes : List ℕ) (ws : List (ℕ × ℕ)) → All (λ b. b < 256) bytes → All (λ w. w.1 < 256) ws → All (λ b. b < 256) (with_bytes bytes ws)
bytes_stay bytes [] h new = h
bytes_stay bytes (w ∷ ws) h new =
    bytes_stay (set bytes w.0 w.1) ws (All-set (λ b. b < 256) bytes w.0 w.1 (All-head (λ v. v.1 < 256) w ws new) h) (All-tail (λ v. v.1 < 256) w ws new)

-- ---- frames

-- the frame with some writes, at another place of its function
pub moved_frame : (code : Code) (g : ℕ) (f : Func) (frame : Frame) (ws : List (ℕ × ℕ)) (at : ℕ) → IsFrameOf code g f frame
    → AreTyped f.types (with_writes frame.registers ws)
    → IsPlaceOf f at → is_phi (instr_at code at) ≡ false → IsFrameOf code g f (moved frame ws at)
moved_frame code g f frame ws at sound typed stands no_phi =
    record { is = sound.is; stands = stands; no_phi = no_phi; registers = length-with_writes frame.registers ws ∙ sound.registers; words = typed }

-- the words of operands

module _ (code : Code) (s : State) (g : ℕ) (f : Func) (frame : IsFrameOf code g f s.running) where
  pub operand_word : (t : TyScalar) (a : Operand) → HasType f.types t a → (x : ℕ) → value_of s a ≡ Some x → IsWord (width_of t) x
  operand_word t (Reg r) h x e = frame.words r x t h e
  operand_word t (Word n) h x e = let same : n ≡ x = cc in omega arith

  pub operand_of_width : (w : Width) (a : Operand) → HasWidth f.types w a → (x : ℕ) → value_of s a ≡ Some x → IsWord w x
  operand_of_width w a h x e = let P : Width → Type 0 = λ v. IsWord v x in subst P h.2 (operand_word h.0 a h.1 x e)

-- ---- states

abbrev registers_of : Frame → ℕ
registers_of f = length f.registers

module _ (code : Code) (s : State) (sound : IsSoundState code s) where
  -- the run ends, and nothing else changes
  pub end_sound : (e : Ending) → IsSoundState code (after_change code s (end_change s e))
  end_sound e = record {
    number = sound.number;
    function = sound.function;
    running = sound.running;
    callers = sound.callers;
    restores = sound.restores;
    top = sound.top;
    memory = sound.memory;
    bytes = sound.bytes;
    frames = sound.frames;
    registers = sound.registers;
    output = sound.output;
    input = sound.input;
    position = omega (arith, sound.position);
  }

  -- the run goes on in the same frame
  pub moved_sound : (ws bs : List (ℕ × ℕ)) (at top position : ℕ) (output : List ℕ) (ending : Option Ending)
      → AreTyped sound.function.types (with_writes s.running.registers ws)
      → IsPlaceOf sound.function at → is_phi (instr_at code at) ≡ false → All (λ w. w.1 < 256) bs → s.running.restores ≤ top → top ≤ MEMORY_BYTES
      → length output ≤ MAX_OUTPUT_BYTES → position ≤ length s.input
      → IsSoundState code (record {
        running = moved s.running ws at;
        callers = s.callers;
        bytes = with_bytes s.bytes bs;
        top = top;
        output = output;
        input =
            s.input;
        position = position;
        ending = ending;
      })
  moved_sound ws bs at top position output ending typed stands no_phi small above below few within = record {
    number = sound.number;
    function = sound.function;
    running = moved_frame code sound.number sound.function s.running ws at sound.running typed stands no_phi;
    callers = sound.callers;
    restores = above;
    top = below;
    memory = length-with_bytes s.bytes bs ∙ sound.memory;
    bytes = bytes_stay s.bytes bs sound.bytes small;
    frames = sound.frames;
    registers =
        omega (
          arith,
          sum_by-cons registers_of (moved s.running ws at) s.callers,
          sum_by-cons registers_of s.running s.callers,
          length-with_writes s.running.registers ws,
          sound.registers,
        );
    output = few;
    input = sound.input;
    position = within;
  }
