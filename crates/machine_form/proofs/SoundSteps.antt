-- What an instruction that goes on at the next place or ends the run keeps: the state after it is sound.
use Rattle.std.proofs.Common.{◌≡◌, ℕ, zero, suc, ◌+◌, ◌*◌, ◌/◌, ◌%◌, ◌<◌, ◌≤◌, List, [], ◌∷◌, length, Option, Some, None, Result, Ok, Err, Bool, true, false}
use Rattle.std.proofs.Common.{cond, slice_get, arith, sym, refl, subst, length-append}
use Rattle.std.specs.Prelude.{◌==◌, ◌^◌, nat_le, nat_lt, slice_index, slice_range, All}
use Rattle.std.proofs.lemmas.Bool.Decides.{nat_tests}
use Rattle.std.proofs.lemmas.List.Elements.{All-nil, All-cons}
use Rattle.std.proofs.lemmas.Option.{slice_get_within}
use Rattle.am_base.specs.declared.limits.TheConstants.{MAX_OUTPUT_BYTES, MEMORY_BYTES}
use Rattle.am_base.specs.declared.word.Width.{Width}
use Rattle.am_base.specs.declared.word.Width.TheVariants.{W32, W64}
use Rattle.am_base.specs.declared.word.Cast.{Cast as Conversion}
use Rattle.am_base.specs.declared.word.Cast.TheVariants.{Trunc, ZExt, SExt, PtrToInt, IntToPtr}
use Rattle.am_base.specs.declared.outcome.Trap.{Trap}
use Rattle.am_base.specs.declared.outcome.Trap.TheVariants.{AddressRange, ConstantWrite, MemoryFull, OutputFull}
use Rattle.am_base.specs.Word.{IsWord, bits_of, convert_of}
use Rattle.code_form.specs.Layout.{bytes_of, round_up}
use Rattle.code_form.specs.declared.instr.Operand.{Operand}
use Rattle.code_form.specs.declared.code.TyScalar.{TyScalar}
use Rattle.code_form.specs.declared.code.TyScalar.TheVariants.{Int, Ptr}
use Rattle.code_form.specs.declared.code.Code.{Code}
use Rattle.code_form.specs.declared.sign.PortSign.{PortSign}
use Rattle.code_form.specs.Places.{instr_at, is_phi}
use Rattle.code_form.specs.Sound.{IsPlaceOf, CastFits, Gives, GivesWidth, GivesMaybe, width_of, result_type}
use Rattle.machine_form.specs.declared.change.Change.{Change}
use Rattle.machine_form.specs.declared.change.Control.TheVariants.{Next}
use Rattle.machine_form.specs.State.{State, with_writes}
use Rattle.machine_form.specs.Straight.{value_of, with_value, trap_change, write_of, word_change, result_change, number_of, bytes_from, is_in_range, differing}
use Rattle.machine_form.specs.Straight.{load_change, store_change, alloca_change}
use Rattle.machine_form.specs.Calls.{width_of_sign, answer_change, put_change, take_change}
use Rattle.machine_form.specs.After.{after_change}
use Rattle.machine_form.specs.SoundState.{AreTyped, IsSoundState}
use Rattle.am_base.proofs.ResultWords.{modulo-lt, word_of-lt, wider, bits_of-le}
use Rattle.machine_form.proofs.SoundStates.{operand_word, result_keeps_types, end_sound, moved_sound}

-- ---- bytes

-- what a store writes are bytes
pub differing-small : (bytes : List ℕ) (at k n : ℕ) → All (λ w. w.1 < 256) (differing bytes at (bytes_from k n))
differing-small bytes at zero n = All-nil (λ w. w.1 < 256)
differing-small bytes at (suc k) n = by (slice_index bytes at == n % 256) (differing-small bytes (at + 1) k (n / 256))
  where
    by : (b : Bool) → All (λ w. w.1 < 256) (differing bytes (at + 1) (bytes_from k (n / 256)))
        → All (λ w. w.1 < 256) (cond b (differing bytes (at + 1) (bytes_from k (n / 256))) ((at, n % 256) ∷ differing bytes (at + 1) (bytes_from k (n / 256))))
    by true rest = rest
    by false rest = All-cons (λ w. w.1 < 256) (at, n % 256) (differing bytes (at + 1) (bytes_from k (n / 256))) (omega arith) rest

module _ (code : Code) (s : State) (sound : IsSoundState code s) where
  abbrev Stays : Change → Type 0
  Stays c = IsSoundState code (after_change code s c)

  -- a change that needs a value keeps what the trap and the change by each value keep
  pub value_sound : {X : Type 0} (o : Option X) (go : X → Change) → ((x : X) → o ≡ Some x → Stays (go x)) → Stays (with_value s o go)
  value_sound None go h = end_sound code s sound _
  value_sound (Some x) go h = h x refl

  either_sound : (b : Bool) (c d : Change) → (b ≡ true → Stays c) → Stays d → Stays (cond b c d)
  either_sound true c d h g = h refl
  either_sound false c d h g = g

  pub unless_sound : (b : Bool) (c d : Change) → Stays c → (b ≡ false → Stays d) → Stays (cond b c d)
  unless_sound true c d h g = h
  unless_sound false c d h g = g refl

  -- the instruction goes on at the next place
  module _ (stands : IsPlaceOf sound.function (s.running.place + 1)) (no_phi : is_phi (instr_at code (s.running.place + 1)) ≡ false) where
    next_sound : (ws bs : List (ℕ × ℕ)) (top : ℕ) → AreTyped sound.function.types (with_writes s.running.registers ws) → All (λ w. w.1 < 256) bs
        → s.running.restores ≤ top → top ≤ MEMORY_BYTES
        → Stays (record { writes = ws; bytes = bs; top = top; put = None; took = false; control = Next })
    next_sound ws bs top typed small above below =
        moved_sound code s sound ws bs (s.running.place + 1) top (s.position + 0) s.output s.ending typed stands no_phi small above below sound.output
        (omega (arith, sound.position))

    pub word_sound : (r : Option ℕ) (x : ℕ) (t : TyScalar) → Gives sound.function.types r t → IsWord (width_of t) x → Stays (word_change s r x)
    word_sound r x t h word =
        next_sound (write_of r x) [] s.top (result_keeps_types sound.function.types s.running.registers r x t sound.running.words h word)
        (All-nil (λ w. w.1 < 256)) sound.restores sound.top

    none_sound : Stays (word_change s None 0)
    none_sound = next_sound [] [] s.top sound.running.words (All-nil (λ w. w.1 < 256)) sound.restores sound.top

    word_of_width_sound : (r : Option ℕ) (x : ℕ) (w : Width) → GivesWidth sound.function.types r w → IsWord w x → Stays (word_change s r x)
    word_of_width_sound r x w h word = let P : Width → Type 0 = λ v. IsWord v x in word_sound r x h.0 h.1 (subst P (sym h.2) word)

    pub result_sound : (r : Option ℕ) (w : Width) (res : Result ℕ Trap) → GivesWidth sound.function.types r w → ((v : ℕ) → res ≡ Ok v → IsWord w v)
        → Stays (result_change s r res)
    result_sound r w (Ok v) h words = word_of_width_sound r v w h (words v refl)
    result_sound r w (Err t) h words = end_sound code s sound _

    pub cast_sound : (r : Option ℕ) (c : Conversion) (from to : Width) (a : Operand) (x : ℕ) → CastFits sound.function.types r c from to a
        → value_of s a ≡ Some x
        → Stays (word_change s r (convert_of c from to x))
    cast_sound r Trunc from to a x h e = word_sound r _ (Int to) h.2 (modulo-lt to x)
    cast_sound r ZExt from to a x h e =
        word_sound r x (Int to) h.2 (wider from to x (omega (arith, h.0)) (operand_word code s sound.number sound.function sound.running (Int from) a h.1 x e))
    cast_sound r SExt from to a x h e = word_sound r _ (Int to) h.2 (word_of-lt to _)
    cast_sound r PtrToInt from to a x h e = word_sound r _ (Int to) h.2 (modulo-lt to x)
    cast_sound r IntToPtr from to a x h e =
        word_sound r x Ptr h.2 (wider from W64 x (bits_of-le from) (operand_word code s sound.number sound.function sound.running (Int from) a h.1 x e))

    -- ---- memory

    pub alloca_sound : (r : Option ℕ) (size align count : ℕ) → Gives sound.function.types r Ptr → Stays (alloca_change s r size align count)
    alloca_sound r size align count h =
        let address = round_up s.top align in
        either_sound (nat_le (address + size * count) MEMORY_BYTES)
        (record { writes = write_of r address; bytes = []; top = address + size * count; put = None; took = false; control = Next }) (trap_change s MemoryFull)
        (λ fits. let few : address + size * count ≤ MEMORY_BYTES = below (address + size * count) fits in
        let above : s.top ≤ address = omega arith in
        next_sound (write_of r address) [] (address + size * count)
        (result_keeps_types sound.function.types s.running.registers r address Ptr sound.running.words h (omega (arith, few))) (All-nil (λ w. w.1 < 256))
        (omega (arith, sound.restores, above)) few)
        (end_sound code s sound _)
      where
        below : (n : ℕ) → nat_le n MEMORY_BYTES ≡ true → n ≤ MEMORY_BYTES
        below n e = grind (arith, nat_tests)

    pub load_sound : (r : Option ℕ) (w : Width) (address : ℕ) → GivesWidth sound.function.types r w → Stays (load_change s r w address)
    load_sound r w address h =
        let word = number_of (slice_range s.bytes address (address + bytes_of w)) in
        either_sound (is_in_range s address (bytes_of w)) (word_change s r (word % 2 ^ bits_of w)) (trap_change s AddressRange)
        (λ _. word_of_width_sound r _ w h (modulo-lt w word)) (end_sound code s sound _)

    pub store_sound : (w : Width) (word address : ℕ) → Stays (store_change code s w word address)
    store_sound w word address =
        let stored : Change = record {
          writes = [];
          bytes = differing s.bytes address (bytes_from (bytes_of w) word);
          top = s.top;
          put = None;
          took = false;
          control = Next;
        } in
        either_sound (is_in_range s address (bytes_of w)) (cond (nat_lt address code.const_end) (trap_change s ConstantWrite) stored)
        (trap_change s AddressRange)
        (λ _. unless_sound (nat_lt address code.const_end) (trap_change s ConstantWrite) stored (end_sound code s sound _)
        (λ _. next_sound [] (differing s.bytes address (bytes_from (bytes_of w) word)) s.top sound.running.words
        (differing-small s.bytes address (bytes_of w) word) sound.restores sound.top))
        (end_sound code s sound _)

    -- ---- calls of ports and of the outside functions

    answer_sound : (r : Option ℕ) (w : Option Width) (answer : Option ℕ) → GivesMaybe sound.function.types r (result_type w)
        → Stays (answer_change s r w answer)
    answer_sound r w None h = end_sound code s sound _
    answer_sound r None (Some x) h = none_sound
    answer_sound r (Some w) (Some x) h = word_sound r _ (Int w) h (modulo-lt w x)

    pub port_sound : (r : Option ℕ) (o : Option PortSign) (sign : PortSign) (answer : Option ℕ) → o ≡ Some sign
        → GivesMaybe sound.function.types r (result_type sign.result)
        → Stays (answer_change s r (width_of_sign o) answer)
    port_sound r None sign answer e h = absurd (cc)
    port_sound r (Some other) sign answer e h =
        let same : sign ≡ other = cc in
        let P : PortSign → Type 0 = λ p. Stays (answer_change s r p.result answer) in
        subst P same (answer_sound r sign.result answer h)

    pub put_sound : (r : Option ℕ) (x : ℕ) → Gives sound.function.types r (Int W32) → Stays (put_change s r x)
    put_sound r x h =
        let put : Change = record { writes = write_of r (x % 256); bytes = []; top = s.top; put = Some (x % 256); took = false; control = Next } in
        unless_sound (nat_le MAX_OUTPUT_BYTES (length s.output)) (trap_change s OutputFull) put (end_sound code s sound _)
        (λ room. moved_sound code s sound (write_of r (x % 256)) [] (s.running.place + 1) s.top (s.position + 0) _ s.ending
        (result_keeps_types sound.function.types s.running.registers r (x % 256) (Int W32) sound.running.words h (omega arith)) stands no_phi
        (All-nil (λ w. w.1 < 256)) sound.restores sound.top
        (let few : length s.output < MAX_OUTPUT_BYTES = above (length s.output) room in omega (arith, length-append s.output (x % 256 ∷ [])))
        (omega (arith, sound.position)))
      where
        above : (n : ℕ) → nat_le MAX_OUTPUT_BYTES n ≡ false → n < MAX_OUTPUT_BYTES
        above n e = grind (arith, nat_tests)

    -- the input holds bytes
    pub take_sound : (small : (b : ℕ) → slice_get s.input s.position ≡ Some b → b < 256) (r : Option ℕ) (o : Option ℕ) → slice_get s.input s.position ≡ o
        → Gives sound.function.types r (Int W32)
        → Stays (take_change s r o)
    take_sound small r None e h = word_sound r _ (Int W32) h (omega arith)
    take_sound small r (Some b) e h =
        let byte = small b e in
        let within : s.position < length s.input = slice_get_within s.input s.position b e in
        moved_sound code s sound (write_of r b) [] (s.running.place + 1) s.top (s.position + 1) s.output s.ending
        (result_keeps_types sound.function.types s.running.registers r b (Int W32) sound.running.words h (omega (arith, byte))) stands no_phi
        (All-nil (λ w. w.1 < 256)) sound.restores sound.top
        sound.output (omega arith)
