-- The change of an instruction that goes on at the next place or ends the run is a straight one.
use Rattle.std.proofs.Common.{◌≡◌, ℕ, pos, zero, suc, ◌+◌, ◌*◌, ◌%◌, ◌/◌, ◌≤◌, List, [], ◌∷◌, length, map, get_or, Bool, true, false, cond, Option, Some, None}
use Rattle.std.proofs.Common.{Result, Ok, Err, slice_get, arith, sym, ap, refl, inl, inr, subst}
use Rattle.std.proofs.lemmas.Bool.Decides.{nat_tests}
use Rattle.std.specs.Prelude.{nat_le, nat_lt, ◌==◌, ◌^◌, ◌+ℤ◌, slice_range}
use Rattle.std.proofs.lemmas.Option.{slice_get_within}
use Rattle.am_base.specs.declared.limits.TheConstants.{MAX_OUTPUT_BYTES, MEMORY_BYTES}
use Rattle.am_base.specs.declared.outcome.Trap.{Trap}
use Rattle.am_base.specs.declared.outcome.Trap.TheVariants.{UnsetRegister, MemoryFull, AddressRange, ConstantWrite, OutputFull, PortRefused, Abort as Aborted}
use Rattle.am_base.specs.declared.outcome.Trap.TheVariants.{Unreachable as NotReached}
use Rattle.am_base.specs.declared.word.Width.{Width}
use Rattle.am_base.specs.declared.word.Width.TheVariants.{W64}
use Rattle.am_base.specs.declared.word.Cast.{Cast as Conversion}
use Rattle.am_base.specs.declared.word.Cast.TheVariants.{Trunc, ZExt, SExt, PtrToInt, IntToPtr}
use Rattle.code_form.specs.declared.instr.Operand.{Operand}
use Rattle.am_base.specs.Word.{binary_of, bits_of, first_of, word_of}
use Rattle.code_form.specs.Layout.{bytes_of, round_up}
use Rattle.code_form.specs.declared.code.TyScalar.{TyScalar}
use Rattle.code_form.specs.declared.code.Func.{Func}
use Rattle.code_form.specs.declared.code.Code.{Code}
use Rattle.code_form.specs.declared.instr.Callee.{Callee}
use Rattle.code_form.specs.declared.instr.Callee.TheVariants.{Func as CallFunc, Port, PutChar, GetChar, Exit, Abort}
use Rattle.code_form.specs.declared.instr.Instr.{Instr}
use Rattle.code_form.specs.declared.instr.Instr.TheVariants.{Bin, Cmp, Select, Cast, Freeze, Alloca, Load, Store, Get, Phi, Call, Jump, Branch, Switch, Ret}
use Rattle.code_form.specs.declared.instr.Instr.TheVariants.{Unreachable}
use Rattle.code_form.specs.declared.sign.PortSign.{PortSign}
use Rattle.code_form.specs.Sound.{InstrFits, CastFits, CallFits, Gives, GivesMaybe, result_type}
use Rattle.machine_form.specs.declared.change.Change.{Change}
use Rattle.machine_form.specs.declared.change.Control.TheVariants.{Next}
use Rattle.machine_form.specs.State.{State}
use Rattle.machine_form.specs.Straight.{value_of, values_of, with_value, trap_change, word_change, result_change, write_of, load_change, store_change}
use Rattle.machine_form.specs.Straight.{alloca_change, differing, bytes_from, is_in_range, number_of, scaled_sum}
use Rattle.machine_form.specs.Calls.{Answers, width_of_sign, answer_change, put_change, take_change, call_change}
use Rattle.machine_form.specs.Next.{next_of}
use Rattle.machine_form.proofs.ChangeShapes.{AreReal, IsStraightChange, IsNoFunction, StaysInBlock}
use Rattle.machine_form.proofs.StraightLaw.{registers_have}

pub value_has : {X : Type 0} (P : Change → Type 0) (s : State) (o : Option X) (go : X → Change) → P (trap_change s UnsetRegister) → ((x : X) → P (go x))
    → P (with_value s o go)
value_has P s None go trap some = trap
value_has P s (Some x) go trap some = some x

pub cond_has : (P : Change → Type 0) (b : Bool) (c d : Change) → (b ≡ true → P c) → (b ≡ false → P d) → P (cond b c d)
cond_has P true c d h g = h refl
cond_has P false c d h g = g refl

module _ (s : State) (r : Option ℕ) where
  traps_straight : (t : Trap) → IsStraightChange s r (trap_change s t)
  traps_straight t = inr (_, refl)

  gives_straight : (x : ℕ) → IsStraightChange s r (word_change s r x)
  gives_straight x = inl (record { word = x; written = refl; low = 0; real = tt; goes_on = refl })

  result_straight : (res : Result ℕ Trap) → IsStraightChange s r (result_change s r res)
  result_straight (Ok x) = gives_straight x
  result_straight (Err t) = traps_straight t

  takes_straight : (size align count : ℕ) → IsStraightChange s r (alloca_change s r size align count)
  takes_straight size align count =
      let at = round_up s.top align in
      cond_has (IsStraightChange s r) (nat_le (at + size * count) MEMORY_BYTES)
      (record { writes = write_of r at; bytes = []; top = at + size * count; put = None; took = false; control = Next })
      (trap_change s MemoryFull)
      (λ _. inl (record { word = at; written = refl; low = 0; real = tt; goes_on = refl }))
      (λ _. traps_straight MemoryFull)

  loads_straight : (w : Width) (at : ℕ) → IsStraightChange s r (load_change s r w at)
  loads_straight w at =
      let word = number_of (slice_range s.bytes at (at + bytes_of w)) % 2 ^ bits_of w in
      cond_has (IsStraightChange s r) (is_in_range s at (bytes_of w)) (word_change s r word) (trap_change s AddressRange) (λ _. gives_straight word)
      (λ _. traps_straight AddressRange)

either_list : (P : List (ℕ × ℕ) → Type 0) (t : Bool) (xs ys : List (ℕ × ℕ)) → (t ≡ true → P xs) → (t ≡ false → P ys) → P (cond t xs ys)
either_list P true xs ys h g = h refl
either_list P false xs ys h g = g refl

real_weaker : (ws : List (ℕ × ℕ)) (low high : ℕ) (bytes : List ℕ) → low ≤ high → AreReal high bytes ws → AreReal low bytes ws
real_weaker [] low high bytes l h = tt
real_weaker (w ∷ ws) low high bytes l h = (omega (arith, h.0), h.1, h.2, h.3)

-- the bytes that a store changes are real
differing_real : (bytes : List ℕ) (new : List ℕ) (at : ℕ) → at + length new ≤ length bytes → AreReal at bytes (differing bytes at new)
differing_real bytes [] at h = tt
differing_real bytes (b ∷ new) at h =
    let rest = differing_real bytes new (at + 1) (omega arith) in
    either_list (AreReal at bytes) (get_or bytes at 0 == b) (differing bytes (at + 1) new) ((at, b) ∷ differing bytes (at + 1) new)
    (λ _. real_weaker (differing bytes (at + 1) new) at (at + 1) bytes (omega arith) rest)
    (λ unlike. (omega arith, omega arith, (λ e. differs b e unlike), rest))
  where
    differs : (b : ℕ) → get_or bytes at 0 ≡ b → (get_or bytes at 0 == b) ≡ false → ⊥
    differs b e unlike = grind (arith, nat_tests)

pub length-bytes_from : (k n : ℕ) → length (bytes_from k n) ≡ k
length-bytes_from zero n = refl
length-bytes_from (suc k) n = ap suc (length-bytes_from k (n / 256))

module _ (code : Code) (s : State) (bytes : length s.bytes ≡ MEMORY_BYTES) (top : s.top ≤ MEMORY_BYTES) where
  stores_straight : (w : Width) (value at : ℕ) → IsStraightChange s None (store_change code s w value at)
  stores_straight w value at =
      let new = bytes_from (bytes_of w) value in
      cond_has (IsStraightChange s None) (is_in_range s at (bytes_of w))
      (cond (nat_lt at code.const_end) (trap_change s ConstantWrite) (record {
        writes = [];
        bytes = differing s.bytes at new;
        top = s.top;
        put = None;
        took =
            false;
        control = Next;
      }))
      (trap_change s AddressRange)
      (λ inside. cond_has (IsStraightChange s None) (nat_lt at code.const_end) (trap_change s ConstantWrite)
      (record { writes = []; bytes = differing s.bytes at new; top = s.top; put = None; took = false; control = Next })
      (λ _. traps_straight s None ConstantWrite)
      (λ _. inl (record { word = 0; written = refl; low = at; real = differing_real s.bytes new at (fits (bytes_of w) at value inside); goes_on = refl })))
      (λ _. traps_straight s None AddressRange)
    where
      fits : (k at value : ℕ) → is_in_range s at k ≡ true → at + length (bytes_from k value) ≤ length s.bytes
      fits k at value inside = let m = length-bytes_from k value in grind (arith, nat_tests, m)

  put_straight : (r : Option ℕ) (x : ℕ) → IsStraightChange s r (put_change s r x)
  put_straight r x =
      let put : Change = record { writes = write_of r (x % 256); bytes = []; top = s.top; put = Some (x % 256); took = false; control = Next } in
      cond_has (IsStraightChange s r) (nat_le MAX_OUTPUT_BYTES (length s.output)) (trap_change s OutputFull) put (λ _. traps_straight s r OutputFull)
      (λ _. inl (record { word = x % 256; written = refl; low = 0; real = tt; goes_on = refl }))

  take_straight : (r : Option ℕ) (o : Option ℕ) → IsStraightChange s r (take_change s r o)
  take_straight r None = gives_straight s r _
  take_straight r (Some b) = inl (record { word = b; written = refl; low = 0; real = tt; goes_on = refl })

  -- a port that has no result is called by an instruction without a register
  answer_straight : (types : List TyScalar) (r : Option ℕ) (w : Option Width) (answer : Option ℕ) → GivesMaybe types r (result_type w)
      → IsStraightChange s r (answer_change s r w answer)
  answer_straight types r w None h = traps_straight s r PortRefused
  answer_straight types r None (Some x) h = inl (record { word = 0; written = ap (λ (q : Option ℕ). write_of q 0) (sym h); low = 0; real = tt; goes_on = refl })
  answer_straight types r (Some w) (Some x) h = gives_straight s r _

  port_straight : (types : List TyScalar) (r : Option ℕ) (o : Option PortSign) (sign : PortSign) (answer : Option ℕ) → o ≡ Some sign
      → GivesMaybe types r (result_type sign.result)
      → IsStraightChange s r (answer_change s r (width_of_sign o) answer)
  port_straight types r None sign answer e h = absurd (cc)
  port_straight types r (Some other) sign answer e h =
      let same : sign ≡ other = cc in
      let P : PortSign → Type 0 = λ p. IsStraightChange s r (answer_change s r p.result answer) in
      subst P same (answer_straight types r sign.result answer h)

  call_straight : (answers : Answers) (types : List TyScalar) (r : Option ℕ) (callee : Callee) (args : List Operand) (xs : List ℕ) → IsNoFunction callee
      → CallFits code types r callee args
      → IsStraightChange s r (call_change code answers s r callee xs)
  call_straight answers types r (CallFunc g) args xs k h = absurd k
  call_straight answers types r (Port p) args xs k h = port_straight types r (slice_get code.signs p) h.0 (answers p xs) h.1 h.3
  call_straight answers types r PutChar args xs k h = put_straight r (first_of xs)
  call_straight answers types r GetChar args xs k h = take_straight r (slice_get s.input s.position)
  call_straight answers types r Exit args xs k h = inr (_, refl)
  call_straight answers types r Abort args xs k h = traps_straight s r Aborted

  unset_straight : (r : Option ℕ) → IsStraightChange s r (trap_change s UnsetRegister)
  unset_straight r = traps_straight s r UnsetRegister

  pub next_straight : (answers : Answers) (f : Func) (r : Option ℕ) (i : Instr) → StaysInBlock i → InstrFits code f r i
      → IsStraightChange s r (next_of code answers s r i)
  next_straight answers f r (Bin op w a b) k h =
      value_has (IsStraightChange s r) s (value_of s a) _ (unset_straight r)
      (λ x. value_has (IsStraightChange s r) s (value_of s b) _ (unset_straight r) (λ y. result_straight s r (binary_of op w x y)))
  next_straight answers f r (Cmp p w a b) k h =
      value_has (IsStraightChange s r) s (value_of s a) _ (unset_straight r)
      (λ x. value_has (IsStraightChange s r) s (value_of s b) _ (unset_straight r) (λ y. gives_straight s r _))
  next_straight answers f r (Select c a b) k h =
      value_has (IsStraightChange s r) s (value_of s c) _ (unset_straight r) (λ n. value_has (IsStraightChange s r) s (value_of s a) _ (unset_straight r)
      (λ x. value_has (IsStraightChange s r) s (value_of s b) _ (unset_straight r) (λ y. gives_straight s r _)))
  next_straight answers f r (Cast c from to a) k h = value_has (IsStraightChange s r) s (value_of s a) _ (unset_straight r) (λ x. gives_straight s r _)
  next_straight answers f r (Freeze a) k h = value_has (IsStraightChange s r) s (value_of s a) _ (unset_straight r) (λ x. gives_straight s r x)
  next_straight answers f r (Alloca size align count) k h = value_has (IsStraightChange s r) s (value_of s count) _ (unset_straight r)
      (λ n. takes_straight s r size align n)
  next_straight answers f r (Load w a) k h = value_has (IsStraightChange s r) s (value_of s a) _ (unset_straight r) (λ x. loads_straight s r w x)
  next_straight answers f r (Store w a b) k h =
      subst (λ (q : Option ℕ). IsStraightChange s q (next_of code answers s q (Store w a b))) (sym h.2)
      (value_has (IsStraightChange s None) s (value_of s a) _ (unset_straight None)
      (λ x. value_has (IsStraightChange s None) s (value_of s b) _ (unset_straight None) (λ y. stores_straight w x y)))
  next_straight answers f r (Get a literal indices) k h =
      value_has (IsStraightChange s r) s (value_of s a) _ (unset_straight r)
      (λ x. value_has (IsStraightChange s r) s (values_of s (map (λ i. i.2) indices)) _ (unset_straight r)
      (λ xs. gives_straight s r (word_of W64 (pos (x + literal) +ℤ scaled_sum indices xs))))
  next_straight answers f r (Phi entries) k h = traps_straight s r NotReached
  next_straight answers f r (Call callee args) k h = value_has (IsStraightChange s r) s (values_of s args) _ (unset_straight r)
      (λ xs. call_straight answers f.types r callee args xs k h)
  next_straight answers f r (Jump b) k h = absurd k
  next_straight answers f r (Branch c a b) k h = absurd k
  next_straight answers f r (Switch w a b cs) k h = absurd k
  next_straight answers f r (Ret a) k h = absurd k
  next_straight answers f r Unreachable k h = traps_straight s r NotReached

-- ---- the register of a place is one of its frame

module _ (types : List TyScalar) (registers : List (Option ℕ)) (long : length types ≡ length registers) where
  given_there : (r : Option ℕ) (t : TyScalar) → Gives types r t → registers_have registers r
  given_there None t h = tt
  given_there (Some r) t h = omega (arith, slice_get_within types r t h)

  none_there : (r : Option ℕ) → r ≡ None → registers_have registers r
  none_there None e = tt
  none_there (Some r) e = absurd (cc)

  maybe_there : (r : Option ℕ) (t : Option TyScalar) → GivesMaybe types r t → registers_have registers r
  maybe_there r None h = none_there r h
  maybe_there r (Some t) h = given_there r t h

  cast_there : (r : Option ℕ) (c : Conversion) (from to : Width) (a : Operand) → CastFits types r c from to a → registers_have registers r
  cast_there r Trunc from to a h = given_there r _ h.2
  cast_there r ZExt from to a h = given_there r _ h.2
  cast_there r SExt from to a h = given_there r _ h.2
  cast_there r PtrToInt from to a h = given_there r _ h.2
  cast_there r IntToPtr from to a h = given_there r _ h.2

  call_there : (code : Code) (r : Option ℕ) (callee : Callee) (args : List Operand) → CallFits code types r callee args → registers_have registers r
  call_there code r (CallFunc g) args h = maybe_there r h.0.result h.3
  call_there code r (Port p) args h = maybe_there r (result_type h.0.result) h.3
  call_there code r PutChar args h = given_there r _ h.1
  call_there code r GetChar args h = given_there r _ h.1
  call_there code r Exit args h = none_there r h.1
  call_there code r Abort args h = none_there r h.1

module _ (code : Code) (f : Func) (registers : List (Option ℕ)) (long : length f.types ≡ length registers) where
  pub result_there : (r : Option ℕ) (i : Instr) → InstrFits code f r i → registers_have registers r
  result_there r (Bin op w a b) h = given_there f.types registers long r h.2.0 h.2.1
  result_there r (Cmp p w a b) h = given_there f.types registers long r _ h.2
  result_there r (Select c a b) h = given_there f.types registers long r h.1.0 h.1.3
  result_there r (Cast c from to a) h = cast_there f.types registers long r c from to a h
  result_there r (Freeze a) h = given_there f.types registers long r h.0 h.2
  result_there r (Alloca size align count) h = given_there f.types registers long r _ h.3
  result_there r (Load w a) h = given_there f.types registers long r h.1.0 h.1.1
  result_there r (Store w a b) h = none_there f.types registers long r h.2
  result_there r (Get a literal indices) h = given_there f.types registers long r _ h.3
  result_there r (Phi entries) h = given_there f.types registers long r h.0 h.3
  result_there r (Call callee args) h = call_there f.types registers long code r callee args h
  result_there r (Jump b) h = none_there f.types registers long r h.1
  result_there r (Branch c b d) h = none_there f.types registers long r h.3
  result_there r (Switch w a other cases) h = none_there f.types registers long r h.4
  result_there r (Ret None) h = none_there f.types registers long r h.1
  result_there r (Ret (Some a)) h = none_there f.types registers long r h.1
  result_there r Unreachable h = none_there f.types registers long r h
