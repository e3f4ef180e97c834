-- The change of a call, by the writes of its arguments.
use Rattle.std.proofs.Common.{◌≡◌, ℕ, ◌+◌, true, false, cond, List, [], Option, Some, None, ◌≤◌, ◌<◌, length, arith, sym, ◌∙◌, ap}
use Rattle.std.specs.Prelude.{nat_lt}
use Rattle.std.specs.Option.{option_map}
use Rattle.std.proofs.lemmas.Bool.Decides.{nat_tests}
use Rattle.am_base.specs.declared.outcome.Trap.TheVariants.{DepthFull, RegistersFull}
use Rattle.code_form.specs.declared.code.Code.{Code}
use Rattle.code_form.specs.Places.{function_at}
use Rattle.machine_form.specs.declared.change.Change.{Change}
use Rattle.machine_form.specs.declared.change.Control.TheVariants.{Enter}
use Rattle.machine_form.specs.State.{State, frames_of, registers_in_use}
use Rattle.machine_form.specs.Straight.{trap_change, with_value}
use Rattle.machine_form.specs.Calls.{numbered, enter_change}

not_more : (n : ℕ) → n < 511 → nat_lt 512 (n + 1 + 1) ≡ false
not_more n h = grind (arith, nat_tests)

most : (n m : ℕ) → n ≤ m → nat_lt m n ≡ false
most n m h = grind (arith, nat_tests)

above : (n m : ℕ) → m < n → nat_lt m n ≡ true
above n m h = grind (arith, nat_tests)

abbrev pub entry : State → ℕ → List (ℕ × ℕ) → Change
entry s f ws = record { writes = ws; bytes = []; top = s.top; put = None; took = false; control = Enter f }

module _ (code : Code) (s : State) (f : ℕ) (ws : List (ℕ × ℕ)) (o : Option (List ℕ)) (is : Some ws ≡ option_map (numbered 0) o) (few : length s.callers < 511) where
  abbrev go : List ℕ → Change
  go xs = enter_change code s f xs

  called : (d : Change) → ((xs : List ℕ) → ws ≡ numbered 0 xs → d ≡ enter_change code s f xs) → d ≡ with_value s o (λ xs. enter_change code s f xs)
  called d h = by o is
    where
      by : (p : Option (List ℕ)) → Some ws ≡ option_map (numbered 0) p → d ≡ with_value s p (λ xs. enter_change code s f xs)
      by None e = cc
      by (Some xs) e = h xs (cc)

  enough : nat_lt 512 (frames_of s + 1) ≡ false
  enough = not_more (length s.callers) few

  pub full : 32768 < registers_in_use s + (function_at code f).registers → trap_change s RegistersFull ≡ with_value s o (λ xs. enter_change code s f xs)
  full more = called (trap_change s RegistersFull) (λ xs _.
      ap (λ b. cond b (trap_change s RegistersFull) (entry s f (numbered 0 xs))) (sym (above (registers_in_use s + (function_at code f).registers) 32768 more))
      ∙ ap (λ b. cond b (trap_change s DepthFull) (cond (nat_lt 32768 (registers_in_use s + (function_at code f).registers)) (trap_change s RegistersFull) (entry s f (numbered 0 xs)))) (sym enough))

  pub room : registers_in_use s + (function_at code f).registers ≤ 32768 → entry s f ws ≡ with_value s o (λ xs. enter_change code s f xs)
  room fits = called (entry s f ws) (λ xs same.
      ap (entry s f) same
      ∙ ap (λ b. cond b (trap_change s RegistersFull) (entry s f (numbered 0 xs))) (sym (most (registers_in_use s + (function_at code f).registers) 32768 fits))
      ∙ ap (λ b. cond b (trap_change s DepthFull) (cond (nat_lt 32768 (registers_in_use s + (function_at code f).registers)) (trap_change s RegistersFull) (entry s f (numbered 0 xs)))) (sym enough))
