-- How often a call of a port asks it.
use Rattle.std.proofs.Common.{◌≡◌, ◌≢◌, ℕ, ◌+◌, ◌<◌, Bool, true, false, cond, List, length, map, get_or, Option, Some, arith, sym, ◌∙◌, ap, refl, subst}
use Rattle.std.specs.Prelude.{◌==◌, ◌&&◌, is_some}
use Rattle.std.proofs.Math.ListN.{set}
use Rattle.std.proofs.lemmas.List.{length-map, get_or-set_other}
use Rattle.std.proofs.lemmas.Grind.{get_or-set_at}
use Rattle.std.proofs.lemmas.Bool.Decides.{nat_tests}
use Rattle.std.proofs.lemmas.Option.{slice_get_within}
use Rattle.code_form.specs.declared.instr.Operand.{Operand}
use Rattle.code_form.specs.declared.instr.Callee.TheVariants.{Port}
use Rattle.code_form.specs.declared.instr.Instr.{Instr}
use Rattle.code_form.specs.declared.instr.Instr.TheVariants.{Call}
use Rattle.code_form.specs.declared.sign.PortSign.{PortSign}
use Rattle.code_form.specs.declared.code.Code.{Code}
use Rattle.machine_form.specs.State.{State}
use Rattle.machine_form.specs.Straight.{values_of}
use Rattle.machine_form.specs.Machine.{toll_of}
use Rattle.ports.specs.Asks.{AskedBy, AskedAtMostBy}
use Rattle.lane_eval.specs.Operands.{CanAsk}

is : (q p : ℕ) → (q == p) ≡ true → q ≡ p
is q p e = grind (arith, nat_tests)

is_not : (q p : ℕ) → (q == p) ≡ false → q ≢ p
is_not q p e = grind (arith, nat_tests)

-- one count is one more, and the others are as they were
one_more : (old : List ℕ) (p q : ℕ) (b : Bool) → (q == p) ≡ b → p < length old → get_or (set old p (get_or old p 0 + 1)) q 0 ≡ get_or old q 0 + cond (b && true) 1 0
one_more old p q true e within =
    let same : q ≡ p = is q p e in
    get_or-set_at old p q (get_or old p 0 + 1) 0 same within ∙ ap (λ (n : ℕ). get_or old n 0 + 1) (sym same)
one_more old p q false e within =
    let same : get_or (set old p (get_or old p 0 + 1)) q 0 ≡ get_or old q 0 = get_or-set_other old p q (get_or old p 0 + 1) 0 (is_not q p e) in omega arith

module _ {A : Type 0} (sign : A → PortSign) (asked : A → ℕ) (old new : List A) (code : Code) (s : State) (p : ℕ) (args : List Operand) (xs : List ℕ) where
  pub asked_ports : CanAsk code s p args → map sign old ≡ code.signs → values_of s args ≡ Some xs → map asked new ≡ set (map asked old) p (get_or (map asked old) p 0 + 1)
      → AskedBy (map asked old) (map asked new) (λ q. toll_of q s (Call (Port p) args))
  asked_ports can signs set_there more q =
      let within : p < length code.signs = slice_get_within code.signs p can.sign can.is in
      let here : p < length (map asked old) = omega (arith, within, ap length signs, length-map old sign, length-map old asked) in
      ap (λ (ns : List ℕ). get_or ns q 0) more ∙ one_more (map asked old) p q (q == p) refl here
      ∙ ap (λ (o : Option (List ℕ)). get_or (map asked old) q 0 + cond ((q == p) && is_some o) 1 0) (sym set_there)

-- what was asked by an instruction was asked by one that is equal to it
pub at_most_as : (old new : List ℕ) (s : State) (i j : Instr) → i ≡ j → AskedAtMostBy old new (λ q. toll_of q s i) → AskedAtMostBy old new (λ q. toll_of q s j)
at_most_as old new s i j e h = let P : Instr → Type 0 = λ k. AskedAtMostBy old new (λ q. toll_of q s k) in subst P e h
