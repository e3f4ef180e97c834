-- Comparisons by the opposite order of the operands.
use Rattle.std.proofs.Common.{◌≡◌, ℕ, Bool, true, false, ap, sym, ◌∙◌, refl}
use Rattle.std.specs.Prelude.{nat_lt, nat_le, not, if◌then◌else◌}
use Rattle.std.specs.Int.RustNames.{int_lt}
use Rattle.std.proofs.Common.{arith}
use Rattle.std.proofs.lemmas.Bool.Decides.{nat_tests}
use Rattle.am_base.specs.Word.{signed}
use Rattle.am_base.specs.declared.word.Width.{Width}
use Rattle.am_base.specs.declared.word.Pred.{Pred}
use Rattle.am_base.specs.declared.word.Pred.TheVariants.{Ugt, Ule, Sgt, Sle}
use Rattle.lane_ops.specs.Lane.{lane_compare}

-- two numbers, chosen by a test
by_numbers : (test : Bool) (on off m n : ℕ) → on ≡ m → off ≡ n → (if test then on else off) ≡ (if test then m else n)
by_numbers true on off m n e f = e
by_numbers false on off m n e f = f

opposite : (test : Bool) → ◌≡◌ {A = ℕ} (if test then 0 else 1) (if not test then 1 else 0)
opposite true = refl
opposite false = refl

not_below : (x y : ℕ) → not (nat_lt y x) ≡ nat_le x y
not_below x y = grind (arith, nat_tests)

pub ugt : (p : Pred) (w : Width) (on off x y : ℕ) → p ≡ Ugt → on ≡ 1 → off ≡ 0 → (if nat_lt y x then on else off) ≡ lane_compare p w x y
ugt p w on off x y is e f = by_numbers (nat_lt y x) on off 1 0 e f ∙ ap (λ q. lane_compare q w x y) (sym is)

pub ule : (p : Pred) (w : Width) (on off x y : ℕ) → p ≡ Ule → on ≡ 0 → off ≡ 1 → (if nat_lt y x then on else off) ≡ lane_compare p w x y
ule p w on off x y is e f = by_numbers (nat_lt y x) on off 0 1 e f ∙ opposite (nat_lt y x) ∙ ap (λ (b : Bool). if b then 1 else 0) (not_below x y)
    ∙ ap (λ q. lane_compare q w x y) (sym is)

pub sgt : (p : Pred) (w : Width) (on off x y : ℕ) → p ≡ Sgt → on ≡ 1 → off ≡ 0 → (if int_lt (signed w y) (signed w x) then on else off) ≡ lane_compare p w x y
sgt p w on off x y is e f = by_numbers (int_lt (signed w y) (signed w x)) on off 1 0 e f ∙ ap (λ q. lane_compare q w x y) (sym is)

pub sle : (p : Pred) (w : Width) (on off x y : ℕ) → p ≡ Sle → on ≡ 0 → off ≡ 1 → (if int_lt (signed w y) (signed w x) then on else off) ≡ lane_compare p w x y
sle p w on off x y is e f = by_numbers (int_lt (signed w y) (signed w x)) on off 0 1 e f ∙ opposite (int_lt (signed w y) (signed w x))
    ∙ ap (λ q. lane_compare q w x y) (sym is)
