-- What the operations give are words of their width.
use Rattle.std.proofs.Common.{◌≡◌, ℕ, ◌/◌, ◌%◌, ◌^◌, ◌<◌, ◌≤◌, Bool, true, false, cond, Option, None, Some, Result, Ok, Err, ℤ, pos, negsuc, arith, lit<, subst}
use Rattle.std.proofs.Common.{bit_and}
use Rattle.std.specs.Prelude.{◌==◌}
use Rattle.std.proofs.Math.Nat.{mod-lt, div-le_self, pow-le-pow_right}
use Rattle.std.proofs.lemmas.Nat.{pow_pos, and_le_l, or_lt, xor_lt}
use Rattle.am_base.specs.declared.word.Width.{Width}
use Rattle.am_base.specs.declared.word.Width.TheVariants.{W1, W8, W16, W32, W64}
use Rattle.am_base.specs.declared.word.BinOp.{BinOp}
use Rattle.am_base.specs.declared.word.BinOp.TheVariants.{Add, Sub, Mul, UDiv, SDiv, URem, SRem, Shl, LShr, AShr, And, Or, Xor}
use Rattle.am_base.specs.declared.outcome.Trap.{Trap}
use Rattle.am_base.specs.declared.outcome.Trap.TheVariants.{DivideByZero}
use Rattle.am_base.specs.Word.{IsWord, bits_of, word_of, binary_of, division_trap, unless_trap}

pub modulo-lt : (w : Width) (n : ℕ) → IsWord w (n % 2 ^ bits_of w)
modulo-lt w n = mod-lt n (pow_pos (bits_of w))

pub word_of-lt : (w : Width) (z : ℤ) → IsWord w (word_of w z)
word_of-lt w (pos n) = modulo-lt w n
word_of-lt w (negsuc n) = let p : 0 < 2 ^ bits_of w = pow_pos (bits_of w) in omega arith

pub flag-lt : (b : Bool) → IsWord W1 (cond b 1 0)
flag-lt true = lit< tt
flag-lt false = lit< tt

abbrev ok : ℕ → Result ℕ Trap
ok x = Ok x

ok_is : (P : ℕ → Type 0) (x v : ℕ) → P x → ok x ≡ Ok v → P v
ok_is P x v p e = let same : x ≡ v = cc in subst P same p

ok_divided : (P : ℕ → Type 0) (t : Bool) (x v : ℕ) → P x → cond t (Err DivideByZero) (ok x) ≡ Ok v → P v
ok_divided P true x v p e = cc
ok_divided P false x v p e = ok_is P x v p e

ok_unless : (P : ℕ → Type 0) (o : Option Trap) (x v : ℕ) → P x → unless_trap o x ≡ Ok v → P v
ok_unless P None x v p e = ok_is P x v p e
ok_unless P (Some t) x v p e = cc

quotient-lt : (w : Width) (a b : ℕ) → IsWord w a → IsWord w (a / b)
quotient-lt w a b h = let l : a / b ≤ a = div-le_self a b in omega arith

remainder-lt : (w : Width) (a b : ℕ) → IsWord w a → IsWord w (a % b)
remainder-lt w a b h = omega arith

and-lt : (k a b : ℕ) → a < 2 ^ k → bit_and a b < 2 ^ k
and-lt k a b h = let l : bit_and a b ≤ a = and_le_l a b in omega arith

pub binary_of-lt : (op : BinOp) (w : Width) (a b v : ℕ) → IsWord w a → IsWord w b → binary_of op w a b ≡ Ok v → IsWord w v
binary_of-lt Add w a b v h g e = ok_is (IsWord w) _ v (modulo-lt w _) e
binary_of-lt Sub w a b v h g e = ok_is (IsWord w) _ v (word_of-lt w _) e
binary_of-lt Mul w a b v h g e = ok_is (IsWord w) _ v (modulo-lt w _) e
binary_of-lt UDiv w a b v h g e = ok_divided (IsWord w) (b == 0) (a / b) v (quotient-lt w a b h) e
binary_of-lt SDiv w a b v h g e = ok_unless (IsWord w) (division_trap w a b) _ v (word_of-lt w _) e
binary_of-lt URem w a b v h g e = ok_divided (IsWord w) (b == 0) (a % b) v (remainder-lt w a b h) e
binary_of-lt SRem w a b v h g e = ok_unless (IsWord w) (division_trap w a b) _ v (word_of-lt w _) e
binary_of-lt Shl w a b v h g e = ok_is (IsWord w) _ v (modulo-lt w _) e
binary_of-lt LShr w a b v h g e = ok_is (IsWord w) _ v (quotient-lt w a (2 ^ b) h) e
binary_of-lt AShr w a b v h g e = ok_is (IsWord w) _ v (word_of-lt w _) e
binary_of-lt And w a b v h g e = ok_is (IsWord w) _ v (and-lt (bits_of w) a b h) e
binary_of-lt Or w a b v h g e = ok_is (IsWord w) _ v (or_lt (bits_of w) a b h g) e
binary_of-lt Xor w a b v h g e = ok_is (IsWord w) _ v (xor_lt (bits_of w) a b h g) e

-- a word of a width is one of each width that isn't smaller
pub wider : (v w : Width) (a : ℕ) → bits_of v ≤ bits_of w → IsWord v a → IsWord w a
wider v w a l h = let m : 2 ^ bits_of v ≤ 2 ^ bits_of w = pow-le-pow_right {n = 2} (omega arith) {i = bits_of v} {j = bits_of w} l in omega arith

pub bits_of-le : (w : Width) → bits_of w ≤ 64
bits_of-le W1 = omega arith
bits_of-le W8 = omega arith
bits_of-le W16 = omega arith
bits_of-le W32 = omega arith
bits_of-le W64 = omega arith
