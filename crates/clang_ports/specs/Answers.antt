-- What the functions of the C library and of LLVM that Clang's text calls answer, as formulas on words.
use Rattle.std.specs.Prelude.{ℕ, ◌+◌, ◌-◌, Bool, ◌||◌, ◌&&◌, nat_le, if◌then◌else◌, List, [], ◌∷◌}
use Rattle.am_base.specs.declared.word.Pred.{Pred}
use Rattle.am_base.specs.declared.word.Pred.TheVariants.{Ugt, Ult, Sgt, Slt}
use Rattle.am_base.specs.Word.{first_of, compare_of}
use Rattle.ports.specs.Known.{absolute}
use Rattle.clang_ports.specs.declared.function.CharTest.{CharTest}
use Rattle.clang_ports.specs.declared.function.CharTest.TheVariants as test
use Rattle.clang_ports.specs.declared.function.CharCase.{CharCase}
use Rattle.clang_ports.specs.declared.function.CharCase.TheVariants as letters
use Rattle.clang_ports.specs.declared.function.Choice.{Choice}
use Rattle.clang_ports.specs.declared.function.Choice.TheVariants as choice
use Rattle.clang_ports.specs.declared.function.PureFunction.{PureFunction}
use Rattle.clang_ports.specs.declared.function.PureFunction.TheVariants.{Test, ToCase, Absolute, Chosen}

-- a number from low to high
abbrev pub within : ℕ → ℕ → ℕ → Bool
within low high a = nat_le low a && nat_le a high

-- the tests of ISO C (ctype.h) in the C locale: upper-case letters are 65 to 90, lower-case ones 97 to 122, digits 48 to 57, what is printed 32 to 126
abbrev pub holds_of : CharTest → ℕ → Bool
holds_of test.Alpha a = within 65 90 a || within 97 122 a
holds_of test.Alnum a = within 48 57 a || (within 65 90 a || within 97 122 a)
holds_of test.Upper a = within 65 90 a
holds_of test.Lower a = within 97 122 a
holds_of test.HexDigit a = within 48 57 a || (within 65 70 a || within 97 102 a)
holds_of test.Printed a = within 32 126 a
holds_of test.Punct a = within 33 47 a || (within 58 64 a || (within 91 96 a || within 123 126 a))

-- a letter in the other case, all else as it is
abbrev pub cased : CharCase → ℕ → ℕ
cased letters.Upper a = if within 97 122 a then a - 32 else a
cased letters.Lower a = if within 65 90 a then a + 32 else a

-- the comparison by which the first of two words is chosen
abbrev pub order_of : Choice → Pred
order_of choice.SignedMost = Sgt
order_of choice.SignedLeast = Slt
order_of choice.UnsignedMost = Ugt
order_of choice.UnsignedLeast = Ult

-- the second of some words, 0 if there is none
abbrev pub second_of : List ℕ → ℕ
second_of [] = 0
second_of (x ∷ xs) = first_of xs

-- the answer to the arguments
abbrev pub answer_of : PureFunction → List ℕ → ℕ
answer_of (Test t) args = if holds_of t (first_of args) then 1 else 0
answer_of (ToCase c) args = cased c (first_of args)
answer_of (Absolute w) args = absolute w (first_of args)
answer_of (Chosen c w) args = if compare_of (order_of c) w (first_of args) (second_of args) then first_of args else second_of args
