-- The names and types of the functions.
use Rattle.std.specs.Prelude.{ℕ, List, [], ◌∷◌, ◌++◌, codes, Some}
use Rattle.am_base.specs.declared.word.Width.{Width}
use Rattle.am_base.specs.declared.word.Width.TheVariants.{W1, W8, W16, W32, W64}
use Rattle.code_form.specs.declared.sign.PortSign.{PortSign}
use Rattle.clang_ports.specs.declared.function.CharTest.{CharTest}
use Rattle.clang_ports.specs.declared.function.CharTest.TheVariants as test
use Rattle.clang_ports.specs.declared.function.CharCase.{CharCase}
use Rattle.clang_ports.specs.declared.function.CharCase.TheVariants as letters
use Rattle.clang_ports.specs.declared.function.Choice.{Choice}
use Rattle.clang_ports.specs.declared.function.Choice.TheVariants as choice
use Rattle.clang_ports.specs.declared.function.PureFunction.{PureFunction}
use Rattle.clang_ports.specs.declared.function.PureFunction.TheVariants.{Test, ToCase, Absolute, Chosen}

-- the name of a test of ISO C
abbrev pub test_name : CharTest → List ℕ
test_name test.Alpha = codes "isalpha"
test_name test.Alnum = codes "isalnum"
test_name test.Upper = codes "isupper"
test_name test.Lower = codes "islower"
test_name test.HexDigit = codes "isxdigit"
test_name test.Printed = codes "isprint"
test_name test.Punct = codes "ispunct"

abbrev pub case_name : CharCase → List ℕ
case_name letters.Upper = codes "toupper"
case_name letters.Lower = codes "tolower"

-- the name of an intrinsic function of LLVM up to its type
abbrev pub choice_name : Choice → List ℕ
choice_name choice.SignedMost = codes "llvm.smax."
choice_name choice.SignedLeast = codes "llvm.smin."
choice_name choice.UnsignedMost = codes "llvm.umax."
choice_name choice.UnsignedLeast = codes "llvm.umin."

-- an integer type as it stands in the name of an intrinsic function
abbrev pub type_name : Width → List ℕ
type_name W1 = codes "i1"
type_name W8 = codes "i8"
type_name W16 = codes "i16"
type_name W32 = codes "i32"
type_name W64 = codes "i64"

abbrev pub name_of : PureFunction → List ℕ
name_of (Test t) = test_name t
name_of (ToCase c) = case_name c
name_of (Absolute w) = codes "llvm.abs." ++ type_name w
name_of (Chosen c w) = choice_name c ++ type_name w

-- the widths of the parameters: the second one of llvm.abs says whether the least value is poison, and changes nothing
abbrev pub params_of : PureFunction → List Width
params_of (Test t) = W32 ∷ []
params_of (ToCase c) = W32 ∷ []
params_of (Absolute w) = w ∷ W1 ∷ []
params_of (Chosen c w) = w ∷ w ∷ []

abbrev pub width_of : PureFunction → Width
width_of (Test t) = W32
width_of (ToCase c) = W32
width_of (Absolute w) = w
width_of (Chosen c w) = w

-- the sign of a function
abbrev pub sign_of : PureFunction → PortSign
sign_of f = record { name = name_of f; params = params_of f; result = Some (width_of f) }
