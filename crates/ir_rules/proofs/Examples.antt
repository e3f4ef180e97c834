-- The rules computed on small modules: for each a text that breaks it, and one that nearly does.
use Rattle.std.proofs.Common.{◌≡◌, ℕ, Bool, true, false, List, [], ◌∷◌, ◌++◌, Option, Some, None, slice_get, pos, negsuc, codes, refl}
use Rattle.am_base.specs.declared.word.Width.TheVariants.{W1, W8, W16, W32, W64}
use Rattle.am_base.specs.declared.word.BinOp.TheVariants.{Add}
use Rattle.am_base.specs.declared.word.Pred.TheVariants.{Eq}
use Rattle.am_base.specs.declared.word.Cast.TheVariants.{Trunc, ZExt, PtrToInt}
use Rattle.code_form.specs.declared.sign.PortSign.{PortSign}
use Rattle.ir_tree.specs.declared.name.Name.{Name}
use Rattle.ir_tree.specs.declared.name.Name.TheVariants.{Text, Number}
use Rattle.ir_tree.specs.declared.type_text.TyText.{TyText}
use Rattle.ir_tree.specs.declared.type_text.TyText.TheVariants as ty
use Rattle.ir_tree.specs.declared.operand.Opd.{Opd}
use Rattle.ir_tree.specs.declared.operand.Opd.TheVariants as opd
use Rattle.ir_tree.specs.declared.operand.Init.TheVariants.{One}
use Rattle.ir_tree.specs.declared.op.Op.{Op}
use Rattle.ir_tree.specs.declared.op.Op.TheVariants as op
use Rattle.ir_tree.specs.declared.item.Item.{Item}
use Rattle.ir_tree.specs.declared.item.Item.TheVariants as item
use Rattle.ir_rules.specs.declared.rule.Rule.{Rule}
use Rattle.ir_rules.specs.declared.rule.Rule.TheVariants as rule
use Rattle.std.specs.Fmt.{digits}
use Rattle.ir_rules.specs.Types.{named_type}
use Rattle.ir_rules.specs.Rules.{breaks}

-- the item with a number breaks the rule
abbrev pub broken_in : List Item → List PortSign → ℕ → Rule → Option Item → Bool
broken_in items signs i r None = false
broken_in items signs i r (Some x) = breaks items signs i x r

abbrev pub broken : ℕ → Rule → List Item → Bool
broken i r items = broken_in items [] i r (slice_get items i)

-- ---- words for texts

abbrev i1 : TyText
i1 = ty.Int W1

abbrev i8 : TyText
i8 = ty.Int W8

abbrev i32 : TyText
i32 = ty.Int W32

abbrev i64 : TyText
i64 = ty.Int W64

abbrev ptr : TyText
ptr = ty.Ptr

abbrev a : Name
a = Text (codes "a")

abbrev b : Name
b = Text (codes "b")

abbrev c : Name
c = Text (codes "c")

abbrev f : Name
f = Text (codes "f")

abbrev local : Name → Opd
local n = opd.Local n

abbrev num : ℕ → Opd
num n = opd.Number (pos n)

-- define i32 @f(i32 %a, i32 %b)
abbrev head : Item
head = item.Head f i32 ((i32, Some a) ∷ (i32, Some b) ∷ [])

abbrev run : Op → Item
run o = item.Instr None o

abbrev set : Name → Op → Item
set n o = item.Instr (Some n) o

-- a function with these items, of which the first has number 1
abbrev function : List Item → List Item
function items = (head ∷ items) ++ item.End ∷ []

abbrev add : Opd → Opd → Op
add x y = op.Bin Add i32 x y

abbrev ret : Opd → Op
ret x = op.Ret (Some (i32, x))

-- ---- DoubleName

double-parameter : broken 0 rule.DoubleName (item.Head f i32 ((i32, Some a) ∷ (i32, Some a) ∷ []) ∷ item.End ∷ []) ≡ true
double-parameter = refl

double-result : broken 1 rule.DoubleName (function (set a (add (local a) (local b)) ∷ [])) ≡ true
double-result = refl

one-result : broken 1 rule.DoubleName (function (set c (add (local a) (local b)) ∷ [])) ≡ false
one-result = refl

-- the unlabelled first block is %1 behind the parameter %0
double-block : broken 1 rule.DoubleName (item.Head f i32 ((i32, None) ∷ []) ∷ set (Number 1) (add (num 1) (num 2)) ∷ item.End ∷ []) ≡ true
double-block = refl

behind-block : broken 1 rule.DoubleName (item.Head f i32 ((i32, None) ∷ []) ∷ set (Number 2) (add (num 1) (num 2)) ∷ item.End ∷ []) ≡ false
behind-block = refl

-- @0 and @"0" have the same bytes
double-bytes : broken 1 rule.DoubleName (item.Declare (Number 0) i32 [] ∷ item.Declare (Text (codes "0")) i32 [] ∷ []) ≡ true
unfolding digits
double-bytes = refl

-- a local and a function are in two spaces
two-spaces : broken 0 rule.DoubleName (item.Head f i32 ((i32, Some f) ∷ []) ∷ item.End ∷ []) ≡ false
two-spaces = refl

double-type : broken 1 rule.DoubleName (item.TypeDef a i8 ∷ item.TypeDef a i8 ∷ []) ≡ true
double-type = refl

-- ---- NumberOrder

low-number : broken 2 rule.NumberOrder (function (set (Number 7) (add (local a) (local b)) ∷ set (Number 5) (add (local a) (local b)) ∷ [])) ≡ true
low-number = refl

high-number : broken 2 rule.NumberOrder (function (set (Number 7) (add (local a) (local b)) ∷ set (Number 8) (add (local a) (local b)) ∷ [])) ≡ false
high-number = refl

-- ---- ScalarWanted

struct-loaded : broken 1 rule.ScalarWanted (function (set c (op.Load (ty.Struct []) ptr opd.Null) ∷ [])) ≡ true
struct-loaded = refl

pointer-loaded : broken 1 rule.ScalarWanted (function (set c (op.Load ptr ptr opd.Null) ∷ [])) ≡ false
pointer-loaded = refl

-- a type without a definition counts as {}
unknown-parameter : broken 0 rule.ScalarWanted (item.Head f ty.Void ((ty.Named a, None) ∷ []) ∷ item.End ∷ []) ≡ true
unfolding named_type
unknown-parameter = refl

-- ---- UnknownName

unknown-local : broken 1 rule.UnknownName (function (set c (add (local a) (local f)) ∷ [])) ≡ true
unknown-local = refl

later-local : broken 1 rule.UnknownName (function (set c (add (local a) (local f)) ∷ set f (add (local a) (local b)) ∷ [])) ≡ false
later-local = refl

label-for-value : broken 1 rule.UnknownName (function (set c (add (local a) (local f)) ∷ item.Label f ∷ [])) ≡ true
label-for-value = refl

function-for-global : broken 1 rule.UnknownName (function (set c (op.Load i32 ptr (opd.Global f)) ∷ [])) ≡ true
function-for-global = refl

known-global : broken 2 rule.UnknownName (item.Global a false i32 (One (num 1)) ∷ function (set c (op.Load i32 ptr (opd.Global a)) ∷ [])) ≡ false
known-global = refl

-- ---- TypeDiffers

other-type : broken 1 rule.TypeDiffers (function (set c (op.Bin Add i64 (local a) (num 1)) ∷ [])) ≡ true
other-type = refl

same-type : broken 1 rule.TypeDiffers (function (set c (op.Bin Add i32 (local a) (num 1)) ∷ [])) ≡ false
same-type = refl

pointers-added : broken 1 rule.TypeDiffers (function (set c (op.Bin Add ptr opd.Null opd.Null) ∷ [])) ≡ true
pointers-added = refl

pointers-compared : broken 1 rule.TypeDiffers (function (set c (op.Cmp Eq ptr opd.Null opd.Null) ∷ [])) ≡ false
pointers-compared = refl

condition-of-i32 : broken 1 rule.TypeDiffers (function (run (op.Branch i32 (local a) b b) ∷ [])) ≡ true
condition-of-i32 = refl

stored-result : broken 2 rule.TypeDiffers (function (set c (op.Store i32 (num 1) ptr opd.Null) ∷ run (ret (local c)) ∷ [])) ≡ true
stored-result = refl

-- ---- LiteralRange

large-number : broken 1 rule.LiteralRange (function (set c (op.Bin Add i8 (num 256) (num 1)) ∷ [])) ≡ true
large-number = refl

largest-number : broken 1 rule.LiteralRange (function (set c (op.Bin Add i8 (num 255) (opd.Number (negsuc 127))) ∷ [])) ≡ false
largest-number = refl

small-number : broken 1 rule.LiteralRange (function (set c (op.Bin Add i8 (num 255) (opd.Number (negsuc 128))) ∷ [])) ≡ true
small-number = refl

-- ---- UnknownLabel and EntryTarget

unknown-label : broken 1 rule.UnknownLabel (function (run (op.Jump c) ∷ [])) ≡ true
unknown-label = refl

value-for-label : broken 1 rule.UnknownLabel (function (run (op.Jump a) ∷ [])) ≡ true
value-for-label = refl

later-label : broken 1 rule.UnknownLabel (function (run (op.Jump c) ∷ item.Label c ∷ [])) ≡ false
later-label = refl

to-first-block : broken 2 rule.EntryTarget (function (item.Label c ∷ run (op.Jump c) ∷ [])) ≡ true
to-first-block = refl

to-second-block : broken 1 rule.EntryTarget (function (run (op.Jump c) ∷ item.Label c ∷ [])) ≡ false
to-second-block = refl

-- ---- PhiPlace, PhiEntries and BlockOpen

phi-first : broken 1 rule.PhiPlace (function (set c (op.Phi i32 []) ∷ [])) ≡ true
phi-first = refl

-- br label %c; c: %d = phi i32 [ 1, %0 ]
abbrev looped : List (Opd × Name) → List Item
looped es = function (run (op.Jump c) ∷ item.Label c ∷ set (Text (codes "d")) (op.Phi i32 es) ∷ run (op.Branch i1 opd.True c c) ∷ [])

phi-later : broken 3 rule.PhiPlace (looped []) ≡ false
phi-later = refl

phi-behind : broken 4 rule.PhiPlace (function (run (op.Jump c) ∷ item.Label c ∷ set f (add (local a) (local b)) ∷ set (Number 1) (op.Phi i32 []) ∷ [])) ≡ true
phi-behind = refl

-- the first block is %0, and %c branches to itself
entries-right : broken 3 rule.PhiEntries (looped ((num 1, c) ∷ (num 2, Number 0) ∷ (num 1, c) ∷ [])) ≡ false
entries-right = refl

entries-missing : broken 3 rule.PhiEntries (looped ((num 1, c) ∷ [])) ≡ true
entries-missing = refl

entries-too-many : broken 3 rule.PhiEntries (function (run (op.Jump c) ∷ item.Label c ∷ set f (op.Phi i32 ((num 1, Number 0) ∷ (num 2, c) ∷ []))
    ∷ run (ret (num 0)) ∷ [])) ≡ true
entries-too-many = refl

entries-differ : broken 3 rule.PhiEntries (looped ((num 1, c) ∷ (num 2, Number 0) ∷ (opd.True, c) ∷ [])) ≡ true
entries-differ = refl

label-in-open-block : broken 2 rule.BlockOpen (function (set c (add (local a) (local b)) ∷ item.Label f ∷ [])) ≡ true
label-in-open-block = refl

label-behind-terminator : broken 2 rule.BlockOpen (function (run (ret (num 0)) ∷ item.Label f ∷ [])) ≡ false
label-behind-terminator = refl

first-label : broken 1 rule.BlockOpen (function (item.Label f ∷ [])) ≡ false
first-label = refl

end-in-open-block : broken 2 rule.BlockOpen (function (item.Label f ∷ [])) ≡ true
end-in-open-block = refl

no-block : broken 1 rule.BlockOpen (function []) ≡ true
no-block = refl

behind-terminator : broken 2 rule.BlockOpen (function (run (ret (num 0)) ∷ run (ret (num 0)) ∷ [])) ≡ true
behind-terminator = refl

-- ---- UnknownCallee, CallDiffers, ReturnDiffers and DeclareDiffers

abbrev abs : Name
abs = Text (codes "abs")

abbrev call-abs : List Item
call-abs = item.Declare abs i32 (i32 ∷ []) ∷ function (set c (op.Call i32 abs ((i32, local a) ∷ [])) ∷ run (ret (num 0)) ∷ [])

abbrev sign : PortSign
sign = record { name = codes "abs"; params = W32 ∷ []; result = Some W32 }

undeclared : broken 1 rule.UnknownCallee (function (set c (op.Call i32 abs []) ∷ [])) ≡ true
undeclared = refl

no-port : broken 2 rule.UnknownCallee call-abs ≡ true
no-port = refl

port : broken_in call-abs (sign ∷ []) 2 rule.UnknownCallee (slice_get call-abs 2) ≡ false
port = refl

itself : broken 1 rule.UnknownCallee (function (set c (op.Call i32 f []) ∷ [])) ≡ false
itself = refl

too-few-arguments : broken 1 rule.CallDiffers (function (set c (op.Call i32 f ((i32, local a) ∷ [])) ∷ [])) ≡ true
too-few-arguments = refl

its-arguments : broken 1 rule.CallDiffers (function (set c (op.Call i32 f ((i32, local a) ∷ (i32, local a) ∷ [])) ∷ [])) ≡ false
its-arguments = refl

other-result : broken 1 rule.CallDiffers (function (set c (op.Call i64 f ((i32, local a) ∷ (i32, local a) ∷ [])) ∷ [])) ≡ true
other-result = refl

no-result : broken 1 rule.ReturnDiffers (function (run (op.Ret None) ∷ [])) ≡ true
no-result = refl

long-result : broken 1 rule.ReturnDiffers (function (run (op.Ret (Some (i64, num 0))) ∷ [])) ≡ true
long-result = refl

its-result : broken 1 rule.ReturnDiffers (function (run (ret (num 0)) ∷ [])) ≡ false
its-result = refl

declared-otherwise : broken 0 rule.DeclareDiffers (item.Declare (Text (codes "putchar")) ty.Void (i32 ∷ []) ∷ []) ≡ true
declared-otherwise = refl

declared-well : broken 0 rule.DeclareDiffers (item.Declare (Text (codes "putchar")) i32 (i32 ∷ []) ∷ []) ≡ false
declared-well = refl

declared-port : broken_in (item.Declare abs i64 (i32 ∷ []) ∷ []) (sign ∷ []) 0 rule.DeclareDiffers (Some (item.Declare abs i64 (i32 ∷ []))) ≡ true
declared-port = refl

-- ---- SwitchCase, ResultName and CastWidth

abbrev switch : TyText → List (TyText × Opd × Name) → List Item
switch t cs = function (run (op.Switch t opd.Zero c cs) ∷ item.Label c ∷ [])

minus-one-again : broken 1 rule.SwitchCase (switch i8 ((i8, opd.Number (negsuc 0), c) ∷ (i8, num 255, c) ∷ [])) ≡ true
minus-one-again = refl

two-cases : broken 1 rule.SwitchCase (switch i8 ((i8, opd.Number (negsuc 0), c) ∷ (i8, num 254, c) ∷ [])) ≡ false
two-cases = refl

no-number : broken 1 rule.SwitchCase (switch i32 ((i32, opd.Undef, c) ∷ [])) ≡ true
no-number = refl

other-width : broken 1 rule.SwitchCase (switch i32 ((i8, num 1, c) ∷ [])) ≡ true
other-width = refl

true-again : broken 1 rule.SwitchCase (switch i1 ((i1, opd.True, c) ∷ (i1, num 1, c) ∷ [])) ≡ true
true-again = refl

store-with-result : broken 1 rule.ResultName (function (set c (op.Store i32 (num 1) ptr opd.Null) ∷ [])) ≡ true
store-with-result = refl

add-without-result : broken 1 rule.ResultName (function (run (add (local a) (local b)) ∷ [])) ≡ true
add-without-result = refl

call-without-result : broken 1 rule.ResultName (function (run (op.Call i32 f []) ∷ [])) ≡ false
call-without-result = refl

trunc-to-same : broken 1 rule.CastWidth (function (set c (op.Cast Trunc i32 (local a) i32) ∷ [])) ≡ true
trunc-to-same = refl

trunc-to-half : broken 1 rule.CastWidth (function (set c (op.Cast Trunc i32 (local a) (ty.Int W16)) ∷ [])) ≡ false
trunc-to-half = refl

zext-to-same : broken 1 rule.CastWidth (function (set c (op.Cast ZExt i32 (local a) i32) ∷ [])) ≡ true
zext-to-same = refl

pointer-to-i8 : broken 1 rule.CastWidth (function (set c (op.Cast PtrToInt ptr opd.Null i8) ∷ [])) ≡ false
pointer-to-i8 = refl
