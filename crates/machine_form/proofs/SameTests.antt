-- The test of changes is equality.
use Rattle.std.proofs.Common.{◌≡◌, ℕ, Bool, true, false, ◌&&◌, List, [], ◌∷◌, Option, Some, None, arith, ap, sym, refl}
use Rattle.std.specs.Prelude.{◌==◌}
use Rattle.std.specs.Cmp.Lexicographic.{pointwise}
use Rattle.std.proofs.lemmas.Bool.Decides.{nat_tests}
use Rattle.am_base.specs.declared.outcome.Ending.{Ending}
use Rattle.am_base.specs.declared.outcome.Ending.TheVariants.{Return, Exit, Trap as Trapped, Budget}
use Rattle.am_base.specs.declared.outcome.Trap.{Trap}
use Rattle.am_base.specs.declared.outcome.Trap.TheVariants.{DivideByZero, DivideOverflow, AddressRange, ConstantWrite, UnsetRegister, Unreachable, Abort}
use Rattle.am_base.specs.declared.outcome.Trap.TheVariants.{DepthFull, RegistersFull, MemoryFull, OutputFull, PortRefused}
use Rattle.code_form.specs.declared.code.Code.{Code}
use Rattle.code_form.specs.Variant.{Table}
use Rattle.traces.specs.Meanings.{IsSameTest}
use Rattle.machine_form.specs.declared.change.Change.{Change}
use Rattle.machine_form.specs.declared.change.Control.{Control}
use Rattle.machine_form.specs.declared.change.Control.TheVariants.{Next, Jump, Enter, Leave, End}
use Rattle.machine_form.specs.Same.{same_bool, same_option, same_pair, same_trap, same_ending, same_control, same_change}
use Rattle.machine_form.specs.Calls.{Answers}
use Rattle.machine_form.specs.Machine.{machine_of}

-- ---- truth values and numbers

first_true : (a b : Bool) → (a && b) ≡ true → a ≡ true
first_true true b e = refl
first_true false b e = cc

second_true : (a b : Bool) → (a && b) ≡ true → b ≡ true
second_true true b e = e
second_true false b e = cc

both_true : (a b : Bool) → a ≡ true → b ≡ true → (a && b) ≡ true
both_true true b e d = d
both_true false b e d = cc

same_number : (x y : ℕ) → (x == y) ≡ true → x ≡ y
same_number x y e = grind (arith, nat_tests)

number_itself : (x : ℕ) → (x == x) ≡ true
number_itself x = grind (arith, nat_tests)

-- ---- the parts of a change

bool_sound : (a b : Bool) → same_bool a b ≡ true → a ≡ b
bool_sound true b e = sym e
bool_sound false true e = cc
bool_sound false false e = refl

bool_itself : (a : Bool) → same_bool a a ≡ true
bool_itself true = refl
bool_itself false = refl

option_sound : (o p : Option ℕ) → same_option o p ≡ true → o ≡ p
option_sound None None e = refl
option_sound None (Some y) e = cc
option_sound (Some x) None e = cc
option_sound (Some x) (Some y) e = ap Some (same_number x y e)

option_itself : (o : Option ℕ) → same_option o o ≡ true
option_itself None = refl
option_itself (Some x) = number_itself x

pair_sound : (x y : ℕ × ℕ) → same_pair x y ≡ true → x ≡ y
pair_sound x y e =
    let first : x.0 ≡ y.0 = same_number x.0 y.0 (first_true (x.0 == y.0) (x.1 == y.1) e) in
    let second : x.1 ≡ y.1 = same_number x.1 y.1 (second_true (x.0 == y.0) (x.1 == y.1) e) in
    λ i. (first i, second i)

pairs_sound : (xs ys : List (ℕ × ℕ)) → pointwise same_pair xs ys ≡ true → xs ≡ ys
pairs_sound [] [] e = refl
pairs_sound [] (y ∷ ys) e = cc
pairs_sound (x ∷ xs) [] e = cc
pairs_sound (x ∷ xs) (y ∷ ys) e =
    let first : x ≡ y = pair_sound x y (first_true (same_pair x y) (pointwise same_pair xs ys) e) in
    let rest : xs ≡ ys = pairs_sound xs ys (second_true (same_pair x y) (pointwise same_pair xs ys) e) in
    λ i. first i ∷ rest i

pairs_itself : (xs : List (ℕ × ℕ)) → pointwise same_pair xs xs ≡ true
pairs_itself [] = refl
pairs_itself (x ∷ xs) =
    both_true (same_pair x x) (pointwise same_pair xs xs) (both_true (x.0 == x.0) (x.1 == x.1) (number_itself x.0) (number_itself x.1)) (pairs_itself xs)

trap_sound : (t u : Trap) → same_trap t u ≡ true → t ≡ u
trap_sound DivideByZero DivideByZero e = refl
trap_sound DivideOverflow DivideOverflow e = refl
trap_sound AddressRange AddressRange e = refl
trap_sound ConstantWrite ConstantWrite e = refl
trap_sound UnsetRegister UnsetRegister e = refl
trap_sound Unreachable Unreachable e = refl
trap_sound Abort Abort e = refl
trap_sound DepthFull DepthFull e = refl
trap_sound RegistersFull RegistersFull e = refl
trap_sound MemoryFull MemoryFull e = refl
trap_sound OutputFull OutputFull e = refl
trap_sound PortRefused PortRefused e = refl
trap_sound _ _ e = cc

trap_itself : (t : Trap) → same_trap t t ≡ true
trap_itself DivideByZero = refl
trap_itself DivideOverflow = refl
trap_itself AddressRange = refl
trap_itself ConstantWrite = refl
trap_itself UnsetRegister = refl
trap_itself Unreachable = refl
trap_itself Abort = refl
trap_itself DepthFull = refl
trap_itself RegistersFull = refl
trap_itself MemoryFull = refl
trap_itself OutputFull = refl
trap_itself PortRefused = refl

ending_sound : (d e : Ending) → same_ending d e ≡ true → d ≡ e
ending_sound (Return x) (Return y) h = ap Return (option_sound x y h)
ending_sound (Exit x) (Exit y) h = ap Exit (same_number x y h)
ending_sound (Trapped t) (Trapped u) h = ap Trapped (trap_sound t u h)
ending_sound Budget Budget h = refl
ending_sound _ _ h = cc

ending_itself : (e : Ending) → same_ending e e ≡ true
ending_itself (Return x) = option_itself x
ending_itself (Exit x) = number_itself x
ending_itself (Trapped t) = trap_itself t
ending_itself Budget = refl

control_sound : (c d : Control) → same_control c d ≡ true → c ≡ d
control_sound Next Next h = refl
control_sound (Jump b) (Jump d) h = ap Jump (same_number b d h)
control_sound (Enter f) (Enter g) h = ap Enter (same_number f g h)
control_sound Leave Leave h = refl
control_sound (End d) (End e) h = ap End (ending_sound d e h)
control_sound _ _ h = cc

control_itself : (c : Control) → same_control c c ≡ true
control_itself Next = refl
control_itself (Jump b) = number_itself b
control_itself (Enter f) = number_itself f
control_itself Leave = refl
control_itself (End e) = ending_itself e

-- ---- the whole

change_sound : (c d : Change) → same_change c d ≡ true → c ≡ d
change_sound c d h =
    let five = first_true _ (same_control c.control d.control) h in
    let four = first_true _ (same_bool c.took d.took) five in
    let three = first_true _ (same_option c.put d.put) four in
    let two = first_true _ (c.top == d.top) three in
    let writes : c.writes ≡ d.writes =
    pairs_sound c.writes d.writes (first_true (pointwise same_pair c.writes d.writes) (pointwise same_pair c.bytes d.bytes) two) in
    let bytes : c.bytes ≡ d.bytes = pairs_sound c.bytes d.bytes (second_true (pointwise same_pair c.writes d.writes) (pointwise same_pair c.bytes d.bytes) two)
    in
    let top : c.top ≡ d.top = same_number c.top d.top (second_true _ (c.top == d.top) three) in
    let put : c.put ≡ d.put = option_sound c.put d.put (second_true _ (same_option c.put d.put) four) in
    let took : c.took ≡ d.took = bool_sound c.took d.took (second_true _ (same_bool c.took d.took) five) in
    let control : c.control ≡ d.control = control_sound c.control d.control (second_true _ (same_control c.control d.control) h) in
    λ i. record { writes = writes i; bytes = bytes i; top = top i; put = put i; took = took i; control = control i }

change_itself : (c : Change) → same_change c c ≡ true
change_itself c =
    both_true _ (same_control c.control c.control)
    (both_true _ (same_bool c.took c.took)
    (both_true _ (same_option c.put c.put)
    (both_true _ (c.top == c.top) (both_true (pointwise same_pair c.writes c.writes) (pointwise same_pair c.bytes c.bytes) (pairs_itself c.writes)
    (pairs_itself c.bytes)) (number_itself c.top))
    (option_itself c.put))
    (bool_itself c.took))
    (control_itself c.control)

pub machine_same : (code : Code) (table : Table) (answers : Answers) → IsSameTest (machine_of code table answers)
machine_same code table answers = record { sound = change_sound; complete = change_itself }
