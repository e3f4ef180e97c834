-- Which words are a command: its name, then the names of its files, whatever they look like, and its numbers by position, and then options in any
-- order, each at most once.
--
--     run MODULE MUTANTS TESTS          --budget N, --order NAME, --splits
--     check MODULE
--     make MODULE
--     alone MODULE MUTANTS TESTS M T    --budget N
--     groups MODULE MUTANTS TESTS T N   --budget N, --order NAME
--     reduce MODULE MUTANTS TESTS       --budget N, --order NAME
--     load N
--
-- No other words are a command.
use Rattle.std.specs.Prelude.{◌≡◌, ℕ, ◌≤◌, List, [], ◌∷◌, Bool, true, false, not, ◌&&◌, ◌==◌, nat_le}
use Rattle.std.specs.Prelude.{if◌then◌else◌, Option, Some, None, codes, length, map, count_by, unwrap_or, String, string_bytes}
use Rattle.std.specs.Option.{option_map, option_copied}
use Rattle.std.specs.Str.{bytes_eq}
use Rattle.std.specs.Str.Parse.{digits_value}
use Rattle.std.specs.declared.alloc.Global.{Global}
use denote.Ref.{Bor}
use Rattle.am_base.specs.declared.limits.TheConstants.{MAX_BUDGET}
use Rattle.ir_tokens.specs.Tokens.{is_digits}
use Rattle.command_words.specs.declared.command.Command.{Command}
use Rattle.command_words.specs.declared.command.Command.TheVariants.{Run, Check, Make, Alone, Groups, Reduce, Load}
use Rattle.command_words.specs.declared.command.Files.{Files}
use Rattle.command_words.specs.declared.options.Allowed.{Allowed}
use Rattle.command_words.specs.declared.options.Options.{Options}
use Rattle.command_words.specs.declared.options.Given.{Given}
use Rattle.command_words.specs.declared.options.Given.TheVariants.{Budget, Order, Splits}

-- the bytes of a word
abbrev pub Text : Type 0
Text = List ℕ

abbrev pub texts_of : List (String Global) → List Text
texts_of words = map (λ word. string_bytes word) words

-- ---- numbers

abbrev pub has_leading_zero : Text → Bool
has_leading_zero [] = false
has_leading_zero (first ∷ []) = false
has_leading_zero (first ∷ next ∷ rest) = first == 48

-- 1 to 10 digits without a leading zero, or `0`
abbrev pub is_number : Text → Bool
is_number word = is_digits word && (nat_le (length word) 10 && not (has_leading_zero word))

abbrev pub number_in : Text → Option ℕ
number_in word = if is_number word then Some (digits_value 10 word) else None

-- a number from 1 to MAX_BUDGET
abbrev pub is_budget : Option ℕ → Option ℕ
is_budget None = None
is_budget (Some n) = if (nat_le 1 n && nat_le n MAX_BUDGET) then Some n else None

abbrev pub budget_in : Text → Option ℕ
budget_in word = is_budget (number_in word)

-- ---- options

abbrev pub is_budget_option : Given Text → Bool
is_budget_option (Budget n) = true
is_budget_option (Order name) = false
is_budget_option Splits = false

abbrev pub is_order_option : Given Text → Bool
is_order_option (Budget n) = false
is_order_option (Order name) = true
is_order_option Splits = false

abbrev pub is_splits_option : Given Text → Bool
is_splits_option (Budget n) = false
is_splits_option (Order name) = false
is_splits_option Splits = true

-- the option that a word and its value are
abbrev pub valued : Text → Text → Option (Given Text)
valued word value =
    if bytes_eq word (codes "--budget") then option_map Budget (budget_in value) else if bytes_eq word (codes "--order") then Some (Order value) else None

abbrev pub and_more : Option (Given Text) → Option (List (Given Text)) → Option (List (Given Text))
and_more None more = None
and_more (Some one) None = None
and_more (Some one) (Some more) = Some (one ∷ more)

-- the options that words are, one after another
abbrev pub given_by : List Text → Option (List (Given Text))
given_by [] = Some []
given_by (word ∷ []) = if bytes_eq word (codes "--splits") then Some (Splits ∷ []) else None
given_by (word ∷ value ∷ words) =
    if bytes_eq word (codes "--splits") then and_more (Some Splits) (given_by (value ∷ words)) else and_more (valued word value) (given_by words)

-- the words begin with an option
abbrev pub IsNextOption : List Text → Given Text → List Text → Type 0
IsNextOption words given rest = given_by words ≡ and_more (Some given) (given_by rest)

-- an option that may stand, may stand once
abbrev pub is_within : Bool → ℕ → Bool
is_within true count = nat_le count 1
is_within false count = count == 0

abbrev pub are_allowed : Allowed → List (Given Text) → Bool
are_allowed may given =
    is_within may.budget (count_by is_budget_option given) && (is_within may.order (count_by is_order_option given)
    && is_within may.splits (count_by is_splits_option given))

abbrev pub no_options : Options Text
no_options = record { budget = None; order = None; splits = false }

abbrev pub with_option : Given Text → Options Text → Options Text
with_option (Budget n) options = record options { budget = Some n }
with_option (Order name) options = record options { order = Some name }
with_option Splits options = record options { splits = true }

-- what options say together
abbrev pub options_among : List (Given Text) → Options Text
options_among [] = no_options
options_among (one ∷ more) = with_option one (options_among more)

-- what options say, where they may stand
abbrev pub allowed_among : Allowed → Option (List (Given Text)) → Option (Options Text)
allowed_among may None = None
allowed_among may (Some given) = if are_allowed may given then Some (options_among given) else None

-- what words say as options
abbrev pub options_in : Allowed → List Text → Option (Options Text)
options_in may words = allowed_among may (given_by words)

-- what may stand behind an option
abbrev pub without : Allowed → Given Text → Option Allowed
without may (Budget n) = if may.budget then Some (record may { budget = false }) else None
without may (Order name) = if may.order then Some (record may { order = false }) else None
without may Splits = if may.splits then Some (record may { splits = false }) else None

-- ---- commands

abbrev pub files_named : Text → Text → Text → Files Text
files_named first second third = record { «module» = first; mutants = second; tests = third }

abbrev pub may_stand : Bool → Bool → Bool → Allowed
may_stand budget order splits = record { budget = budget; order = order; splits = splits }

abbrev pub run_with : Files Text → Options Text → Command Text
run_with files options = Run files options.budget options.order options.splits

abbrev pub run_of : List Text → Option (Command Text)
run_of (first ∷ second ∷ third ∷ options) = option_map (run_with (files_named first second third)) (options_in (may_stand true true true) options)
run_of _ = None

-- the one word
abbrev pub only_word : List Text → Option Text
only_word (first ∷ []) = Some first
only_word _ = None

abbrev pub check_of : List Text → Option (Command Text)
check_of words = option_map Check (only_word words)

abbrev pub make_of : List Text → Option (Command Text)
make_of words = option_map Make (only_word words)

abbrev pub alone_with : Files Text → Option ℕ → Option ℕ → Option (Options Text) → Option (Command Text)
alone_with files (Some mutant) (Some test) (Some options) = Some (Alone files mutant test options.budget)
alone_with files _ _ _ = None

abbrev pub alone_of : List Text → Option (Command Text)
alone_of (first ∷ second ∷ third ∷ mutant ∷ test ∷ options) =
    alone_with (files_named first second third) (number_in mutant) (number_in test) (options_in (may_stand true false false) options)
alone_of _ = None

abbrev pub groups_with : Files Text → Option ℕ → Option ℕ → Option (Options Text) → Option (Command Text)
groups_with files (Some test) (Some step) (Some options) = Some (Groups files test step options.budget options.order)
groups_with files _ _ _ = None

abbrev pub groups_of : List Text → Option (Command Text)
groups_of (first ∷ second ∷ third ∷ test ∷ step ∷ options) =
    groups_with (files_named first second third) (number_in test) (number_in step) (options_in (may_stand true true false) options)
groups_of _ = None

abbrev pub reduce_with : Files Text → Options Text → Command Text
reduce_with files options = Reduce files options.budget options.order

abbrev pub reduce_of : List Text → Option (Command Text)
reduce_of (first ∷ second ∷ third ∷ options) =
    option_map (reduce_with (files_named first second third)) (options_in (may_stand true true false) options)
reduce_of _ = None

-- the number that a word is, if there is one
abbrev pub number_among : Option Text → Option ℕ
number_among None = None
number_among (Some word) = number_in word

abbrev pub load_of : List Text → Option (Command Text)
load_of words = option_map Load (number_among (only_word words))

-- the budget that a command states for the tests that state none
abbrev pub budget_of : Command Text → Option ℕ
budget_of (Run files budget order splits) = budget
budget_of (Check name) = None
budget_of (Make name) = None
budget_of (Alone files mutant test budget) = budget
budget_of (Groups files test step budget order) = budget
budget_of (Reduce files budget order) = budget
budget_of (Load number) = None

abbrev pub IsBudget : ℕ → Type 0
IsBudget n = (1 ≤ n) × (n ≤ MAX_BUDGET)

-- the command that words are
abbrev pub command_of : List Text → Option (Command Text)
command_of [] = None
command_of (name ∷ words) =
    if bytes_eq name (codes "run") then run_of words else
    if bytes_eq name (codes "check") then check_of words else
    if bytes_eq name (codes "make") then make_of words else
    if bytes_eq name (codes "alone") then alone_of words else
    if bytes_eq name (codes "groups") then groups_of words else
    if bytes_eq name (codes "reduce") then reduce_of words else
    if bytes_eq name (codes "load") then load_of words else None

-- ---- pickers

abbrev pub order_or_depth : Option Text → Text
order_or_depth order = unwrap_or order (codes "depth")

-- the name of the picker that a command wants
abbrev pub wanted : Command Text → Option Text
wanted (Run files budget order splits) = Some (order_or_depth order)
wanted (Check name) = None
wanted (Make name) = None
wanted (Alone files mutant test budget) = None
wanted (Groups files test step budget order) = Some (order_or_depth order)
wanted (Reduce files budget order) = Some (order_or_depth order)
wanted (Load number) = Some (codes "depth")

-- ---- the same with the bytes of names

abbrev pub files_meant : Files (Bor Text) → Files Text
files_meant files = files_named files.module.now files.mutants.now files.tests.now

abbrev pub given_meant : Given (Bor Text) → Given Text
given_meant (Budget n) = Budget n
given_meant (Order name) = Order name.now
given_meant Splits = Splits

abbrev pub options_meant : Options (Bor Text) → Options Text
options_meant options = record { budget = options.budget; order = option_copied options.order; splits = options.splits }

abbrev pub meant : Command (Bor Text) → Command Text
meant (Run files budget order splits) = Run (files_meant files) budget (option_copied order) splits
meant (Check name) = Check name.now
meant (Make name) = Make name.now
meant (Alone files mutant test budget) = Alone (files_meant files) mutant test budget
meant (Groups files test step budget order) = Groups (files_meant files) test step budget (option_copied order)
meant (Reduce files budget order) = Reduce (files_meant files) budget (option_copied order)
meant (Load number) = Load number
