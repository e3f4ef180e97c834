-- The budget of a command is from 1 to MAX_BUDGET.
use Rattle.std.proofs.Common.{◌≡◌, ℕ, ◌≤◌, Bool, true, false, ◌&&◌, if◌then◌else◌, List, [], ◌∷◌, codes, nat_le, Option, Some, None, refl, subst}
use Rattle.std.specs.Option.{option_map}
use Rattle.std.specs.Str.{bytes_eq}
use Rattle.std.proofs.lemmas.Bool.{and_parts, leb-true}
use Rattle.am_base.specs.declared.limits.TheConstants.{MAX_BUDGET}
use Rattle.command_words.specs.declared.command.Command.{Command}
use Rattle.command_words.specs.declared.command.Command.TheVariants.{Run, Check, Make, Alone, Groups, Reduce, Load}
use Rattle.command_words.specs.declared.command.Files.{Files}
use Rattle.command_words.specs.declared.options.Allowed.{Allowed}
use Rattle.command_words.specs.declared.options.Options.{Options}
use Rattle.command_words.specs.declared.options.Given.{Given}
use Rattle.command_words.specs.declared.options.Given.TheVariants.{Budget, Order, Splits}
use Rattle.command_words.specs.Words.{Text, IsBudget, budget_of, number_in, is_budget, budget_in, valued, and_more, given_by, are_allowed, with_option, options_among, allowed_among, options_in, may_stand, files_named, run_with, run_of, only_word, check_of, make_of, alone_with, alone_of, groups_with, groups_of, reduce_with, reduce_of, number_among, load_of, command_of}

-- ---- what holds of a thing if there is one

abbrev Each : {A : Type 0} → (A → Type 0) → Option A → Type 0
Each Is None = Unit {0}
Each Is (Some x) = Is x

either : {A : Type 0} (Is : A → Type 0) (b : Bool) (x y : A) → Is x → Is y → Is (if b then x else y)
either Is true x y h k = h
either Is false x y h k = k

mapped : {A B : Type 0} (f : A → B) (Was : A → Type 0) (Is : B → Type 0) → ((x : A) → Was x → Is (f x)) → (o : Option A) → Each Was o
    → Each Is (option_map f o)
mapped f Was Is to None h = tt
mapped f Was Is to (Some x) h = to x h

abbrev Any : Text → Type 0
Any word = Unit {0}

any : (o : Option Text) → Each Any o
any None = tt
any (Some word) = tt

-- ---- options

within : (n : ℕ) (b : Bool) → (nat_le 1 n && nat_le n MAX_BUDGET) ≡ b → Each IsBudget (if b then Some n else None)
within n true e = let parts = and_parts (nat_le 1 n) (nat_le n MAX_BUDGET) e in (leb-true 1 n parts.0, leb-true n MAX_BUDGET parts.1)
within n false e = tt

budget_is : (o : Option ℕ) → Each IsBudget (is_budget o)
budget_is None = tt
budget_is (Some n) = within n (nat_le 1 n && nat_le n MAX_BUDGET) refl

abbrev IsFineOption : Given Text → Type 0
IsFineOption (Budget n) = IsBudget n
IsFineOption (Order name) = Unit {0}
IsFineOption Splits = Unit {0}

abbrev AreFine : List (Given Text) → Type 0
AreFine [] = Unit {0}
AreFine (one ∷ more) = IsFineOption one × AreFine more

valued_is : (word value : Text) → Each IsFineOption (valued word value)
valued_is word value =
    either (Each IsFineOption) (bytes_eq word (codes "--budget")) (option_map Budget (budget_in value))
    (if bytes_eq word (codes "--order") then Some (Order value) else None)
    (mapped Budget IsBudget IsFineOption (λ n h. h) (budget_in value) (budget_is (number_in value)))
    (either (Each IsFineOption) (bytes_eq word (codes "--order")) (Some (Order value)) None tt tt)

and_more_is : (one : Option (Given Text)) (more : Option (List (Given Text))) → Each IsFineOption one → Each AreFine more → Each AreFine (and_more one more)
and_more_is None more h k = tt
and_more_is (Some one) None h k = tt
and_more_is (Some one) (Some more) h k = (h, k)

given_is : (words : List Text) → Each AreFine (given_by words)
given_is [] = tt
given_is (word ∷ []) = either (Each AreFine) (bytes_eq word (codes "--splits")) (Some (Splits ∷ [])) None (tt, tt) tt
given_is (word ∷ value ∷ words) =
    either (Each AreFine) (bytes_eq word (codes "--splits")) (and_more (Some Splits) (given_by (value ∷ words))) (and_more (valued word value) (given_by words))
    (and_more_is (Some Splits) (given_by (value ∷ words)) tt (given_is (value ∷ words)))
    (and_more_is (valued word value) (given_by words) (valued_is word value) (given_is words))

abbrev AreFineOptions : Options Text → Type 0
AreFineOptions options = Each IsBudget options.budget

with_is : (one : Given Text) (options : Options Text) → IsFineOption one → AreFineOptions options → AreFineOptions (with_option one options)
with_is (Budget n) options h k = h
with_is (Order name) options h k = k
with_is Splits options h k = k

among_is : (given : List (Given Text)) → AreFine given → AreFineOptions (options_among given)
among_is [] h = tt
among_is (one ∷ more) h = with_is one (options_among more) h.0 (among_is more h.1)

allowed_is : (may : Allowed) (given : Option (List (Given Text))) → Each AreFine given → Each AreFineOptions (allowed_among may given)
allowed_is may None h = tt
allowed_is may (Some given) h =
    either (Each AreFineOptions) (are_allowed may given) (Some (options_among given)) None (among_is given h) tt

options_are : (may : Allowed) (words : List Text) → Each AreFineOptions (options_in may words)
options_are may words = allowed_is may (given_by words) (given_is words)

-- ---- commands

abbrev IsFine : Command Text → Type 0
IsFine command = Each IsBudget (budget_of command)

run_is : (words : List Text) → Each IsFine (run_of words)
run_is (first ∷ second ∷ third ∷ options) =
    mapped (run_with (files_named first second third)) AreFineOptions IsFine (λ o h. h) (options_in (may_stand true true true) options)
    (options_are (may_stand true true true) options)
run_is [] = tt
run_is (first ∷ []) = tt
run_is (first ∷ second ∷ []) = tt

check_is : (words : List Text) → Each IsFine (check_of words)
check_is words = mapped Check Any IsFine (λ name h. h) (only_word words) (any (only_word words))

make_is : (words : List Text) → Each IsFine (make_of words)
make_is words = mapped Make Any IsFine (λ name h. h) (only_word words) (any (only_word words))

alone_with_is : (files : Files Text) (mutant test : Option ℕ) (options : Option (Options Text)) → Each AreFineOptions options
    → Each IsFine (alone_with files mutant test options)
alone_with_is files (Some mutant) (Some test) (Some options) h = h
alone_with_is files (Some mutant) (Some test) None h = tt
alone_with_is files (Some mutant) None options h = tt
alone_with_is files None test options h = tt

alone_is : (words : List Text) → Each IsFine (alone_of words)
alone_is (first ∷ second ∷ third ∷ mutant ∷ test ∷ options) =
    alone_with_is (files_named first second third) (number_in mutant) (number_in test) (options_in (may_stand true false false) options)
    (options_are (may_stand true false false) options)
alone_is [] = tt
alone_is (a ∷ []) = tt
alone_is (a ∷ b ∷ []) = tt
alone_is (a ∷ b ∷ c ∷ []) = tt
alone_is (a ∷ b ∷ c ∷ d ∷ []) = tt

groups_with_is : (files : Files Text) (test step : Option ℕ) (options : Option (Options Text)) → Each AreFineOptions options
    → Each IsFine (groups_with files test step options)
groups_with_is files (Some test) (Some step) (Some options) h = h
groups_with_is files (Some test) (Some step) None h = tt
groups_with_is files (Some test) None options h = tt
groups_with_is files None step options h = tt

groups_is : (words : List Text) → Each IsFine (groups_of words)
groups_is (first ∷ second ∷ third ∷ test ∷ step ∷ options) =
    groups_with_is (files_named first second third) (number_in test) (number_in step) (options_in (may_stand true true false) options)
    (options_are (may_stand true true false) options)
groups_is [] = tt
groups_is (a ∷ []) = tt
groups_is (a ∷ b ∷ []) = tt
groups_is (a ∷ b ∷ c ∷ []) = tt
groups_is (a ∷ b ∷ c ∷ d ∷ []) = tt

reduce_is : (words : List Text) → Each IsFine (reduce_of words)
reduce_is (first ∷ second ∷ third ∷ options) =
    mapped (reduce_with (files_named first second third)) AreFineOptions IsFine (λ o h. h) (options_in (may_stand true true false) options)
    (options_are (may_stand true true false) options)
reduce_is [] = tt
reduce_is (first ∷ []) = tt
reduce_is (first ∷ second ∷ []) = tt

load_with_is : (number : Option ℕ) → Each IsFine (option_map Load number)
load_with_is None = tt
load_with_is (Some n) = tt

load_is : (words : List Text) → Each IsFine (load_of words)
load_is words = load_with_is (number_among (only_word words))

command_is : (words : List Text) → Each IsFine (command_of words)
command_is [] = tt
command_is (name ∷ words) =
    let load = either (Each IsFine) (bytes_eq name (codes "load")) (load_of words) None (load_is words) tt in
    let reduce = either (Each IsFine) (bytes_eq name (codes "reduce")) (reduce_of words) _ (reduce_is words) load in
    let groups = either (Each IsFine) (bytes_eq name (codes "groups")) (groups_of words) _ (groups_is words) reduce in
    let alone = either (Each IsFine) (bytes_eq name (codes "alone")) (alone_of words) _ (alone_is words) groups in
    let make = either (Each IsFine) (bytes_eq name (codes "make")) (make_of words) _ (make_is words) alone in
    let check = either (Each IsFine) (bytes_eq name (codes "check")) (check_of words) _ (check_is words) make in
    either (Each IsFine) (bytes_eq name (codes "run")) (run_of words) _ (run_is words) check

pub budget_within : (words : List Text) (command : Command Text) (n : ℕ) → command_of words ≡ Some command → budget_of command ≡ Some n → IsBudget n
budget_within words command n e b =
    let fine : IsFine command = subst (Each IsFine) e (command_is words) in
    subst (Each IsBudget) b fine
