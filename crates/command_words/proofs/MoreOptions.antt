-- One more option in front.
use Rattle.std.proofs.Common.{◌≡◌, ℕ, ◌+◌, Bool, true, false, ◌&&◌, if◌then◌else◌, List, ◌∷◌, Option, Some, None, refl, ap, ◌∙◌, arith, zero-add, count_by}
use Rattle.std.specs.Option.{option_map}
use Rattle.std.specs.Prelude.{cond}
use Rattle.std.proofs.lemmas.Bool.Decides.{nat_tests}
use Rattle.std.proofs.lemmas.List.Sums.{sum_by-cons}
use Rattle.command_words.specs.Words.{Text, is_within, and_more, are_allowed, allowed_among, options_among, with_option, without}
use Rattle.command_words.specs.Words.{is_budget_option, is_order_option, is_splits_option}
use Rattle.command_words.specs.declared.options.Allowed.{Allowed}
use Rattle.command_words.specs.declared.options.Given.{Given}
use Rattle.command_words.specs.declared.options.Given.TheVariants.{Budget, Order, Splits}
use Rattle.command_words.specs.declared.options.Options.{Options}

-- what may stand, once one stood
within_more : (b : Bool) (n : ℕ) → is_within b (1 + n) ≡ (b && is_within false n)
within_more true n = grind (arith, nat_tests)
within_more false n = grind (arith, nat_tests)

-- a flag in the second and in the third place
second : (a b c : Bool) → (a && (b && c)) ≡ (b && (a && c))
second true b c = refl
second false true c = refl
second false false c = refl

assoc : (a b c : Bool) → ((a && b) && c) ≡ (a && (b && c))
assoc true b c = refl
assoc false b c = refl

-- what the options behind one say, with what it says
abbrev pub behind : Option Allowed → Given Text → Option (List (Given Text)) → Option (Options Text)
behind None one more = None
behind (Some left) one more = option_map (with_option one) (allowed_among left more)

behind_none : (left : Option Allowed) (one : Given Text) → behind left one None ≡ None
behind_none None one = refl
behind_none (Some left) one = refl

-- one option may stand, and the others behind it
checked : (may t : Bool) (left : Allowed) (one : Given Text) (given : List (Given Text)) → t ≡ are_allowed left given
    → (if (may && t) then Some (with_option one (options_among given)) else None) ≡ behind (if may then Some left else None) one (Some given)
checked false t left one given e = refl
checked true t left one given e =
    rw e (elim (are_allowed left given) as (λ b. (if b then Some (with_option one (options_among given)) else None)
    ≡ option_map (with_option one) (if b then Some (options_among given) else None)) [ true ↦ refl | false ↦ refl ])

choice : {A : Type 0} (s t : Bool) (x : Option A) → s ≡ t → (if s then x else None) ≡ (if t then x else None)
choice s t x e = ap (λ b. if b then x else None) e

budgets : (a b c : Bool) (k m n k' m' n' : ℕ) → k' ≡ 1 + k → m' ≡ 0 + m → n' ≡ 0 + n → (is_within a k' && (is_within b m' && is_within c n'))
    ≡ (a && (is_within false k && (is_within b m && is_within c n)))
budgets a b c k m n k' m' n' e f g = rw (e, f, g, within_more a k, zero-add m, zero-add n) (assoc a (is_within false k) (is_within b m && is_within c n))

orders : (a b c : Bool) (k m n k' m' n' : ℕ) → k' ≡ 0 + k → m' ≡ 1 + m → n' ≡ 0 + n → (is_within a k' && (is_within b m' && is_within c n'))
    ≡ (b && (is_within a k && (is_within false m && is_within c n)))
orders a b c k m n k' m' n' e f g =
    rw (e, f, g, within_more b m, zero-add k, zero-add n, assoc b (is_within false m) (is_within c n)) (second (is_within a k) b (is_within false m && is_within c n))

splits : (a b c : Bool) (k m n k' m' n' : ℕ) → k' ≡ 0 + k → m' ≡ 0 + m → n' ≡ 1 + n → (is_within a k' && (is_within b m' && is_within c n'))
    ≡ (c && (is_within a k && (is_within b m && is_within false n)))
splits a b c k m n k' m' n' e f g =
    rw (e, f, g, within_more c n, zero-add k, zero-add m)
    (ap (λ t. is_within a k && t) (second (is_within b m) c (is_within false n)) ∙ second (is_within a k) c (is_within b m && is_within false n))

counted : (p : Given Text → Bool) (one : Given Text) (given : List (Given Text)) → count_by p (one ∷ given) ≡ cond (p one) 1 0 + count_by p given
counted p one given = sum_by-cons (λ x. cond (p x) 1 0) one given

pub one_more : (may : Allowed) (one : Given Text) (more : Option (List (Given Text)))
    → allowed_among may (and_more (Some one) more) ≡ behind (without may one) one more
one_more may (Budget w) None = let e = behind_none (without may (Budget w)) (Budget w) in rw e refl
one_more may (Order w) None = let e = behind_none (without may (Order w)) (Order w) in rw e refl
one_more may Splits None = let e = behind_none (without may Splits) Splits in rw e refl
one_more may (Budget w) (Some given) =
    choice _ _ (Some (with_option (Budget w) (options_among given)))
    (budgets may.budget may.order may.splits (count_by is_budget_option given) (count_by is_order_option given) (count_by is_splits_option given)
    (count_by is_budget_option (Budget w ∷ given)) (count_by is_order_option (Budget w ∷ given)) (count_by is_splits_option (Budget w ∷ given))
    (counted is_budget_option (Budget w) given) (counted is_order_option (Budget w) given) (counted is_splits_option (Budget w) given))
    ∙ checked may.budget (are_allowed (record may { budget = false }) given) (record may { budget = false }) (Budget w) given refl
one_more may (Order w) (Some given) =
    choice _ _ (Some (with_option (Order w) (options_among given)))
    (orders may.budget may.order may.splits (count_by is_budget_option given) (count_by is_order_option given) (count_by is_splits_option given)
    (count_by is_budget_option (Order w ∷ given)) (count_by is_order_option (Order w ∷ given)) (count_by is_splits_option (Order w ∷ given))
    (counted is_budget_option (Order w) given) (counted is_order_option (Order w) given) (counted is_splits_option (Order w) given))
    ∙ checked may.order (are_allowed (record may { order = false }) given) (record may { order = false }) (Order w) given refl
one_more may Splits (Some given) =
    choice _ _ (Some (with_option Splits (options_among given)))
    (splits may.budget may.order may.splits (count_by is_budget_option given) (count_by is_order_option given) (count_by is_splits_option given)
    (count_by is_budget_option (Splits ∷ given)) (count_by is_order_option (Splits ∷ given)) (count_by is_splits_option (Splits ∷ given))
    (counted is_budget_option Splits given) (counted is_order_option Splits given) (counted is_splits_option Splits given))
    ∙ checked may.splits (are_allowed (record may { splits = false }) given) (record may { splits = false }) Splits given refl
