-- What is in a set of numbers, and whether two words of a list are equal.
use Rattle.std.proofs.Common.{◌≡◌, ℕ, ◌+◌, ◌<◌, length, map, take, get_or, Bool, true, false, ◌||◌, ◌&&◌, List, [], ◌∷◌, ◌++◌, Option, Some, None, if◌then◌else◌, nat_eq, refl, sym, ap, ◌∙◌}
use Rattle.std.specs.List.{list_any, list_all, fold}
use Rattle.std.proofs.lemmas.List.{take_more, map-append}
use Rattle.std.proofs.lemmas.List.Sums.{fold-append}
use Rattle.std.proofs.lemmas.Bool.Decides.{Decides-eqb}
use Rattle.ir_rules.specs.Blocks.{has, same_set}
use Rattle.ir_rules.specs.Paths.{same_word, two_equal}
use Rattle.ir_call_rules.specs.Numbers.{with_number, set_of, has_word, with_word}
use Rattle.ir_call_rules.proofs.Tests.{nor, or-true, or_assoc, exchanged, any-last, eq-sym}

-- ---- sets

pub has-number : (ns : List ℕ) (a b : ℕ) → has (with_number ns a) b ≡ (has ns b || nat_eq b a)
has-number ns a b = by (has ns a) refl
  where
    known : has ns a ≡ true → (u : Bool) → nat_eq b a ≡ u → has ns b ≡ (has ns b || u)
    known e true f = (ap (has ns) ((Decides-eqb b a).0 f) ∙ e) ∙ sym (or-true (has ns b))
    known e false f = sym (nor (has ns b))

    by : (t : Bool) → has ns a ≡ t → has (if t then ns else ns ++ a ∷ []) b ≡ (has ns b || nat_eq b a)
    by true e = known e (nat_eq b a) refl
    by false e = any-last (nat_eq b) ns a

has-numbers : (ns xs : List ℕ) (b : ℕ) → has (fold with_number ns xs) b ≡ (has ns b || has xs b)
has-numbers ns [] b = sym (nor (has ns b))
has-numbers ns (x ∷ xs) b = has-numbers (with_number ns x) xs b ∙ ap (λ u. u || has xs b) (has-number ns x b) ∙ or_assoc (has ns b) (nat_eq b x) (has xs b)

-- a number is in the set of some numbers where it is one of them
pub has-set : (xs : List ℕ) → ◌≡◌ {A = ℕ → Bool} (has (set_of xs)) (has xs)
has-set xs = λ i b. has-numbers [] xs b i

pub sets-same : (ms ns : List ℕ) → (list_all (has (set_of ns)) ms && list_all (has (set_of ms)) ns) ≡ same_set ms ns
sets-same ms ns = λ i. list_all (has-set ns i) ms && list_all (has-set ms i) ns

-- ---- words

has-with_word : (ns : List ℕ) (v w : Option ℕ) → has_word (with_word ns v) w ≡ (has_word ns w || same_word v w)
has-with_word ns None None = refl
has-with_word ns None (Some b) = sym (nor (has ns b))
has-with_word ns (Some a) None = refl
has-with_word ns (Some a) (Some b) = has-number ns a b ∙ ap (λ u. has ns b || u) (eq-sym b a)

has-words : (ns : List ℕ) (vs : List (Option ℕ)) (w : Option ℕ) → has_word (fold with_word ns vs) w ≡ (has_word ns w || list_any (λ v. same_word v w) vs)
has-words ns [] w = sym (nor (has_word ns w))
has-words ns (v ∷ vs) w =
    has-words (with_word ns v) vs w
    ∙ ap (λ u. u || list_any (λ v. same_word v w) vs) (has-with_word ns v w)
    ∙ or_assoc (has_word ns w) (same_word v w) (list_any (λ v. same_word v w) vs)

no-word : (w : Option ℕ) → has_word [] w ≡ false
no-word None = refl
no-word (Some n) = refl

equal-last : (ws : List (Option ℕ)) (w : Option ℕ) → two_equal (ws ++ w ∷ []) ≡ (two_equal ws || list_any (λ v. same_word v w) ws)
equal-last [] w = refl
equal-last (v ∷ ws) w =
    ap (λ u. u || two_equal (ws ++ w ∷ [])) (any-last (same_word v) ws w)
    ∙ ap (λ u. (list_any (same_word v) ws || same_word v w) || u) (equal-last ws w)
    ∙ exchanged (list_any (same_word v) ws) (same_word v w) (two_equal ws) (list_any (λ v. same_word v w) ws)

-- with one word more two are equal, if two were or the word was there
pub equal-more : (ws : List (Option ℕ)) (w : Option ℕ) → two_equal (ws ++ w ∷ []) ≡ (two_equal ws || has_word (fold with_word [] ws) w)
equal-more ws w =
    equal-last ws w
    ∙ ap (λ u. two_equal ws || u) (sym (has-words [] ws w ∙ ap (λ u. u || list_any (λ v. same_word v w) ws) (no-word w)))

module _ {X : Type 0} (f : X → Option ℕ) (xs : List X) (i : ℕ) (x : X) (h : i < length xs) (e : x ≡ get_or xs i x) where
  taken : map f (take (i + 1) xs) ≡ map f (take i xs) ++ f x ∷ []
  taken = ap (map f) (take_more xs i x h ∙ ap (λ y. take i xs ++ y ∷ []) (sym e)) ∙ map-append f (take i xs) (x ∷ [])

  pub words-more : with_word (fold with_word [] (map f (take i xs))) (f x) ≡ fold with_word [] (map f (take (i + 1) xs))
  words-more = sym (ap (fold with_word []) taken ∙ fold-append with_word [] (map f (take i xs)) (f x ∷ []))

  pub equal-turn : (two_equal (map f (take i xs)) || has_word (fold with_word [] (map f (take i xs))) (f x)) ≡ two_equal (map f (take (i + 1) xs))
  equal-turn = sym (ap two_equal taken ∙ equal-more (map f (take i xs)) (f x))
