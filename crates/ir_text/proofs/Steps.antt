-- A sheet that grows by the tokens of a list, one part after the other.
use Rattle.std.proofs.Common.{◌≡◌, false, cond, ◌==◌, eqb-true, ℕ, zero, suc, ◌+◌, ◌<◌, List, [], ◌∷◌, ◌++◌, map, take, get_or, length, refl, sym, ap, ◌∙◌}
use Rattle.std.proofs.Common.{arith}
use Rattle.std.proofs.lemmas.Bool.{false_from_ne_true}
use Rattle.std.proofs.lemmas.List.{append_assoc, append-nil}
use Rattle.ir_grammar.specs.Lexeme.{Lexeme, Lexemes}
use Rattle.ir_text.specs.declared.sheet.Sheet.{Sheet}
use Rattle.ir_text.specs.Spelling.{comma}
use Rattle.ir_text.specs.Parts.{joined, behind_commas, with_commas, comma_before}
use Rattle.ir_text.specs.Printing.{with_token, with_tokens}

pub tokens-append : (s : Sheet) (a b : Lexemes) → with_tokens s (a ++ b) ≡ with_tokens (with_tokens s a) b
unfolding with_tokens
tokens-append s [] b = refl
tokens-append s (l ∷ a) b = tokens-append (with_token s l) a b

-- nothing more
pub done : (s : Sheet) → s ≡ with_tokens s []
unfolding with_tokens
done s = refl

-- a token, and then more
pub step : (s t u : Sheet) (l : Lexeme) (ls : Lexemes) → t ≡ with_token s l → u ≡ with_tokens t ls → u ≡ with_tokens s (l ∷ ls)
unfolding with_tokens
step s t u l ls e f = f ∙ ap (λ v. with_tokens v ls) e

-- the last token
pub last : (s t : Sheet) (l : Lexeme) → t ≡ with_token s l → t ≡ with_tokens s (l ∷ [])
last s t l e = step s t t l [] e (done t)

-- a part, and then more
pub part : (s t u : Sheet) (a b : Lexemes) → t ≡ with_tokens s a → u ≡ with_tokens t b → u ≡ with_tokens s (a ++ b)
part s t u a b e f = f ∙ ap (λ v. with_tokens v b) e ∙ sym (tokens-append s a b)

-- ---- lists

-- a part more of a list
joined_more : {A : Type 0} (f : A → Lexemes) (xs : List A) (i : ℕ) (d : A) → i < length xs → joined (map f (take (i + 1) xs)) ≡ joined (map f (take i xs)) ++ f
    (get_or xs i d)
joined_more f [] i d h = absurd (omega arith)
joined_more f (x ∷ xs) zero d h = append-nil (f x)
joined_more f (x ∷ xs) (suc i) d h =
    let e : suc i + 1 ≡ suc (i + 1) = omega arith in
    ap (λ n. joined (map f (take n (x ∷ xs)))) e ∙ ap (λ ls. f x ++ ls) (joined_more f xs i d (omega arith))
    ∙ sym (append_assoc (f x) (joined (map f (take i xs))) (f (get_or xs i d)))

behind_more : {A : Type 0} (f : A → Lexemes) (xs : List A) (i : ℕ) (d : A) → i < length xs → behind_commas (map f (take (i + 1) xs)) ≡ behind_commas
    (map f (take i xs)) ++ (comma ∷ f (get_or xs i d))
behind_more f [] i d h = absurd (omega arith)
behind_more f (x ∷ xs) zero d h = append-nil (comma ∷ f x)
behind_more f (x ∷ xs) (suc i) d h =
    let e : suc i + 1 ≡ suc (i + 1) = omega arith in
    ap (λ n. behind_commas (map f (take n (x ∷ xs)))) e ∙ ap (λ ls. (comma ∷ f x) ++ ls) (behind_more f xs i d (omega arith))
    ∙ sym (append_assoc (comma ∷ f x) (behind_commas (map f (take i xs))) (comma ∷ f (get_or xs i d)))

not_first : (i : ℕ) → (suc i == 0) ≡ false
not_first i = false_from_ne_true _ (λ e. let same = eqb-true (suc i) 0 e in absurd (omega arith))

with_commas_more : {A : Type 0} (f : A → Lexemes) (xs : List A) (i : ℕ) (d : A) → i < length xs → with_commas (map f (take (i + 1) xs)) ≡ with_commas
    (map f (take i xs)) ++ (comma_before i ++ f (get_or xs i d))
with_commas_more f [] i d h = absurd (omega arith)
with_commas_more f (x ∷ xs) zero d h = append-nil (f x)
with_commas_more f (x ∷ xs) (suc i) d h =
    let e : suc i + 1 ≡ suc (i + 1) = omega arith in
    ap (λ n. with_commas (map f (take n (x ∷ xs)))) e ∙ ap (λ ls. f x ++ ls) (behind_more f xs i d (omega arith))
    ∙ sym (append_assoc (f x) (behind_commas (map f (take i xs))) (comma ∷ f (get_or xs i d)))
    ∙ ap (λ b. (f x ++ behind_commas (map f (take i xs))) ++ (cond b [] (comma ∷ []) ++ f (get_or xs i d))) (sym (not_first i))

-- a turn of a loop over a list with commas between
pub commas_turn : {A : Type 0} (f : A → Lexemes) (xs : List A) (i : ℕ) (x : A) (s t u v : Sheet) → i < length xs → x ≡ get_or xs i x
    → t ≡ with_tokens s (with_commas (map f (take i xs))) → u ≡ with_tokens t (comma_before i) → v ≡ with_tokens u (f x)
    → v ≡ with_tokens s (with_commas (map f (take (i + 1) xs)))
commas_turn f xs i x s t u v h e a b c =
    part s t v (with_commas (map f (take i xs))) (comma_before i ++ f x) a (part t u v (comma_before i) (f x) b c)
    ∙ ap (λ y. with_tokens s (with_commas (map f (take i xs)) ++ (comma_before i ++ f y))) e ∙ ap (with_tokens s) (sym (with_commas_more f xs i x h))

-- of one over a list in which each element is behind a comma
pub behind_turn : {A : Type 0} (f : A → Lexemes) (xs : List A) (i : ℕ) (x : A) (s t u v : Sheet) → i < length xs → x ≡ get_or xs i x
    → t ≡ with_tokens s (behind_commas (map f (take i xs))) → u ≡ with_token t comma → v ≡ with_tokens u (f x)
    → v ≡ with_tokens s (behind_commas (map f (take (i + 1) xs)))
behind_turn f xs i x s t u v h e a b c =
    part s t v (behind_commas (map f (take i xs))) (comma ∷ f x) a (step t u v comma (f x) b c)
    ∙ ap (λ y. with_tokens s (behind_commas (map f (take i xs)) ++ (comma ∷ f y))) e ∙ ap (with_tokens s) (sym (behind_more f xs i x h))

-- and of one over a list with nothing between
pub joined_turn : {A : Type 0} (f : A → Lexemes) (xs : List A) (i : ℕ) (x : A) (s t v : Sheet) → i < length xs → x ≡ get_or xs i x
    → t ≡ with_tokens s (joined (map f (take i xs))) → v ≡ with_tokens t (f x) → v ≡ with_tokens s (joined (map f (take (i + 1) xs)))
joined_turn f xs i x s t v h e a c =
    part s t v (joined (map f (take i xs))) (f x) a c
    ∙ ap (λ y. with_tokens s (joined (map f (take i xs)) ++ f y)) e ∙ ap (with_tokens s) (sym (joined_more f xs i x h))
