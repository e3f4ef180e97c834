-- Escaped texts are character data.
use Rattle.std.proofs.Common.{◌≡◌, ℕ, ◌+◌, ◌<◌, Bool, List, [], ◌∷◌, ◌++◌, refl, sym, ap, subst, ◌∙◌, arith}
use Rattle.std.specs.Prelude.{◌≤◌, ◌/◌, ◌%◌, ◌==◌, nat_lt, ◌||◌, All, codes, cond}
use Rattle.std.proofs.lemmas.Bool.{cond_both, or_parts, eqb-false, ltb-false, ltb-true}
use Rattle.std.proofs.lemmas.List.Elements.{All-head, All-tail}
use Rattle.html_page.specs.Escaped.{hex_digit, hex_of, escaped_byte, escaped, IsPlain, IsCharacterData, nothing, plain, reference}

-- ---- hexadecimal digits

low : (d : ℕ) → 48 ≤ d → d ≤ 57 → IsPlain d
low d lo hi = record {
  printed = omega (arith, lo);
  ascii = omega (arith, hi);
  less = λ e. absurd (omega (arith, e, hi));
  greater = λ e. absurd (omega (arith, e, hi));
  ampersand = λ e. absurd (omega (arith, e, lo));
  quote = λ e. absurd (omega (arith, e, lo));
  apostrophe = λ e. absurd (omega (arith, e, lo));
}

high : (d : ℕ) → 65 ≤ d → d ≤ 70 → IsPlain d
high d lo hi = record {
  printed = omega (arith, lo);
  ascii = omega (arith, hi);
  less = λ e. absurd (omega (arith, e, lo));
  greater = λ e. absurd (omega (arith, e, lo));
  ampersand = λ e. absurd (omega (arith, e, lo));
  quote = λ e. absurd (omega (arith, e, lo));
  apostrophe = λ e. absurd (omega (arith, e, lo));
}

backslash : IsPlain 92
backslash = record {
  printed = omega arith;
  ascii = omega arith;
  less = λ e. absurd (omega (arith, e));
  greater = λ e. absurd (omega (arith, e));
  ampersand = λ e. absurd (omega (arith, e));
  quote = λ e. absurd (omega (arith, e));
  apostrophe = λ e. absurd (omega (arith, e));
}

digit : (n : ℕ) → n < 16 → IsPlain (hex_digit n)
digit n h =
    cond_both (nat_lt n 10) (48 + n) (55 + n) IsPlain
    (λ t. let b = ltb-true n 10 t in low (48 + n) (omega arith) (omega (arith, b)))
    (λ f. let b = ltb-false n 10 f in high (55 + n) (omega (arith, b)) (omega (arith, h)))

in_hex : (b : ℕ) (more : List ℕ) → b < 256 → IsCharacterData more → IsCharacterData (hex_of b ++ more)
in_hex b more h g =
    let first : b / 16 < 16 = omega (arith, h) in
    let second : b % 16 < 16 = omega arith in
    plain 92 _ backslash (plain (hex_digit (b / 16)) _ (digit (b / 16) first) (plain (hex_digit (b % 16)) more (digit (b % 16) second) g))

-- ---- bytes

as_it_is : (b : ℕ) → (b ≡ 60 → ⊥) → (b ≡ 62 → ⊥) → (b ≡ 38 → ⊥) → (b ≡ 34 → ⊥) → (b ≡ 39 → ⊥) → 32 ≤ b → b ≤ 126 → IsPlain b
as_it_is b l g a q p lo hi = record { printed = lo; ascii = hi; less = l; greater = g; ampersand = a; quote = q; apostrophe = p }

one_byte : (b : ℕ) (more : List ℕ) → b < 256 → IsCharacterData more → IsCharacterData (escaped_byte b ++ more)
one_byte b more h g =
    let P : List ℕ → Type 0 = λ t. IsCharacterData (t ++ more) in
    cond_both (b == 60) _ _ P (λ t. reference (codes "&lt;") more (0, omega arith, refl) g)
    (λ l. cond_both (b == 62) _ _ P (λ t. reference (codes "&gt;") more (1, omega arith, refl) g)
    (λ r. cond_both (b == 38) _ _ P (λ t. reference (codes "&amp;") more (2, omega arith, refl) g)
    (λ a. cond_both (b == 34) _ _ P (λ t. reference (codes "&quot;") more (3, omega arith, refl) g)
    (λ q. cond_both (b == 39) _ _ P (λ t. reference (codes "&#39;") more (4, omega arith, refl) g)
    (λ p. cond_both (nat_lt b 32 || nat_lt 126 b) _ _ P (λ t. in_hex b more h g)
    (λ f. let s = or_parts (nat_lt b 32) (nat_lt 126 b) f in
    plain b more (as_it_is b (eqb-false b 60 l) (eqb-false b 62 r) (eqb-false b 38 a) (eqb-false b 34 q) (eqb-false b 39 p) (ltb-false b 32 s.0)
    (ltb-false 126 b s.1)) g))))))

pub character-data : (text : List ℕ) → All (λ b. b < 256) text → IsCharacterData (escaped text)
character-data [] h = nothing
character-data (b ∷ bs) h =
    one_byte b (escaped bs) (All-head (λ x. x < 256) b bs h) (character-data bs (All-tail (λ x. x < 256) b bs h))
