-- The words in place of a word, and their signed values.
use Rattle.std.proofs.Common.{◌≡◌, ℕ, zero, suc, ◌+◌, ◌-◌, ◌%◌, ◌^◌, ◌<◌, ◌≤◌, true, false, List, [], ◌∷◌, ◌++◌, refl, sym, ap, ◌∙◌, subst, arith}
use Rattle.std.proofs.Common.{ℤ, pos, negsuc, nat_lt, ◌==◌, ◌-ℤ◌, Option, Some, None, map}
use Rattle.std.specs.List.{list_any}
use Rattle.std.proofs.lemmas.Bool.{cond_both, lt-ltb, ltb-false}
use Rattle.std.proofs.lemmas.Bool.Decides.{Decides-eqb}
use Rattle.std.proofs.Math.Nat.{mod-lt, mod-eq_of_lt}
use Rattle.std.proofs.lemmas.Nat.{pow_pos}
use Rattle.am_base.specs.declared.word.Width.{Width}
use Rattle.am_base.specs.declared.word.Width.TheVariants.{W1, W8, W16, W32, W64}
use Rattle.am_base.specs.Word.{bits_of, signed, word_of}
use Rattle.code_form.specs.declared.code.TyScalar.{TyScalar}
use Rattle.code_form.specs.declared.code.TyScalar.TheVariants.{Int, Ptr}
use Rattle.ir_tree.specs.declared.operand.Opd.{Opd}
use Rattle.ir_tree.specs.declared.operand.Opd.TheVariants as opd
use Rattle.ir_rules.specs.Operands.{fits}
use Rattle.ir_text.specs.ReadBack.{IsWide}
use Rattle.mutant_maker.specs.Makers.{with_word, new_words, is_wide, new_numbers}
use Rattle.ir_sound.proofs.Lists.{Each, none-each, each-weaker, each-append, map-each}

-- ---- signed values

minus : (a b : ℕ) → a < b → (pos a -ℤ pos b) ≡ negsuc (b - suc a)
minus a zero h = absurd (omega arith)
minus a (suc b) h = rw (lt-ltb a (suc b) h) refl

small : (w : Width) → 2 ^ bits_of w ≤ 2 ^ 64
small W1 = omega arith
small W8 = omega arith
small W16 = omega arith
small W32 = omega arith
small W64 = omega arith

twice : (w : Width) → 2 ^ bits_of w ≡ 2 ^ (bits_of w - 1) + 2 ^ (bits_of w - 1)
twice W1 = refl
twice W8 = refl
twice W16 = refl
twice W32 = refl
twice W64 = refl

-- the number fits the width, its word is the word, and it can be written
pub record IsSigned (w : Width) (a : ℕ) (z : ℤ) : Type 0 where
  pub fits_in : fits w z ≡ true
  pub word : word_of w z ≡ a
  pub wide : IsWide z

low : (w : Width) (a : ℕ) → a < 2 ^ bits_of w → IsSigned w a (pos a)
low w a h = let most = small w in record { fits_in = lt-ltb a (2 ^ bits_of w) h; word = mod-eq_of_lt h; wide = omega arith }

high : (w : Width) (a : ℕ) → a < 2 ^ bits_of w → 2 ^ (bits_of w - 1) ≤ a → IsSigned w a (negsuc (2 ^ bits_of w - suc a))
high w a h g =
    let most = small w in
    let two = twice w in
    let below : 2 ^ bits_of w - suc a < 2 ^ bits_of w = omega arith in
    let value : (2 ^ bits_of w - suc a) % 2 ^ bits_of w ≡ 2 ^ bits_of w - suc a = mod-eq_of_lt below in
    record {
      fits_in = lt-ltb (2 ^ bits_of w - suc a) (2 ^ (bits_of w - 1)) (omega arith);
      word = ap (λ m. 2 ^ bits_of w - suc m) value ∙ omega arith;
      wide = omega arith;
    }

pub signed-is : (w : Width) (a : ℕ) → a < 2 ^ bits_of w → IsSigned w a (signed w a)
signed-is w a h = cond_both (nat_lt a (2 ^ (bits_of w - 1))) (pos a) (pos a -ℤ pos (2 ^ bits_of w)) (IsSigned w a) (λ _. low w a h)
    (λ e. subst (IsSigned w a) (sym (minus a (2 ^ bits_of w) h)) (high w a h (ltb-false a (2 ^ (bits_of w - 1)) e)))

-- ---- different ones

abbrev pub Differ : {X : Type 0} → X → X → Type 0
Differ x y = x ≡ y → ⊥

abbrev pub AllDiffer : {X : Type 0} → List X → Type 0
AllDiffer [] = Unit {0}
AllDiffer (x ∷ xs) = Each (Differ x) xs × AllDiffer xs

snoc-differ : {X : Type 0} (xs : List X) (y : X) → AllDiffer xs → Each (λ x. Differ x y) xs → AllDiffer (xs ++ y ∷ [])
snoc-differ [] y h g = (tt, tt)
snoc-differ (x ∷ xs) y (h, hs) (g, gs) = (each-append (Differ x) xs (y ∷ []) h (g, tt), snoc-differ xs y hs gs)

-- ---- the words in place of a word

-- words of the width other than the old one
abbrev pub IsOther : Width → ℕ → ℕ → Type 0
IsOther w old a = (a < 2 ^ bits_of w) × Differ a old

pub record AreOthers (w : Width) (old : ℕ) (words : List ℕ) : Type 0 where
  pub each : Each (IsOther w old) words
  pub differ : AllDiffer words

unequal : (a b : ℕ) → (a == b) ≡ false → Differ a b
unequal a b e same = let yes = (Decides-eqb a b).1 same in cc

more : (w : Width) (old new : ℕ) (words : List ℕ) → new < 2 ^ bits_of w → AreOthers w old words → AreOthers w old (with_word old words new)
more w old new words h k = cond_both (list_any (λ a. a == new) (old ∷ words)) words (words ++ new ∷ []) (AreOthers w old) (λ _. k)
    (λ e. let none = none-each (λ a. a == new) (old ∷ words) e in record {
      each = each-append (IsOther w old) words (new ∷ []) k.each ((h, λ same. unequal old new none.0 (sym same)), tt);
      differ = snoc-differ words new k.differ (each-weaker _ (λ x. Differ x new) (λ x n. unequal x new n) words none.1);
    })

one-fits : (w : Width) → 1 < 2 ^ bits_of w
one-fits W1 = omega arith
one-fits W8 = omega arith
one-fits W16 = omega arith
one-fits W32 = omega arith
one-fits W64 = omega arith

pub new_words-others : (w : Width) (a : ℕ) → AreOthers w a (new_words w a)
new_words-others w a =
    let full = pow_pos (bits_of w) in
    let one = one-fits w in
    more w a 1 _ one (more w a 0 _ (omega arith) (more w a _ _ (mod-lt _ full) (more w a _ [] (mod-lt _ full) (record { each = tt; differ = tt }))))

-- a number gets the signed values of these words, or none, and another operand gets none
pub new-cases : (Q : List ℤ → Type 0) (k : Option TyScalar) (x : Opd) → Q [] → ((w : Width) (z : ℤ) → k ≡ Some (Int w) → x ≡ opd.Number z
    → Q (map (signed w) (new_words w (word_of w z)))) → Q (new_numbers k x)
new-cases Q None x none some' = none
new-cases Q (Some Ptr) x none some' = none
new-cases Q (Some (Int w)) (opd.Number z) none some' = cond_both (is_wide w) (map (signed w) (new_words w (word_of w z))) [] Q (λ _. some' w z refl refl) (λ _. none)
new-cases Q (Some (Int w)) (opd.Local n) none some' = none
new-cases Q (Some (Int w)) (opd.Global n) none some' = none
new-cases Q (Some (Int w)) opd.True none some' = none
new-cases Q (Some (Int w)) opd.False none some' = none
new-cases Q (Some (Int w)) opd.Null none some' = none
new-cases Q (Some (Int w)) opd.Undef none some' = none
new-cases Q (Some (Int w)) opd.Poison none some' = none
new-cases Q (Some (Int w)) opd.Zero none some' = none
new-cases Q (Some (Int w)) (opd.Get g) none some' = none

pub new-wide : (k : Option TyScalar) (x : Opd) → Each IsWide (new_numbers k x)
new-wide k x = new-cases (Each IsWide) k x tt (λ w z _ _. map-each IsWide (signed w) _ (each-weaker (IsOther w (word_of w z)) _
    (λ a h. (signed-is w a h.0).wide) _ (new_words-others w (word_of w z)).each))
