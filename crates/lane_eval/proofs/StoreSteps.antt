-- One more byte of a store.
use Rattle.std.proofs.Common.{◌≡◌, ◌≢◌, ℕ, suc, ◌+◌, ◌-◌, ◌/◌, ◌%◌, ◌<◌, List, [], ◌∷◌, ◌++◌, get_or, arith, sym, ◌∙◌, ap, append_assoc}
use Rattle.std.proofs.lemmas.Bool.Decides.{nat_tests}
use Rattle.machine_form.specs.Straight.{bytes_from, differing}

step : (bytes : List ℕ) (at rest k : ℕ) → get_or bytes at 0 ≢ rest % 256 → differing bytes at (bytes_from (suc k) rest) ≡ (at, rest % 256) ∷ differing bytes (at + 1) (bytes_from k (rest / 256))
step bytes at rest k h = grind (arith, nat_tests)

skip : (bytes : List ℕ) (at rest k : ℕ) → get_or bytes at 0 ≡ rest % 256 → differing bytes at (bytes_from (suc k) rest) ≡ differing bytes (at + 1) (bytes_from k (rest / 256))
skip bytes at rest k h = grind (arith, nat_tests)

pub stored : (bytes : List ℕ) (ws : List (ℕ × ℕ)) (all : List (ℕ × ℕ)) (at i len rest : ℕ) → i < len → get_or bytes (at + i) 0 ≢ rest % 256 →
    ws ++ differing bytes (at + i) (bytes_from (len - i) rest) ≡ all → (ws ++ (at + i, rest % 256) ∷ []) ++ differing bytes (at + (i + 1)) (bytes_from (len - (i + 1)) (rest / 256)) ≡ all
stored bytes ws all at i len rest h ne e =
    let k : suc (len - (i + 1)) ≡ len - i = omega arith in
    let n : at + (i + 1) ≡ at + i + 1 = omega arith in
    append_assoc ws ((at + i, rest % 256) ∷ []) (differing bytes (at + (i + 1)) (bytes_from (len - (i + 1)) (rest / 256)))
    ∙ ap (λ (m : ℕ). ws ++ ((at + i, rest % 256) ∷ differing bytes m (bytes_from (len - (i + 1)) (rest / 256)))) n
    ∙ ap (λ d. ws ++ d) (sym (step bytes (at + i) rest (len - (i + 1)) ne))
    ∙ ap (λ (m : ℕ). ws ++ differing bytes (at + i) (bytes_from m rest)) k
    ∙ e

pub skipped : (bytes : List ℕ) (ws : List (ℕ × ℕ)) (all : List (ℕ × ℕ)) (at i len rest : ℕ) → i < len → get_or bytes (at + i) 0 ≡ rest % 256 →
    ws ++ differing bytes (at + i) (bytes_from (len - i) rest) ≡ all → ws ++ differing bytes (at + (i + 1)) (bytes_from (len - (i + 1)) (rest / 256)) ≡ all
skipped bytes ws all at i len rest h same e =
    let k : suc (len - (i + 1)) ≡ len - i = omega arith in
    let n : at + (i + 1) ≡ at + i + 1 = omega arith in
    ap (λ (m : ℕ). ws ++ differing bytes m (bytes_from (len - (i + 1)) (rest / 256))) n
    ∙ ap (λ d. ws ++ d) (sym (skip bytes (at + i) rest (len - (i + 1)) same))
    ∙ ap (λ (m : ℕ). ws ++ differing bytes (at + i) (bytes_from m rest)) k
    ∙ e
