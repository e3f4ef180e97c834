-- One more digit.
use Rattle.std.proofs.Common.{◌≡◌, ℕ, ◌+◌, ◌<◌, List, ◌∷◌, ◌++◌, length, drop, get_or, sym, ap, ◌∙◌, arith, append_assoc, append-nil, length-drop}
use Rattle.std.specs.Prelude.{◌-◌, ◌≤◌}
use Rattle.std.proofs.lemmas.List.{drop_more, drop_all}
use Rattle.html_page.specs.Numbers.{digit_text, grouped}

-- what is left begins with a digit
grouped_more : (ds : List ℕ) (k : ℕ) → k < length ds
    → grouped (drop k ds) ≡ digit_text (get_or ds k 0) (length ds - 1 - k) ++ grouped (drop (k + 1) ds)
grouped_more ds k h =
    let size : length (drop (k + 1) ds) ≡ length ds - 1 - k = (let l = length-drop (k + 1) ds in omega (arith, l, h)) in
    ap grouped (drop_more ds k 0 h) ∙ ap (λ n. digit_text (get_or ds k 0) n ++ grouped (drop (k + 1) ds)) size

pub digit_turn : (ds out more start : List ℕ) (k : ℕ) → k < length ds → out ++ grouped (drop k ds) ≡ start ++ grouped ds
    → more ≡ out ++ digit_text (get_or ds k 0) (length ds - 1 - k) → more ++ grouped (drop (k + 1) ds) ≡ start ++ grouped ds
digit_turn ds out more start k h so_far is =
    ap (λ t. t ++ grouped (drop (k + 1) ds)) is ∙ append_assoc out (digit_text (get_or ds k 0) (length ds - 1 - k)) (grouped (drop (k + 1) ds))
    ∙ ap (λ t. out ++ t) (sym (grouped_more ds k h)) ∙ so_far

pub all_digits : (ds out start : List ℕ) (k : ℕ) → length ds ≤ k → out ++ grouped (drop k ds) ≡ start ++ grouped ds → out ≡ start ++ grouped ds
all_digits ds out start k h so_far =
    sym (append-nil out) ∙ ap (λ l. out ++ grouped l) (sym (drop_all k ds h)) ∙ so_far
