-- One more row of an instruction.
use Rattle.std.proofs.Common.{◌≡◌, ℕ, ◌+◌, ◌<◌, List, [], ◌∷◌, ◌++◌, length, drop, get_or, sym, ap, ◌∙◌, append_assoc, append-nil}
use Rattle.std.specs.Prelude.{◌≤◌}
use Rattle.std.proofs.lemmas.List.{drop_more, drop_all}
use Rattle.kill_matrix.specs.Score.{Letters}
use Rattle.instruction_list.specs.declared.line.Line.{Line}
use Rattle.html_page.specs.declared.listed.Listed.{Listed}
use Rattle.html_page.specs.Instructions.{line_row, rows_from}

module _ (grid : Letters) (all : List Listed) (lines : List Line) (out start : List ℕ) (k : ℕ) where
  pub row-turn : (more : List ℕ) (line : Line) → k < length lines → line ≡ get_or lines k line
      → out ++ rows_from grid all k (drop k lines) ≡ start ++ rows_from grid all 0 lines → more ≡ out ++ line_row grid all k line
      → more ++ rows_from grid all (k + 1) (drop (k + 1) lines) ≡ start ++ rows_from grid all 0 lines
  row-turn more line h e so_far is =
      let rest = rows_from grid all (k + 1) (drop (k + 1) lines) in
      ap (λ t. t ++ rest) is ∙ append_assoc out (line_row grid all k line) rest
      ∙ ap (λ ls. out ++ rows_from grid all k ls) (ap (λ l. l ∷ drop (k + 1) lines) e ∙ sym (drop_more lines k line h)) ∙ so_far

  pub all-rows : length lines ≤ k → out ++ rows_from grid all k (drop k lines) ≡ start ++ rows_from grid all 0 lines
      → out ≡ start ++ rows_from grid all 0 lines
  all-rows h so_far = sym (append-nil out) ∙ ap (λ ls. out ++ rows_from grid all k ls) (sym (drop_all k lines h)) ∙ so_far
