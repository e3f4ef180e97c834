-- Which letters say that a test kills a mutant.
use Rattle.std.proofs.Common.{◌≡◌, ℕ, ◌<◌, ◌≤◌, Bool, true, false, ◌&&◌, ◌==◌, not, [], length, get_or, refl, sym, ap, ◌∙◌, arith, slice_get, nat_lt}
use Rattle.std.specs.Prelude.{unwrap_or}
use Rattle.std.proofs.lemmas.Bool.{ne_eqb, le-ltb, lt-ltb}
use Rattle.std.proofs.lemmas.Option.{unwrap_or-slice_get}
use Rattle.std.proofs.lemmas.List.{get_or_past}
use Rattle.kill_matrix.specs.declared.letter.Letter.TheVariants.{Same}
use Rattle.kill_matrix.specs.Verdict.{kills}
use Rattle.kill_matrix.specs.Score.{Letters, letter_of}
use Rattle.suite_reduce.specs.Kills.{is_killed_by}

and_no : (b : Bool) → (b && false) ≡ false
and_no true = refl
and_no false = refl

same_letter : (grid : Letters) (m t : ℕ) → letter_of grid m t ≡ Same → is_killed_by grid m t ≡ false
unfolding is_killed_by
same_letter grid m t e = ap (λ l. (not (m == 0) && nat_lt m grid.mutants) && kills l) e ∙ and_no (not (m == 0) && nat_lt m grid.mutants)

letter_at : (grid : Letters) (m t : ℕ) → letter_of grid m t ≡ get_or (get_or grid.tests t []) m Same
letter_at grid m t = unwrap_or-slice_get (unwrap_or (slice_get grid.tests t) []) m Same ∙ ap (λ row. get_or row m Same) (unwrap_or-slice_get grid.tests t [])

-- a test that there isn't kills nothing
pub no_test : (grid : Letters) (m t : ℕ) → length grid.tests ≤ t → is_killed_by grid m t ≡ false
no_test grid m t h = same_letter grid m t (letter_at grid m t ∙ ap (λ row. get_or row m Same) (get_or_past grid.tests t [] h) ∙ get_or_past [] m Same (omega arith))

-- nor is a mutant killed that there isn't
pub no_mutant : (grid : Letters) (m t : ℕ) → grid.mutants ≤ m → is_killed_by grid m t ≡ false
unfolding is_killed_by
no_mutant grid m t h =
    ap (λ b. (not (m == 0) && b) && kills (letter_of grid m t)) (le-ltb m grid.mutants h) ∙ ap (λ b. b && kills (letter_of grid m t)) (and_no (not (m == 0)))

pub no_original : (grid : Letters) (t : ℕ) → is_killed_by grid 0 t ≡ false
unfolding is_killed_by
no_original grid t = refl

pub by_letter : (grid : Letters) (m t : ℕ) → 0 < m → m < grid.mutants → kills (letter_of grid m t) ≡ is_killed_by grid m t
unfolding is_killed_by
by_letter grid m t h l =
    sym (ap (λ b. (not b && nat_lt m grid.mutants) && kills (letter_of grid m t)) (ne_eqb m 0 (λ e. omega arith)) ∙ ap (λ b. b && kills (letter_of grid m t)) (lt-ltb m grid.mutants l))
