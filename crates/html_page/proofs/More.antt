-- One more number that passes a test, and parts that are appended.
use Rattle.std.proofs.Common.{◌≡◌, ℕ, ◌+◌, ◌≤◌, Bool, true, false, List, [], ◌∷◌, ◌++◌, append_assoc, ap, ◌∙◌, arith, add-one}
use Rattle.std.specs.Prelude.{count_by, cond}
use Rattle.std.specs.List.{range_with_len}
use Rattle.std.proofs.lemmas.List.Sums.{sum_by-append}
use Rattle.exec_core.specs.declared.result.Work.{Work}
use Rattle.kill_matrix.specs.Score.{Letters}
use Rattle.test_suite.specs.declared.suite.Suite.{Suite}
use Rattle.work_report.specs.Report.{each_below}
use Rattle.work_report.proofs.MoreLines.{range_more}
use Rattle.html_page.specs.Tests.{killed_one, row_front, row_work, test_row}

one-at-most : (b : Bool) → cond b 1 0 ≤ 1
one-at-most true = omega arith
one-at-most false = omega arith

pub count-more : (p : ℕ → Bool) (n : ℕ) → count_by p (range_with_len 0 (n + 1)) ≡ count_by p (range_with_len 0 n) + cond (p n) 1 0
count-more p n =
    let one : 0 + cond (p n) 1 0 ≡ cond (p n) 1 0 = omega arith in
    rw add-one
    (ap (count_by p) (range_more 0 n n (omega arith)) ∙ sum_by-append (λ x. cond (p x) 1 0) (range_with_len 0 n) (n ∷ [])
    ∙ ap (λ k. count_by p (range_with_len 0 n) + k) one)

pub few-more : (b : Bool) (count n : ℕ) → count ≤ n → count + cond b 1 0 ≤ n + 1
few-more b count n h = let one = one-at-most b in omega (arith, one, h)

-- the parts of the row of a test, appended one by one
pub row-parts : (suite : Suite) (grid : Letters) (works : List Work) (t : ℕ) (o p q r s : List ℕ) → p ≡ o ++ row_front suite grid t
    → q ≡ p ++ row_work works t → r ≡ q ++ each_below (killed_one grid t) grid.mutants → s ≡ r ++ 10 ∷ [] → s ≡ o ++ test_row suite grid works t
row-parts suite grid works t o p q r s e1 e2 e3 e4 =
    four-parts o p q r s (row_front suite grid t) (row_work works t) (each_below (killed_one grid t) grid.mutants) (10 ∷ []) e1 e2 e3 e4
  where
    four-parts : (o p q r s a b c d : List ℕ) → p ≡ o ++ a → q ≡ p ++ b → r ≡ q ++ c → s ≡ r ++ d → s ≡ o ++ (a ++ b ++ c ++ d)
    four-parts o p q r s a b c d e1 e2 e3 e4 = rw (e4, e3, e2, e1) (simp append_assoc)
