-- A matrix has one list of least subsumers, and its smaller suite one text.
use Rattle.std.proofs.Common.{◌≡◌, ℕ, ◌<◌, List, Option, Some, None, slice_index_or, refl, sym, ap, ◌∙◌, arith, ⊎_elim}
use Rattle.std.proofs.lemmas.Bool.{cases_order}
use Rattle.std.proofs.lemmas.List.{ext_get_or}
use Rattle.test_suite.specs.declared.suite.Suite.{Suite}
use Rattle.kill_matrix.specs.Score.{Letters}
use Rattle.suite_reduce.specs.Choice.{chosen_tests}
use Rattle.suite_reduce.specs.Subsumers.{IsLeastSubsumer, AreLeastSubsumers}
use Rattle.suite_reduce.specs.Text.{reduced_text, IsReduced}

module _ (grid : Letters) where
  subsumer-one : (b : ℕ) (o p : Option ℕ) → IsLeastSubsumer grid b o → IsLeastSubsumer grid b p → o ≡ p
  subsumer-one b None None h k = refl
  subsumer-one b None (Some c) h k = absurd (h c k.0)
  subsumer-one b (Some a) None h k = absurd (k a h.0)
  subsumer-one b (Some a) (Some c) h k =
      ⊎_elim (λ (e : a ≡ c). ap (λ n. Some n) e)
      (λ r. ⊎_elim (λ (l : a < c). absurd (k.1 a l h.0)) (λ (l : c < a). absurd (h.1 c l k.0)) r)
      (cases_order a c)

  subsumers-one : (list other : List (Option ℕ)) → AreLeastSubsumers grid list → AreLeastSubsumers grid other → list ≡ other
  subsumers-one list other h k =
      let n = h.count in
      let m = k.count in
      ext_get_or None list other (n ∙ sym m)
      (λ b l. subsumer-one b (slice_index_or list b None) (slice_index_or other b None) (h.least b l) (k.least b (omega (arith, l, n, m))))

pub reduced-one : (suite : Suite) (grid : Letters) (text other : List ℕ) → IsReduced suite grid text → IsReduced suite grid other → text ≡ other
reduced-one suite grid text other h k =
    h.is_text ∙ ap (reduced_text suite grid (chosen_tests grid)) (subsumers-one grid h.least k.least h.least_are k.least_are) ∙ sym k.is_text
