-- One more test.
use Rattle.std.proofs.Common.{◌≡◌, ◌∙◌, suc, List, [], ◌∷◌, ◌++◌, ap, length, map, refl, sym, subst}
use Rattle.std.proofs.lemmas.List.{map-append}
use Rattle.code_form.specs.declared.code.Code.{Code}
use Rattle.code_form.specs.Variant.{Table}
use Rattle.traces.specs.Trace.{Trial}
use Rattle.machine_form.specs.declared.change.Change.{Change}
use Rattle.machine_form.specs.State.{State}
use Rattle.machine_form.specs.Calls.{Answers}
use Rattle.exec_core.specs.declared.result.Split.{Split}
use Rattle.exec_core.specs.Engines.{split_seen}
use Rattle.flat_analysis.specs.declared.ended.CaseAnalysis.{CaseAnalysis}
use Rattle.flat_analysis.specs.Ended.{IsAnalysis}
use Rattle.test_suite.specs.declared.suite.Test.{Test}
use Rattle.kill_matrix.specs.declared.letter.Letter.{Letter}
use Rattle.suite_analysis.specs.declared.done.Done.{Done}
use Rattle.suite_analysis.specs.Parts.{AreDone}
use Rattle.suite_analysis.specs.Runs.{AreVerdicts, AreLetters, trial_on, expected_of, work_of, splits_of, works_of, lists_of}

seen_back : (xs : List Split) → map (λ s. record { step = s.0; parts = s.1 }) (map split_seen xs) ≡ xs
seen_back [] = refl
seen_back (x ∷ xs) = ap (λ ys. x ∷ ys) (seen_back xs)

module _ (T : Trial State Change) (a : CaseAnalysis) (is : IsAnalysis T a) where
  pub work_found : a.work ≡ work_of T
  work_found = rw (← is.steps, ← is.alone, ← is.tries, ← is.executions) refl

  pub splits_found : a.splits ≡ splits_of T
  splits_found = sym (seen_back a.splits) ∙ ap (map (λ s. record { step = s.0; parts = s.1 })) is.splits

module _ (code : Code) (table : Table) (answers : Answers) where
  letters_more : (tests : List Test) (rows : List (List Letter)) (test : Test) (row : List Letter) → AreLetters code table answers tests rows
      → AreVerdicts (trial_on code table answers test) (expected_of code table answers test) row
      → AreLetters code table answers (tests ++ test ∷ []) (rows ++ row ∷ [])
  letters_more [] [] test row h v = (v, tt)
  letters_more [] (r ∷ rows) test row h v = absurd h
  letters_more (t ∷ tests) [] test row h v = absurd h
  letters_more (t ∷ tests) (r ∷ rows) test row h v = (h.0, letters_more tests rows test row h.1 v)

  pub letters_count : (tests : List Test) (rows : List (List Letter)) → AreLetters code table answers tests rows → length rows ≡ length tests
  letters_count [] [] h = refl
  letters_count [] (r ∷ rows) h = absurd h
  letters_count (t ∷ tests) [] h = absurd h
  letters_count (t ∷ tests) (r ∷ rows) h = ap (λ n. suc n) (letters_count tests rows h.1)

  pub done_more : (tests : List Test) (old new : Done) (test : Test) (a : CaseAnalysis) (row : List Letter)
      → new.matrix ≡ record old.matrix { tests = old.matrix.tests ++ row ∷ [] }
      → new.works.items ≡ old.works.items ++ a.work ∷ [] → new.splits.items ≡ old.splits.items ++ a.splits ∷ []
      → AreVerdicts (trial_on code table answers test) (expected_of code table answers test) row → IsAnalysis (trial_on code table answers test) a
      → AreDone code table answers tests old → AreDone code table answers (tests ++ test ∷ []) new
  done_more tests old new test a row m w s v is d =
      let T = trial_on code table answers test in record {
        mutants = ap (λ grid. grid.mutants) m ∙ d.mutants;
        letters = subst (AreLetters code table answers (tests ++ test ∷ [])) (sym (ap (λ grid. grid.tests) m))
            (letters_more tests old.matrix.tests test row d.letters v);
        works = w ∙ ap (λ ws. ws ++ a.work ∷ []) d.works ∙ ap (λ x. works_of code table answers tests ++ x ∷ []) (work_found T a is)
            ∙ sym (map-append (λ t. work_of (trial_on code table answers t)) tests (test ∷ []));
        splits = s ∙ ap (λ ls. ls ++ a.splits ∷ []) d.splits ∙ ap (λ x. lists_of code table answers tests ++ x ∷ []) (splits_found T a is)
            ∙ sym (map-append (λ t. splits_of (trial_on code table answers t)) tests (test ∷ []));
      }
