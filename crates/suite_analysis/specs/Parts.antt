-- What was found so far.
--     AreClassVerdicts   one letter for each class: the verdict on its outcome, against an outcome
--     AreDone            the letters, the work and the splits of these tests
use Rattle.std.specs.Prelude.{◌≡◌, List, [], ◌∷◌}
use Rattle.am_base.specs.declared.outcome.Outcome.{Outcome}
use Rattle.code_form.specs.declared.code.Code.{Code}
use Rattle.code_form.specs.Variant.{Table, mutants_of}
use Rattle.machine_form.specs.Calls.{Answers}
use Rattle.flat_analysis.specs.declared.ended.Ended.{Ended}
use Rattle.test_suite.specs.declared.suite.Test.{Test}
use Rattle.kill_matrix.specs.declared.letter.Letter.{Letter}
use Rattle.kill_matrix.specs.Verdict.{IsVerdict}
use Rattle.suite_analysis.specs.declared.done.Done.{Done}
use Rattle.suite_analysis.specs.Runs.{AreLetters, works_of, lists_of}

abbrev pub AreClassVerdicts : List Ended → Outcome → List Letter → Type 0
AreClassVerdicts [] expected [] = Unit {0}
AreClassVerdicts [] expected (letter ∷ letters) = ⊥
AreClassVerdicts (class ∷ classes) expected [] = ⊥
AreClassVerdicts (class ∷ classes) expected (letter ∷ letters) = IsVerdict class.outcome expected letter × AreClassVerdicts classes expected letters

pub record AreDone (code : Code) (table : Table) (answers : Answers) (tests : List Test) (done : Done) : Type 0 where
  pub mutants : done.matrix.mutants ≡ mutants_of table
  pub letters : AreLetters code table answers tests done.matrix.tests
  pub works : done.works.items ≡ works_of code table answers tests
  pub splits : done.splits.items ≡ lists_of code table answers tests
