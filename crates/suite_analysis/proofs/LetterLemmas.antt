-- Verdicts class by class, and mutant by mutant.
use Rattle.std.proofs.Common.{◌≡◌, ◌∙◌, ℕ, zero, suc, ◌<◌, List, [], ◌∷◌, ◌++◌, ap, arith, get_or, length, map, refl, subst, sym}
use Rattle.std.proofs.Common.{slice_index, slice_index_or}
use Rattle.std.specs.List.{All}
use Rattle.std.proofs.lemmas.List.{length-map, get_or-map}
use Rattle.std.proofs.lemmas.List.Elements.{All-from_get_or}
use Rattle.std.proofs.lemmas.Option.{slice_get_within, get_or_from_slice_get}
use Rattle.am_base.specs.declared.outcome.Outcome.{Outcome}
use Rattle.traces.specs.Trace.{Trial}
use Rattle.machine_form.specs.declared.change.Change.{Change}
use Rattle.machine_form.specs.State.{State}
use Rattle.machine_form.specs.Machine.{outcome_of}
use Rattle.flat_analysis.specs.declared.ended.Ended.{Ended}
use Rattle.flat_analysis.specs.Ended.{AreShown}
use Rattle.kill_matrix.specs.declared.letter.Letter.{Letter}
use Rattle.kill_matrix.specs.declared.letter.Letter.TheVariants.{Same}
use Rattle.kill_matrix.specs.Verdict.{IsVerdict}
use Rattle.suite_analysis.specs.Parts.{AreClassVerdicts}
use Rattle.suite_analysis.specs.Runs.{AreVerdicts}

module _ (expected : Outcome) where
  pub class_more : (classes : List Ended) (letters : List Letter) (class : Ended) (letter : Letter)
      → AreClassVerdicts classes expected letters → IsVerdict class.outcome expected letter
      → AreClassVerdicts (classes ++ class ∷ []) expected (letters ++ letter ∷ [])
  class_more [] [] class letter h v = (v, tt)
  class_more [] (l ∷ letters) class letter h v = absurd h
  class_more (c ∷ classes) [] class letter h v = absurd h
  class_more (c ∷ classes) (l ∷ letters) class letter h v = (h.0, class_more classes letters class letter h.1 v)

  pub class_count : (classes : List Ended) (letters : List Letter) → AreClassVerdicts classes expected letters → length letters ≡ length classes
  class_count [] [] h = refl
  class_count [] (l ∷ letters) h = absurd h
  class_count (c ∷ classes) [] h = absurd h
  class_count (c ∷ classes) (l ∷ letters) h = ap (λ n. suc n) (class_count classes letters h.1)

  class_letter : (classes : List Ended) (letters : List Letter) (k : ℕ) (d : Ended) → k < length classes → AreClassVerdicts classes expected letters
      → IsVerdict (get_or classes k d).outcome expected (slice_index_or letters k Same)
  class_letter [] letters k d l h = absurd (omega (arith, l))
  class_letter (c ∷ classes) [] k d l h = absurd h
  class_letter (c ∷ classes) (x ∷ letters) zero d l h = h.0
  class_letter (c ∷ classes) (x ∷ letters) (suc k) d l h = class_letter classes letters k d (omega (arith, l)) h.1

  module _ (T : Trial State Change) (classes : List Ended) (class_of : List ℕ) (shown : AreShown T classes class_of) where
    pub verdicts_of : (letters each : List Letter) → AreClassVerdicts classes expected letters → each ≡ map (λ n. slice_index_or letters n Same) class_of
        → AreVerdicts T expected each
    verdicts_of letters each h e = record {
      count = ap length e ∙ length-map class_of (λ n. slice_index_or letters n Same) ∙ shown.count;
      each = λ m l.
          let s = shown.each m l in
          let n = slice_index class_of m in
          let within = slice_get_within classes n s.class s.is in
          let here = get_or_from_slice_get classes n s.class s.class s.is in
          let outcome : (get_or classes n s.class).outcome ≡ outcome_of T m = ap (λ c. c.outcome) here ∙ s.outcome in
          let letter = ap (λ ls. slice_index_or ls m Same) e ∙ get_or-map (λ n. slice_index_or letters n Same) class_of m 0 Same
          (subst (λ k. m < k) (sym shown.count) l) in
          subst (λ o. IsVerdict o expected (slice_index_or each m Same)) outcome
          (subst (IsVerdict (get_or classes n s.class).outcome expected) (sym letter) (class_letter classes letters n s.class within h));
    }

module _ (T : Trial State Change) (classes : List Ended) (class_of : List ℕ) (shown : AreShown T classes class_of) where
  pub outcome_shown : (m : ℕ) (d : Ended) → m < T.mutants → (get_or classes (slice_index class_of m) d).outcome ≡ outcome_of T m
  outcome_shown m d l = let s = shown.each m l in ap (λ c. c.outcome) (get_or_from_slice_get classes (slice_index class_of m) s.class d s.is) ∙ s.outcome

  pub numbers_within : All (λ n. n < length classes) class_of
  numbers_within = All-from_get_or (λ n. n < length classes) class_of 0
      (λ m l. let s = shown.each m (subst (λ k. m < k) shown.count l) in slice_get_within classes (slice_index class_of m) s.class s.is)
