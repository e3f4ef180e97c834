use Rattle.std.proofs.Common.{◌≡◌, ◌∙◌, ◌<◌, ap, length, map, slice_index_or, subst, sym}
use Rattle.std.specs.List.{All}
use Rattle.std.proofs.lemmas.List.{length-map}
use Rattle.std.proofs.lemmas.Result.{IfOk-weaker}
use Rattle.kill_matrix.specs.declared.letter.Letter.TheVariants.{Same}
use Rattle.suite_analysis.specs.Parts.{AreClassVerdicts}
use Rattle.suite_analysis.specs.Runs.{AreVerdicts}
use Rattle.suite_analysis.proofs.LetterLemmas.{class_count, verdicts_of}
use Rattle.suite_analysis.proofs.letters.letters_of.Goals as goal

pub mutant_letters-requires : goal.mutant_letters-requires
mutant_letters-requires c =
    let a = c.args.analysis.now in let letters = c.in_ok-letters.letters.items in
    let count : length a.classes ≡ length c.as_slice-2.result.now =
    sym (ap length c.as_slice-2.ensures.value ∙ class_count c.expected_by-expected.result.now c.as_slice.result.now letters c.in_ok-letters.ensures
    ∙ ap length c.as_slice.ensures) in record {
      within = subst (λ xs. All (λ n. n < length c.as_slice-2.result.now) xs) (sym c.as_slice-3.ensures)
          (subst (λ k. All (λ n. n < k) a.class_of) count c.requires.within);
    }

pub returns-clause-count : goal.returns-clause-count
returns-clause-count c =
    IfOk-weaker c.mutant_letters.result (λ each. each.items ≡ map (λ n. slice_index_or c.as_slice-2.result.now n Same) c.as_slice-3.result.now) _
    (λ each e. ap length e ∙ length-map c.as_slice-3.result.now (λ n. slice_index_or c.as_slice-2.result.now n Same) ∙ ap length c.as_slice-3.ensures)
    c.mutant_letters.ensures

pub returns-clause-verdicts : goal.returns-clause-verdicts
returns-clause-verdicts c =
    let a = c.args.analysis.now in let letters = c.in_ok-letters.letters.items in let expected = c.expected_by-expected.result.now in
    let verdicts = subst (λ classes. AreClassVerdicts classes expected letters) c.as_slice.ensures c.in_ok-letters.ensures in
    IfOk-weaker c.mutant_letters.result (λ each. each.items ≡ map (λ n. slice_index_or c.as_slice-2.result.now n Same) c.as_slice-3.result.now) _
    (λ each e T some shown.
    let by_list : each.items ≡ map (λ n. slice_index_or letters n Same) c.as_slice-3.result.now =
    subst (λ ls. each.items ≡ map (λ n. slice_index_or ls n Same) c.as_slice-3.result.now) c.as_slice-2.ensures.value e in
    subst (λ o. AreVerdicts T o each.items) (c.expected_by-expected.ensures T some shown)
    (verdicts_of expected T a.classes a.class_of shown letters each.items verdicts
    (by_list ∙ ap (map (λ n. slice_index_or letters n Same)) c.as_slice-3.ensures)))
    c.mutant_letters.ensures
