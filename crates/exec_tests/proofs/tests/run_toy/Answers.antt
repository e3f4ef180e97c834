use Rattle.std.proofs.Common.{List, ℕ, [], ◌∷◌, ◌++◌, nat_eq, subst}
use Rattle.std.specs.List.Sorted.{IsPermutation}
use Rattle.std.proofs.lemmas.List.Sorted.{IsPermutation-sym, IsPermutation-trans, IsPermutation-append_right, IsPermutation-to_front}
use Rattle.std.proofs.lemmas.Map.Keys.{IsDistinct-IsPermutation}
use Rattle.traces.proofs.Permutations.{cancel_front}
use Rattle.exec_machine.specs.ToyView.{toy_view}
use Rattle.exec_machine.proofs.Numbers.{flips}
use Rattle.exec_core.specs.Analysed.{class_numbers}
use Rattle.exec_tests.proofs.tests.run_toy.Goals as goal

-- the states out are those of the classes, and no other
pub release_all-requires-clause-distinct : goal.release_all-requires-clause-distinct
release_all-requires-clause-distinct g c =
    let n = c.in_ok-start.start.number in let cs : List ℕ = class_numbers toy_view c.in_ok-analysis.analysis.classes in
    let one = c.start.new.self.out.items in let out = c.analyse.new.machine.out.items in
    let started : IsPermutation (n ∷ []) one = subst (λ xs. IsPermutation (n ∷ xs) one) c.in_ok-toy.ensures.none_out c.in_ok-start.ensures.out_numbers in
    IsDistinct-IsPermutation nat_eq flips out cs
    (cancel_front (n ∷ []) out cs (IsPermutation-trans (n ∷ out) (cs ++ one) (n ∷ cs) c.in_ok-analysis.ensures.out_numbers
    (IsPermutation-trans (cs ++ one) (cs ++ n ∷ []) (n ∷ cs) (IsPermutation-append_right cs one (n ∷ []) (IsPermutation-sym (n ∷ []) one started))
    (IsPermutation-to_front cs n))))
    c.analyse.new.machine.distinct
