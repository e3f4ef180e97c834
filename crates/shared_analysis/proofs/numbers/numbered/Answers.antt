use Rattle.std.proofs.Common.{ap, length, arith}
use Rattle.std.proofs.lemmas.List.Sorted.{length_permutation}
use Rattle.traces.proofs.Below.{length-below}
use Rattle.shared_analysis.specs.declared.ended.Ended.{Ended}
use Rattle.shared_analysis.proofs.NumberLemmas.{few_classes}
use Rattle.shared_analysis.proofs.numbers.numbered.Goals as goal

pub numbers_of-requires-clause-few : goal.numbers_of-requires-clause-few
numbers_of-requires-clause-few c =
    let most = few_classes (λ (e : Ended). e.members) c.args.together.classes c.requires.some in
    let long = length_permutation _ _ c.requires.once in let count = length-below c.args.mutants in
    omega (arith, most, long, count, c.ranges.mutants, ap length c.as_slice.ensures)
