use Rattle.std.proofs.Common.{◌≡◌, map, slice_index_or, take}
use Rattle.kill_matrix.specs.declared.letter.Letter.TheVariants.{Same}
use Rattle.suite_analysis.proofs.letters.mutant_letters.Given as goal

abbrev pub invariant-loop-n : goal.invariant-loop-n
invariant-loop-n l = l.each.items ≡ map (λ n. slice_index_or l.letters n Same) (take l.n-index l.class_of)
