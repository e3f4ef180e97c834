use Rattle.std.proofs.Common.{◌≡◌, ℕ, ◌≤◌}
use Rattle.std.specs.Prelude.{[]}
use Rattle.code_form.specs.Variant.{mutants_of, chosen_by}
use Rattle.exec_tests.proofs.tests.thousand_mutants.Given as goal

abbrev pub invariant-loop-m : goal.invariant-loop-m
invariant-loop-m l = record {
  mutants : mutants_of l.table ≡ 1000;
  unchosen : (n : ℕ) → l.m ≤ n → chosen_by l.table n ≡ [];
}
