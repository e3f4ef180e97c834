use Rattle.std.proofs.Common.{◌≡◌, ◌-◌, ◌≤◌, ℕ, [], length, unwrap_or, slice_get}
use Rattle.code_form.proofs.choices.nothing_chosen.Given as goal

abbrev pub invariant-each : goal.invariant-each
invariant-each l = record {
  within : length l.all.items ≤ l.mutants;
  nothing : (m : ℕ) → unwrap_or (slice_get l.all.items m) [] ≡ [];
}

abbrev pub decreases-each : goal.decreases-each
decreases-each l = l.mutants - length l.all.items
