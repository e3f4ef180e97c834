-- The trial of a machine: its mutants, each with the variant that a table of replacements gives it at each place.
use Rattle.std.specs.Prelude.{ℕ}
use Rattle.code_form.specs.Variant.{Table, variant_of, mutants_of}
use Rattle.traces.specs.Meanings.{Meanings}
use Rattle.traces.specs.Trace.{Trial}

-- the trial of a machine with these meanings and the mutants of a table, from a start on within a budget
abbrev pub trial_of : {W C : Type 0} → Meanings W C → Table → W → ℕ → Trial W C
trial_of meanings table start budget = record { meanings = meanings; variant = variant_of table; start = start; budget = budget; mutants = mutants_of table }
