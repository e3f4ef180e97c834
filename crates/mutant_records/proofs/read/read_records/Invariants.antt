use Rattle.std.proofs.Common.{◌≡◌}
use Rattle.mutant_records.specs.Progress.{Keeps}
use Rattle.mutant_records.proofs.Reading.{ReadSoFar}
use Rattle.mutant_records.proofs.read.read_records.Given as goal

abbrev pub invariant-each : goal.invariant-each
invariant-each g l = record {
  so_far : ReadSoFar l.code (g.C.Replaces.Reads (g.C.Replaces.subject l.initial.checker)) l.fn.form l.initial.reader l.reader l.so_far.all l.number;
  keeps : Keeps l.so_far;
  form : l.so_far.form ≡ l.fn.form;
  kept : g.C.Replaces.subject l.checker ≡ g.C.Replaces.subject l.initial.checker;
}
