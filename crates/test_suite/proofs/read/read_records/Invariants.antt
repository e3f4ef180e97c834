use Rattle.test_suite.proofs.Reading.{ReadSoFar}
use Rattle.test_suite.proofs.read.read_records.Given as goal

abbrev pub invariant-each : goal.invariant-each
invariant-each l = ReadSoFar l.code l.default_budget l.initial.reader l.reader l.names.keys l.tests l.number
