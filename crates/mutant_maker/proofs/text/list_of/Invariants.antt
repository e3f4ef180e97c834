use Rattle.std.proofs.Common.{◌++◌, take}
use Rattle.std.specs.Prelude.{flat_map}
use Rattle.csv.specs.Writing.{row_text}
use Rattle.mutant_maker.specs.Lists.{header, list_writer}
use Rattle.mutant_maker.specs.Walks.{Wrote, fields_of}
use Rattle.mutant_maker.proofs.text.list_of.Given as goal

abbrev pub invariant-each : goal.invariant-each
invariant-each l = Wrote l.writer (row_text list_writer header ++ flat_map (λ row. row_text list_writer (fields_of row)) (take l.row-index l.rows))
