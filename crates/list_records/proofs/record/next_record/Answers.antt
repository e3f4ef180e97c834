use Rattle.std.proofs.Common.{subst}
use Rattle.csv.specs.Reading.{ReadRecord}
use Rattle.csv.specs.Records.{fields_of}
use Rattle.list_records.specs.Records.{left_of}
use Rattle.list_records.proofs.Rows.{gave_more, gave_all}
use Rattle.list_records.proofs.record.next_record.Goals as goal
use Rattle.list_records.proofs.record.next_record.Goals.{in-Ok, in-Err}

pub returns-clause-more : goal.returns-clause-more
returns-clause-more c =
    let a = c.args.reader.now in
    let b = c.read_byte_record.new.self in
    let r = fields_of c.read_byte_record.new.row in
    elim c.match-read_byte_record.branch [
      | in-Ok w ↦ rw w.result-is (λ is text rows g. gave_more text a b rows r g
          (subst (λ v. ReadRecord left_of a b v r) is (w.in-Ok.ensures.reads g.trims g.ready)) (w.in-Ok.ensures.reads_on is))
      | in-Err w ↦ rw w.result-is tt
    ]

pub returns-clause-all : goal.returns-clause-all
returns-clause-all c =
    let a = c.args.reader.now in
    let b = c.read_byte_record.new.self in
    let r = fields_of c.read_byte_record.new.row in
    elim c.match-read_byte_record.branch [
      | in-Ok w ↦ rw w.result-is (λ is text rows g. gave_all text a b rows r g
          (subst (λ v. ReadRecord left_of a b v r) is (w.in-Ok.ensures.reads g.trims g.ready)))
      | in-Err w ↦ rw w.result-is tt
    ]
