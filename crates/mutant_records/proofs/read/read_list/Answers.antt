use Rattle.std.proofs.Common.{[], ◌∷◌, sym, ◌∙◌}
use Rattle.csv.specs.Records.{fields_of}
use Rattle.mutant_records.proofs.Reading.{no_header, other_header, list_gives_ok}
use Rattle.mutant_records.proofs.read.read_list.Goals as goal

pub returns-then-not-branch : goal.returns-then-not-branch
returns-then-not-branch g c =
    no_header c.args.code.now (g.C.Replaces.Reads (g.C.Replaces.subject c.args.checker.now)) c.args.text.now
    (c.in_ok-next_record.ensures.all c.if-not-branch.true c.args.text.now [] c.reader_of-reader.ensures)

pub read_records-requires-clause-short : goal.read_records-requires-clause-short
read_records-requires-clause-short g c = (
  c.args.text.now,
  fields_of c.next_record.new.row ∷ [],
  c.requires.short,
  c.in_ok-next_record.ensures.more c.if-not-branch.false c.args.text.now [] c.reader_of-reader.ensures,
)

pub returns : goal.returns
returns g c =
    list_gives_ok c.args.code.now (g.C.Replaces.Reads (g.C.Replaces.subject c.args.checker.now)) c.in-Some.form c.args.text.now c.next_record.new.reader
    (fields_of c.next_record.new.row) c.read_records.result (c.in_ok-next_record.ensures.more c.if-not-branch.false c.args.text.now [] c.reader_of-reader.ensures)
    (sym c.form_of.ensures ∙ c.in-Some.is) c.read_records.ensures

pub returns-in_default : goal.returns-in_default
returns-in_default g c =
    other_header c.args.code.now (g.C.Replaces.Reads (g.C.Replaces.subject c.args.checker.now)) c.args.text.now c.next_record.new.reader (fields_of c.next_record.new.row)
    (c.in_ok-next_record.ensures.more c.if-not-branch.false c.args.text.now [] c.reader_of-reader.ensures) (sym c.in_default.ensures)
