use Rattle.std.proofs.Common.{◌++◌, take, [], sym, subst, append-nil}
use Rattle.std.specs.Prelude.{flat_map}
use Rattle.csv.specs.Writing.{row_text}
use Rattle.ir_tokens.specs.Bytes.{Text}
use Rattle.mutant_maker.specs.Lists.{header, list_writer}
use Rattle.mutant_maker.specs.Walks.{Wrote, fields_of}
use Rattle.mutant_maker.proofs.Counts.{text_more}
use Rattle.mutant_maker.proofs.text.list_of.Goals as goal

pub each-init : goal.each-init
each-init c =
    subst (λ (t : Text). Wrote c.put_fields.new.writer t) (sym (append-nil (row_text list_writer header)))
    (c.in_ok-put_fields.ensures [] c.writer_of-writer.ensures)

pub each-preserved : goal.each-preserved
each-preserved c =
    let rows = c.args.rows.now in
    let h = row_text list_writer header in
    subst (λ (t : Text). Wrote c.put_row.new.writer t)
    (text_more h (λ r. row_text list_writer (fields_of r)) rows c.each.row-index c.row-item.result c.each-test.true c.row-item.is)
    (c.in_ok-put_row.ensures (h ++ flat_map (λ r. row_text list_writer (fields_of r)) (take c.each.row-index rows)) c.each.invariant)
