use Rattle.std.proofs.Common.{◌≡◌, ℕ, List, [], ◌∷◌, length, map, ap, sym, subst, ◌∙◌}
use Rattle.std.specs.Prelude.{IfOk}
use Rattle.csv.specs.Records.{fields_of}
use Rattle.list_records.specs.Records.{rows_of}
use Rattle.list_texts.specs.Texts.{last_field, replacement_texts}
use Rattle.list_texts.proofs.Reading.{none-all, behind}
use Rattle.list_texts.proofs.replacement_texts.Goals as goal

pub returns-then-not-branch : goal.returns-then-not-branch
returns-then-not-branch c =
    none-all c.args.text.now c.reader_of-reader.result c.new.result c.new.ensures c.reader_of-reader.ensures
    (c.in_ok-next_record.ensures.all c.if-not-branch.true)

pub returns : goal.returns
returns c =
    let text = c.args.text.now in
    let header = fields_of c.next_record.new.row in
    let gave = c.in_ok-next_record.ensures.more c.if-not-branch.false text [] c.reader_of-reader.ensures in
    let rest = behind text c.next_record.new.reader header gave in
    let same : map (last_field c.len-width.result) rest.0 ≡ replacement_texts (rows_of text) =
    ap (λ (n : ℕ). map (last_field n) rest.0) c.len-width.ensures ∙ ap replacement_texts (sym rest.1) in
    subst (λ (ts : List (List ℕ)). IfOk c.texts_behind.result (λ texts. texts ≡ ts)) same
    (c.texts_behind.ensures text header rest.0 c.requires gave rest.1)
