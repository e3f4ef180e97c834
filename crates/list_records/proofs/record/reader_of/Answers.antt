use Rattle.std.proofs.Common.{ap, ◌∙◌, inr}
use Rattle.csv.specs.Reading.{builder_config, builder_is_flexible, builder_names_headers, builder_trim}
use Rattle.csv.specs.declared.parser.Config.{Config}
use Rattle.list_records.proofs.Rows.{gave_none}
use Rattle.list_records.proofs.record.reader_of.Goals as goal

pub returns : goal.returns
returns c =
    let fr = c.from_reader.ensures in
    let config = fr.config ∙ ap builder_config c.flexible.ensures ∙ ap builder_config c.has_headers.ensures ∙ ap builder_config c.delimiter.ensures
    ∙ ap (λ (k : Config). record k { delimiter = 59 }) c.new.ensures.config in
    let named = fr.has_headers ∙ ap builder_names_headers c.flexible.ensures ∙ ap builder_names_headers c.has_headers.ensures in
    let trims = fr.trim ∙ ap builder_trim c.flexible.ensures ∙ ap builder_trim c.has_headers.ensures ∙ ap builder_trim c.delimiter.ensures
    ∙ c.new.ensures.trim in
    let flexible = fr.flexible ∙ ap builder_is_flexible c.flexible.ensures in
    gave_none c.args.text.now c.from_reader.result trims flexible (inr (inr (named, fr.headers))) config fr.source fr.state
