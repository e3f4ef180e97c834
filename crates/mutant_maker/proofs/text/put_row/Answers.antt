use Rattle.std.proofs.Common.{◌≡◌, List, [], ◌∷◌, ◌++◌, subst, sym, ◌∙◌}
use Rattle.std.specs.Prelude.{OnOk}
use Rattle.csv.specs.Writing.{row_text}
use Rattle.ir_tokens.specs.Bytes.{Text}
use Rattle.mutant_maker.specs.Lists.{list_writer}
use Rattle.mutant_maker.specs.Walks.{Wrote}
use Rattle.mutant_maker.proofs.text.put_row.Goals as goal

three : {a b c d e f : Text} → a ≡ d → b ≡ e → c ≡ f → a ∷ b ∷ c ∷ [] ≡ d ∷ e ∷ f ∷ []
three x y z = cc

pub returns : goal.returns
returns c =
    subst (λ (fs : List Text). OnOk c.put_fields.result ((text : Text) → Wrote c.args.writer.now text
    → Wrote c.put_fields.new.writer (text ++ row_text list_writer fs)))
    (three c.as_slice.ensures (c.as_bytes-number.ensures.value ∙ c.format.ensures.text) c.as_slice-2.ensures) c.put_fields.ensures
