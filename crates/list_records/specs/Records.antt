-- The records of a list file: those that `csv` reads, with `;` between fields.
use Rattle.std.specs.Prelude.{◌≡◌, ℕ, true, List, [], Option, Some, None}
use denote.Ref.{Bor}
use Rattle.csv.specs.Records.{field_at}
use Rattle.csv.specs.Reading.{default_config, strip_bom, records, AreRecords, Reached, Ready, source_of, reader_trim, reader_config, reader_state, is_flexible}
use Rattle.csv.specs.declared.parser.Config.{Config}
use Rattle.csv.specs.declared.parser.State.{State}
use Rattle.csv.specs.declared.parser.State.TheVariants as st
use Rattle.csv.specs.declared.reader.Reader.{Reader}
use Rattle.csv.specs.declared.reader.Trim.TheVariants as trim

-- the fields of a record
abbrev pub Fields : Type 0
Fields = List (List ℕ)

-- the field with a number, from 0: the empty text past the last one
abbrev pub text_or_empty : Option (List ℕ) → List ℕ
text_or_empty None = []
text_or_empty (Some text) = text

abbrev pub field_of : Fields → ℕ → List ℕ
field_of record_fields i = text_or_empty (field_at record_fields i)

-- the defaults of `csv`, with `;` between fields
abbrev pub list_config : Config
list_config = record default_config { delimiter = 59 }

-- all records of a text, behind a byte order mark
abbrev pub rows_of : List ℕ → List Fields
rows_of text = records list_config (strip_bom text)

-- the same as a relation, by the steps of a reader
abbrev pub AreRows : List ℕ → List Fields → Type 0
AreRows text rows = AreRecords list_config st.StartRecord (strip_bom text) rows

-- the records that a text begins with
abbrev pub BeginsWith : List ℕ → List Fields → Type 0
BeginsWith text rows = (s : State) × (rest : List ℕ) × Reached list_config st.StartRecord (strip_bom text) rows s rest

-- what is left of a slice that is read
abbrev pub left_of : Bor (List ℕ) → Option (List ℕ)
left_of s = Some s.now

-- the reader gave these records of the text so far, and reads on behind them; a record may have any number of fields
pub record Gave (text : List ℕ) (reader : Reader (Bor (List ℕ))) (rows : List Fields) : Type 0 where
  pub trims : reader_trim reader ≡ trim.None
  pub flexible : is_flexible reader ≡ true
  pub ready : Ready reader
  pub config : reader_config reader ≡ list_config
  pub rest : List ℕ
  pub source : source_of left_of reader ≡ Some rest
  pub reached : Reached list_config st.StartRecord (strip_bom text) rows (reader_state reader) rest
