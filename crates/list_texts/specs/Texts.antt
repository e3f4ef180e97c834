-- What the records of a list put in place.
use Rattle.std.specs.Prelude.{ℕ, ◌-◌, List, [], ◌∷◌, length, map}
use Rattle.list_records.specs.Records.{Fields, field_of}

-- the last one of so many fields
abbrev pub last_field : ℕ → Fields → List ℕ
last_field width fields = field_of fields (width - 1)

-- the last field of each record behind the header, which says how many fields each has
abbrev pub replacement_texts : List Fields → List (List ℕ)
replacement_texts [] = []
replacement_texts (header ∷ records) = map (last_field (length header)) records
