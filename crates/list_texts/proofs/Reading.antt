-- Records that are read one by one.
use Rattle.std.proofs.Common.{Bor, ◌≡◌, ℕ, zero, suc, ◌+◌, List, [], ◌∷◌, ◌++◌, length, map, Option, Some, None, refl, sym, ap, ◌∙◌, arith, length-append}
use Rattle.std.specs.Prelude.{◌≤◌, if◌then◌else◌, Bool, true, false}
use Rattle.std.proofs.lemmas.List.{map-append}
use Rattle.csv.specs.Machine.{Read, next_record}
use Rattle.csv.specs.Reading.{records_from, records_next, strip_bom}
use Rattle.csv.specs.Reading as reading
use Rattle.csv.specs.declared.parser.Config.{Config}
use Rattle.csv.specs.declared.parser.State.{State}
use Rattle.csv.specs.declared.parser.State.TheVariants as st
use Rattle.csv.specs.declared.reader.Reader.{Reader}
use Rattle.am_base.specs.declared.limits.TheConstants.{MAX_FILE_BYTES}
use Rattle.list_records.specs.Records.{Fields, Gave, AreRows, list_config, rows_of}
use Rattle.list_records.proofs.Rows.{gave_front, rows_same}
use Rattle.list_texts.specs.Texts.{last_field, replacement_texts}

-- ---- a text has few records

next-few : (n : ℕ) (next : State → List ℕ → List Fields) → ((s : State) (xs : List ℕ) → length (next s xs) ≤ n) → (o : Option Read)
    → length (records_next next o) ≤ suc n
next-few n next h None = omega arith
next-few n next h (Some p) = let l = h p.1 p.2 in omega (arith, l)

records-few : (cfg : Config) (n : ℕ) (s : State) (xs : List ℕ) → length (records_from cfg n s xs) ≤ n
unfolding records_from
records-few cfg zero s xs = omega arith
records-few cfg (suc n) s xs = next-few n (records_from cfg n) (records-few cfg n) (next_record cfg s [] [] xs)

strip-short : (text : List ℕ) → length (strip_bom text) ≤ length text
unfolding strip_bom
strip-short [] = omega arith
strip-short (a ∷ []) = omega arith
strip-short (a ∷ b ∷ []) = omega arith
strip-short (a ∷ b ∷ c ∷ rest) = by (reading.is_bom a b c)
  where
    by : (m : Bool) → length (if m then rest else a ∷ b ∷ c ∷ rest) ≤ length (a ∷ b ∷ c ∷ rest)
    by true = omega arith
    by false = omega arith

rows-few : (text : List ℕ) → length (rows_of text) ≤ length text + 1
rows-few text =
    let few = records-few list_config (length (strip_bom text) + 1) st.StartRecord (strip_bom text) in let short = strip-short text in omega (arith, few, short)

-- ---- the records that were read

-- behind the header the reader gave so many records, and these are their texts
pub record IsRead (width : ℕ) (text : List ℕ) (header : Fields) (reader : Reader (Bor (List ℕ))) (k : ℕ) (texts : List (List ℕ)) : Type 0 where
  pub read : List Fields
  pub gave : Gave text reader (header ∷ read)
  pub count : length read ≡ k
  pub are : texts ≡ map (last_field width) read

abbrev pub SoFar : ℕ → Reader (Bor (List ℕ)) → Reader (Bor (List ℕ)) → ℕ → List (List ℕ) → Type 0
SoFar width first reader k texts = (text : List ℕ) (header : Fields) → Gave text first (header ∷ []) → IsRead width text header reader k texts

module _ (width : ℕ) (text : List ℕ) (header : Fields) where
  pub none : (reader : Reader (Bor (List ℕ))) (texts : List (List ℕ)) → texts ≡ [] → Gave text reader (header ∷ [])
      → IsRead width text header reader 0 texts
  none reader texts e g = record { read = []; gave = g; count = refl; are = e }

  pub more : (reader next : Reader (Bor (List ℕ))) (k : ℕ) (texts longer : List (List ℕ)) (fields : Fields)
      → ((text : List ℕ) (rows : List Fields) → Gave text reader rows → Gave text next (rows ++ fields ∷ []))
      → longer ≡ texts ++ last_field width fields ∷ [] → IsRead width text header reader k texts → IsRead width text header next (k + 1) longer
  more reader next k texts longer fields on e h = record {
    read = h.read ++ fields ∷ [];
    gave = on text (header ∷ h.read) h.gave;
    count = let l = length-append h.read (fields ∷ []) in let c = h.count in omega (arith, l, c);
    are = e ∙ ap (λ ts. ts ++ last_field width fields ∷ []) h.are ∙ sym (map-append (last_field width) h.read (fields ∷ []));
  }

tail-same : (a b : Fields) (xs ys : List Fields) → a ∷ xs ≡ b ∷ ys → xs ≡ ys
tail-same a b xs ys e = cc

module _ (width : ℕ) (text : List ℕ) (header : Fields) (records : List Fields) (rows : rows_of text ≡ header ∷ records) where
  -- there are no more
  pub all : (reader : Reader (Bor (List ℕ))) (k : ℕ) (texts : List (List ℕ))
      → ((text : List ℕ) (rows : List Fields) → Gave text reader rows → AreRows text rows) → IsRead width text header reader k texts
      → texts ≡ map (last_field width) records
  all reader k texts end h =
      let same : records ≡ h.read = tail-same _ _ _ _ (sym rows ∙ rows_same text (header ∷ h.read) (end text (header ∷ h.read) h.gave)) in
      h.are ∙ ap (map (last_field width)) (sym same)

  -- there are never so many
  pub too-many : (reader : Reader (Bor (List ℕ))) (k : ℕ) (texts : List (List ℕ)) → length text ≤ MAX_FILE_BYTES → MAX_FILE_BYTES + 2 ≤ k
      → IsRead width text header reader k texts → ⊥
  too-many reader k texts short many h =
      let front = gave_front text reader (header ∷ h.read) h.gave in
      let size = ap length front.1 in let both = length-append (header ∷ h.read) front.0 in let few = rows-few text in let count = h.count in
      omega (arith, size, both, few, count, short, many)

-- ---- the header

pub none-all : (text : List ℕ) (reader : Reader (Bor (List ℕ))) (texts : List (List ℕ)) → texts ≡ [] → Gave text reader []
    → ((text : List ℕ) (rows : List Fields) → Gave text reader rows → AreRows text rows) → texts ≡ replacement_texts (rows_of text)
none-all text reader texts e g end = e ∙ ap replacement_texts (sym (rows_same text [] (end text [] g)))

-- the records behind the header
pub behind : (text : List ℕ) (reader : Reader (Bor (List ℕ))) (header : Fields) → Gave text reader (header ∷ [])
    → (records : List Fields) × (rows_of text ≡ header ∷ records)
behind text reader header g = gave_front text reader (header ∷ []) g
