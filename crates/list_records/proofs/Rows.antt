-- A reader that has given some records of a text.
use Rattle.std.proofs.Common.{Bor, ◌≡◌, ℕ, zero, suc, ◌+◌, ◌<◌, ◌⊎◌, inl, inr, Bool, true, false, cond, List, [], ◌∷◌, ◌++◌, length, Option, Some, None}
use Rattle.std.proofs.Common.{refl, ap, subst, sym, ◌∙◌, arith}
use Rattle.csv.specs.Machine.{Read, next_record, step, is_end, ends_at_end, fields_after, field_after}
use Rattle.csv.specs.Reading.{source_of, strip_bom, records_from, records_next, AreRecords, Reached, ReadRecord, ReadsOn, Ready, reader_trim, reader_config, reader_state, is_flexible}
use Rattle.csv.specs.declared.parser.Config.{Config}
use Rattle.csv.specs.declared.parser.State.{State}
use Rattle.csv.specs.declared.reader.Reader.{Reader}
use Rattle.csv.specs.declared.reader.Trim.TheVariants as trim
use Rattle.csv.specs.declared.parser.State.TheVariants as st
use Rattle.std.proofs.lemmas.List.{append-nil}
use Rattle.csv.proofs.ReadFacts.{rows-more, rows-end}
use Rattle.list_records.specs.Records.{Fields, list_config, rows_of, AreRows, BeginsWith, left_of, Gave}

pub gave_none : (text : List ℕ) (a : Reader (Bor (List ℕ))) → reader_trim a ≡ trim.None → is_flexible a ≡ true → Ready a → reader_config a ≡ list_config
    → source_of left_of a ≡ Some (strip_bom text)
    → reader_state a ≡ st.StartRecord → Gave text a []
unfolding Reached
gave_none text a t f r c s e = record { trims = t; flexible = f; ready = r; config = c; rest = strip_bom text; source = s; reached = (sym e, refl) }

pub gave_more : (text : List ℕ) (a b : Reader (Bor (List ℕ))) (rows : List Fields) (r : Fields) → Gave text a rows → ReadRecord left_of a b true r → ReadsOn a b
    → Gave text b (rows ++ r ∷ [])
gave_more text a b rows r g read on =
    let m = rows-more left_of a b r list_config st.StartRecord (strip_bom text) g.rest rows g.config g.source g.reached read in
    record { trims = on.1 ∙ g.trims; flexible = on.2 ∙ g.flexible; ready = (on.4 g.ready).0; config = on.0 ∙ g.config; rest = m.0; source = m.1; reached = m.2 }

pub gave_all : (text : List ℕ) (a b : Reader (Bor (List ℕ))) (rows : List Fields) (r : Fields) → Gave text a rows → ReadRecord left_of a b false r
    → AreRows text rows
gave_all text a b rows r g read = (reader_state a, g.rest, g.reached, rows-end left_of a b r list_config g.rest g.config g.source read)

-- the records that it gave are those that the text begins with
pub gave_begins : (text : List ℕ) (a : Reader (Bor (List ℕ))) (rows : List Fields) → Gave text a rows → BeginsWith text rows
gave_begins text a rows g = (reader_state a, g.rest, g.reached)

-- ---- the records of a text are the list that `rows_of` gives

-- a record takes a byte at least, or it ends with the text
shorter : (cfg : Config) (s : State) (fields : Fields) (field xs : List ℕ) (p : Read) → next_record cfg s fields field xs ≡ Some p
    → (length p.2 < length xs) ⊎ ((p.1 ≡ st.StartRecord) × (p.2 ≡ []))
unfolding next_record
shorter cfg s fields field [] p e = by (ends_at_end s) e
  where
    by : (b : Bool) → cond b (Some (fields ++ (field ∷ []), st.StartRecord, [])) None ≡ Some p → (length p.2 < 0) ⊎ ((p.1 ≡ st.StartRecord) × (p.2 ≡ []))
    by true h = let same : (fields ++ (field ∷ []), st.StartRecord, []) ≡ p = cc in inr (sym (ap (λ q. q.1) same), sym (ap (λ q. q.2) same))
    by false h = cc
shorter cfg s fields field (c ∷ rest) p e =
    let more = shorter cfg (step cfg s c).0 (fields_after (step cfg s c).1 fields field) (field_after (step cfg s c).1 c field) rest p in
    by (is_end (step cfg s c).1) more e
  where
    Ends : Type 0
    Ends = (p.1 ≡ st.StartRecord) × (p.2 ≡ [])

    Later : Type 0
    Later = next_record cfg (step cfg s c).0 (fields_after (step cfg s c).1 fields field) (field_after (step cfg s c).1 c field) rest ≡ Some p

    by : (b : Bool) → (Later → (length p.2 < length rest) ⊎ Ends)
        → cond b (Some (fields_after (step cfg s c).1 fields field, (step cfg s c).0, rest))
        (next_record cfg (step cfg s c).0 (fields_after (step cfg s c).1 fields field) (field_after (step cfg s c).1 c field) rest) ≡ Some p
        → (length p.2 < length (c ∷ rest)) ⊎ Ends
    by true more h =
        let same : (fields_after (step cfg s c).1 fields field, (step cfg s c).0, rest) ≡ p = cc in
        inl (rw (sym (ap (λ q. q.2) same)) (omega arith))
    by false more h = elim (more h) [
      | inl less ↦ inl (omega arith)
      | inr ends ↦ inr ends
    ]

-- enough turns read all records of a text
all_read : (cfg : Config) (n : ℕ) (s : State) (xs : List ℕ) → length xs < n → AreRecords cfg s xs (records_from cfg n s xs)
unfolding Reached records_from next_record
all_read cfg zero s xs h = absurd (omega arith)
all_read cfg (suc n) s xs h = by (next_record cfg s [] [] xs) refl (λ t ys less. all_read cfg n t ys less)
  where
    at_end : (m : ℕ) (p : Read) → p.1 ≡ st.StartRecord → p.2 ≡ [] → AreRecords cfg p.1 p.2 (records_from cfg m p.1 p.2)
    at_end zero p e1 e2 = (p.1, p.2, (refl, refl), rw (e1, e2) refl)
    at_end (suc m) p e1 e2 =
        let P : State → List ℕ → Type 0 = λ a b. AreRecords cfg a b (records_from cfg (suc m) a b) in
        subst (λ a. P a p.2) (sym e1) (subst (λ b. P st.StartRecord b) (sym e2) (st.StartRecord, [], (refl, refl), refl))

    Later : Type 0
    Later = (t : State) (ys : List ℕ) → length ys < n → AreRecords cfg t ys (records_from cfg n t ys)

    behind : (p : Read) → Later → next_record cfg s [] [] xs ≡ Some p → AreRecords cfg p.1 p.2 (records_from cfg n p.1 p.2)
    behind p later e = elim (shorter cfg s [] [] xs p e) [
      | inl less ↦ later p.1 p.2 (omega arith)
      | inr ends ↦ at_end n p ends.0 ends.1
    ]

    by : (o : Option Read) → next_record cfg s [] [] xs ≡ o → Later → AreRecords cfg s xs (records_next (records_from cfg n) o)
    by None e later = (s, xs, (refl, refl), e)
    by (Some p) e later = let more = behind p later e in (more.0, more.1, (p, e, refl, more.2), more.3)

rows_are : (text : List ℕ) → AreRows text (rows_of text)
rows_are text = all_read list_config (length (strip_bom text) + 1) st.StartRecord (strip_bom text) (omega arith)

-- what a reader has reached is the front of all records
front_of : (cfg : Config) (s s2 : State) (xs ys : List ℕ) (front rows : List Fields) → Reached cfg s xs front s2 ys → AreRecords cfg s xs rows
    → (more : List Fields) × (rows ≡ front ++ more) × AreRecords cfg s2 ys more
unfolding Reached
front_of cfg s s2 xs ys [] rows (es, ex) all =
    (rows, refl, subst (λ v. AreRecords cfg v ys rows) es (subst (λ v. AreRecords cfg s v rows) ex all))
front_of cfg s s2 xs ys (r ∷ rs) [] (p, e, f, more) (s3, zs, (e1, e2), none) =
    let no : next_record cfg s [] [] xs ≡ None = rw (e1, e2) none in cc
front_of cfg s s2 xs ys (r ∷ rs) (q ∷ qs) (p, e, f, more) (s3, zs, (p2, e2, f2, more2), none) =
    let same : p2 ≡ p = cc in
    let rest = front_of cfg p.1 s2 p.2 ys rs qs more (subst (λ (v : Read). AreRecords cfg v.1 v.2 qs) same (s3, zs, more2, none)) in
    (rest.0, step_same (f2 ∙ ap (λ (v : Read). v.0) same ∙ sym f) rest.1, rest.2)
  where
    step_same : {a b : Fields} {l m : List Fields} → a ≡ b → l ≡ m → a ∷ l ≡ b ∷ m
    step_same h t = cc

-- the records that a reader gave are the first ones of the text
pub gave_front : (text : List ℕ) (a : Reader (Bor (List ℕ))) (rows : List Fields) → Gave text a rows → (more : List Fields) × (rows_of text ≡ rows ++ more)
gave_front text a rows g =
    let front = front_of list_config st.StartRecord (reader_state a) (strip_bom text) g.rest rows (rows_of text) g.reached (rows_are text) in
    (front.0, front.1)

-- a text has one list of records
pub rows_same : (text : List ℕ) (rows : List Fields) → AreRows text rows → rows_of text ≡ rows
unfolding Reached
rows_same text rows (s, left, reached, none) =
    let front = front_of list_config st.StartRecord s (strip_bom text) left rows (rows_of text) reached (rows_are text) in
    front.1 ∙ ap (λ more. rows ++ more) (nothing front.0 front.2) ∙ append-nil rows
  where
    nothing : (more : List Fields) → AreRecords list_config s left more → more ≡ []
    nothing [] all = refl
    nothing (q ∷ qs) (s3, zs, (p, e, f, rest), end) = cc
