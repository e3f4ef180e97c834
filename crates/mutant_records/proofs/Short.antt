-- No field of a record is longer than the text.
use Rattle.std.proofs.Common.{Bor, ◌≡◌, ℕ, zero, suc, ◌+◌, ◌≤◌, Bool, true, false, cond, List, [], ◌∷◌, ◌++◌, length, Some, None, subst, sym, arith, if◌then◌else◌}
use Rattle.std.proofs.lemmas.List.{length-append}
use Rattle.csv.specs.Machine.{Read, next_record, step, is_end, ends_at_end, fields_after, field_after}
use Rattle.csv.specs.Reading.{strip_bom, Reached}
use Rattle.csv.specs.Reading as reading
use Rattle.csv.specs.Records.{field_at}
use Rattle.csv.specs.declared.parser.Action.{Action}
use Rattle.csv.specs.declared.parser.Action.TheVariants as act
use Rattle.csv.specs.declared.parser.Config.{Config}
use Rattle.csv.specs.declared.parser.State.{State}
use Rattle.csv.specs.declared.parser.State.TheVariants as st
use Rattle.csv.specs.declared.reader.Reader.{Reader}
use Rattle.am_base.specs.declared.limits.TheConstants.{MAX_FILE_BYTES}
use Rattle.list_records.specs.Records.{Fields, Gave, field_of, list_config}
use Rattle.mutant_records.specs.Lists.{IsShort}

-- no field is longer than n
abbrev AreShort : ℕ → Fields → Type 0
AreShort n [] = Unit {0}
AreShort n (field ∷ fields) = (length field ≤ n) × AreShort n fields

short_more : (n : ℕ) (fields : Fields) (field : List ℕ) → AreShort n fields → length field ≤ n → AreShort n (fields ++ field ∷ [])
short_more n [] field all here = (here, tt)
short_more n (f ∷ fields) field all here = (all.0, short_more n fields field all.1 here)

short_field : (n : ℕ) (fields : Fields) (i : ℕ) → AreShort n fields → length (field_of fields i) ≤ n
unfolding field_at
short_field n [] i all = omega arith
short_field n (f ∷ fields) zero all = all.0
short_field n (f ∷ fields) (suc i) all = short_field n fields i all.1

after_act : (n : ℕ) (a : Action) (c : ℕ) (fields : Fields) (field rest : List ℕ) → AreShort n fields → length field + length (c ∷ rest) ≤ n
    → AreShort n (fields_after a fields field) × (length (field_after a c field) + length rest ≤ n)
after_act n act.Skip c fields field rest all h = (all, omega arith)
after_act n act.Copy c fields field rest all h = (all, simp length-append (omega arith))
after_act n act.EndField c fields field rest all h = (short_more n fields field all (omega arith), omega arith)
after_act n act.EndRecord c fields field rest all h = (short_more n fields field all (omega arith), omega arith)

record Short (n : ℕ) (p : Read) : Type 0 where
  fields : AreShort n p.0
  rest : length p.2 ≤ n

next_short : (n : ℕ) (cfg : Config) (s : State) (fields : Fields) (field xs : List ℕ) (p : Read) → AreShort n fields → length field + length xs ≤ n
    → next_record cfg s fields field xs ≡ Some p → Short n p
unfolding next_record
next_short n cfg s fields field [] p all h e = by (ends_at_end s) e
  where
    by : (b : Bool) → cond b (Some (fields ++ (field ∷ []), st.StartRecord, [])) None ≡ Some p → Short n p
    by true q =
        let same : (fields ++ (field ∷ []), st.StartRecord, []) ≡ p = cc in
        subst (λ r. Short n r) same (record { fields = short_more n fields field all (omega arith); rest = omega arith })
    by false q = cc
next_short n cfg s fields field (c ∷ rest) p all h e =
    let after = after_act n (step cfg s c).1 c fields field rest all h in
    let more = next_short n cfg (step cfg s c).0 (fields_after (step cfg s c).1 fields field) (field_after (step cfg s c).1 c field) rest p after.0 after.1 in
    by (is_end (step cfg s c).1) after.0 more e
  where
    Later : Type 0
    Later = next_record cfg (step cfg s c).0 (fields_after (step cfg s c).1 fields field) (field_after (step cfg s c).1 c field) rest ≡ Some p

    by : (b : Bool) → AreShort n (fields_after (step cfg s c).1 fields field) → (Later → Short n p)
        → cond b (Some (fields_after (step cfg s c).1 fields field, (step cfg s c).0, rest))
        (next_record cfg (step cfg s c).0 (fields_after (step cfg s c).1 fields field) (field_after (step cfg s c).1 c field) rest) ≡ Some p → Short n p
    by true here more q =
        let same : (fields_after (step cfg s c).1 fields field, (step cfg s c).0, rest) ≡ p = cc in
        subst (λ r. Short n r) same (record { fields = here; rest = omega arith })
    by false here more q = more q

-- the last of some records
reached_short : (n : ℕ) (cfg : Config) (s s2 : State) (xs ys : List ℕ) (rows : List Fields) (fields : Fields) → length xs ≤ n
    → Reached cfg s xs (rows ++ fields ∷ []) s2 ys → AreShort n fields
unfolding Reached
reached_short n cfg s s2 xs ys [] fields h (p, e, is, more) = subst (λ f. AreShort n f) (sym is) (next_short n cfg s [] [] xs p tt (omega arith) e).fields
reached_short n cfg s s2 xs ys (r ∷ rows) fields h (p, e, is, more) = reached_short n cfg p.1 s2 p.2 ys rows fields (next_short n cfg s [] [] xs p tt (omega arith) e).rest more

strip_short : (text : List ℕ) → length (strip_bom text) ≤ length text
unfolding strip_bom
strip_short [] = omega arith
strip_short (a ∷ []) = omega arith
strip_short (a ∷ b ∷ []) = omega arith
strip_short (a ∷ b ∷ c ∷ rest) = by (reading.is_bom a b c)
  where
    by : (m : Bool) → length (if m then rest else a ∷ b ∷ c ∷ rest) ≤ length (a ∷ b ∷ c ∷ rest)
    by true = omega arith
    by false = omega arith

pub gave_short : (text : List ℕ) (reader : Reader (Bor (List ℕ))) (rows : List Fields) (fields : Fields) (i : ℕ) → length text ≤ MAX_FILE_BYTES
    → Gave text reader (rows ++ fields ∷ []) → length (field_of fields i) ≤ MAX_FILE_BYTES
gave_short text reader rows fields i h gave =
    let stripped = strip_short text in
    short_field MAX_FILE_BYTES fields i (reached_short MAX_FILE_BYTES list_config st.StartRecord _ (strip_bom text) gave.rest rows fields (omega arith) gave.reached)

-- one more record is read
pub short_next : (reader now : Reader (Bor (List ℕ))) (fields : Fields) → IsShort reader
    → ((text : List ℕ) (rows : List Fields) → Gave text reader rows → Gave text now (rows ++ fields ∷ [])) → IsShort now
short_next reader now fields short more = (short.0, short.1 ++ fields ∷ [], short.2, more short.0 short.1 short.3)

pub short_here : (reader now : Reader (Bor (List ℕ))) (fields : Fields) (i : ℕ) → IsShort reader
    → ((text : List ℕ) (rows : List Fields) → Gave text reader rows → Gave text now (rows ++ fields ∷ [])) → length (field_of fields i) ≤ MAX_FILE_BYTES
short_here reader now fields i short more = gave_short short.0 now short.1 fields i short.2 (more short.0 short.1 short.3)
