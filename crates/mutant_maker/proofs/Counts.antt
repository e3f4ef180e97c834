-- How many records there are.
use Rattle.std.proofs.Common.{◌≡◌, ℕ, ◌+◌, ◌<◌, Bool, List, [], ◌∷◌, ◌++◌, length, map, refl, sym, ap, subst, ◌∙◌, take, get_or}
use Rattle.std.proofs.Common.{append_assoc, append-nil, length-append, arith}
use Rattle.mutant_maker.proofs.Steps.{flat_more}
use Rattle.std.specs.Prelude.{◌≤◌, cond, flat_map}
use Rattle.std.proofs.Common.{⊎_elim}
use Rattle.std.proofs.lemmas.Bool.{lt-ltb, le-ltb, cases_lt}
use Rattle.std.proofs.lemmas.List.{length-map}
use Rattle.am_base.specs.declared.limits.TheConstants.{MAX_LISTED_MUTANTS}
use Rattle.ir_tokens.specs.Bytes.{Text}
use Rattle.mutant_maker.specs.declared.rows.Row.{Row}
use Rattle.csv.specs.Writing.{row_text}
use Rattle.mutant_maker.specs.Lists.{Made, header, list_writer, list_text}
use Rattle.mutant_maker.specs.Walks.{row_of, fields_of, with_made, with_all}

-- where a list may have them, all are there
pub all_fit : (rows : List Row) (ms : List Made) → length rows + length ms ≤ MAX_LISTED_MUTANTS → with_all rows ms ≡ rows ++ map row_of ms
all_fit rows [] h = sym (append-nil rows)
all_fit rows (m ∷ ms) h =
    let none = le-ltb MAX_LISTED_MUTANTS (length rows) (omega arith) in
    let size = length-append rows (row_of m ∷ []) in
    ap (λ (b : Bool). with_all (cond b rows (rows ++ row_of m ∷ [])) ms) none ∙ all_fit (rows ++ row_of m ∷ []) ms (omega (arith, size))
    ∙ append_assoc rows (row_of m ∷ []) (map row_of ms)

-- else there are too many
pub all_many : (rows : List Row) (ms : List Made) → MAX_LISTED_MUTANTS < length rows + length ms → MAX_LISTED_MUTANTS < length (with_all rows ms)
all_many rows [] h = omega arith
all_many rows (m ∷ ms) h =
    let size = length-append rows (row_of m ∷ []) in
    let P : Bool → Type 0 = λ b. MAX_LISTED_MUTANTS < length (with_all (cond b rows (rows ++ row_of m ∷ [])) ms) in
    ⊎_elim
    (λ (t : MAX_LISTED_MUTANTS < length rows). subst P (sym (lt-ltb MAX_LISTED_MUTANTS (length rows) t)) (all_many rows ms (omega (arith, t))))
    (λ (f : length rows ≤ MAX_LISTED_MUTANTS). subst P (sym (le-ltb MAX_LISTED_MUTANTS (length rows) f))
    (all_many (rows ++ row_of m ∷ []) ms (omega (arith, size, h))))
    (cases_lt MAX_LISTED_MUTANTS (length rows))

-- the records in one text
pub flat_rows : (f : Row → Text) (ms : List Made) → flat_map f (map row_of ms) ≡ flat_map (λ m. f (row_of m)) ms
flat_rows f [] = refl
flat_rows f (m ∷ ms) = ap (λ t. f (row_of m) ++ t) (flat_rows f ms)

-- ---- the rows of a list

pub few_rows : (rows : List Row) (ms : List Made) → rows ≡ with_all [] ms → length rows ≤ MAX_LISTED_MUTANTS → length ms ≤ MAX_LISTED_MUTANTS
few_rows rows ms e h =
    ⊎_elim
    (λ (t : MAX_LISTED_MUTANTS < length ms). let many = all_many [] ms (omega (arith, t)) in let size = ap length e in absurd (omega (arith, many, size, h)))
    (λ (f : length ms ≤ MAX_LISTED_MUTANTS). f)
    (cases_lt MAX_LISTED_MUTANTS (length ms))

pub many_rows : (rows : List Row) (ms : List Made) → rows ≡ with_all [] ms → MAX_LISTED_MUTANTS < length rows → MAX_LISTED_MUTANTS < length ms
many_rows rows ms e h =
    ⊎_elim
    (λ (t : MAX_LISTED_MUTANTS < length ms). t)
    (λ (f : length ms ≤ MAX_LISTED_MUTANTS).
    let size = ap length (e ∙ all_fit [] ms (omega (arith, f))) in
    let same = length-map ms row_of in
    absurd (omega (arith, size, same, f, h)))
    (cases_lt MAX_LISTED_MUTANTS (length ms))

pub list_is : (rows : List Row) (ms : List Made) → rows ≡ with_all [] ms → length rows ≤ MAX_LISTED_MUTANTS
    → row_text list_writer header ++ flat_map (λ row. row_text list_writer (fields_of row)) rows ≡ list_text ms
list_is rows ms e h =
    let few = few_rows rows ms e h in
    let all = e ∙ all_fit [] ms (omega (arith, few)) in
    ap (λ (l : List Row). row_text list_writer header ++ flat_map (λ row. row_text list_writer (fields_of row)) l) all
    ∙ ap (λ t. row_text list_writer header ++ t) (flat_rows (λ row. row_text list_writer (fields_of row)) ms)

-- ---- the text of a list

pub text_more : (h : Text) (f : Row → Text) (xs : List Row) (i : ℕ) (x : Row) → i < length xs → x ≡ get_or xs i x
    → (h ++ flat_map f (take i xs)) ++ f x ≡ h ++ flat_map f (take (i + 1) xs)
text_more h f xs i x lt e = append_assoc h (flat_map f (take i xs)) (f x) ∙ ap (λ t. h ++ t) (sym (flat_more f xs i x lt e))
