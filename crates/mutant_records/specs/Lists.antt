-- Lists of mutants: the faults of a record in their order, and the replacements of a list without a fault.
use Rattle.std.specs.Prelude.{◌≡◌, ◌≤◌, ℕ, ◌+◌, ◌-◌, ◌==◌, nat_lt, nat_le, Bool, false, not, ◌&&◌, if◌then◌else◌, List, [], ◌∷◌, ◌++◌, length, Option, Some, None, is_none, slice_get, unwrap_or, codes, Result, Ok, Err}
use Rattle.std.specs.Option.{option_map}
use Rattle.std.specs.Str.{bytes_eq}
use denote.Ref.{Bor}
use Rattle.csv.specs.declared.reader.Reader.{Reader}
use Rattle.am_base.specs.declared.limits.TheConstants.{MAX_FILE_BYTES, MAX_INSTRUCTIONS, MAX_LISTED_MUTANTS, MAX_REPLACEMENTS}
use Rattle.code_form.specs.Places.{function_at, no_block}
use Rattle.code_form.specs.Variant.{has_place}
use Rattle.code_form.specs.declared.code.Block.{Block}
use Rattle.code_form.specs.declared.code.Code.{Code}
use Rattle.code_form.specs.declared.code.Func.{Func}
use Rattle.function_names.specs.Names.{function_named}
use Rattle.ir_tokens.specs.Bytes.{Text}
use Rattle.list_records.specs.Faults.{Faults, first_fault}
use Rattle.list_records.specs.Numbers.{number_within}
use Rattle.list_records.specs.Records.{Fields, Gave, field_of}
use Rattle.mutant_records.specs.declared.error.MutantError.{MutantError}
use Rattle.mutant_records.specs.declared.error.MutantError.TheVariants as error
use Rattle.mutant_records.specs.declared.list.ListForm.{ListForm}
use Rattle.mutant_records.specs.declared.list.ListForm.TheVariants.{Plain, Numbered}
use Rattle.mutant_records.specs.declared.list.Made.{Made}
use Rattle.mutant_records.specs.declared.list.Replacement.{Replacement}
use Rattle.mutant_records.specs.declared.list.Replacement.TheVariants.{NoInstruction, Misfit, Fits}

-- ---- fields

-- the three fields from a number on have these names
abbrev pub names_fields : Fields → ℕ → Bool
names_fields fields from = bytes_eq (field_of fields from) (codes "function") && bytes_eq (field_of fields (from + 1)) (codes "instruction")
    && bytes_eq (field_of fields (from + 2)) (codes "replacement")

-- the form of the list whose record 0 this is: `function;instruction;replacement`, or the same behind `mutant`
abbrev pub form_of : Fields → Option ListForm
form_of fields =
    if (length fields == 3 && names_fields fields 0) then Some Plain
    else (if (length fields == 4 && (bytes_eq (field_of fields 0) (codes "mutant") && names_fields fields 1)) then Some Numbered else None)

-- how many fields stand before the function's
abbrev pub fields_before : ListForm → ℕ
fields_before Plain = 0
fields_before Numbered = 1

-- the blocks of a function follow one another: its instructions stand from the first one of its first block to the last one of its last block
abbrev pub first_place : Func → ℕ
first_place f = (unwrap_or (slice_get f.blocks 0) no_block).first

abbrev pub block_end : Block → ℕ
block_end b = b.first + b.len

abbrev pub end_place : Func → ℕ
end_place f = block_end (unwrap_or (slice_get f.blocks (length f.blocks - 1)) no_block)

-- these places are some of the code
pub record HasPlaces (code : Code) (f : Func) : Type 0 where
  pub rising : first_place f ≤ end_place f
  pub within : end_place f ≤ length code.instrs
  pub few : length code.instrs ≤ MAX_INSTRUCTIONS

-- the place of the instruction that a text numbers, from 1 in the function
abbrev pub place_named : Func → Text → Option ℕ
place_named f text = option_map (λ n. first_place f + n - 1) (number_within (end_place f - first_place f) text)

-- ---- mutants

-- the mutant of the last of these replacements, 0 where there is none. As mutants are numbered from 1 without a gap, it's how many these are of
abbrev pub mutant_or_none : Option Made → ℕ
mutant_or_none None = 0
mutant_or_none (Some made) = made.mutant

abbrev pub last_mutant : List Made → ℕ
last_mutant all = mutant_or_none (slice_get all (length all - 1))

-- the places of the replacements of a mutant among these, in their order
abbrev pub places_of : List Made → ℕ → List ℕ
places_of [] m = []
places_of (made ∷ more) m = if (made.mutant == m) then made.place.0 ∷ places_of more m else places_of more m

-- whether the next replacement may be one of this mutant: it isn't before the last one, and has fewer than four so far
abbrev pub takes : List Made → ℕ → Bool
takes all m = nat_le (last_mutant all) m && nat_lt (length (places_of all m)) MAX_REPLACEMENTS

abbrev pub if_taken : List Made → Option ℕ → Option ℕ
if_taken all None = None
if_taken all (Some m) = if takes all m then Some m else None

-- the mutant that a record adds to, behind these: that of the record's number, or that of its first field, which is the mutant of the record before or
-- one more, from 1
abbrev pub mutant_called : ListForm → List Made → ℕ → Fields → Option ℕ
mutant_called Plain all number fields = Some number
mutant_called Numbered all number fields = if_taken all (number_within (last_mutant all + 1) (field_of fields 0))

-- whether an earlier record of the mutant has the place: in a plain list each mutant has one record
abbrev pub is_taken : ListForm → List Made → ℕ → ℕ → Bool
is_taken Plain all m at = false
is_taken Numbered all m at = has_place (places_of all m) at

-- ---- a record

abbrev pub mutant_named : ListForm → List Made → ℕ → Fields → ℕ
mutant_named form all number fields = unwrap_or (mutant_called form all number fields) 0

abbrev pub function_named_by : Code → ListForm → Fields → Option ℕ
function_named_by code form fields = function_named code (field_of fields (fields_before form))

abbrev pub number_called : Code → ListForm → Fields → ℕ
number_called code form fields = unwrap_or (function_named_by code form fields) 0

abbrev pub function_called : Code → ListForm → Fields → Func
function_called code form fields = function_at code (number_called code form fields)

abbrev pub place_called : Code → ListForm → Fields → Option ℕ
place_called code form fields = place_named (function_called code form fields) (field_of fields (fields_before form + 1))

abbrev pub text_called : ListForm → Fields → Text
text_called form fields = field_of fields (fields_before form + 2)

-- the faults of the fields before the replacement, in their order
abbrev pub place_faults : Code → ListForm → List Made → ℕ → Fields → Faults MutantError
place_faults code form all number fields =
    (not (length fields == fields_before form + 3), error.Lengths number)
    ∷ (is_none (mutant_called form all number fields), error.Numbering number)
    ∷ (is_none (function_named_by code form fields), error.UnknownFunction number)
    ∷ (is_none (place_called code form fields), error.NoPlace number)
    ∷ (is_taken form all (mutant_named form all number fields) (unwrap_or (place_called code form fields) 0), error.SamePlace number) ∷ []

-- what a replacement gives: it fits its place, unless there are too many mutants, or it has a fault
abbrev pub made_of : ℕ → ℕ → ℕ → ℕ → Replacement → Result Made MutantError
made_of mutant function place number NoInstruction = Err (error.NotAnInstruction number)
made_of mutant function place number Misfit = Err (error.NotOfItsType number)
made_of mutant function place number (Fits with) =
    if nat_lt MAX_LISTED_MUTANTS mutant then Err (error.Limit number)
    else Ok (record { mutant = mutant; function = function; place = record { 0 = place }; with = with })

-- what a text is as a replacement in a place
abbrev pub Reading : Type 1
Reading = ℕ → Text → Replacement → Type 0

abbrev pub GivesAt : Reading → ℕ → ℕ → ℕ → ℕ → Text → Result Made MutantError → Type 0
GivesAt Reads mutant function place number text result =
    (found : Replacement) × Reads place text found × (result ≡ made_of mutant function place number found)

abbrev pub GivesUnless : Option MutantError → Reading → ℕ → ℕ → ℕ → ℕ → Text → Result Made MutantError → Type 0
GivesUnless None Reads mutant function place number text result = GivesAt Reads mutant function place number text result
GivesUnless (Some error) Reads mutant function place number text result = result ≡ Err error

-- what a record of this number gives behind these: its first fault, or the mutant, the function, the place and the replacement
abbrev pub RecordGives : Code → Reading → ListForm → List Made → ℕ → Fields → Result Made MutantError → Type 0
RecordGives code Reads form all number fields result =
    GivesUnless (first_fault (place_faults code form all number fields)) Reads (mutant_named form all number fields) (number_called code form fields)
    (unwrap_or (place_called code form fields) 0) number (text_called form fields) result

-- ---- a list

abbrev pub GoesOn : Result Made MutantError → (Made → Type 0) → Result (List Made) MutantError → Type 0
GoesOn (Err error) More result = result ≡ Err error
GoesOn (Ok made) More result = More made

-- what the records behind those that gave these replacements give: the first fault of the first record that has one, or all replacements
abbrev pub RecordsGive : Code → Reading → ListForm → List Made → List Fields → Result (List Made) MutantError → Type 0
RecordsGive code Reads form all [] result = result ≡ Ok all
RecordsGive code Reads form all (fields ∷ more) result =
    (here : Result Made MutantError) × RecordGives code Reads form all (length all + 1) fields here
    × GoesOn here (λ made. RecordsGive code Reads form (all ++ made ∷ []) more result) result

abbrev pub Behind : Option ListForm → Code → Reading → List Fields → Result (List Made) MutantError → Type 0
Behind (Some form) code Reads records result = RecordsGive code Reads form [] records result
Behind None code Reads records result = result ≡ Err (error.Header 0)

-- what the records of a list give: the replacements of its mutants, record by record, or the fault of the list
abbrev pub ListGives : Code → Reading → List Fields → Result (List Made) MutantError → Type 0
ListGives code Reads [] result = result ≡ Err (error.Header 0)
ListGives code Reads (header ∷ records) result = Behind (form_of header) code Reads records result

-- the reader gives records of a text that is no longer than a file may be
abbrev pub IsShort : Reader (Bor (List ℕ)) → Type 0
IsShort reader = (text : List ℕ) × (rows : List Fields) × (length text ≤ MAX_FILE_BYTES) × Gave text reader rows
