-- What is read at a place: an instruction of the code, the replacements, one of them by its number.
use Rattle.std.proofs.Common.{◌≡◌, ◌≢◌, ℕ, zero, suc, ◌-◌, ◌<◌, ◌≤◌, List, length, get_or, refl, sym, ap, ◌∙◌, arith, slice_get, unwrap_or}
use mathlib.Core.Logic.{⊎_elim}
use Rattle.std.proofs.lemmas.Bool.{cases_lt}
use Rattle.std.proofs.lemmas.List.{get_or_default}
use Rattle.std.proofs.lemmas.Option.{unwrap_or-slice_get}
use Rattle.code_form.specs.declared.instr.Instr.{Instr}
use Rattle.code_form.specs.declared.code.Code.{Code}
use Rattle.code_form.specs.declared.replacements.Replacements.{Replacements}
use Rattle.code_form.specs.Places.{instr_at}
use Rattle.code_form.specs.Variant.{instr_of}
use Rattle.code_form.specs.Replacements.{replacements_in, table_of}
use Rattle.code_form.proofs.Tables.{replacements-at, replacements-past}

pub read_or : (is : List Instr) (at : ℕ) (i d : Instr) → at < length is → i ≡ get_or is at i → i ≡ unwrap_or (slice_get is at) d
read_or is at i d l e = e ∙ get_or_default is at i d l ∙ sym (unwrap_or-slice_get is at d)

-- a place with replacements is in the list
pub has_place : (places : List Replacements) (at v : ℕ) → v ≢ 0 → v ≤ length (replacements_in places at) → at < length places
has_place places at v some given =
    ⊎_elim (λ l. l) (λ l. let e : length (replacements_in places at) ≡ 0 = ap (λ (is : List Instr). length is) (replacements-past places at l) in
    absurd (omega (arith, e, some, given))) (cases_lt at (length places))

pub place_replacements : (places : List Replacements) (at v : ℕ) (s : Replacements) → v ≢ 0 → v ≤ length (replacements_in places at) → s ≡ get_or places at s
    → s.instrs.keys ≡ replacements_in places at
place_replacements places at v s some given e = ap (λ (t : Replacements). t.instrs.keys) e
    ∙ sym (replacements-at places at s (has_place places at v some given))

pub instr_by_number : (code : Code) (choices : List (List (ℕ × ℕ))) (places : List Replacements) (at v : ℕ) (is : List Instr) (i : Instr) → v ≢ 0
    → is ≡ replacements_in places at → v ≤ length is
    → i ≡ get_or is (v - 1) i → i ≡ instr_of code (table_of choices places) at v
instr_by_number code choices places at zero is i some e l g = absurd (some refl)
instr_by_number code choices places at (suc k) is i some e l g =
    let back : suc k - 1 ≡ k = omega arith in
    let f = rw back at g in
    read_or is k i (instr_at code at) (omega arith) f ∙ ap (λ (x : List Instr). unwrap_or (slice_get x k) (instr_at code at)) e
