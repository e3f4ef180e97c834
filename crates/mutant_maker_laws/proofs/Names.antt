-- A function is found by its name, and an instruction by its number.
use Rattle.std.proofs.Common.{◌≡◌, ℕ, zero, suc, ◌+◌, ◌-◌, ◌^◌, ◌<◌, ◌≤◌, Bool, true, false, List, [], ◌∷◌, length, Some, refl, sym, ap, ◌∙◌}
use Rattle.std.proofs.Common.{arith, slice_get, unwrap_or, nat_le, ◌==◌, decimal, eqb-true}
use Rattle.std.specs.List.{position_from, list_all}
use Rattle.std.specs.Char.{is_ascii_digit}
use Rattle.std.specs.Str.{bytes_eq}
use Rattle.std.specs.Str.Parse.{digits_value}
use Rattle.std.proofs.lemmas.Bool.{false_from_ne_true, and_parts, lt-ltb, le-leb, leb-true}
use Rattle.std.proofs.lemmas.Slice.Eq.{bytes_eq-Decides}
use Rattle.code_form.specs.declared.code.Block.{Block}
use Rattle.code_form.specs.declared.code.Func.{Func}
use Rattle.code_form.specs.declared.code.Code.{Code}
use Rattle.code_form.specs.Places.{no_block}
use Rattle.code_form.specs.Sound.{AreLaid, IsSound}
use Rattle.function_names.specs.Names.{function_named}
use Rattle.ir_tokens.specs.Tokens.{IsDigits}
use Rattle.ir_tokens.proofs.Spelled.{IsDigits-is_digits}
use Rattle.ir_text.proofs.Values.{decimal-IsDigits, decimal-value}
use Rattle.list_records.specs.Numbers.{decimal_of, positive, number_within}
use Rattle.mutant_records.specs.Lists.{first_place, end_place, block_end, place_named}

-- ---- functions

position : {X : Type 0} (test : X → Bool) (xs : List X) (i k : ℕ) (x : X) → slice_get xs k ≡ Some x → test x ≡ true
    → ((j : ℕ) (y : X) → slice_get xs j ≡ Some y → test y ≡ true → j ≡ k) → position_from test i xs ≡ Some (i + k)
position test [] i k x e t only = cc
position test (y ∷ xs) i zero x e t only =
    let same : y ≡ x = cc in
    let here : test y ≡ true = ap test same ∙ t in
    rw here (ap Some (omega arith))
position test (y ∷ xs) i (suc k) x e t only =
    let no : test y ≡ false = false_from_ne_true (test y) (λ h. let z = only 0 y refl h in absurd (omega arith)) in
    rw no (position test xs (i + 1) k x e t (λ j z g h. let q = only (suc j) z g h in omega arith) ∙ ap Some (omega arith))

pub named : (code : Code) → IsSound code → (k : ℕ) (f : Func) → slice_get code.funcs k ≡ Some f → function_named code f.name ≡ Some k
named code s k f e = position (λ (g : Func). bytes_eq f.name g.name) code.funcs 0 k f e ((bytes_eq-Decides f.name f.name).1 refl)
    (λ j g there t. s.names j k g f there e (sym ((bytes_eq-Decides f.name g.name).0 t))) ∙ ap Some (omega arith)

-- ---- numbers

digits-number : (most n : ℕ) (ds : List ℕ) → IsDigits ds → digits_value 10 ds ≡ n → 1 ≤ n → n ≤ most → n < 2 ^ 64 → positive most (decimal_of ds) ≡ Some n
digits-number most n [] d v low high wide = let some = d.some in absurd (omega arith)
digits-number most n (b ∷ bs) d v low high wide =
    let one = (and_parts (is_ascii_digit b) (list_all is_ascii_digit bs) d.whole).0 in
    let from = leb-true _ _ (and_parts (nat_le 48 b) (nat_le b 57) one).0 in
    let no_minus : (b == 45) ≡ false = false_from_ne_true (b == 45) (λ e. let same = eqb-true b 45 e in absurd (omega arith)) in
    rw (no_minus, IsDigits-is_digits (b ∷ bs) d, v, lt-ltb n (2 ^ 64) wide, le-leb 1 n low, le-leb n most high) refl

number : (most n : ℕ) → 1 ≤ n → n ≤ most → n < 2 ^ 64 → number_within most (decimal n) ≡ Some n
number most n low high wide = digits-number most n (decimal n) (decimal-IsDigits n (omega arith)) (decimal-value n (omega arith)) low high wide

pub placed : (f : Func) (n at : ℕ) → first_place f + n ≡ at → n + 1 ≤ end_place f - first_place f → n + 1 < 2 ^ 64 → place_named f (decimal (n + 1)) ≡ Some at
placed f n at from within wide =
    let is = number (end_place f - first_place f) (n + 1) (omega arith) within wide in
    rw is (ap Some (omega arith))

-- ---- blocks

pub first-laid : (from to : ℕ) (bs : List Block) → 0 < length bs → AreLaid from bs to → (unwrap_or (slice_get bs 0) no_block).first ≡ from
first-laid from to [] some laid = absurd (omega arith)
first-laid from to (b ∷ bs) some laid = laid.0

pub end-laid : (from to : ℕ) (bs : List Block) → 0 < length bs → AreLaid from bs to → block_end (unwrap_or (slice_get bs (length bs - 1)) no_block) ≡ to
end-laid from to [] some laid = absurd (omega arith)
end-laid from to (b ∷ []) some laid = ap (λ n. n + b.len) laid.0 ∙ laid.1
end-laid from to (b ∷ (d ∷ bs)) some laid =
    let more = end-laid (from + b.len) to (d ∷ bs) (omega arith) laid.1 in
    let at : length (b ∷ (d ∷ bs)) - 1 ≡ suc (length (d ∷ bs) - 1) = omega arith in
    ap (λ k. block_end (unwrap_or (slice_get (b ∷ (d ∷ bs)) k) no_block)) at ∙ more
