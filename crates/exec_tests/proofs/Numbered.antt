-- How many numbers the replacements of a place have, as a table gets more of them.
use Rattle.std.proofs.Common.{◌≡◌, ◌≢◌, ℕ, ◌+◌, ◌≤◌, List, [], ◌∷◌, length, ap, ◌∙◌, arith, ⊎_elim}
use Rattle.std.proofs.lemmas.Bool.{cases_eq}
use Rattle.std.proofs.lemmas.List.{length-append}
use Rattle.std.proofs.lemmas.Option.{slice_get_within}
use Rattle.code_form.specs.declared.instr.Instr.{Instr}
use Rattle.code_form.specs.declared.code.Code.{Code}
use Rattle.code_form.specs.Variant.{Table, chosen_by, number_at, variant_of, replacements_at, IsNumbered, same, known, fresh, Adds}
use Rattle.code_form.proofs.Added.{chosen-adds, variant-adds}

-- the place has at most b replacements, and no mutant has a number past b there
pub record AreFew (t : Table) (at b : ℕ) : Type 0 where
  pub few : length (replacements_at t at) ≤ b
  pub each : (m : ℕ) → variant_of t m at ≤ b

pub few_at_first : (t : Table) (at : ℕ) → ((m : ℕ) → chosen_by t m ≡ []) → ((q : ℕ) → replacements_at t q ≡ []) → AreFew t at 0
few_at_first t at c r = record { few = rw (r at) (omega arith); each = λ m. rw (c m) (omega arith) }

number_few : {original with : Instr} {before after : List Instr} {n : ℕ} (b : ℕ) → IsNumbered original before with n after → length before ≤ b → (n ≤ b + 1)
    × (length after ≤ b + 1)
number_few b (same e) l = (omega arith, omega arith)
number_few {with = w} {before = is} b (known k ne e) l = let h = slice_get_within is k w e in (omega arith, omega arith)
number_few {with = w} {before = is} b (fresh ne absent) l = (omega arith, let h = length-append is (w ∷ []) in omega arith)

pub few_more : (code : Code) (old new : Table) (m at : ℕ) (with : Instr) (b : ℕ) → Adds code old new m at with → AreFew old at b → AreFew new at (b + 1)
few_more code old new m at with b a f =
    let p = number_few b a.numbered f.few in
    record {
      few = p.1;
      each = λ n. ⊎_elim
          (λ (e : n ≡ m). let h : variant_of new n at ≡ a.number = (ap (λ k. variant_of new k at) e ∙ variant-adds code old new m at with a) in
          let q = p.0 in omega arith)
          (λ (ne : n ≢ m). let h : variant_of new n at ≡ variant_of old n at = ap (λ c. number_at c at) (chosen-adds code old new m at with a n ne) in let q =
          f.each n in omega arith)
          (cases_eq n m);
    }
