-- The faults of a shelf in memory: how a call counts.
use Rattle.std.proofs.Common.{◌≡◌, ℕ, ◌+◌, ◌-◌, ◌^◌, ◌<◌, ◌≤◌, List, min, Bool, true, false, if◌then◌else◌, is_some, ◌⊎◌, inl, inr, refl, sym, subst, add-one}
use Rattle.std.proofs.Common.{le_refl, arith}
use Rattle.std.proofs.lemmas.Bool.Decides.{nat_tests}
use Rattle.am_base.specs.Cause.{Rose}
use Rattle.am_base.specs.Files.{MemoryFiles, file_in, is_listed, listed_calls, fault_count, calls_after, is_next_listed}

listed_calls-next : (failing : List ℕ) (calls : ℕ) → listed_calls failing (calls + 1) ≡ listed_calls failing calls +
    (if is_listed failing (calls + 1) then 1 else 0)
unfolding listed_calls
listed_calls-next failing calls = rw add-one refl

-- the number of a call that is listed
listed_number : (failing : List ℕ) (number : ℕ) → is_listed failing number ≡ true → number < 2 ^ 64
listed_number failing number listed = grind (arith, nat_tests)

next_cases : (calls : ℕ) → calls < 2 ^ 64 → (min (calls + 1) (2 ^ 64 - 1) ≡ calls + 1) ⊎ (min (calls + 1) (2 ^ 64 - 1) ≡ calls)
next_cases calls fits = grind arith

-- the count of one name, whether it is held or not
count_at : Bool → List ℕ → ℕ → ℕ
count_at held failing calls = if held then listed_calls failing calls else calls

count_at-next : (held : Bool) (failing : List ℕ) (calls : ℕ) → count_at held failing calls ≤ count_at held failing (calls + 1)
unfolding count_at
count_at-next true failing calls = omega (arith, listed_calls-next failing calls)
count_at-next false failing calls = omega arith

count_at-listed : (held : Bool) (failing : List ℕ) (calls : ℕ) → is_listed failing (calls + 1) ≡ true
    → count_at held failing calls < count_at held failing (calls + 1)
unfolding count_at
count_at-listed true failing calls listed = grind (arith, listed_calls-next)
count_at-listed false failing calls listed = omega arith

-- no count falls
pub fault_count-call : (memory : MemoryFiles) (name : List ℕ) → memory.calls < 2 ^ 64 →
    fault_count memory name ≤ fault_count (record memory { calls = calls_after memory }) name
unfolding count_at
fault_count-call memory name fits =
    let held = is_some (file_in memory.files name) in
    let P : ℕ → Type 0 = λ next. count_at held memory.failing memory.calls ≤ count_at held memory.failing next in
    elim (next_cases memory.calls fits) as (λ _. P (min (memory.calls + 1) (2 ^ 64 - 1))) [
      | inl more ↦ subst P (sym more) (count_at-next held memory.failing memory.calls)
      | inr same ↦ subst P (sym same) (le_refl _)
    ]

-- a call that is listed raises every count
pub fault_count-listed : (memory : MemoryFiles) (name : List ℕ) → is_next_listed memory ≡ true →
    Rose (fault_count memory name) (fault_count (record memory { calls = calls_after memory }) name)
unfolding count_at
fault_count-listed memory name listed =
    let held = is_some (file_in memory.files name) in
    let P : ℕ → Type 0 = λ next. count_at held memory.failing memory.calls < count_at held memory.failing next in
    let numbered = listed_number memory.failing (memory.calls + 1) listed in
    let more : min (memory.calls + 1) (2 ^ 64 - 1) ≡ memory.calls + 1 = omega arith in
    inl (subst P (sym more) (count_at-listed held memory.failing memory.calls listed))
