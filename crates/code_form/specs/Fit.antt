-- When a replacement fits its place, a table of replacements its code, and a case its code.
use Rattle.std.specs.Prelude.{◌≡◌, ℕ, ◌<◌, ◌≤◌, false, List, [], ◌∷◌, length, Some, slice_get, slice_set, Contains}
use Rattle.am_base.specs.Word.{IsWord}
use Rattle.am_base.specs.declared.limits.TheConstants.{MAX_INPUT_BYTES, MAX_BUDGET}
use Rattle.code_form.specs.declared.instr.Instr.{Instr}
use Rattle.code_form.specs.declared.code.TyScalar.{TyScalar}
use Rattle.code_form.specs.declared.code.TyScalar.TheVariants.{Int, Ptr}
use Rattle.code_form.specs.declared.code.Code.{Code}
use Rattle.code_form.specs.declared.case.Case.{Case}
use Rattle.code_form.specs.Places.{instr_at, function_at, is_phi, is_alloca, is_terminator, labels_of}
use Rattle.code_form.specs.Sound.{IsSound}
use Rattle.code_form.specs.Variant.{Table, replacements_at}

-- the code with another instruction in a place
abbrev pub with_instr : Code → ℕ → Instr → Code
with_instr code at i = record code { instrs = slice_set code.instrs at i }

pub record FitsPlace (code : Code) (at : ℕ) (i : Instr) : Type 0 where
  pub within : at < length code.instrs
  pub no_phi : is_phi i ≡ false
  pub no_alloca : is_alloca i ≡ false
  pub original_no_phi : is_phi (instr_at code at) ≡ false
  pub original_no_alloca : is_alloca (instr_at code at) ≡ false
  pub terminates : is_terminator i ≡ is_terminator (instr_at code at)
  pub labels : (b : ℕ) → Contains (labels_of i) b → Contains (labels_of (instr_at code at)) b
  pub sound : IsSound (with_instr code at i)

pub record FitsTable (code : Code) (table : Table) : Type 0 where
  pub each : (at k : ℕ) (i : Instr) → slice_get (replacements_at table at) k ≡ Some i → FitsPlace code at i

-- one word for each parameter, each of which is an integer
abbrev pub AreArguments : List TyScalar → List ℕ → Type 0
AreArguments [] [] = Unit {0}
AreArguments [] (n ∷ more) = ⊥
AreArguments (t ∷ ts) [] = ⊥
AreArguments (Ptr ∷ ts) (n ∷ more) = ⊥
AreArguments (Int w ∷ ts) (n ∷ more) = IsWord w n × AreArguments ts more

pub record FitsCase (code : Code) (case : Case) : Type 0 where
  pub defined : case.function < length code.funcs
  pub args : AreArguments (function_at code case.function).params case.args
  pub input : length case.input ≤ MAX_INPUT_BYTES
  pub some : 1 ≤ case.budget
  pub few : case.budget ≤ MAX_BUDGET
