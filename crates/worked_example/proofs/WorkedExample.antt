-- The worked example of docs/EXAMPLE.md, computed from the definitions: the unchanged program and two mutants on the arguments 2 and 2.
use Rattle.std.proofs.Common.{◌≡◌, ℕ, List, [], ◌∷◌, refl}
use Rattle.am_base.specs.declared.word.Width.TheVariants.{W32}
use Rattle.am_base.specs.declared.word.BinOp.TheVariants.{Sub}
use Rattle.am_base.specs.declared.word.Pred.TheVariants.{Sgt}
use Rattle.code_form.specs.declared.instr.Operand.TheVariants.{Reg, Word}
use Rattle.code_form.specs.declared.instr.Instr.TheVariants.{Cmp}
use Rattle.code_form.specs.Variant.{Table}
use Rattle.traces.specs.Trace.{Trial, changes_from}
use Rattle.traces.specs.Together.{together, class_of}
use Rattle.traces.specs.Work.{steps, tries, alone, executions, splits}
use Rattle.machine_form.specs.declared.change.Change.{Change}
use Rattle.machine_form.specs.State.{State}
use Rattle.machine_form.specs.Machine.{case_trial}
use Rattle.lane_eval.specs.Ports.{no_answers}
use Rattle.worked_example.specs.Example.{first_instr, example}
use Rattle.worked_example.specs.Codes.{case_of}

-- mutant 1 subtracts in the place of `add`, and mutant 2 compares with 3 in the place of 10
table : Table
table = record {
  chosen = [] ∷ ((0, 1) ∷ []) ∷ ((1, 1) ∷ []) ∷ [];
  mentioned = (first_instr Sub ∷ []) ∷ (Cmp Sgt W32 (Reg 2) (Word 3) ∷ []) ∷ [];
}

module _ (memory : List ℕ) where
  abbrev trial : Trial State Change
  trial = case_trial (example memory) table no_answers (case_of 0 (2 ∷ 2 ∷ []) [] 9)

  -- the nodes of the trie but for its root, its leaves, and the changes of three runs alone
  work : (steps trial ≡ 11) × (tries trial ≡ 11) × (executions trial ≡ 3) × (alone trial ≡ 12)
  unfolding changes_from together table
  work = (refl, refl, refl, refl)

  -- the branch points: the root, where mutant 1 parts, and the class of 0 and 2 behind the sum
  branch_points : splits trial ≡ (0, 0 ∷ 1 ∷ []) ∷ (1, 0 ∷ 2 ∷ []) ∷ []
  unfolding changes_from together class_of table
  branch_points = refl
