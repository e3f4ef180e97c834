-- The analysis of a case, in words of the code, the table and the case.
use Rattle.std.proofs.Common.{◌≡◌, ◌∙◌, ℕ, ◌*◌, ◌<◌, ◌≤◌, true, List, ap, arith, get_or, length, map, refl, slice_index, subst, sym, unwrap_or}
use Rattle.std.specs.List.{All}
use Rattle.std.proofs.lemmas.Bool.{le-leb}
use Rattle.std.proofs.lemmas.List.Elements.{All-get_or}
use Rattle.std.proofs.lemmas.Option.{slice_get-get_or, slice_get_within}
use Rattle.std.proofs.Math.Nat.{mul-le-mul}
use Rattle.am_base.specs.declared.limits.TheConstants.{MAX_MUTANTS, MAX_BUDGET}
use Rattle.code_form.specs.declared.case.Case.{Case}
use Rattle.code_form.specs.declared.code.Code.{Code}
use Rattle.code_form.specs.Variant.{Table, variant_of, mutants_of, replacements_at}
use Rattle.traces.specs.Meanings.{IsLight}
use Rattle.traces.specs.Trace.{Trial}
use Rattle.traces.specs.Work.{steps, alone, tries, executions, splits, asks}
use Rattle.traces.proofs.Room.{steps_within, asks_within}
use Rattle.machine_form.specs.declared.change.Change.{Change}
use Rattle.machine_form.specs.State.{State}
use Rattle.machine_form.specs.Calls.{Answers}
use Rattle.machine_form.specs.Machine.{machine_of, case_trial}
use Rattle.machine_form.proofs.LightChanges.{machine_light}
use Rattle.exec_core.specs.Engines.{split_seen}
use Rattle.exec_core.specs.Plans.{KnowsTable}
use Rattle.machine_parts.specs.Shown.{Run}
use Rattle.shared_analysis.specs.Ended.{trial_run, IsEnded, AreEnded, IsClassOf, IsShown, IsNumbered, IsAnalysis}
use Rattle.shared_analysis.specs.declared.ended.Ended.{Ended}
use Rattle.shared_analysis.specs.declared.ended.Together.{Together}
use Rattle.shared_analysis.specs.declared.ended.TestResult.{TestResult}

pub same_trial : (r s : Run) (a b : Answers) (table : Table) (case : Case) → r ≡ s → a ≡ b → trial_run r a table case ≡ trial_run s b table case
same_trial r s a b table case p q = ap (λ (x : Run). trial_run x a table case) p ∙ ap (λ (x : Answers). trial_run s x table case) q

pub knows_table : (r : Run) (a : Answers) (table : Table) → table ≡ r.table → ((m at : ℕ) → variant_of table m at ≤ length (replacements_at table at))
    → KnowsTable (machine_of r.code r.table a) table
knows_table r a table e given m at = le-leb _ _ (subst (λ (t : Table). variant_of table m at ≤ length (replacements_at t at)) e (given m at))

module _ (T : Trial State Change) where
  shown_of : (classes : List Ended) (m number : ℕ) → All (IsEnded T) classes → IsClassOf classes m number → IsShown T classes m number
  shown_of classes m number all c =
      let within = slice_get_within classes number c.class c.is in
      let same : get_or classes number c.class ≡ c.class = ap (λ o. unwrap_or o c.class) (sym (slice_get-get_or classes number c.class within) ∙ c.is) in
      let ended : IsEnded T c.class = subst (IsEnded T) same (All-get_or (IsEnded T) classes number c.class within all) in record {
        class = c.class;
        is = c.is;
        member = c.member;
        outcome = ended.outcome m c.member;
        steps = ended.steps m c.member;
      }

  pub analysis_of : (t : Together) (mutants : ℕ) (a : TestResult) → mutants ≡ T.mutants → AreEnded T t.classes → t.work.steps ≡ steps T → t.work.alone ≡ alone T
      → t.work.tries ≡ tries T → t.work.executions ≡ executions T → map split_seen t.splits ≡ splits T → IsNumbered t mutants a → IsAnalysis T a
  analysis_of t mutants a same ended st al tr ex sp n = record {
    classes = subst (AreEnded T) (sym n.classes) ended;
    shown = record {
      count = n.count ∙ same;
      each = λ m l. subst (λ cs. IsShown T cs m (slice_index a.class_of m)) (sym n.classes)
          (shown_of t.classes m (slice_index a.class_of m) ended.each (n.each m (subst (λ k. m < k) (sym same) l)));
    };
    steps = ap (λ w. w.steps) n.work ∙ st;
    alone = ap (λ w. w.alone) n.work ∙ al;
    tries = ap (λ w. w.tries) n.work ∙ tr;
    executions = ap (λ w. w.executions) n.work ∙ ex;
    splits = ap (map split_seen) n.splits ∙ sp;
  }

  module _ (few : T.mutants ≤ MAX_MUTANTS) (short : T.budget ≤ MAX_BUDGET) where
    product : T.mutants * (T.budget * 1) ≤ MAX_MUTANTS * MAX_BUDGET
    product = let b : T.budget * 1 ≤ MAX_BUDGET = omega (arith, short) in mul-le-mul few b

    pub few_steps : steps T ≤ MAX_MUTANTS * MAX_BUDGET
    few_steps = let s = steps_within T in let p = product in omega (arith, s, p)

    pub few_asks : IsLight T.meanings → ((m p : ℕ) → T.meanings.knows p (T.variant m p) ≡ true) → (port : ℕ) → asks T port ≤ MAX_MUTANTS * MAX_BUDGET
    few_asks light known port = let s = asks_within T light (λ m p l. known m p) port in let p = product in omega (arith, s, p)

module _ (code : Code) (table : Table) (answers : Answers) (case : Case) (few : mutants_of table ≤ MAX_MUTANTS) (short : case.budget ≤ MAX_BUDGET) where
  pub case_steps : steps (case_trial code table answers case) ≤ MAX_MUTANTS * MAX_BUDGET
  case_steps = few_steps (case_trial code table answers case) few short

  pub case_asks : ((m at : ℕ) → variant_of table m at ≤ length (replacements_at table at)) → (p : ℕ) → asks (case_trial code table answers case) p ≤ MAX_MUTANTS * MAX_BUDGET
  case_asks given = few_asks (case_trial code table answers case) few short (machine_light code table answers)
      (knows_table (record { code = code; table = table }) answers table refl given)
