-- The plan of each command has one text.
use Rattle.std.proofs.Common.{◌≡◌, ℕ, List, [], Option, Some, None, sym, ◌∙◌}
use Rattle.std.specs.List.{Contains}
use Rattle.code_form.specs.declared.sign.PortSign.{PortSign}
use Rattle.ports.specs.Asks.{answers_in}
use Rattle.refused_lines.specs.Refusals.{no_mutant_line, no_test_line}
use Rattle.test_suite.specs.declared.suite.Test.{Test}
use Rattle.suite_analysis.specs.declared.show.Show.TheVariants.{Report, Summary, Reduced}
use Rattle.command_words.specs.Words.{Text}
use Rattle.command_words.specs.declared.command.Command.{Command}
use Rattle.command_words.specs.declared.command.Command.TheVariants.{Run, Check, Make, Alone, Groups, Reduce, Load}
use Rattle.command_plan.specs.declared.status.Input.TheVariants as input
use Rattle.command_plan.specs.Ends.{End, Ends, Text as Whole}
use Rattle.command_plan.specs.Plan.{Counts, Plan, Want, Write}
use Rattle.command_plan.specs.Sharp.{IsDueEnd, IsSameEnd}
use Rattle.command_plan.proofs.Agreed.{ends_agreed}
use Rattle.command_plan.proofs.OneEnd.{one_end}
use Rattle.commands.specs.Alone.{IsRunText, IsRunRise, mutant_numbered, test_numbered}
use Rattle.commands.specs.Groups.{AreGroups, IsGroupsRise}
use Rattle.commands.specs.Plans.{is_listable, list_plan}
use Rattle.commands.proofs.OneText.{text-one, rise-one}
use Rattle.commands.proofs.OneReport as report
use Rattle.commands.proofs.OneGroups as groups
use Rattle.accmut_app.specs.Commands.{names_of, plan_of}
use Rattle.accmut_app.proofs.Due.{plan_sharp, plan_named}
use Rattle.accmut_laws.proofs.OneText.{IsSingle, single_want, bound_single, one_whole}

module _ (signs : List PortSign) (answers : List (List ℕ → Option ℕ)) where
  plan_single : (c : Command Text) → IsSingle (plan_of signs answers c)
  plan_single (Check name) = λ m. ((λ t u h k. h ∙ sym k), (λ a b h k. h ∙ sym k))
  plan_single (Make name) = λ m. bound_single (is_listable m) (list_plan m) ((λ t u h k. h ∙ sym k), (λ a b h k. h ∙ sym k))
  plan_single (Run files budget order splits) = λ m all suite.
      (report.report-one m.code all (answers_in answers) suite (Report splits), report.rise-one m.code all (answers_in answers) suite)
  plan_single (Alone files mutant test budget) = λ m all suite.
      let A = answers_in answers in
      let write : ℕ → Test → Plan = (λ n t. Write (IsRunText m.code all A n t) (IsRunRise m.code all A n t)) in
      let want : ℕ → Plan = (λ n. Want input.Tests (no_test_line test) Test (test_numbered suite.tests test) (write n)) in
      single_want input.Mutants (no_mutant_line mutant) ℕ (mutant_numbered all mutant) want
      (λ n. single_want input.Tests (no_test_line test) Test (test_numbered suite.tests test) (write n)
      (λ t. (text-one m.code all A n t, rise-one m.code all A n t)))
  plan_single (Groups files test step budget order) = λ m all suite.
      let A = answers_in answers in
      let write : Test → Plan = (λ t. Write (AreGroups m.code all A step t) (IsGroupsRise m.code all A step t)) in
      single_want input.Tests (no_test_line test) Test (test_numbered suite.tests test) write
      (λ t. (groups.groups-one m.code all A step t, groups.rise-one m.code all A step t))
  plan_single (Reduce files budget order) = λ m all suite.
      (report.report-one m.code all (answers_in answers) suite Reduced, report.rise-one m.code all (answers_in answers) suite)
  plan_single (Load number) = λ m all suite.
      (report.report-one m.code all (answers_in []) suite (Summary number), report.rise-one m.code all (answers_in []) suite)

  module _ (c : Command Text) (held other : List ℕ → Option (List ℕ)) (agreed : (name : List ℕ) → Contains (names_of c) name → held name ≡ other name) where
    -- what the files of the other shelf lead to, those of this one do
    back : (Faulty Also : List ℕ → Type 0) (end : End) → ((name : List ℕ) → Contains (names_of c) name → Faulty name → Also name)
        → Ends (Some other) Faulty (plan_of signs answers c) end → Ends (Some held) Also (plan_of signs answers c) end
    back Faulty Also end faults h =
        ends_agreed other held Faulty Also (names_of c) (λ name has. sym (agreed name has)) faults (plan_of signs answers c) end
        (plan_named signs answers c) h

    pub one_done : (Faulty Also : List ℕ → Type 0) (t u : List ℕ) (a b : Counts)
        → Ends (Some held) Faulty (plan_of signs answers c) (Whole t a) → Ends (Some other) Also (plan_of signs answers c) (Whole u b)
        → (t ≡ u) × (a ≡ b)
    one_done Faulty Also t u a b h k =
        one_whole held Faulty Also (plan_of signs answers c) (plan_sharp signs answers c) (plan_single c) t u a b h
        (back Also Also (Whole u b) (λ name has f. f) k)

    pub one_due : (end also : End) → IsDueEnd held (plan_of signs answers c) end → IsDueEnd other (plan_of signs answers c) also → IsSameEnd end also
    one_due end also h k =
        let Missing : List ℕ → Type 0 = (λ name. held name ≡ None) in
        one_end held Missing Missing (λ name f. f) (λ name f. f) (plan_of signs answers c) (plan_sharp signs answers c) end also h
        (back (λ name. other name ≡ None) Missing also (λ name has f. agreed name has ∙ f) k)
