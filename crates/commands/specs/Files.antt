-- The three files of a command.
use Rattle.std.specs.Prelude.{ℕ, List}
use Rattle.am_base.specs.Files.{Files}
use Rattle.code_form.specs.declared.sign.PortSign.{PortSign}
use Rattle.ir_tokens.specs.Bytes.{Text}
use Rattle.mutant_records.specs.Tables.{IsListOf}
use Rattle.mutant_records.specs.declared.list.Made.{Made}
use Rattle.mutant_records.specs.declared.list.MutantList.{MutantList}
use Rattle.test_suite.specs.declared.suite.Suite.{Suite}
use Rattle.command_plan.specs.Plan.{Reads}
use Rattle.command_files.specs.declared.module.Loaded.{Loaded}
use Rattle.command_files.specs.Modules as module_file
use Rattle.command_files.specs.Mutants as mutants_file
use Rattle.command_files.specs.Tests as tests_file

-- the files of these names are this module, a list of its mutants and tests of it
pub record AreRead (files : Files) (signs : List PortSign) (budget : ℕ) (name mutants tests : Text) (m : Loaded) (list : MutantList) (suite : Suite)
    : Type 0 where
  pub module_is : Reads files name (λ file. module_file.IsAccepted signs file m)
  pub all : List Made
  pub mutants_are : Reads files mutants (λ file. mutants_file.AreMutants signs m file all)
  pub list_is : IsListOf m.code all list
  pub tests_are : Reads files tests (λ file. tests_file.AreTests m.code budget file suite)
