-- What was found of the plan of `make`, from what was made.
use Rattle.std.proofs.Common.{◌≡◌, ℕ, ◌≤◌, ◌<◌, nat_le, true, false, List, length, Ok, Err, refl, arith}
use Rattle.std.proofs.lemmas.Bool.Decides.{nat_tests}
use Rattle.am_base.specs.declared.limits.TheConstants.{MAX_LISTED_MUTANTS}
use Rattle.am_base.specs.Files.{Files}
use Rattle.code_form.specs.declared.sign.PortSign.{PortSign}
use Rattle.ir_tokens.specs.Bytes.{Text}
use Rattle.mutant_maker.specs.Lists.{made, list_text}
use Rattle.command_plan.specs.declared.status.Input.TheVariants as input
use Rattle.command_plan.specs.declared.stop.Stop.TheVariants as stop
use Rattle.command_plan.specs.Answer.{Found}
use Rattle.command_plan.specs.Plan.{Counts, no_counts, Plan, Write, Reads}
use Rattle.command_plan.proofs.Founds.{next_found, within_found, many_found, rise_by_none, stay}
use Rattle.command_files.specs.declared.module.Loaded.{Loaded}
use Rattle.command_files.specs.Modules.{IsAccepted, IsRefused}
use Rattle.commands.specs.Plans.{make_end, make_plan}

module _ (files : Files) (Faulty : List ℕ → Type 0) (signs : List PortSign) (name : Text) (counts : Counts) (m : Loaded)
    (reads : Reads files name (λ file. IsAccepted signs file m)) where
  abbrev listed : Plan
  listed = Write (λ text. text ≡ list_text (made m.module m.code)) (λ counts. counts ≡ no_counts)

  -- the list was made
  pub list_found : (text : List ℕ) → text ≡ list_text (made m.module m.code) → length (made m.module m.code) ≤ MAX_LISTED_MUTANTS
      → Found files Faulty (make_plan signs name) counts counts (Ok text)
  list_found text is few =
      let fits : nat_le (length (made m.module m.code)) MAX_LISTED_MUTANTS ≡ true = grind (arith, nat_tests) in
      next_found files files Faulty Faulty name input.Module (IsRefused signs) Loaded (IsAccepted signs) make_end counts counts m (Ok text) refl (λ name h. h)
      reads
      (within_found files Faulty (nat_le (length (made m.module m.code)) MAX_LISTED_MUTANTS) listed counts counts (Ok text) fits
      (no_counts, (is, refl), rise_by_none counts counts (stay counts)))

  -- it would be too long
  pub long_found : MAX_LISTED_MUTANTS < length (made m.module m.code) → Found files Faulty (make_plan signs name) counts counts (Err stop.TooMany)
  long_found many =
      let over : nat_le (length (made m.module m.code)) MAX_LISTED_MUTANTS ≡ false = grind (arith, nat_tests) in
      next_found files files Faulty Faulty name input.Module (IsRefused signs) Loaded (IsAccepted signs) make_end counts counts m (Err stop.TooMany) refl
      (λ name h. h) reads
      (many_found files Faulty (nat_le (length (made m.module m.code)) MAX_LISTED_MUTANTS) listed counts counts over (stay counts))
