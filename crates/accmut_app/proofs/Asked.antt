-- Which command the words ask for, from how they were read and whether the picker is there.
use Rattle.std.proofs.Common.{◌≡◌, ℕ, List, [], Bool, true, false, if◌then◌else◌, Option, Some, None, refl, sym, ap, ◌∙◌}
use Rattle.command_words.specs.Words.{Text, wanted}
use Rattle.command_words.specs.declared.command.Command.{Command}
use Rattle.command_words.specs.declared.command.Command.TheVariants.{Run, Check, Make, Alone, Groups, Reduce, Load}
use Rattle.accmut_app.specs.Commands.{has_picker, with_picker, names_of}

module _ (names : List Text) (o : Option (Command Text)) where
  -- the words are this command, and its picker is there
  pub asked : (c : Command Text) → Some c ≡ o → has_picker names (wanted c) ≡ true → with_picker names o ≡ Some c
  asked c is there = sym (ap (with_picker names) is) ∙ ap (λ b. if b then Some c else None) there

  -- or it isn't
  pub unasked : (c : Command Text) → Some c ≡ o → has_picker names (wanted c) ≡ false → with_picker names o ≡ None
  unasked c is missing = sym (ap (with_picker names) is) ∙ ap (λ b. if b then Some c else None) missing

-- `load` alone names no file
pub names_none : (c : Command Text) → names_of c ≡ [] → (number : ℕ) × (c ≡ Load number)
names_none (Check name) e = absurd (cc e)
names_none (Make name) e = absurd (cc e)
names_none (Run files budget order splits) e = absurd (cc e)
names_none (Alone files mutant test budget) e = absurd (cc e)
names_none (Groups files test step budget order) e = absurd (cc e)
names_none (Reduce files budget order) e = absurd (cc e)
names_none (Load number) e = (number, refl)
