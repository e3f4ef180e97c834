-- Which words ask for something to look at.
use Rattle.std.specs.Prelude.{List, [], ◌∷◌, if◌then◌else◌, Option, Some, None, codes}
use Rattle.std.specs.Str.{bytes_eq}
use denote.Ref.{Bor}
use Rattle.command_words.specs.Words.{Text, files_meant, files_named}
use Rattle.accmut_app.specs.declared.view_words.ViewCommand.{ViewCommand}
use Rattle.accmut_app.specs.declared.view_words.ViewCommand.TheVariants.{Number, Page}

abbrev pub number_of : Text → Text → Option (ViewCommand Text)
number_of name m = if bytes_eq name (codes "number") then Some (Number m) else None

abbrev pub page_of : Text → Text → Text → Text → Option (ViewCommand Text)
page_of name m mutants tests = if bytes_eq name (codes "page") then Some (Page (files_named m mutants tests)) else None

-- `number MODULE` or `page MODULE MUTANTS TESTS`; no other words ask for anything
abbrev pub view_command_of : List Text → Option (ViewCommand Text)
view_command_of (name ∷ m ∷ []) = number_of name m
view_command_of (name ∷ m ∷ mutants ∷ tests ∷ []) = page_of name m mutants tests
view_command_of _ = None

abbrev pub view_meant : ViewCommand (Bor Text) → ViewCommand Text
view_meant (Number m) = Number m.now
view_meant (Page files) = Page (files_meant files)
