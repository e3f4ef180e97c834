-- What a call says, where it asks for nothing to look at and where something was made.
use Rattle.std.proofs.Common.{◌≡◌, ℕ, ◌≤◌, List, [], Option, Some, None, refl, subst, arith}
use Rattle.command_words.specs.Words.{Text}
use Rattle.command_plan.specs.declared.status.Status.{Status}
use Rattle.command_plan.specs.declared.status.Status.TheVariants as status
use Rattle.command_plan.proofs.Founds.{stay}
use Rattle.accmut_app.specs.Call.{Devices, counts_in}
use Rattle.accmut_app.specs.View.{IsViewAnswer, IsViewCall, view_names_of}
use Rattle.accmut_app.specs.declared.view_words.ViewCommand.{ViewCommand}
use Rattle.accmut_app.specs.declared.view_words.ViewCommand.TheVariants.{Number, Page}

pub no_view : (o : Option (ViewCommand Text)) (before : Devices) → o ≡ None → IsViewCall o before before status.Usage
no_view o before none = record {
  usage = (λ e. none, λ e. refl);
  idle = λ e. record { written = refl; counts = stay (counts_in before); faults = λ name. refl; sink_faults = refl };
  answer = λ c some. absurd (cc (none, some));
  signs = refl;
  answers = refl;
  kept = refl;
  counts = λ name. omega arith;
  sink_counts = omega arith;
}

pub viewed : (o : Option (ViewCommand Text)) (c : ViewCommand Text) (before after : Devices) (s : Status) → o ≡ Some c → IsViewAnswer c before after s
    → after.ports.signs ≡ before.ports.signs → after.ports.answers ≡ before.ports.answers → after.files ≡ before.files
    → ((name : List ℕ) → before.faults name ≤ after.faults name) → before.sink_faults ≤ after.sink_faults → IsViewCall o before after s
viewed o c before after s is answer signs answers kept counts sink_counts = record {
  usage = (λ e. absurd (subst (IsViewAnswer c before after) e answer), λ none. absurd (cc (is, none)));
  idle = λ none. absurd (cc (is, none));
  answer = λ k some. let same : c ≡ k = cc (is, some) in subst (λ c. IsViewAnswer c before after s) same answer;
  signs = signs;
  answers = answers;
  kept = kept;
  counts = counts;
  sink_counts = sink_counts;
}

-- something to look at names a file
pub view_named : (o : Option (ViewCommand Text)) (c : ViewCommand Text) → o ≡ Some c → view_names_of o ≡ [] → ⊥
view_named o (Number name) is none = let some = subst (λ o. view_names_of o ≡ []) is none in cc
view_named o (Page files) is none = let some = subst (λ o. view_names_of o ≡ []) is none in cc
