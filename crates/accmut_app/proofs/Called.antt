-- What a call says, where it asks for no command and where a command was carried out.
use Rattle.std.proofs.Common.{◌≡◌, ℕ, ◌≤◌, List, Option, Some, None, refl, subst, arith}
use Rattle.ports.specs.Asks.{asked_in}
use Rattle.command_words.specs.Words.{Text}
use Rattle.command_words.specs.declared.command.Command.{Command}
use Rattle.command_words.specs.declared.command.Command.TheVariants.{Load}
use Rattle.command_plan.specs.declared.status.Status.{Status}
use Rattle.command_plan.specs.declared.status.Status.TheVariants as status
use Rattle.command_plan.proofs.Founds.{stay}
use Rattle.accmut_app.specs.Call.{Devices, counts_in, IsAnswerTo, IsCall}

pub wrong_use : (o : Option (Command Text)) (before : Devices) → o ≡ None → IsCall o before before status.Usage
wrong_use o before none = record {
  usage = (λ e. none, λ e. refl);
  idle = λ e. record { written = refl; counts = stay (counts_in before); faults = λ name. refl; sink_faults = refl };
  answer = λ c some. absurd (cc (none, some));
  unasked = λ number some port. refl;
  signs = refl;
  answers = refl;
  kept = refl;
  counts = λ name. omega arith;
  sink_counts = omega arith;
}

pub carried_out : (o : Option (Command Text)) (c : Command Text) (before after : Devices) (s : Status) → o ≡ Some c → IsAnswerTo c before after s
    → ((number : ℕ) → c ≡ Load number → (port : ℕ) → asked_in after.ports.asked port ≡ asked_in before.ports.asked port)
    → after.ports.signs ≡ before.ports.signs → after.ports.answers ≡ before.ports.answers → after.files ≡ before.files
    → ((name : List ℕ) → before.faults name ≤ after.faults name) → before.sink_faults ≤ after.sink_faults → IsCall o before after s
carried_out o c before after s is answer load signs answers kept counts sink_counts = record {
  usage = (λ e. absurd (subst (IsAnswerTo c before after) e answer), λ none. absurd (cc (is, none)));
  idle = λ none. absurd (cc (is, none));
  answer = λ k some. let same : c ≡ k = cc (is, some) in subst (λ c. IsAnswerTo c before after s) same answer;
  unasked = λ number some. load number (cc (is, some));
  signs = signs;
  answers = answers;
  kept = kept;
  counts = counts;
  sink_counts = sink_counts;
}
