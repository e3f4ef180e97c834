-- What contracts see of the flat machine, by what is seen of its value.
--     KeepsOutside  it runs the same, and has as many ports as before, each in its place with its sign and its answers
--     flat_view     what contracts see of any machine. A state out is sound for the code, and the ports are those of the code;
--                   it is ready for a change where it has the room
--     flat_lawful   the laws of that view
use Rattle.std.specs.Prelude.{◌≡◌, nat_eq}
use Rattle.std.proofs.Common.{refl, ◌∙◌}
use Rattle.std.specs.List.{Contains, IsDistinct}
use Rattle.traces.specs.Counts.{Counts}
use Rattle.traces.specs.View.{View, IsLawful}
use Rattle.machine_form.specs.State.{State}
use Rattle.machine_form.specs.declared.change.Change.{Change}
use Rattle.machine_form.specs.Machine.{machine_of}
use Rattle.machine_form.proofs.SameTests.{machine_same}
use Rattle.machine_form.proofs.LightChanges.{machine_light}
use Rattle.ports.specs.Asks.{answers_in, asked_in}
use Rattle.flat_state.specs.Room.{HasRoom}
use Rattle.lane_eval.specs.Running.{IsRunning}
use Rattle.flat_machine.specs.Shown.{Seen}
use Rattle.flat_machine.specs.declared.state.FlatState.{FlatState}

pub record KeepsOutside (old new : Seen) : Type 0 where
  pub run : new.run ≡ old.run
  pub signs : new.outside.signs ≡ old.outside.signs
  pub answers : new.outside.answers ≡ old.outside.answers

abbrev pub counts_seen : Seen → Counts
counts_seen s = record { tried = s.tried; applied = s.applied; weighed = s.weighed; readied = s.readied; asks = asked_in s.outside.asked }

module _ {M : Type 0} (seen : M → Seen) where
  abbrev pub flat_view : View M FlatState State Change
  flat_view = record {
    meanings = λ m. machine_of (seen m).run.code (seen m).run.table (answers_in (seen m).outside.answers);
    stands = λ m s. s.flat.state;
    number = λ s. s.number;
    out_numbers = λ m. (seen m).out;
    is_out = λ m s. Contains (seen m).out s.number × IsRunning (seen m).run.code s.flat.state × ((seen m).outside.signs ≡ (seen m).run.code.signs);
    is_ready = λ m s c. HasRoom (seen m).run.code s.flat.room c;
    counts = λ m. counts_seen (seen m);
    stays = λ m n. KeepsOutside (seen m) (seen n);
  }

  pub flat_lawful : ((m : M) → IsDistinct nat_eq (seen m).out) → IsLawful flat_view
  flat_lawful distinct = record {
    among = λ m s h. h.0;
    distinct = distinct;
    same = λ m. machine_same (seen m).run.code (seen m).run.table (answers_in (seen m).outside.answers);
    light = λ m. machine_light (seen m).run.code (seen m).run.table (answers_in (seen m).outside.answers);
    stays_refl = λ m. record { run = refl; signs = refl; answers = refl };
    stays_trans = λ m n o p q. record { run = q.run ∙ p.run; signs = q.signs ∙ p.signs; answers = q.answers ∙ p.answers };
  }
