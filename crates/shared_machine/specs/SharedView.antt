-- What contracts see of the shared machine, by what is seen of its value.
--     KeepsOutside   it runs the same, and has as many ports as before, each in its place with its sign and its answers
--     KeepsPeak      the greatest number of pages that were used at once didn't fall, and rose by at most as much as the pages readied
--     shared_view    what contracts see of any machine. The number of a state is that of its memory, which no other state has. A state
--                    out is sound for the code, its memory is in the store, and the ports are those of the code; it is ready for a
--                    change where it has the room and where the pages of the bytes are its memory's own
--     shared_lawful  the laws of that view
use Rattle.std.specs.Prelude.{◌≡◌, ◌+◌, ◌≤◌, true, All}
use Rattle.std.proofs.Common.{refl, ◌∙◌, arith}
use Rattle.traces.specs.Counts.{Counts}
use Rattle.traces.specs.View.{View, IsLawful}
use Rattle.machine_form.specs.State.{State}
use Rattle.machine_form.specs.declared.change.Change.{Change}
use Rattle.machine_form.specs.Machine.{machine_of}
use Rattle.machine_form.proofs.SameTests.{machine_same}
use Rattle.machine_form.proofs.LightChanges.{machine_light}
use Rattle.ports.specs.Asks.{answers_in, asked_in}
use Rattle.lane_eval.specs.Running.{IsRunning}
use Rattle.bare_state.specs.Room.{HasRoom}
use Rattle.shared_pages.specs.Store.{IsIn, owns}
use Rattle.shared_machine.specs.Live.{live}
use Rattle.shared_machine.specs.LiveLaws.{live_has, live_distinct}
use Rattle.shared_machine.specs.Shown.{Seen, standing}
use Rattle.shared_machine.specs.declared.state.SharedState.{SharedState}

pub record KeepsOutside (old new : Seen) : Type 0 where
  pub run : new.run ≡ old.run
  pub signs : new.outside.signs ≡ old.outside.signs
  pub answers : new.outside.answers ≡ old.outside.answers

pub record KeepsPeak (old new : Seen) : Type 0 where
  pub least : old.store.peak ≤ new.store.peak
  pub most : new.store.peak + old.readied ≤ old.store.peak + new.readied

peaks_kept : (m : Seen) → KeepsPeak m m
peaks_kept m = record { least = omega arith; most = omega arith }

peaks_go_on : (m n o : Seen) → KeepsPeak m n → KeepsPeak n o → KeepsPeak m o
peaks_go_on m n o p q = record { least = omega (arith, p.least, q.least); most = omega (arith, p.most, q.most) }

abbrev pub counts_seen : Seen → Counts
counts_seen s = record { tried = s.tried; applied = s.applied; weighed = s.weighed; readied = s.readied; asks = asked_in s.outside.asked }

module _ {M : Type 0} (seen : M → Seen) where
  abbrev pub shared_view : View M SharedState State Change
  shared_view = record {
    meanings = λ m. machine_of (seen m).run.code (seen m).run.table (answers_in (seen m).outside.answers);
    stands = λ m s. standing (seen m).store s.bare s.memory;
    number = λ s. s.memory;
    out_numbers = λ m. live (seen m).store;
    is_out = λ m s. IsIn (seen m).store s.memory × IsRunning (seen m).run.code (standing (seen m).store s.bare s.memory)
        × ((seen m).outside.signs ≡ (seen m).run.code.signs);
    is_ready = λ m s c. HasRoom (seen m).run.code s.bare.room c × All (λ b. owns (seen m).store s.memory b.0 ≡ true) c.bytes;
    counts = λ m. counts_seen (seen m);
    stays = λ m n. KeepsOutside (seen m) (seen n) × KeepsPeak (seen m) (seen n);
  }

  pub shared_lawful : IsLawful shared_view
  shared_lawful = record {
    among = λ m s h. live_has (seen m).store s.memory h.0;
    distinct = λ m. live_distinct (seen m).store;
    same = λ m. machine_same (seen m).run.code (seen m).run.table (answers_in (seen m).outside.answers);
    light = λ m. machine_light (seen m).run.code (seen m).run.table (answers_in (seen m).outside.answers);
    stays_refl = λ m. (record { run = refl; signs = refl; answers = refl }, peaks_kept (seen m));
    stays_trans = λ m n o p q. (
      record { run = q.0.run ∙ p.0.run; signs = q.0.signs ∙ p.0.signs; answers = q.0.answers ∙ p.0.answers },
      peaks_go_on (seen m) (seen n) (seen o) p.1 q.1,
    );
  }
