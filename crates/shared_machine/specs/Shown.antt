-- What contracts see of a machine and its states.
--     standing    what a state stands for whose memory is in a store: all but the memory, and the bytes of the memory
use Rattle.std.specs.Prelude.{ℕ}
use Rattle.machine_form.specs.State.{State}
use Rattle.machine_parts.specs.Shown.{Run, Outside}
use Rattle.bare_state.specs.Room.{Shown, with_memory}
use Rattle.shared_pages.specs.Store.{Store, the_memory}

abbrev pub standing : Store → Shown → ℕ → State
standing store bare memory = with_memory bare.state (the_memory store memory).bytes

-- a whole machine
pub record Seen : Type 0 where
  pub run : Run
  pub outside : Outside
  -- the memories of the states out
  pub store : Store
  -- the variants tried, the changes applied, and the pages of those applied and of those readied
  pub tried : ℕ
  pub applied : ℕ
  pub weighed : ℕ
  pub readied : ℕ

abbrev pub seen_of : Run → Outside → Store → ℕ → ℕ → ℕ → ℕ → Seen
seen_of run outside store tried applied weighed readied = record {
  run = run;
  outside = outside;
  store = store;
  tried = tried;
  applied = applied;
  weighed = weighed;
  readied = readied;
}
