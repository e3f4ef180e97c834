-- The classes at a step, read off an analysis that is cut off there.
--     IsGroup T n e    e is a class of the analysis within the budget n: where its length is n, its members are a class at n, and reach n;
--                      where it is less, the whole trace of each member has that length
use Rattle.std.specs.Prelude.{◌≡◌, ℕ, ◌<◌, ◌≤◌, length}
use Rattle.std.specs.List.{Contains}
use Rattle.traces.specs.Trace.{Trial, trace}
use Rattle.traces.specs.Together.{class_of}
use Rattle.machine_form.specs.declared.change.Change.{Change}
use Rattle.machine_form.specs.State.{State}
use Rattle.shared_analysis.specs.declared.ended.Ended.{Ended}

pub record IsGroup (T : Trial State Change) (n : ℕ) (e : Ended) : Type 0 where
  pub reached : e.length ≡ n → (m : ℕ) → Contains e.members m → n ≤ length (trace T m)
  pub whole : e.length ≡ n → (m : ℕ) → Contains e.members m → e.members ≡ class_of T m n
  pub short : e.length < n → (m : ℕ) → Contains e.members m → length (trace T m) ≡ e.length
