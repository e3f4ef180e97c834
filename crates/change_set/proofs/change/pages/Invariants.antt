use Rattle.std.proofs.Common.{◌≡◌, ◌+◌, ◌≤◌, drop}
use Rattle.machine_form.specs.Pages.{pages_of}
use Rattle.change_set.proofs.change.pages.Given as goal

abbrev pub invariant-loop-i : goal.invariant-loop-i
invariant-loop-i l = record { few : l.pages ≤ l.i; all : l.pages + pages_of (drop l.i l.bytes) ≡ pages_of l.bytes }
