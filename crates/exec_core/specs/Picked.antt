-- The order of turns.
--     offer_of l             what a picker sees of an execution
--     AreOffered             the executions are in order of least member, and a picker sees these offers of them
--     IsReplaced             what a turn that came to this made of the list: another execution with the same members stands at the index, or
--                            the one there left and the last one took its place, or nothing is said
--     IsArranged             the live executions are in order of least member, and nothing else changed
--     Took                   of the offers of all live executions a picker chose an index, and the execution there took its turn
--     HasRefused             the turn of some execution was refused
use Rattle.std.specs.Prelude.{◌≡◌, ⊤, ℕ, List, ◌++◌, length, map, slice_index, slice_index_or, slice_set}
use Rattle.std.specs.List.{swap_remove}
use Rattle.std.specs.List.Sorted.{IsPermutation, IsNonDecreasingBy}
use Rattle.picker.specs.declared.picker.Offer.{Offer}
use Rattle.traces.specs.View.{View}
use Rattle.traces.specs.Trace.{Trial}
use Rattle.exec_core.specs.Engines.{IsIdle}
use Rattle.exec_core.specs.Turned.{Turned, Refused}
use Rattle.exec_core.specs.declared.engine.Engine.{Engine}
use Rattle.exec_core.specs.declared.in_place.Taken.{Taken}
use Rattle.exec_core.specs.declared.in_place.Taken.TheVariants.{GoesOn, Ended, Parted}
use Rattle.exec_core.specs.declared.execution.Execution.{Execution as Concrete}

module _ {S : Type 0} where
  abbrev pub offer_of : Concrete S → Offer
  offer_of l = record { step = l.step; least = slice_index l.members 0; members = length l.members }

  pub record AreOffered (lives : List (Concrete S)) (offers : List Offer) : Type 0 where
    pub rising : IsNonDecreasingBy (λ l. slice_index l.members 0) lives
    pub are : offers ≡ map offer_of lives

  abbrev pub IsReplaced : Taken → ℕ → List (Concrete S) → List (Concrete S) → Type 0
  IsReplaced GoesOn at before after = (made : Concrete S) × (made.members ≡ (slice_index_or before at made).members) × (after ≡ slice_set before at made)
  IsReplaced Ended at before after = (taken : Concrete S) × (after ≡ swap_remove before at taken)
  IsReplaced Parted at before after = ⊤

pub record IsArranged {S C : Type 0} (before after : Engine S C) : Type 0 where
  pub moved : IsPermutation before.lives.items after.lives.items
  pub ended : after.ended.items ≡ before.ended.items
  pub splits : after.splits.items ≡ before.splits.items
  pub tries : after.tries ≡ before.tries
  pub alone : after.alone ≡ before.alone
  pub idle : IsIdle before → IsIdle after

module _ {M S W C : Type 0} (V : View M S W C) where
  pub record Took (T : Trial W C) (picks : List Offer → ℕ → Type 0) (old new : M) (before after : Engine S C) (counted_before counted_after : ℕ) : Type 0 where
    pub at : ℕ
    pub picked : picks (map offer_of before.lives.items) at
    pub turned : Turned V T old new at before after counted_before counted_after

  pub record HasRefused (T : Trial W C) (old new : M) (before after : Engine S C) (counted_before counted_after : ℕ) : Type 0 where
    pub at : ℕ
    pub refused : Refused V T old new at before after counted_before counted_after
