-- What each answer of a command says.
use Rattle.std.specs.Prelude.{◌≡◌, ℕ, ◌+◌, ◌≤◌, List, Result, Ok, Err}
use Rattle.am_base.specs.Files.{Files}
use Rattle.am_base.specs.Text.{Written, appended, AppendsProperPrefix}
use Rattle.command_plan.specs.declared.status.Input.{Input}
use Rattle.command_plan.specs.declared.status.Input.TheVariants as input
use Rattle.command_plan.specs.declared.status.Status.{Status}
use Rattle.command_plan.specs.declared.status.Status.TheVariants as status
use Rattle.command_plan.specs.declared.stop.Stop.{Stop}
use Rattle.command_plan.specs.declared.stop.Stop.TheVariants as stop
use Rattle.command_plan.specs.Status.{refused}
use Rattle.command_plan.specs.Plan.{Counts, Plan, Reads, IsTooLong}
use Rattle.command_plan.specs.Ends.{Ends, Accepted, Text, Refused, Long, Fault, Many}

-- ---- how the counts rise

-- exactly by these
pub record RiseBy (old new by : Counts) : Type 0 where
  pub steps : new.steps ≡ old.steps + by.steps
  pub asks : (port : ℕ) → new.asks port ≡ old.asks port + by.asks port

-- by at most these
pub record RiseWithin (old new by : Counts) : Type 0 where
  pub steps : old.steps ≤ new.steps
  pub steps_within : new.steps ≤ old.steps + by.steps
  pub asks : (port : ℕ) → old.asks port ≤ new.asks port
  pub asks_within : (port : ℕ) → new.asks port ≤ old.asks port + by.asks port

-- not at all
pub record Stay (old new : Counts) : Type 0 where
  pub steps : new.steps ≡ old.steps
  pub asks : (port : ℕ) → new.asks port ≡ old.asks port

module _ (files : Files) (Faulty : List ℕ → Type 0) (plan : Plan) (old new : Counts) where
  -- memory ran out: on the way through the files, or behind them
  pub data RunsOut : Type 0 where
    on_the_way : Stay old new → RunsOut
    behind : (counts : Counts) → Ends files Faulty plan (Accepted counts) → RiseWithin old new counts → RunsOut

  -- a text that was made whole, or why there is none
  abbrev pub Found : Result (List ℕ) Stop → Type 0
  Found (Ok text) = (counts : Counts) × Ends files Faulty plan (Text text counts) × RiseBy old new counts
  Found (Err (stop.Refused input line)) = Ends files Faulty plan (Refused input line) × Stay old new
  Found (Err stop.TooLong) = Ends files Faulty plan Long × Stay old new
  Found (Err stop.Fault) = Ends files Faulty plan Fault × Stay old new
  Found (Err stop.TooMany) = Ends files Faulty plan Many × Stay old new
  Found (Err stop.OutOfMemory) = RunsOut

  -- ---- the table of answers

  module _ (before after : Written) (SinkRose : Type 0) where
    -- an input is refused, and the line that says so was written
    pub record IsRefused (input : Input) : Type 0 where
      pub line : List ℕ
      pub ends : Ends files Faulty plan (Refused input line)
      pub counts : Stay old new
      pub written : after ≡ appended before line

    -- the text or the line of a refusal is due, and a proper prefix of it was written
    pub data IsCutOff : Type 0 where
      in_text : (text : List ℕ) (counts : Counts) → Ends files Faulty plan (Text text counts) → RiseBy old new counts
          → AppendsProperPrefix before after text → IsCutOff
      in_line : (input : Input) (line : List ℕ) → Ends files Faulty plan (Refused input line) → Stay old new
          → AppendsProperPrefix before after line → IsCutOff

    -- the text that is due was written whole
    pub record IsDone : Type 0 where
      pub text : List ℕ
      pub counts : Counts
      pub ends : Ends files Faulty plan (Text text counts)
      pub rise : RiseBy old new counts
      pub written : after ≡ appended before text

    -- what each status says: how the plan ended, how the counts rose, and what the sink tells after the call beside what it told before
    abbrev pub IsAnswer : Status → Type 0
    IsAnswer status.Done = IsDone
    IsAnswer status.ModuleRefused = IsRefused input.Module
    IsAnswer status.MutantsRefused = IsRefused input.Mutants
    IsAnswer status.TestsRefused = IsRefused input.Tests
    IsAnswer status.ReadFault = Ends files Faulty plan Fault × Stay old new × (after ≡ before)
    IsAnswer status.TooLong = Ends files Faulty plan Long × Stay old new × (after ≡ before)
    IsAnswer status.WriteFault = SinkRose × IsCutOff
    IsAnswer status.OutOfMemory = RunsOut × (after ≡ before)
    IsAnswer status.Usage = ⊥
    IsAnswer status.TooMany = Ends files Faulty plan Many × Stay old new × (after ≡ before)

-- ---- how a file is not taken

-- the count of faults of the name rose, or the file is too long
abbrev pub IsNotRead : Files → List ℕ → Type 0 → Stop → Type 0
IsNotRead files name rose stop.Fault = rose
IsNotRead files name rose stop.TooLong = IsTooLong files name
IsNotRead files name rose stop.TooMany = ⊥
IsNotRead files name rose (stop.Refused input line) = ⊥
IsNotRead files name rose stop.OutOfMemory = ⊥

-- the same, or the file is refused as this input with a line, or memory ran out
abbrev pub Fails : Files → List ℕ → Type 0 → Input → (List ℕ → List ℕ → Type 0) → Stop → Type 0
Fails files name rose input refuses stop.Fault = rose
Fails files name rose input refuses stop.TooLong = IsTooLong files name
Fails files name rose input refuses (stop.Refused other line) = (other ≡ input) × Reads files name (λ file. refuses file line)
Fails files name rose input refuses stop.TooMany = ⊥
Fails files name rose input refuses stop.OutOfMemory = Unit {0}

-- an input is refused with a line, or memory ran out
abbrev pub Says : Input → (List ℕ → Type 0) → Stop → Type 0
Says input Refuses (stop.Refused other line) = (other ≡ input) × Refuses line
Says input Refuses stop.OutOfMemory = Unit {0}
Says input Refuses stop.Fault = ⊥
Says input Refuses stop.TooLong = ⊥
Says input Refuses stop.TooMany = ⊥

-- the refusal of an input with a line that was made, unless memory ran out
abbrev pub refusal : {E : Type 0} → Input → Result (List ℕ) E → Stop
refusal input (Ok line) = stop.Refused input line
refusal input (Err error) = stop.OutOfMemory

-- ---- how what was found is written

-- a text was written whole, and the answer is the status that goes with it; or a proper prefix of it was, and the answer is WriteFault
pub data WritesText (text : List ℕ) (before after : Written) (SinkRose : Type 0) (s : Status) : Status → Type 0 where
  whole : after ≡ appended before text → WritesText text before after SinkRose s s
  part : SinkRose → AppendsProperPrefix before after text → WritesText text before after SinkRose s status.WriteFault

abbrev pub WritesFound : Result (List ℕ) Stop → Written → Written → Type 0 → Status → Type 0
WritesFound (Ok text) before after SinkRose s = WritesText text before after SinkRose status.Done s
WritesFound (Err (stop.Refused input line)) before after SinkRose s = WritesText line before after SinkRose (refused input) s
WritesFound (Err stop.TooLong) before after SinkRose s = (s ≡ status.TooLong) × (after ≡ before)
WritesFound (Err stop.Fault) before after SinkRose s = (s ≡ status.ReadFault) × (after ≡ before)
WritesFound (Err stop.TooMany) before after SinkRose s = (s ≡ status.TooMany) × (after ≡ before)
WritesFound (Err stop.OutOfMemory) before after SinkRose s = (s ≡ status.OutOfMemory) × (after ≡ before)
