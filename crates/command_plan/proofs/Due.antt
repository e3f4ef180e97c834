-- The answer is the one that the bytes of the files ask for.
use Rattle.std.proofs.Common.{◌≡◌, ◌⊎◌, ℕ, List, true, false, Option, Some, None, refl, ap, inl, inr}
use Rattle.std.specs.List.{Contains}
use Rattle.am_base.specs.Files.{Files}
use Rattle.am_base.specs.Text.{Written}
use Rattle.command_plan.specs.declared.status.Input.{Input}
use Rattle.command_plan.specs.declared.status.Input.TheVariants as input
use Rattle.command_plan.specs.declared.status.Status.{Status}
use Rattle.command_plan.specs.declared.status.Status.TheVariants as status
use Rattle.command_plan.specs.Status.{refused}
use Rattle.command_plan.specs.Plan.{Counts, Plan, Read, Want, Bound, Over, Write}
use Rattle.command_plan.specs.Ends.{End, Ends, StopsAt, Accepted, Text, Refused, Long, Fault, Many, status_of}
use Rattle.command_plan.specs.Answer.{IsAnswer}
use Rattle.command_plan.specs.Sharp.{IsSharp, IsSameEnd, IsDueEnd, AreNames}
use Rattle.command_plan.proofs.OneEnd.{one_end}

-- one of the names
abbrev pub Among : List (List ℕ) → (List ℕ → Type 0) → List ℕ → Type 0
Among names Faulty name = Contains names name × Faulty name

stop_named : (files : Files) (Faulty : List ℕ → Type 0) (names : List (List ℕ)) (name : List ℕ) (input : Input) (refuses : List ℕ → List ℕ → Type 0)
    (end : End) → Contains names name → StopsAt files Faulty name input refuses end → StopsAt files (Among names Faulty) name input refuses end
stop_named files Faulty names name input refuses (Accepted counts) has h = h
stop_named files Faulty names name input refuses (Text text counts) has h = h
stop_named files Faulty names name input refuses (Refused other line) has h = h
stop_named files Faulty names name input refuses Long has h = h
stop_named files Faulty names name input refuses Fault has h = (has, h)
stop_named files Faulty names name input refuses Many has h = h

-- only a file of the plan is a fault of it
pub ends_named : (files : Files) (Faulty : List ℕ → Type 0) (names : List (List ℕ)) (plan : Plan) (end : End) → AreNames names plan
    → Ends files Faulty plan end → Ends files (Among names Faulty) plan end
ends_named files Faulty names (Read name input refuses A accepts next) end has (inl h) =
    inl (stop_named files Faulty names name input refuses end has.0 h)
ends_named files Faulty names (Read name input refuses A accepts next) end has (inr h) =
    inr (h.0, h.1, ends_named files Faulty names (next h.0) end (has.1 h.0) h.2)
ends_named files Faulty names (Want input line A None next) end has h = h
ends_named files Faulty names (Want input line A (Some x) next) end has h = ends_named files Faulty names (next x) end has h
ends_named files Faulty names (Bound false next) end has h = h
ends_named files Faulty names (Bound true next) end has h = ends_named files Faulty names next end has h
ends_named files Faulty names (Over own next) end has h = h
ends_named files Faulty names (Write due rise) end has h = h

same_status : (end other : End) → IsSameEnd end other → status_of end ≡ status_of other
same_status (Accepted c) (Accepted d) h = refl
same_status (Accepted c) (Text u d) h = refl
same_status (Text t c) (Accepted d) h = refl
same_status (Text t c) (Text u d) h = refl
same_status (Refused i line) (Refused j words) h = ap refused h.0
same_status Long Long h = refl
same_status Fault Fault h = refl
same_status Many Many h = refl
same_status _ _ h = absurd h

module _ (held : List ℕ → Option (List ℕ)) (Faulty : List ℕ → Type 0) (names : List (List ℕ)) (plan : Plan) (old new : Counts) (before after : Written)
    (SinkRose : Type 0) (sharp : IsSharp plan) (named : AreNames names plan) (quiet : (name : List ℕ) → Contains names name → Faulty name → held name ≡ None)
    (still : SinkRose → ⊥) (end : End) (is_due : IsDueEnd held plan end) where
  ended : (other : End) → Ends (Some held) Faulty plan other → status_of other ≡ status_of end
  ended other h = same_status other end (one_end held (Among names Faulty) (λ name. held name ≡ None) (λ name f. quiet name f.0 f.1) (λ name f. f)
      plan sharp other end (ends_named (Some held) Faulty names plan other named h) is_due)

  pub due : (s : Status) → IsAnswer (Some held) Faulty plan old new before after SinkRose s → (s ≡ status_of end) ⊎ (s ≡ status.OutOfMemory)
  due status.Done h = inl (ended (Text h.text h.counts) h.ends)
  due status.ModuleRefused h = inl (ended (Refused input.Module h.line) h.ends)
  due status.MutantsRefused h = inl (ended (Refused input.Mutants h.line) h.ends)
  due status.TestsRefused h = inl (ended (Refused input.Tests h.line) h.ends)
  due status.ReadFault h = inl (ended Fault h.0)
  due status.TooLong h = inl (ended Long h.0)
  due status.WriteFault h = absurd (still h.0)
  due status.OutOfMemory h = inr refl
  due status.Usage h = absurd h
  due status.TooMany h = inl (ended Many h.0)
