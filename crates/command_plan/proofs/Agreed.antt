-- Over files that agree on the names of a plan, the plan ends in the same ways.
use Rattle.std.proofs.Common.{◌≡◌, ℕ, List, true, false, Option, Some, None, IsSome, subst, ◌∙◌, inl, inr}
use Rattle.std.specs.List.{Contains}
use Rattle.command_plan.specs.declared.status.Input.{Input}
use Rattle.command_plan.specs.Plan.{Plan, Read, Want, Bound, Over, Write, Reads, IsTooLong}
use Rattle.command_plan.specs.Ends.{End, Ends, StopsAt, Accepted, Text, Refused, Long, Fault, Many}
use Rattle.command_plan.specs.Sharp.{AreNames}

reads_agreed : (held other : List ℕ → Option (List ℕ)) (name : List ℕ) (Is : List ℕ → Type 0) → held name ≡ other name
    → Reads (Some held) name Is → Reads (Some other) name Is
reads_agreed held other name Is e r = record {
  held = subst IsSome e r.held;
  short = λ file h. r.short file (e ∙ h);
  read = λ file h. r.read file (e ∙ h);
}

long_agreed : (held other : List ℕ → Option (List ℕ)) (name : List ℕ) → held name ≡ other name → IsTooLong (Some held) name → IsTooLong (Some other) name
long_agreed held other name e r = record { held = subst IsSome e r.held; long = λ file h. r.long file (e ∙ h) }

module _ (held other : List ℕ → Option (List ℕ)) (Faulty Also : List ℕ → Type 0) (names : List (List ℕ))
    (agreed : (name : List ℕ) → Contains names name → held name ≡ other name)
    (faults : (name : List ℕ) → Contains names name → Faulty name → Also name) where
  stops_agreed : (name : List ℕ) (input : Input) (refuses : List ℕ → List ℕ → Type 0) (end : End) → Contains names name
      → StopsAt (Some held) Faulty name input refuses end → StopsAt (Some other) Also name input refuses end
  stops_agreed name input refuses (Accepted counts) has h = h
  stops_agreed name input refuses (Text text counts) has h = h
  stops_agreed name input refuses (Refused also line) has h =
      (h.0, reads_agreed held other name (λ file. refuses file line) (agreed name has) h.1)
  stops_agreed name input refuses Long has h = long_agreed held other name (agreed name has) h
  stops_agreed name input refuses Fault has h = faults name has h
  stops_agreed name input refuses Many has h = h

  pub ends_agreed : (plan : Plan) (end : End) → AreNames names plan → Ends (Some held) Faulty plan end → Ends (Some other) Also plan end
  ends_agreed (Read name input refuses A accepts next) end has (inl h) = inl (stops_agreed name input refuses end has.0 h)
  ends_agreed (Read name input refuses A accepts next) end has (inr h) =
      inr (h.0, reads_agreed held other name (λ file. accepts file h.0) (agreed name has.0) h.1, ends_agreed (next h.0) end (has.1 h.0) h.2)
  ends_agreed (Want input line A None next) end has h = h
  ends_agreed (Want input line A (Some x) next) end has h = ends_agreed (next x) end has h
  ends_agreed (Bound false next) end has h = h
  ends_agreed (Bound true next) end has h = ends_agreed next end has h
  ends_agreed (Over own next) end has h = h
  ends_agreed (Write due rise) end has h = h
