-- What was found of a plan, from what was found of its first file and of the rest.
use Rattle.std.proofs.Common.{Bool, ◌≡◌, ℕ, List, true, false, Option, Some, None, Result, Ok, Err, IfOk, IfErr, ap, refl, subst, sym, inl, inr, arith}
use Rattle.am_base.specs.Files.{Files}
use Rattle.command_plan.specs.declared.status.Input.{Input}
use Rattle.command_plan.specs.declared.stop.Stop.{Stop}
use Rattle.command_plan.specs.declared.stop.Stop.TheVariants as stop
use Rattle.command_plan.specs.Plan.{Counts, no_counts, Plan, Read, Want, Bound, Over, Write, Reads}
use Rattle.command_plan.specs.Ends.{End, Ends, StopsAt, Accepted, Text, Refused, Long, Fault, Many}
use Rattle.command_plan.specs.Answer.{Found, RunsOut, Fails, IsNotRead, Says, refusal, Stay, RiseBy}

-- nothing rose
pub stay : (counts : Counts) → Stay counts counts
stay counts = record { steps = refl; asks = λ port. refl }

pub rise_by_none : (old new : Counts) → Stay old new → RiseBy old new no_counts
rise_by_none old new h = record {
  steps = let e = h.steps in omega (arith, e);
  asks = λ port. let e = h.asks port in omega (arith, e);
}

-- ---- from the rest of a plan to the whole

-- what holds of the ends of one plan holds of the ends of another
pub found_by : (files mid : Files) (Faulty Later : List ℕ → Type 0) (plan rest : Plan) (old new : Counts)
    → ((end : End) → Ends mid Later rest end → Ends files Faulty plan end)
    → (r : Result (List ℕ) Stop) → Found mid Later rest old new r → Found files Faulty plan old new r
found_by files mid Faulty Later plan rest old new to (Ok text) h = (h.0, to (Text text h.0) h.1, h.2)
found_by files mid Faulty Later plan rest old new to (Err (stop.Refused input line)) h = (to (Refused input line) h.0, h.1)
found_by files mid Faulty Later plan rest old new to (Err stop.TooLong) h = (to Long h.0, h.1)
found_by files mid Faulty Later plan rest old new to (Err stop.Fault) h = (to Fault h.0, h.1)
found_by files mid Faulty Later plan rest old new to (Err stop.TooMany) h = (to Many h.0, h.1)
found_by files mid Faulty Later plan rest old new to (Err stop.OutOfMemory) (RunsOut.on_the_way h) = RunsOut.on_the_way h
found_by files mid Faulty Later plan rest old new to (Err stop.OutOfMemory) (RunsOut.behind counts h rise) = RunsOut.behind counts (to (Accepted counts) h) rise

-- ---- faults that rose later in a call

stops_later : (files : Files) (Faulty Later : List ℕ → Type 0) → ((name : List ℕ) → Later name → Faulty name) → (name : List ℕ) (input : Input)
    (refuses : List ℕ → List ℕ → Type 0) (end : End) → StopsAt files Later name input refuses end → StopsAt files Faulty name input refuses end
stops_later files Faulty Later to name input refuses (Accepted counts) h = h
stops_later files Faulty Later to name input refuses (Text text counts) h = h
stops_later files Faulty Later to name input refuses (Refused other line) h = h
stops_later files Faulty Later to name input refuses Long h = h
stops_later files Faulty Later to name input refuses Fault h = to name h
stops_later files Faulty Later to name input refuses Many h = h

pub ends_later : (files : Files) (Faulty Later : List ℕ → Type 0) → ((name : List ℕ) → Later name → Faulty name) → (plan : Plan) (end : End)
    → Ends files Later plan end → Ends files Faulty plan end
ends_later files Faulty Later to (Read name input refuses A accepts next) end (inl h) = inl (stops_later files Faulty Later to name input refuses end h)
ends_later files Faulty Later to (Read name input refuses A accepts next) end (inr h) =
    inr (h.0, h.1, ends_later files Faulty Later to (next h.0) end h.2)
ends_later files Faulty Later to (Want input line A None next) end h = h
ends_later files Faulty Later to (Want input line A (Some x) next) end h = ends_later files Faulty Later to (next x) end h
ends_later files Faulty Later to (Bound false next) end h = h
ends_later files Faulty Later to (Bound true next) end h = ends_later files Faulty Later to next end h
ends_later files Faulty Later to (Over own next) end h = h
ends_later files Faulty Later to (Write due rise) end h = h

-- ---- steps of a plan

-- the first file was taken, and the rest was found by what the shelf shows later in the call
pub next_found : (files mid : Files) (Faulty Later : List ℕ → Type 0) (name : List ℕ) (input : Input) (refuses : List ℕ → List ℕ → Type 0) (A : Type 0)
    (accepts : List ℕ → A → Type 0) (next : A → Plan) (old new : Counts) (x : A) (r : Result (List ℕ) Stop)
    → mid ≡ files → ((name : List ℕ) → Later name → Faulty name) → Reads files name (λ file. accepts file x)
    → Found mid Later (next x) old new r → Found files Faulty (Read name input refuses A accepts next) old new r
next_found files mid Faulty Later name input refuses A accepts next old new x r e to reads h =
    found_by files mid Faulty Later (Read name input refuses A accepts next) (next x) old new
    (λ end ends. inr (x, reads, ends_later files Faulty Later to (next x) end (subst (λ f. Ends f Later (next x) end) e ends))) r h

-- the first file wasn't taken
pub fails_found : (files : Files) (Faulty : List ℕ → Type 0) (name : List ℕ) (input : Input) (refuses : List ℕ → List ℕ → Type 0) (A : Type 0)
    (accepts : List ℕ → A → Type 0) (next : A → Plan) (old new : Counts) (s : Stop)
    → Stay old new → Fails files name (Faulty name) input refuses s → Found files Faulty (Read name input refuses A accepts next) old new (Err s)
fails_found files Faulty name input refuses A accepts next old new (stop.Refused other line) stays h = (inl h, stays)
fails_found files Faulty name input refuses A accepts next old new stop.Fault stays h = (inl h, stays)
fails_found files Faulty name input refuses A accepts next old new stop.TooLong stays h = (inl h, stays)
fails_found files Faulty name input refuses A accepts next old new stop.TooMany stays h = absurd h
fails_found files Faulty name input refuses A accepts next old new stop.OutOfMemory stays h = RunsOut.on_the_way stays

-- ---- one file

pub read_fails : (files : Files) (name : List ℕ) (rose : Type 0) (input : Input) (refuses : List ℕ → List ℕ → Type 0) (s : Stop)
    → IsNotRead files name rose s → Fails files name rose input refuses s
read_fails files name rose input refuses stop.Fault h = h
read_fails files name rose input refuses stop.TooLong h = h
read_fails files name rose input refuses (stop.Refused other line) h = absurd h
read_fails files name rose input refuses stop.TooMany h = absurd h
read_fails files name rose input refuses stop.OutOfMemory h = absurd h

pub reads_as : (files : Files) (name text : List ℕ) (Is : List ℕ → Type 0) → Reads files name (λ file. text ≡ file) → Is text → Reads files name Is
reads_as files name text Is r h = record { held = r.held; short = r.short; read = λ file holds. subst Is (r.read file holds) h }

pub says_fails : (files : Files) (name text : List ℕ) (rose : Type 0) (input : Input) (refuses : List ℕ → List ℕ → Type 0) (s : Stop)
    → Reads files name (λ file. text ≡ file) → Says input (refuses text) s → Fails files name rose input refuses s
says_fails files name text rose input refuses (stop.Refused other line) r h = (h.0, reads_as files name text (λ file. refuses file line) r h.1)
says_fails files name text rose input refuses stop.OutOfMemory r h = tt
says_fails files name text rose input refuses stop.Fault r h = absurd h
says_fails files name text rose input refuses stop.TooLong r h = absurd h
says_fails files name text rose input refuses stop.TooMany r h = absurd h

pub says_fails_err : {X : Type 0} (files : Files) (name text : List ℕ) (rose : Type 0) (input : Input) (refuses : List ℕ → List ℕ → Type 0)
    (r : Result X Stop) → Reads files name (λ file. text ≡ file) → IfErr r (Says input (refuses text)) → IfErr r (Fails files name rose input refuses)
says_fails_err files name text rose input refuses (Ok x) reads h = tt
says_fails_err files name text rose input refuses (Err s) reads h = says_fails files name text rose input refuses s reads h

-- ---- what is wanted

refused_line : {E : Type 0} (files : Files) (Faulty : List ℕ → Type 0) (input : Input) (line : List ℕ) (A : Type 0) (next : A → Plan) (old new : Counts)
    (made : Result (List ℕ) E) → Stay old new → IfOk made (λ l. l ≡ line)
    → Found files Faulty (Want input line A None next) old new (Err (refusal input made))
refused_line files Faulty input line A next old new (Ok l) stays h = (ap (λ l. Refused input l) h, stays)
refused_line files Faulty input line A next old new (Err e) stays h = RunsOut.on_the_way stays

-- it isn't there
pub missing_found : {E : Type 0} (files : Files) (Faulty : List ℕ → Type 0) (input : Input) (line : List ℕ) (A : Type 0) (wanted : Option A)
    (next : A → Plan) (old new : Counts) (made : Result (List ℕ) E) → wanted ≡ None → Stay old new → IfOk made (λ l. l ≡ line)
    → Found files Faulty (Want input line A wanted next) old new (Err (refusal input made))
missing_found files Faulty input line A wanted next old new made e stays h =
    subst (λ w. Found files Faulty (Want input line A w next) old new (Err (refusal input made))) (sym e)
    (refused_line files Faulty input line A next old new made stays h)

-- it is there
pub wanted_found : (files : Files) (Faulty : List ℕ → Type 0) (input : Input) (line : List ℕ) (A : Type 0) (wanted : Option A) (x : A)
    (next : A → Plan) (old new : Counts) (r : Result (List ℕ) Stop) → wanted ≡ Some x → Found files Faulty (next x) old new r
    → Found files Faulty (Want input line A wanted next) old new r
wanted_found files Faulty input line A wanted x next old new r e h =
    subst (λ w. Found files Faulty (Want input line A w next) old new r) (sym e)
    (found_by files files Faulty Faulty (Want input line A (Some x) next) (next x) old new (λ end ends. ends) r h)

-- ---- a bound on what is due

-- it is kept
pub within_found : (files : Files) (Faulty : List ℕ → Type 0) (within : Bool) (next : Plan) (old new : Counts) (r : Result (List ℕ) Stop)
    → within ≡ true → Found files Faulty next old new r → Found files Faulty (Bound within next) old new r
within_found files Faulty within next old new r e h =
    subst (λ w. Found files Faulty (Bound w next) old new r) (sym e)
    (found_by files files Faulty Faulty (Bound true next) next old new (λ end ends. ends) r h)

-- it isn't
pub many_found : (files : Files) (Faulty : List ℕ → Type 0) (within : Bool) (next : Plan) (old new : Counts) → within ≡ false → Stay old new
    → Found files Faulty (Bound within next) old new (Err stop.TooMany)
many_found files Faulty within next old new e stays =
    subst (λ w. Found files Faulty (Bound w next) old new (Err stop.TooMany)) (sym e) (refl, stays)
