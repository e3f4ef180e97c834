-- What was found of the plan of `load`, from what `run` found over the files of a workload.
use Rattle.std.proofs.Common.{◌≡◌, ◌⊎◌, ℕ, ◌+◌, ◌≤◌, ◌<◌, ◌-◌, ◌^◌, Bool, true, false, if◌then◌else◌, List, [], ◌∷◌, codes, length, Option, Some, None, is_some}
use Rattle.std.proofs.Common.{Result, Ok, Err, refl, sym, ap, subst, ◌∙◌, inl, inr, ⊎_elim, arith}
use Rattle.std.specs.List.{Contains}
use Rattle.am_base.specs.declared.limits.TheConstants.{DEFAULT_BUDGET}
use Rattle.am_base.specs.Cause.{Rose}
use Rattle.am_base.specs.Files.{Files}
use Rattle.ports.specs.Asks.{answers_in, asked_in}
use Rattle.traces.proofs.Lists.{contains_cases}
use Rattle.ir_tokens.specs.Bytes.{Text}
use Rattle.suite_analysis.specs.declared.show.Show.TheVariants.{Summary}
use Rattle.workload.specs.Workload.{Texts, texts_of, file_in, workload_file, fault_count}
use Rattle.command_plan.specs.declared.stop.Stop.{Stop}
use Rattle.command_plan.specs.declared.stop.Stop.TheVariants as stop
use Rattle.command_plan.specs.Plan.{Counts, Plan, Read, Want, Bound, Over, Write}
use Rattle.command_plan.specs.Ends.{End, Ends, Fault}
use Rattle.command_plan.specs.Answer.{Found, RunsOut, Stay, RiseBy, RiseWithin}
use Rattle.command_plan.proofs.Due.{Among, ends_named}
use Rattle.command_plan.proofs.Founds.{ends_later, found_by}
use Rattle.commands.specs.Alone.{counts_of}
use Rattle.commands.specs.Plans.{run_plan, load_plan}
use Rattle.commands.proofs.Names.{run_named}

-- ---- no file of a workload fails

no_rose : (a b : ℕ) → a ≡ 0 → b ≡ 0 → Rose a b → ⊥
no_rose a b e f (inl lt) = omega (arith, e, f, lt)
no_rose a b e f (inr top) = omega (arith, f, top)

quiet : (texts after : Texts) (name : List ℕ) → is_some (file_in texts name) ≡ true → file_in after name ≡ file_in texts name
    → Rose (fault_count texts name) (fault_count after name) → ⊥
quiet texts after name is same r =
    let count : Bool → ℕ = λ b. if b then 0 else 2 ^ 64 - 1 in
    let before : fault_count texts name ≡ 0 = ap count is in
    no_rose (fault_count texts name) (fault_count after name) before (ap (λ o. count (is_some o)) same ∙ before) r

abbrev names : List Text
names = codes "module" ∷ codes "mutants" ∷ codes "tests" ∷ []

held : (number : ℕ) (name : List ℕ) → Contains names name → is_some (workload_file number name) ≡ true
held number name h =
    let Is : List ℕ → Type 0 = λ name. is_some (workload_file number name) ≡ true in
    let first : Is (codes "module") = refl in
    let second : Is (codes "mutants") = refl in
    let third : Is (codes "tests") = refl in
    ⊎_elim (λ e. subst Is e first)
    (λ more. ⊎_elim (λ e. subst Is e second)
    (λ last. ⊎_elim (λ e. subst Is e third) (λ none. absurd (let l = none.1 in omega arith)) (contains_cases (codes "tests") name [] last))
    (contains_cases (codes "mutants") name (codes "tests" ∷ []) more))
    (contains_cases (codes "module") name (codes "mutants" ∷ codes "tests" ∷ []) h)

-- ---- no port is asked

unasked : (files : Files) (Faulty : List ℕ → Type 0) (plan : Plan) (old new : ℕ) (none asks : ℕ → ℕ) (r : Result (List ℕ) Stop)
    → Found files Faulty plan (counts_of old none) (counts_of new none) r → Found files Faulty plan (counts_of old asks) (counts_of new asks) r
unasked files Faulty plan old new none asks (Ok text) h =
    (h.0, h.1, record { steps = h.2.steps; asks = λ port. let e = h.2.asks port in omega (arith, e) })
unasked files Faulty plan old new none asks (Err (stop.Refused input line)) h = (h.0, record { steps = h.1.steps; asks = λ port. refl })
unasked files Faulty plan old new none asks (Err stop.TooLong) h = (h.0, record { steps = h.1.steps; asks = λ port. refl })
unasked files Faulty plan old new none asks (Err stop.Fault) h = (h.0, record { steps = h.1.steps; asks = λ port. refl })
unasked files Faulty plan old new none asks (Err stop.TooMany) h = (h.0, record { steps = h.1.steps; asks = λ port. refl })
unasked files Faulty plan old new none asks (Err stop.OutOfMemory) (RunsOut.on_the_way h) =
    RunsOut.on_the_way (record { steps = h.steps; asks = λ port. refl })
unasked files Faulty plan old new none asks (Err stop.OutOfMemory) (RunsOut.behind counts ends h) =
    RunsOut.behind counts ends (record {
      steps = h.steps;
      steps_within = h.steps_within;
      asks = λ port. omega arith;
      asks_within = λ port. omega arith;
    })

-- ---- from a run to the workload

abbrev own_run : ℕ → Plan
own_run number = run_plan [] (answers_in []) DEFAULT_BUDGET (codes "module") (codes "mutants") (codes "tests") (Summary number)

own_named : (number : ℕ) (end : End) (Faulty : List ℕ → Type 0) → Ends (Some (workload_file number)) Faulty (own_run number) end
    → Ends (Some (workload_file number)) (Among names Faulty) (own_run number) end
own_named number end Faulty =
    ends_named (Some (workload_file number)) Faulty names (own_run number) end
    (run_named [] (answers_in []) DEFAULT_BUDGET (codes "module") (codes "mutants") (codes "tests") (Summary number))

pub load_found : (number : ℕ) (texts after : Texts) (old new : ℕ) (none : ℕ → ℕ) (r : Result (List ℕ) Stop) → texts ≡ texts_of number
    → Some (file_in after) ≡ Some (file_in texts)
    → Found (Some (file_in texts)) (λ name. Rose (fault_count texts name) (fault_count after name)) (own_run number) (counts_of old none)
    (counts_of new none) r
    → (files : Files) (before later : List ℕ → ℕ) (asks : ℕ → ℕ)
    → Found files (λ name. Rose (before name) (later name)) (load_plan number) (counts_of old asks) (counts_of new asks) r
load_found number texts after old new none r is kept found files before later asks =
    let Rises : Texts → List ℕ → Type 0 = λ texts name. Rose (fault_count texts name) (fault_count after name) in
    let own = subst (λ texts. Found (Some (file_in texts)) (Rises texts) (own_run number) (counts_of old none) (counts_of new none) r) is found in
    let same : (name : List ℕ) → file_in after name ≡ workload_file number name =
    λ name. ap (λ (held : Option (List ℕ → Option (List ℕ))). file_under held name) (kept ∙ ap (λ texts. Some (file_in texts)) is) in
    unasked files (λ name. Rose (before name) (later name)) (load_plan number) old new none asks r
    (found_by files (Some (workload_file number)) (λ name. Rose (before name) (later name)) (Rises (texts_of number)) (load_plan number) (own_run number)
    (counts_of old none) (counts_of new none)
    (λ end h. ends_later (Some (workload_file number)) (λ name. ⊥) (Among names (Rises (texts_of number)))
    (λ name f. quiet (texts_of number) after name (held number name f.0) (same name) f.1) (own_run number) end
    (own_named number end (Rises (texts_of number)) h)) r own)
  where
    file_under : Option (List ℕ → Option (List ℕ)) → List ℕ → Option (List ℕ)
    file_under None name = None
    file_under (Some held) name = held name

-- ---- no fault ends a workload

no_fault : (files : Files) (plan : Plan) → Ends files (λ name. ⊥) plan Fault → ⊥
no_fault files (Read name input refuses A accepts next) (inl h) = h
no_fault files (Read name input refuses A accepts next) (inr h) = no_fault files (next h.0) h.2
no_fault files (Want input line A None next) h = cc h
no_fault files (Want input line A (Some x) next) h = no_fault files (next x) h
no_fault files (Bound false next) h = cc h
no_fault files (Bound true next) h = no_fault files next h
no_fault files (Over own next) h = no_fault (Some own) next h
no_fault files (Write due rise) h = h

pub load_reads : (files : Files) (Faulty : List ℕ → Type 0) (number : ℕ) → Ends files Faulty (load_plan number) Fault → ⊥
load_reads files Faulty number h = no_fault (Some (workload_file number)) (own_run number) h
