-- States whose memory is in a store.
use Rattle.std.proofs.Common.{◌≡◌, ◌≢◌, ℕ, ◌<◌, ◌≤◌, List, [], ◌∷◌, Option, None, true, false, arith, sym, subst, ap, ◌∙◌, lit<}
use Rattle.std.specs.Prelude.{is_some}
use Rattle.std.specs.List.{All, Contains}
use Rattle.std.proofs.lemmas.List.Elements.{All-weaker, All-nil}
use Rattle.std.specs.Prelude.{◌/◌}
use Rattle.am_base.specs.declared.limits.TheConstants.{MEMORY_BYTES, PAGE_BYTES}
use Rattle.code_form.specs.declared.code.Code.{Code}
use Rattle.code_form.specs.declared.case.Case.{Case}
use Rattle.code_form.specs.Sound.{IsSound}
use Rattle.code_form.specs.Fit.{FitsTable}
use Rattle.code_form.specs.Variant.{Table}
use Rattle.machine_form.specs.declared.change.Change.{Change}
use Rattle.machine_form.specs.declared.change.Control.{Control}
use Rattle.machine_form.specs.declared.change.Control.TheVariants.{Next, Jump, Enter, Leave, End}
use Rattle.machine_form.specs.State.{State, with_bytes}
use Rattle.machine_form.specs.After.{after_change}
use Rattle.machine_form.specs.Calls.{Answers}
use Rattle.machine_form.specs.Start.{opening_bytes, start_of}
use Rattle.machine_form.specs.Machine.{next_by}
use Rattle.lane_eval.proofs.Steps.{variant_applies, variant_runs}
use Rattle.lane_eval.specs.Plain.{CanApply, IsQuiet}
use Rattle.lane_eval.specs.Running.{IsRunning}
use Rattle.bare_state.specs.Room.{Shown, bare, with_memory}
use Rattle.bare_state.proofs.Memory.{after_with}
use Rattle.shared_pages.specs.Store.{Store, Memory, IsIn, memory, the_memory, or_empty, is_own, owns}
use Rattle.shared_machine.specs.Shown.{standing}
use Rattle.shared_machine.specs.Written.{AreWritten}

-- whether a change can be made doesn't depend on the memory
pub applies_with : (code : Code) (s : State) (bytes : List ℕ) (c : Change) (k : Control) → CanApply code (with_memory s bytes) c k → CanApply code s c k
applies_with code s bytes c Next h = h
applies_with code s bytes c (Jump b) h = h
applies_with code s bytes c (Enter f) h = (record { defined = h.0.defined; block = h.0.block; place = h.0.place }, h.1)
applies_with code s bytes c Leave h = h
applies_with code s bytes c (End ending) h = h

none_within : (n : ℕ) (c : Change) → IsQuiet c → All (λ b. b.0 < n) c.bytes
none_within n c quiet = subst (λ (bs : List (ℕ × ℕ)). All (λ b. b.0 < n) bs) (sym quiet.bytes) (All-nil (λ (b : ℕ × ℕ). b.0 < n))

-- the bytes of a change that can be made lie in the memory
pub bytes_within : (code : Code) (s : State) (c : Change) (k : Control) (n : ℕ) → s.top ≤ n → CanApply code s c k → All (λ b. b.0 < n) c.bytes
bytes_within code s c Next n top h = All-weaker (λ b. b.0 < s.top) (λ b. b.0 < n) (λ b l. omega arith) c.bytes h.2
bytes_within code s c (Jump b) n top h = none_within n c h.1
bytes_within code s c (Enter f) n top h = none_within n c h.1
bytes_within code s c Leave n top h = none_within n c h.1
bytes_within code s c (End ending) n top h = none_within n c h

-- ---- states of one store and of another

pub same_standing : (s t : Store) (a b : Shown) (m n : ℕ) → b.state ≡ a.state → (the_memory t n).bytes ≡ (the_memory s m).bytes → standing t b n ≡ standing s a m
same_standing s t a b m n e f = ap (λ (x : State). with_memory x (the_memory t n).bytes) e ∙ ap (λ (bs : List ℕ). with_memory a.state bs) f

pub stands_kept : (s t : Store) (k : ℕ) (b : Shown) → memory t k ≡ memory s k → standing t b k ≡ standing s b k
stands_kept s t k b e = ap (λ (o : Option Memory). with_memory b.state (or_empty o).bytes) e

-- a state whose memory stays is out still
pub out_kept : {Q : Type 0} (code : Code) (s t : Store) (k : ℕ) (b : Shown) → memory t k ≡ memory s k
    → IsIn s k × IsRunning code (standing s b k) × Q → IsIn t k × IsRunning code (standing t b k) × Q
out_kept code s t k b e h = (
  ap is_some e ∙ h.0,
  subst (IsRunning code) (sym (stands_kept s t k b e)) h.1,
  h.2,
)

-- a memory that is in a store isn't the one that comes
pub other_kept : (s t : Store) (n k : ℕ) → memory s n ≡ None → ((j : ℕ) → j ≢ n → memory t j ≡ memory s j) → IsIn s k → memory t k ≡ memory s k
other_kept s t n k none others known = others k (λ e. never (sym (ap (λ (j : ℕ). is_some (memory s j)) e ∙ ap is_some none) ∙ known))
  where
    never : false ≡ true → ⊥
    never e = cc

-- one number touched is another than this one
pub untouched : (n k : ℕ) → (Contains (n ∷ []) k → ⊥) → k ≢ n
untouched n k ne e = ne (0, lit< tt, sym e)

-- ---- what a known change asks, and where it leads

module _ (code : Code) (table : Table) (answers : Answers) (sound : IsSound code) (fits : FitsTable code table) (s : State) (run : IsRunning code s)
    (c : Change) (v : ℕ) (is : c ≡ next_by code table answers v s) where
  pub known_applies : CanApply code s c c.control
  known_applies = subst (λ (d : Change). CanApply code s d d.control) (sym is) (variant_applies code table answers sound fits s run v)

  pub known_bytes : All (λ b. b.0 < MEMORY_BYTES) c.bytes
  known_bytes = bytes_within code s c c.control MEMORY_BYTES run.sound.top known_applies

  pub known_runs : (t : State) → t ≡ after_change code s c → IsRunning code t
  known_runs t leads = subst (IsRunning code) (sym (leads ∙ ap (after_change code s) is)) (variant_runs code table answers sound fits s run v)

pub stands_after : (code d : Code) (s t : Store) (m : ℕ) (b after : Shown) (c : Change) (ws : List (ℕ × ℕ)) → d ≡ code → after.state ≡ bare (after_change d b.state c)
    → ws ≡ c.bytes → AreWritten s t m ws → standing t after m ≡ after_change code (standing s b m) c
stands_after code d s t m b after c ws same made is written =
    ap (λ (x : State). with_memory x (the_memory t m).bytes) (made ∙ ap (λ (e : Code). bare (after_change e b.state c)) same)
    ∙ ap (λ (bs : List ℕ). with_memory (after_change code b.state c) bs) (written.bytes ∙ ap (with_bytes (the_memory s m).bytes) is)
    ∙ sym (after_with code b.state (the_memory s m).bytes c)

-- a state stays ready where no memory loses a page
pub owns_kept : (s t : Store) → ((k i : ℕ) → is_own s k i ≡ true → is_own t k i ≡ true) → (k : ℕ) (bytes : List (ℕ × ℕ))
    → All (λ b. owns s k b.0 ≡ true) bytes → All (λ b. owns t k b.0 ≡ true) bytes
owns_kept s t grown k bytes h = All-weaker (λ b. owns s k b.0 ≡ true) (λ b. owns t k b.0 ≡ true) (λ b e. grown k (b.0 / PAGE_BYTES) e) bytes h

pub stands_begun : (code d : Code) (case : Case) (t : Store) (n : ℕ) (b : Shown) (bytes : List ℕ) → d ≡ code → b.state ≡ bare (start_of d case)
    → (the_memory t n).bytes ≡ bytes → bytes ≡ opening_bytes d → standing t b n ≡ start_of code case
stands_begun code d case t n b bytes same made held opened =
    ap (λ (x : State). with_memory x (the_memory t n).bytes) (made ∙ ap (λ (e : Code). bare (start_of e case)) same)
    ∙ ap (λ (bs : List ℕ). with_memory (start_of code case) bs) (held ∙ opened ∙ ap opening_bytes same)
