use Rattle.std.proofs.Common.{ℕ, ◌-◌, ◌<◌, length, sym, subst, ◌∙◌}
use Rattle.std.specs.List.{All}
use Rattle.am_base.specs.declared.limits.TheConstants.{MEMORY_BYTES}
use Rattle.machine_form.specs.State.{State}
use Rattle.flat_state.proofs.Memory.{below_zeros}
use Rattle.flat_state.proofs.state.Flat.start.Goals as goal

pub returns-clause-bytes : goal.returns-clause-bytes
returns-clause-bytes c =
    let P : ℕ → Type 0 = λ b. b < 256 in
    let Q : State → Type 0 = λ s. All P s.bytes in
    let same = c.in_ok-bytes.ensures.items ∙ c.as_slice-3.ensures ∙ sym c.as_slice.ensures in
    let bytes = c.in_ok-bytes.bytes.items in
    subst Q (sym c.opening.ensures) (below_zeros c.in_ok-bytes.bytes.items (MEMORY_BYTES - length bytes) (subst (All P) (sym same) c.hold_bytes.ensures))
