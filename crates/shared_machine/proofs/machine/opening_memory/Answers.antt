use Rattle.std.proofs.Common.{◌≡◌, ◌≤◌, ℕ, List, length, arith, ap, ◌∙◌}
use Rattle.am_base.specs.declared.limits.TheConstants.{MEMORY_BYTES}
use Rattle.machine_form.specs.Start.{zeros}
use Rattle.std.specs.Prelude.{◌-◌, ◌++◌}
use Rattle.shared_machine.proofs.Memories.{filled}
use Rattle.shared_machine.proofs.machine.opening_memory.Goals as goal

pub returns-clause-value : goal.returns-clause-value
returns-clause-value c =
    let code = c.args.code.now in
    let same : c.in_ok-bytes.bytes.items ≡ code.memory = c.in_ok-bytes.ensures.items ∙ c.as_slice.ensures in
    let few : length c.in_ok-bytes.bytes.items ≤ MEMORY_BYTES = omega (arith, ap length same, c.requires.memory, c.requires.base) in
    filled c.in_ok-bytes.bytes.len c.in_ok-bytes.bytes.items c.resize.new.self.items c.in_ok-bytes.bytes.ok.0 few c.in_ok-resize.ensures.items
    ∙ ap (λ (bs : List ℕ). bs ++ zeros (MEMORY_BYTES - length bs)) same
