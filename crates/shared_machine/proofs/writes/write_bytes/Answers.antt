use Rattle.std.proofs.Common.{ℕ, List, ◌++◌, ◌∷◌, [], get_or, take, subst, sym}
use Rattle.std.proofs.lemmas.List.{take_more}
use Rattle.shared_pages.specs.Store.{Store}
use Rattle.shared_machine.specs.Written.{AreWritten}
use Rattle.shared_machine.proofs.WriteSteps.{nothing_written, writing_more}
use Rattle.shared_machine.proofs.writes.write_bytes.Goals as goal

pub loop-address-init : goal.loop-address-init
loop-address-init c = nothing_written c.args.store.now c.args.memory.now c.requires.known

pub loop-address-preserved : goal.loop-address-preserved
loop-address-preserved c =
    let s = c.args.store.now in
    let m = c.args.memory.now in
    let n = c.loop-address.address-index in
    let w : ℕ × ℕ = get_or c.args.bytes.now n (0, 0) in
    let more = writing_more s c.loop-address.store m (take n c.args.bytes.now) w c.loop-address.invariant in
    let step = subst (λ (t : Store). AreWritten s t m (take n c.args.bytes.now ++ w ∷ [])) (sym c.write.ensures) more in
    subst (λ (ws : List (ℕ × ℕ)). AreWritten s c.write.new.self m ws) (sym (take_more c.args.bytes.now n (0, 0) c.loop-address-test.true)) step
