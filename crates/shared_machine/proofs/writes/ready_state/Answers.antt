use Rattle.std.proofs.Common.{arith}
use Rattle.shared_machine.proofs.Counted.{taken_few}
use Rattle.shared_machine.proofs.writes.ready_state.Goals as goal

pub returns-in_err-reserve_bytes-clause-most : goal.returns-in_err-reserve_bytes-clause-most
returns-in_err-reserve_bytes-clause-most c =
    let few = taken_few c.args.store.now c.reserve_bytes.new.store c.args.s.now.memory c.args.c.now.bytes c.in_err-reserve_bytes.ensures.reserved in
    let peak = c.in_err-reserve_bytes.ensures.reserved.peak in
    let most = c.peak.ensures.most in
    omega (arith, few, peak, most)

pub returns-clause-most : goal.returns-clause-most
returns-clause-most c =
    let few = taken_few c.args.store.now c.reserve_bytes.new.store c.args.s.now.memory c.args.c.now.bytes c.in_ok-reserve_bytes.ensures.reserved in
    let peak = c.in_ok-reserve_bytes.ensures.reserved.peak in
    let most = c.peak.ensures.most in
    omega (arith, few, peak, most)
