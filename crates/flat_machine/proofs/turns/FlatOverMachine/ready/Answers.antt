use Rattle.std.proofs.Common.{◌≤◌, sym, subst}
use Rattle.am_base.specs.declared.limits.TheConstants.{MEMORY_BYTES}
use Rattle.machine_form.specs.declared.change.Change.{Change}
use Rattle.ports.specs.Asks.{answers_in}
use Rattle.lane_eval.proofs.Steps.{variant_runs}
use Rattle.flat_machine.proofs.turns.FlatOverMachine.ready.Goals as goal

pub ready-requires : goal.ready-requires
ready-requires g c =
    let m = c.args.self.now in
    let s = c.args.s.now.flat.state in
    let answers = answers_in (g.P.Ports.outside c.args.self.now.ports).answers in
    let P : Change → Type 0 = λ d. d.top ≤ MEMORY_BYTES in
    let runs = variant_runs m.subject.code m.subject.table answers c.program.ensures.sound c.program.ensures.fits s c.requires.out.1 c.requires.known.variant in
    subst P (sym c.requires.known.is) runs.sound.top
