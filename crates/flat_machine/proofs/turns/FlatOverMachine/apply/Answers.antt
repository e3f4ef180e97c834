use Rattle.std.proofs.Common.{sym, ap, ◌∙◌, subst}
use Rattle.code_form.specs.declared.code.Code.{Code}
use Rattle.machine_form.specs.declared.change.Change.{Change}
use Rattle.machine_form.specs.After.{after_change}
use Rattle.ports.specs.Asks.{answers_in}
use Rattle.lane_eval.specs.Plain.{CanApply}
use Rattle.lane_eval.specs.Running.{IsRunning}
use Rattle.lane_eval.proofs.Steps.{variant_applies, variant_runs}
use Rattle.flat_machine.proofs.turns.FlatOverMachine.apply.Goals as goal

pub apply-requires-clause-can : goal.apply-requires-clause-can
apply-requires-clause-can g c =
    let m = c.args.self.now in
    let s = c.args.s.now.flat.state in
    let answers = answers_in (g.P.Ports.outside c.args.self.now.ports).answers in
    let P : Change → Type 0 = λ d. CanApply c.args.self.now.subject.code c.args.s.now.flat.state d d.control in
    let Q : Code → Type 0 = λ d. CanApply d c.args.s.now.flat.state c.args.c c.args.c.control in
    subst Q (sym c.program.ensures.code) (subst P (sym c.requires.known.is)
    (variant_applies m.subject.code m.subject.table answers c.program.ensures.sound c.program.ensures.fits s c.requires.out.1 c.requires.known.variant))

pub returns-clause-out : goal.returns-clause-out
returns-clause-out g c =
    let m = c.args.self.now in
    let s = c.args.s.now.flat.state in
    let answers = answers_in (g.P.Ports.outside c.args.self.now.ports).answers in
    let leads = c.apply.ensures ∙ ap (λ (d : Code). after_change d c.args.s.now.flat.state c.args.c) c.program.ensures.code
    ∙ ap (after_change c.args.self.now.subject.code c.args.s.now.flat.state) c.requires.known.is in (
      c.requires.out.0,
      subst (IsRunning c.args.self.now.subject.code) (sym leads)
          (variant_runs m.subject.code m.subject.table answers c.program.ensures.sound c.program.ensures.fits s c.requires.out.1 c.requires.known.variant),
      c.requires.out.2,
    )
