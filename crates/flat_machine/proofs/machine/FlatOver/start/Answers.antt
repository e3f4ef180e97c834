use Rattle.std.proofs.Common.{◌∷◌, refl, ap, ◌∙◌}
use Rattle.std.specs.List.Sorted.{IsPermutation}
use Rattle.code_form.specs.declared.code.Code.{Code}
use Rattle.machine_form.specs.Start.{start_of}
use Rattle.lane_eval.proofs.Steps.{start_running}
use Rattle.exec_machine.proofs.Numbers.{contains_more}
use Rattle.flat_machine.specs.Taken.{taken}
use Rattle.flat_machine.proofs.Taken.{contains_first}
use Rattle.flat_machine.proofs.machine.FlatOver.start.Goals as goal

pub returns-clause-out_numbers : goal.returns-clause-out_numbers
returns-clause-out_numbers g c = c.in_ok-number.ensures.out

pub returns-clause-out : goal.returns-clause-out
returns-clause-out g c =
    let code = c.args.self.now.subject.code in
    let state = c.in_ok-flat.ensures.state ∙ ap (λ (d : Code). start_of d c.args.case.now) (c.code.ensures ∙ c.program.ensures.code) in (
      contains_first c.in_ok-number.number (taken c.args.self.now.numbers.marks.items) (taken c.give.new.self.marks.items) c.in_ok-number.ensures.out,
      start_running c.args.self.now.subject.code c.args.case.now c.in_ok-flat.flat.state c.program.ensures.sound c.requires.case state c.in_ok-flat.ensures.bytes c.in_ok-flat.ensures.input,
      c.requires.signs,
    )

pub returns-clause-keeps : goal.returns-clause-keeps
returns-clause-keeps g c =
    let more = c.in_ok-number.ensures.out in
    record {
      meanings = refl;
      stays = record { run = refl; signs = refl; answers = refl };
      out = λ t h ne. (contains_more (taken c.args.self.now.numbers.marks.items) (taken c.give.new.self.marks.items) c.in_ok-number.number t.number more h.0, h.1, h.2);
      stands = λ t h ne. refl;
    }
