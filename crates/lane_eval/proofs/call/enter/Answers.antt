use Rattle.std.proofs.Common.{◌+◌, ◌<◌, ◌≤◌, ℕ, length, ap, sym, ◌∙◌, arith}
use Rattle.code_form.specs.declared.code.Func.{Func}
use Rattle.code_form.specs.Places.{function_at}
use Rattle.machine_form.specs.declared.change.Control.TheVariants.{Enter}
use Rattle.machine_form.specs.State.{registers_in_use}
use Rattle.machine_form.specs.Straight.{values_of}
use Rattle.lane_eval.specs.Filled.{quiet_change, if_all}
use Rattle.lane_eval.proofs.EnterSteps.{full, room}
use Rattle.lane_eval.proofs.call.enter.Goals as goal

pub returns-then-words-from : goal.returns-then-words-from
returns-then-words-from g c =
    let few : length (g.V.View.state c.args.s.now).callers < 511 = omega (arith, c.callers.ensures) in
    let registers = ap (λ (f : Func). f.registers) c.function.ensures in
    let more : 32768 < registers_in_use (g.V.View.state c.args.s.now) + (function_at c.args.code.now c.args.f).registers = omega (arith, c.from.ensures, c.words.ensures.value, registers) in
    let there = ap (λ all. if_all all c.argument_writes.new.writes) (sym c.if-not-branch.false) ∙ c.in_ok-argument_writes.ensures in
    c.traps-then-words-from.ensures ∙ full c.args.code.now (g.V.View.state c.args.s.now) c.args.f c.argument_writes.new.writes (values_of (g.V.View.state c.args.s.now) c.args.args.now) there few more

pub returns : goal.returns
returns g c =
    let few : length (g.V.View.state c.args.s.now).callers < 511 = omega (arith, c.callers.ensures) in
    let registers = ap (λ (f : Func). f.registers) c.function.ensures in
    let fits : registers_in_use (g.V.View.state c.args.s.now) + (function_at c.args.code.now c.args.f).registers ≤ 32768 = omega (arith, c.from.ensures, c.words.ensures.value, registers) in
    let there = ap (λ all. if_all all c.argument_writes.new.writes) (sym c.if-not-branch.false) ∙ c.in_ok-argument_writes.ensures in
    c.quiet.ensures ∙ ap (λ (top : ℕ). quiet_change c.argument_writes.new.writes top (Enter c.args.f)) c.top.ensures
    ∙ room c.args.code.now (g.V.View.state c.args.s.now) c.args.f c.argument_writes.new.writes (values_of (g.V.View.state c.args.s.now) c.args.args.now) there few fits
