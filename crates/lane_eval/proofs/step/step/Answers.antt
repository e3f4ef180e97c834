use Rattle.std.proofs.Common.{◌≡◌, ℕ, List, OnOk, sym, subst}
use Rattle.std.specs.List.{All}
use Rattle.am_base.specs.declared.word.Width.{Width}
use Rattle.code_form.specs.declared.instr.Operand.{Operand}
use Rattle.code_form.specs.declared.instr.Instr.{Instr}
use Rattle.code_form.specs.declared.code.Code.{Code}
use Rattle.machine_form.specs.Straight.{values_of, with_value}
use Rattle.machine_form.specs.Calls.{call_change}
use Rattle.machine_form.specs.Next.{next_of}
use Rattle.lane_eval.specs.Operands.{HoldsWord, CanStep}
use Rattle.lane_eval.proofs.step.step.Goals as goal

pub get-requires : goal.get-requires
get-requires g c =
    let P : Instr → Type 0 = CanStep c.args.program.now (g.V.View.state c.args.s.now) in
    let Q : List (ℕ × Width × Operand) → Type 0 = All (λ i. HoldsWord (g.V.View.state c.args.s.now) i.1 i.2) in
    subst Q (sym c.as_slice.ensures) (subst P c.in-Get.is c.requires.operands)

pub returns-in-Call : goal.returns-in-Call
returns-in-Call g c answers =
    let code = c.args.program.now in
    let s = (g.V.View.state c.args.s.now) in
    let P : Instr → Type 0 = λ i. OnOk c.call.result (c.call.new.out ≡ next_of code answers s c.args.r i) in
    let Q : List Operand → Type 0 = λ args. OnOk c.call.result (c.call.new.out ≡ with_value s (values_of s args) (λ xs. call_change code answers s c.args.r c.in-Call.callee xs)) in
    let R : Code → Type 0 = λ d. OnOk c.call.result
    (c.call.new.out ≡ with_value s (values_of s c.as_slice-in-Call.result.now) (λ xs. call_change d answers s c.args.r c.in-Call.callee xs)) in
    subst P (sym c.in-Call.is) (subst Q c.as_slice-in-Call.ensures (subst R c.code-in-Call.ensures (c.call.ensures answers)))
