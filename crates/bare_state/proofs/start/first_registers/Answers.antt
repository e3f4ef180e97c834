use Rattle.std.proofs.Common.{◌≡◌, length, sym, ap, ◌∙◌, arith}
use Rattle.std.specs.Prelude.{unwrap_or}
use Rattle.code_form.specs.declared.code.Func.{Func}
use Rattle.code_form.specs.Places.{no_function}
use Rattle.machine_form.proofs.FoundPlaces.{some_at}
use Rattle.machine_form.proofs.StartStates.{arguments_fit}
use Rattle.bare_state.proofs.start.first_registers.Goals as goal

pub opening_registers-requires : goal.opening_registers-requires
opening_registers-requires c =
    let f = some_at c.args.code.now.funcs c.args.case.now.function c.requires.case.defined in
    let registers : f.0.registers ≡ c.function.result.now.registers = ap (λ (g : Func). g.registers) (sym (ap (λ o. unwrap_or o no_function) f.1) ∙ sym c.function.ensures) in
    omega (arith, ap length c.as_slice.ensures, registers, arguments_fit c.args.code.now c.args.case.now f.0 c.requires.sound c.requires.case f.1)
