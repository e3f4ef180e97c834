use Rattle.std.proofs.Common.{◌≡◌, reverse, subst, ◌∙◌}
use Rattle.machine_form.specs.State.{registers_in_use}
use Rattle.bare_state.specs.Room.{Shown}
use Rattle.bare_state.proofs.Registers.{all_counted}
use Rattle.bare_state.proofs.state.Bare.words.Goals as goal

pub returns-clause-value : goal.returns-clause-value
returns-clause-value c =
    let P : Shown → Type 0 = λ s. c.len.result ≡ registers_in_use s.state in
    let s = c.self.inside in
    subst P c.self.view_is
    (c.len.ensures ∙ c.self.inside.registers.ok.0 ∙ all_counted s.running (reverse s.callers.items) s.registers.items c.self.invariant.0 c.self.invariant.1)
