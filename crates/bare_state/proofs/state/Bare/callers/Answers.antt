use Rattle.std.proofs.Common.{◌≡◌, length, reverse, take, subst, sym, ◌∙◌}
use Rattle.std.proofs.lemmas.List.{length-reverse}
use Rattle.bare_state.specs.Room.{Shown}
use Rattle.bare_state.proofs.Registers.{length-callers_in}
use Rattle.bare_state.proofs.state.Bare.callers.Goals as goal

pub returns : goal.returns
returns c =
    let P : Shown → Type 0 = λ s. c.len.result ≡ length s.state.callers in
    let s = c.self.inside in
    subst P c.self.view_is
    (c.len.ensures ∙ c.self.inside.callers.ok.0 ∙ sym (length-callers_in (reverse s.callers.items) (take s.running.base s.registers.items) ∙ length-reverse s.callers.items))
