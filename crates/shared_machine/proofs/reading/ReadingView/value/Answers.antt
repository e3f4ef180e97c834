use Rattle.std.proofs.Common.{sym, ◌∙◌}
use Rattle.bare_state.proofs.Memory.{value_with}
use Rattle.shared_pages.specs.Store.{the_memory}
use Rattle.shared_machine.proofs.reading.ReadingView.value.Goals as goal

pub returns : goal.returns
returns c =
    let r = c.args.self.now in
    c.value.ensures ∙ sym (value_with r.bare.now.state (the_memory r.store.now r.memory.now).bytes c.args.a)
