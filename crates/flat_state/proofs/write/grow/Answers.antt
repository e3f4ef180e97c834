use Rattle.std.proofs.Common.{sym, ◌∙◌}
use Rattle.flat_state.proofs.Memory.{grown}
use Rattle.flat_state.proofs.write.grow.Goals as goal

pub returns-clause-same : goal.returns-clause-same
returns-clause-same c =
    grown _ c.args.len _ c.args.bytes.now.items _ c.args.bytes.now.ok.0 c.requires.longer c.requires.few c.resize.ensures.items
    (sym c.resize.new.self.ok.0 ∙ c.resize.ensures.len)
