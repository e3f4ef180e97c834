use Rattle.std.proofs.Common.{ℕ, List, []}
use Rattle.ports.specs.Asks.{asked_in}
use Rattle.commands.proofs.LoadLemmas.{load_found}
use Rattle.commands.proofs.built_in.load_found.Goals as goal

pub returns : goal.returns
returns g c =
    let found = load_found c.args.number c.in-Ok.shelf c.run_found-found.new.shelf c.args.meter.now c.run_found-found.new.meter (asked_in []) c.run_found-found.result.1
    c.in-Ok.ensures c.run_found-found.ensures.kept c.run_found-found.ensures.found in
    record { found = found }
