use Rattle.std.proofs.Common.{◌≡◌, take}
use Rattle.ir_names.specs.Names.{firsts}
use Rattle.ir_rules.specs.Blocks as spec
use Rattle.ir_call_rules.specs.Sources.{by_label}
use Rattle.ir_call_rules.proofs.phis.two_differ.Given as goal

abbrev pub invariant-each : goal.invariant-each
invariant-each l =
    let es = take l.entry-index l.entries in
    record { seen : l.firsts ≡ firsts (by_label es); found : l.found ≡ spec.two_differ es }
