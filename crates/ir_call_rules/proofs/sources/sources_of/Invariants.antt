use Rattle.std.proofs.Common.{◌≡◌, ℕ, [], take}
use Rattle.ir_rules.specs.Scopes.{scope_of}
use Rattle.ir_rules.specs.Settings.{edges_of}
use Rattle.ir_scopes.specs.Kinds.{kind_in}
use Rattle.ir_call_rules.specs.Alone.{branches_alone}
use Rattle.ir_call_rules.specs.Sources.{bucket, sources_once}
use Rattle.ir_call_rules.proofs.sources.sources_of.Given as goal

abbrev pub invariant-each : goal.invariant-each
invariant-each l =
    let items = take l.item-index l.items in
    let kind = kind_in l.kinds.names in
    record {
      seen : l.scope ≡ scope_of kind items;
      gathered : (b : ℕ) → bucket l.sources b ≡ sources_once (branches_alone l.locals []) (edges_of kind items) b;
    }
