use Rattle.std.proofs.Common.{◌≡◌, ℕ, List, [], map, take, sym, ap, subst, ◌∙◌}
use Rattle.std.specs.List.{fold}
use Rattle.ir_rules.specs.Types.{TypeDefs}
use Rattle.ir_rules.specs.Memory.{with_global}
use Rattle.ir_memory.specs.Places.{placed}
use Rattle.ir_memory.specs.Inits.{PlacedIsSmall}
use Rattle.ir_memory.proofs.Loops.{fold-more}
use Rattle.ir_memory.proofs.opening.write_globals.Goals as goal

pub write_global-requires : goal.write_global-requires
write_global-requires c =
    subst (λ (ds : TypeDefs). PlacedIsSmall ds c.global-item.result) (sym c.each.invariant.defs)
    (subst (PlacedIsSmall c.args.types.now.defs) (sym c.global-item.is) (c.requires c.each.global-index c.global-item.result c.each-test.true))

pub each-preserved : goal.each-preserved
each-preserved c =
    let defs = c.args.types.now.defs in
    let addresses = c.args.names.now.addresses.now in
    let before = fold (with_global defs addresses) [] (map placed (take c.each.global-index c.args.list.now)) in
    record {
      defs = c.in_ok-write_global.ensures.defs ∙ c.each.invariant.defs;
      bytes =
          c.in_ok-write_global.ensures.bytes
          ∙ (λ j. with_global (c.each.invariant.defs j) addresses (c.each.invariant.bytes j) (placed c.global-item.result))
          ∙ fold-more (with_global defs addresses) placed [] c.args.list.now c.each.global-index c.global-item.result c.each-test.true c.global-item.is;
    }
