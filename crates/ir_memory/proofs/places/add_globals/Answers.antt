use Rattle.std.proofs.Common.{◌≡◌, ◌+◌, ◌≤◌, ◌∷◌, ◌++◌, All, List, map, drop, refl, sym, ap, subst, ◌∙◌, arith, append-nil}
use Rattle.std.proofs.lemmas.List.{drop_more, drop_all}
use Rattle.ir_tree.specs.declared.item.Item.{Item}
use Rattle.ir_rules.specs.Types.{TypeDefs}
use Rattle.ir_rules.specs.Memory.{Global, places_from, end_from}
use Rattle.ir_sound.proofs.Addresses.{end-rises}
use Rattle.ir_memory.specs.Places.{globals_by, placed}
use Rattle.ir_memory.specs.Inits.{ItemIsSmall, PlacedIsSmall}
use Rattle.ir_memory.specs.declared.places.Placed.{Placed}
use Rattle.ir_memory.proofs.Globals.{none-left, list-on, end-on}
use Rattle.ir_memory.proofs.places.add_globals.Goals as goal

pub add_item-requires-clause-small : goal.add_item-requires-clause-small
add_item-requires-clause-small c =
    subst (λ (ds : TypeDefs). ItemIsSmall ds c.item-item.result) (sym c.each.invariant.defs)
    (subst (ItemIsSmall c.args.types.now.defs) (sym c.item-item.is) (c.requires.small c.each.item-index c.item-item.result c.each-test.true))

pub add_item-requires-clause-room : goal.add_item-requires-clause-room
add_item-requires-clause-room c =
    let rest = globals_by c.args.constant (drop c.each.item-index c.args.items.now) in
    let low = end-rises c.args.types.now.defs rest c.each.end in
    let same = c.each.invariant.end in
    let most = c.requires.room in
    omega arith

pub add_item-requires-clause-before : goal.add_item-requires-clause-before
add_item-requires-clause-before c = subst (λ (ds : TypeDefs). All (PlacedIsSmall ds) c.each.list) (sym c.each.invariant.defs) c.each.invariant.small

pub each-preserved : goal.each-preserved
each-preserved c =
    let k = c.args.constant in
    let items = c.args.items.now in
    let i = c.each.item-index in
    let x = c.item-item.result in
    let rest = drop (i + 1) items in
    let d : drop i items ≡ x ∷ rest = drop_more items i x c.each-test.true ∙ ap (λ (y : Item). y ∷ rest) (sym c.item-item.is) in
    record {
      defs = c.in_ok-end.ensures.defs ∙ c.each.invariant.defs;
      small = subst (λ (ds : TypeDefs). All (PlacedIsSmall ds) c.add_item.new.list) c.each.invariant.defs c.in_ok-end.ensures.small;
      list =
          list-on k c.each.types.defs c.args.types.now.defs items i x c.each.invariant.defs d _ _ _ _ _ (c.in_ok-end.ensures.list rest) c.each.invariant.list;
      end = end-on k c.each.types.defs c.args.types.now.defs items i x c.each.invariant.defs d _ _ _ (c.in_ok-end.ensures.end rest) c.each.invariant.end;
    }

pub returns-clause-list : goal.returns-clause-list
returns-clause-list c =
    let k = c.args.constant in
    let D = c.args.types.now.defs in
    let none = ap (globals_by k) (drop_all c.each.item-index c.args.items.now c.each-test.false) ∙ none-left k in
    sym (append-nil (map placed c.each.list))
    ∙ ap (λ (l : List Global). map placed c.each.list ++ places_from D c.each.end l) (sym none)
    ∙ c.each.invariant.list

pub returns-clause-end : goal.returns-clause-end
returns-clause-end c =
    let k = c.args.constant in
    let D = c.args.types.now.defs in
    let none = ap (globals_by k) (drop_all c.each.item-index c.args.items.now c.each-test.false) ∙ none-left k in
    ap (λ (l : List Global). end_from D c.each.end l) (sym none) ∙ c.each.invariant.end
