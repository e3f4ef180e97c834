use Rattle.std.proofs.Common.{List, drop, subst}
use Rattle.std.proofs.lemmas.List.{take_rest}
use Rattle.ir_tree.specs.declared.item.Item.{Item}
use Rattle.ir_scopes.specs.Kinds.{kind_in}
use Rattle.ir_replacements.specs.Places.{IsNoted}
use Rattle.ir_replacements.proofs.Pass.{started, passed}
use Rattle.ir_replacements.proofs.places.places_of.Goals as goal

pub each-init : goal.each-init
each-init c =
    started (kind_in c.args.kinds.now.names) c.args.items.now c.in_ok-places.places c.in_ok-places.ensures.frames c.in_ok-places.ensures.spots
    c.in_ok-places.ensures.current

pub each-preserved : goal.each-preserved
each-preserved c =
    let kind = kind_in c.args.kinds.now.names in
    let items = c.args.items.now in
    let i = c.each.i in
    let x = c.index-items-i.result in
    let noted : IsNoted kind (drop i items) x c.each.places c.note.new.places =
    subst (λ (l : List Item). IsNoted kind l x c.each.places c.note.new.places) (take_rest items i) c.in_ok-note.ensures in
    passed kind items i c.each.places c.each.invariant x c.each-test.true c.index-items-i.is c.note.new.places noted
