use Rattle.std.specs.Option.{option_copied}
use Rattle.std.proofs.Common.{◌≡◌, List, [], ◌∷◌, ◌++◌, Some, refl, sym, ap, subst, ◌∙◌}
use Rattle.type_layout.specs.declared.ty.Ty.{Ty}
use Rattle.type_table.specs.Table.{extent_at}
use Rattle.ir_tree.specs.declared.item.Item.{Item}
use Rattle.ir_rules.specs.Types.{expanded}
use Rattle.ir_room.specs.Rooms.{IsRoomOf}
use Rattle.ir_room.proofs.Rooms.{is-whole, other, taken}
use Rattle.ir_room.proofs.room.Room.add.Goals as goal

pub returns-in-Some-clause-room : goal.returns-in-Some-clause-room
returns-in-Some-clause-room c above small is =
    let defs = c.args.types.now.defs in
    let g = c.in-Global in
    let n = c.in_ok-number.number in
    let extent : Some c.in-Some.extent.now ≡ extent_at c.number.new.self.types n =
    ap option_copied (sym c.in-Some.is) ∙ c.extent.ensures ∙ ap (λ (ts : List Ty). extent_at ts n) c.table.ensures in
    let fits = is-whole c.number.new.self.types n (expanded defs g.ty) c.in-Some.extent.now c.in_ok-number.ensures.number extent in
    subst (λ (x : Item). IsRoomOf defs (above ++ x ∷ []) c.take.new.self) (sym g.is)
    (taken defs above g.field-0 g.ty g.field-3 c.in-Some.extent.now fits c.args.self.now c.take.new.self g.constant c.take.ensures is)

pub returns-in_default : goal.returns-in_default
returns-in_default c = record {
  defs = refl;
  room = λ above small is. other c.args.types.now.defs above c.args.item.now c.args.self.now c.in_default.not-Global is;
}
