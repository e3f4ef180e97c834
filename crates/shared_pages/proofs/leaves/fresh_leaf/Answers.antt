use Rattle.shared_pages.specs.Tables.{AreSame}
use Rattle.std.proofs.Common.{◌≡◌, sym, ap, ◌∙◌, subst}
use Rattle.shared_pages.proofs.Refused.{on_err}
use Rattle.shared_pages.specs.Counts.{Names}
use Rattle.shared_pages.proofs.LeafSteps.{room_same}
use Rattle.shared_pages.proofs.RowSteps.{extended_none}
use Rattle.shared_pages.proofs.leaves.fresh_leaf.Goals as goal

pub returns-in_err-table_room-clause-err : goal.returns-in_err-table_room-clause-err
returns-in_err-table_room-clause-err c =
    on_err c.from_residual.result (subst (λ (r : Names). AreSame c.args.roots.now c.args.leaves.now r c.table_room.new.tables) (sym c.in_default.ensures.none)
    (room_same c.args.roots.now c.args.leaves.now c.table_room.new.tables c.requires.tables c.table_room.ensures.tables))

pub returns-in_err-add-clause-err : goal.returns-in_err-add-clause-err
returns-in_err-add-clause-err c =
    on_err c.from_residual-in_err-add.result (subst (λ (r : Names). AreSame c.args.roots.now c.args.leaves.now r c.table_room.new.tables) (sym (c.in_err-add.ensures.err ∙ c.in_default.ensures.none))
    (room_same c.args.roots.now c.args.leaves.now c.table_room.new.tables c.requires.tables c.table_room.ensures.tables))
