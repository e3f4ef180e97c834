use Rattle.std.proofs.Common.{◌≡◌, ◌≤◌, ◌+◌, List, length, Some, slice_get, sym, ◌∙◌, subst}
use Rattle.type_layout.specs.declared.ty.Ty.{Ty}
use Rattle.type_table.specs.Table.{Within, types_of, ty_of, Keeps}
use Rattle.type_table.proofs.Shapes.{shape_eq, shape_same}
use Rattle.type_table.proofs.Tables.{keeps-insert, few-insert, ordered-insert, numbered, extents-insert, extent-exact}
use Rattle.type_table.proofs.table.TypeTable.add.Goals as goal

pub invariant_of-self-in-Ok : goal.invariant_of-self-in-Ok
invariant_of-self-in-Ok c =
    let keys = c.self.inside.shapes.keys in
    let new = c.insert_full.new.self.keys in
    let within : Within (length (types_of keys)) c.args.shape = subst (λ (ts : List Ty). Within (length ts) c.args.shape) (sym c.self.view_is) c.requires in
    let exact = c.in_ok-extent.ensures ∙ extent-exact (types_of keys) c.as_slice.result.now c.args.shape (c.as_slice.ensures ∙ c.self.invariant.1) within in (
      ordered-insert shape_eq keys new c.args.shape c.in_ok-n.ensures.keys c.self.invariant.0 within,
      extents-insert shape_eq keys new c.args.shape c.in_ok-n.ensures.keys c.self.inside.extents c.push_if.new.extents c.in_ok-extent.extent c.in_ok-n.added
          c.in_ok-n.ensures.added c.in-Ok.ensures.ok c.self.invariant.1 exact,
    )

pub returns-in-Ok-clause-kept : goal.returns-in-Ok-clause-kept
returns-in-Ok-clause-kept c =
    let keys = c.self.inside.shapes.keys in
    let new = c.insert_full.new.self.keys in
    subst (λ (ts : List Ty). Keeps ts (types_of new)) c.self.view_is (keeps-insert shape_eq keys new c.args.shape c.in_ok-n.ensures.keys)

pub returns-in-Ok-clause-number : goal.returns-in-Ok-clause-number
returns-in-Ok-clause-number c =
    let keys = c.self.inside.shapes.keys in
    let new = c.insert_full.new.self.keys in
    let within : Within (length (types_of keys)) c.args.shape = subst (λ (ts : List Ty). Within (length ts) c.args.shape) (sym c.self.view_is) c.requires in
    let stored = c.in_ok-n.ensures.stored in
    let at = numbered shape_eq keys new c.args.shape c.in_ok-n.ensures.keys c.in_ok-n.n stored.0 c.self.invariant.0 within
    (shape_same c.args.shape stored.0 stored.2) stored.1 in
    subst (λ (ts : List Ty). slice_get (types_of new) c.in_ok-n.n ≡ Some (ty_of ts c.args.shape)) c.self.view_is at

pub returns-in-Ok-clause-few : goal.returns-in-Ok-clause-few
returns-in-Ok-clause-few c =
    let keys = c.self.inside.shapes.keys in
    let new = c.insert_full.new.self.keys in
    subst (λ (ts : List Ty). length (types_of new) ≤ length ts + 1) c.self.view_is (few-insert shape_eq keys new c.args.shape c.in_ok-n.ensures.keys)
