use Rattle.std.proofs.Common.{List, ◌≡◌, subst, length, IfSome}
use Rattle.std.specs.Option.{option_copied, option_map}
use Rattle.type_layout.specs.declared.ty.Ty.{Ty, out-Ty}
use Rattle.type_table.specs.Table.{layer_of, Within}
use Rattle.std.proofs.Common.{slice_get}
use Rattle.type_table.proofs.Tables.{shape-found, shape-within}
use Rattle.type_table.proofs.table.TypeTable.shape.Goals as goal

pub returns-clause-shape : goal.returns-clause-shape
returns-clause-shape c =
    subst (λ (ts : List Ty). option_map (layer_of ts) (option_copied c.get_index.result) ≡ option_map out-Ty (slice_get ts c.args.n)) c.self.view_is
    (shape-found c.self.inside.shapes.keys c.args.n (option_copied c.get_index.result) c.self.invariant.0 c.get_index.ensures.key)

pub returns-clause-within : goal.returns-clause-within
returns-clause-within c =
    subst (λ (ts : List Ty). IfSome c.get_index.result (λ s. Within (length ts) s.now)) c.self.view_is
    (shape-within c.self.inside.shapes.keys c.args.n c.get_index.result c.self.invariant.0 c.get_index.ensures.key)
