use Rattle.std.proofs.Common.{◌≡◌, ℕ, List, Option, slice_get, sym, ap, ◌∙◌, subst}
use Rattle.type_layout.specs.declared.ty.Ty.{Ty}
use Rattle.ir_rules.specs.Parts.{Typed}
use Rattle.ir_rules.specs.Paths as spec
use Rattle.ir_type_rules.specs.Walk.{typed_at, next_type}
use Rattle.ir_type_rules.proofs.Walks.{step-at}
use Rattle.ir_type_rules.proofs.paths.step.Goals as goal

pub returns-in-Some : goal.returns-in-Some
returns-in-Some c =
    let defs = c.args.types.now.defs in
    let i : Typed = (c.args.ty.now, c.args.index.now) in
    let kind = ap (λ k. spec.field_number k c.args.index.now) c.kind.ensures in
    subst (λ (us : List Ty). typed_at us c.part.result ≡ next_type defs (slice_get us c.in-Some.n) i) c.table.ensures
    (step-at defs i c.table.result.now c.in-Some.n c.field_number.result c.part.result c.shape.result c.shape.ensures.shape c.shape.ensures.within
    (c.field_number.ensures ∙ kind) c.part.ensures)
    ∙ ap (λ (o : Option ℕ). next_type defs (typed_at c.args.types.now.types o) i) (sym c.in-Some.is)
