use Rattle.std.proofs.Common.{Bor, ℕ, List, Some, get_or, subst, sym, ap, ◌∙◌, arith}
use Rattle.std.specs.Option.{option_map}
use Rattle.std.proofs.lemmas.Option.{slice_get-map, slice_get-get_or}
use Rattle.ir_tree.specs.declared.type_text.TyText.{TyText}
use Rattle.ir_rules.specs.Types.{type_defs, expand_by}
use Rattle.ir_types.specs.Named.{name_number, types_in, AreExact}
use Rattle.ir_types.proofs.Numbers.{bodies-length}
use Rattle.ir_types.proofs.Levels.{there-is, one-exact}
use Rattle.ir_types.proofs.level.number_ready.Goals as goal

pub returns-clause-exact : goal.returns-clause-exact
returns-clause-exact c =
    let g = c.args.graph.now in
    let i = there-is g c.requires.graph c.args.naming.now c.args.table.now c.requires.exact c.args.d c.requires.other c.requires.ready in
    let l = bodies-length g.bodies.now (type_defs g.items.now) c.requires.graph.bodied in
    let at = slice_get-map (λ (b : Bor TyText). b.now) g.bodies.now c.args.d
    ∙ ap (option_map (λ (b : Bor TyText). b.now)) (slice_get-get_or g.bodies.now c.args.d c.index-graph-d.result (omega arith)) in
    let b = (get_or g.bodies.now c.args.d c.index-graph-d.result).now in
    let here = c.in_ok-number.ensures.number
    ∙ ap (λ (l : List ℕ). Some (expand_by (types_in c.args.table.now (name_number g.numbers.now g.recursive.now l)) b))
    c.as_slice.ensures in
    subst (λ (l : List ℕ). AreExact g (record { done = c.set_flag.new.flags; named = l }) c.number_by.new.table) (sym c.set.ensures)
    (one-exact g c.requires.graph c.args.naming.now c.args.table.now c.requires.exact c.args.d c.requires.other c.requires.ready b at
    c.number_by.new.table c.in_ok-number.number c.set_flag.new.flags c.in_ok-number.ensures.kept here c.set_flag.ensures)
