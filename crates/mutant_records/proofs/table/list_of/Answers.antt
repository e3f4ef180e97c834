use Rattle.std.proofs.Common.{ℕ, ◌+◌, List, ap, reverse, ◌∙◌, arith}
use Rattle.mutant_records.specs.Lists.{last_mutant}
use Rattle.mutant_records.specs.Tables.{IsEmptyTable}
use Rattle.mutant_records.specs.declared.list.Made.{Made}
use Rattle.mutant_records.proofs.Order.{order-counted}
use Rattle.mutant_records.proofs.Tables.{next_defined, table_begins, table_more}
use Rattle.mutant_records.proofs.table.list_of.Goals as goal

pub overflow_add-mutants_in : goal.overflow_add-mutants_in
overflow_add-mutants_in c =
    let counted = order-counted c.args.all c.requires.order in
    omega (arith, c.mutants_in.ensures ∙ ap last_mutant c.as_slice.ensures, counted.within)

pub new-requires-clause-few : goal.new-requires-clause-few
new-requires-clause-few c =
    let counted = order-counted c.args.all c.requires.order in
    omega (arith, c.mutants_in.ensures ∙ ap last_mutant c.as_slice.ensures, counted.within)

pub each-init : goal.each-init
each-init c =
    let mutants = c.mutants_in.ensures ∙ ap last_mutant c.as_slice.ensures in
    let empty : IsEmptyTable (last_mutant c.args.all + 1) c.in_ok-variants.variants = record {
      mutants_are = c.in_ok-variants.ensures.mutants ∙ ap (λ (n : ℕ). n + 1) mutants;
      nothing_chosen = c.in_ok-variants.ensures.nothing_chosen;
      nothing_mentioned = c.in_ok-variants.ensures.nothing_mentioned;
    } in
    rw c.new-rows.ensures (table_begins c.args.code.now c.in_ok-variants.variants c.args.all c.reverse.new.self.items empty c.requires.fit c.requires.order
    (c.reverse.ensures.items ∙ ap (λ (l : List Made). reverse l) c.into_vec-left.ensures))

pub add_row-requires-clause-defined : goal.add_row-requires-clause-defined
add_row-requires-clause-defined c =
    next_defined c.args.code.now c.in_ok-variants.variants c.args.all c.each.variants c.each.rows c.each.left.items c.pop.new.self.items c.in-Some.made
    c.each.invariant c.in-Some.ensures.items

pub each-preserved : goal.each-preserved
each-preserved c =
    table_more c.args.code.now c.in_ok-variants.variants c.args.all c.each.variants c.each.rows c.each.left.items c.pop.new.self.items c.in-Some.made
    c.each.invariant c.in-Some.ensures.items c.add_row.new.variants c.add_row.new.rows c.in_ok-add_row.ensures.added c.in_ok-add_row.ensures.rows
    c.add_row.ensures.mutants c.in_ok-add_row.ensures.places c.add_row.ensures.others c.add_row.ensures.fits
