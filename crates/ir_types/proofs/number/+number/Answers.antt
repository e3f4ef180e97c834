use Rattle.std.proofs.Common.{◌≡◌, Some, IfOk, rules, subst, slice_get, sym, ◌∙◌, ap}
use Rattle.type_layout.specs.declared.ty.Ty.{Ty}
use Rattle.ir_tree.specs.declared.type_text.TyText.{TyText, the_lemmas}
use Rattle.ir_tree.specs.declared.type_text.TyText.TheVariants as text
use Rattle.ir_rules.specs.Types.{expand_by}
use Rattle.ir_types.specs.Named.{name_number, types_in}
use Rattle.ir_types.proofs.Numbers.{all-inside, each-more, below-from, struct-expanded, named-expanded}
use Rattle.ir_types.proofs.number.+number.Goals as goal

pub number_by-add-requires-in-Struct : goal.number_by-add-requires-in-Struct
number_by-add-requires-in-Struct t c =
    let number = name_number c.args.names.now.numbers.now c.args.names.now.recursive.now c.args.names.now.named.now in
    below-from c.numbers_by.new.table (expand_by (types_in c.args.table.now number)) c.in_ok-parts-in-Struct.parts c.as_slice.result.now
    c.in_ok-parts-in-Struct.ensures.numbers

pub number_by-returns-in_ok-parts-in-Struct-clause-number : goal.number_by-returns-in_ok-parts-in-Struct-clause-number
number_by-returns-in_ok-parts-in-Struct-clause-number t c =
    let number = name_number c.args.names.now.numbers.now c.args.names.now.recursive.now c.args.names.now.named.now in
    subst (λ (x : Ty). IfOk c.add-in-Struct.result (λ k. slice_get c.add-in-Struct.new.self k ≡ Some x))
    (struct-expanded c.numbers_by.new.table (types_in c.args.table.now number) c.in_ok-parts-in-Struct.parts c.as_slice.result.now c.args.ty.now
    c.in_ok-parts-in-Struct.ensures.numbers (c.in-Struct.is ∙ ap text.Struct (sym c.as_slice.ensures)))
    c.add-in-Struct.ensures.number

pub number_by-returns-in-Named-clause-number : goal.number_by-returns-in-Named-clause-number
number_by-returns-in-Named-clause-number t c =
    named-expanded c.args.table.now (name_number c.args.names.now.numbers.now c.args.names.now.recursive.now c.args.names.now.named.now)
    c.number.result c.in-Named.name c.args.ty.now c.requires c.number.ensures c.in-Named.is

pub numbers_by-number_by-requires : goal.numbers_by-number_by-requires
numbers_by-number_by-requires t c = (
  search (rules, the_lemmas),
  all-inside c.args.table.now c.each.table c.each.invariant.kept
      (name_number c.args.names.now.numbers.now c.args.names.now.recursive.now c.args.names.now.named.now) c.requires,
)

pub numbers_by-each-preserved : goal.numbers_by-each-preserved
numbers_by-each-preserved t c = record {
  kept = λ n t h. c.in_ok-number.ensures.kept n t (c.each.invariant.kept n t h);
  numbers =
      each-more (λ (b : TyText). b) c.args.table.now c.each.table c.number_by.new.table
      (name_number c.args.names.now.numbers.now c.args.names.now.recursive.now c.args.names.now.named.now)
      c.each.list c.push.new.self c.in_ok-number.number c.each.ty-index c.args.types.now c.ty-item.result
      c.requires c.each.invariant.kept c.in_ok-number.ensures.kept c.each-test.true c.ty-item.is c.each.invariant.numbers c.in_ok-number.ensures.number
      c.in_ok-push.ensures.ok;
}
