use Rattle.std.proofs.Common.{◌≡◌, ◌++◌, OnOk, ap, sym, subst, ◌∙◌}
use Rattle.ir_tree.specs.declared.type_text.TyText.TheVariants as text
use Rattle.ir_types.specs.Graph.{numbers_in}
use Rattle.ir_types.proofs.Mentioned.{numbers-Array, numbers-Struct, numbers-Named, adds-nothing}
use Rattle.ir_types.proofs.mentions.+add.Goals as goal

pub add_numbers-returns-in-Array : goal.add_numbers-returns-in-Array
add_numbers-returns-in-Array t c =
    subst (λ l. OnOk c.add_numbers.result (c.add_numbers.new.list ≡ c.args.list.now ++ l))
    (ap (numbers_in c.args.numbers.now) c.get.ensures
    ∙ numbers-Array c.args.numbers.now c.args.ty.now c.in-Array.field-0 c.in-Array.of c.in-Array.is)
    c.add_numbers.ensures

pub add_numbers-returns-in-Struct : goal.add_numbers-returns-in-Struct
add_numbers-returns-in-Struct t c =
    subst (λ l. OnOk c.add_all_numbers.result (c.add_all_numbers.new.list ≡ c.args.list.now ++ l))
    (numbers-Struct c.args.numbers.now c.args.ty.now c.as_slice.result.now (c.in-Struct.is ∙ ap text.Struct (sym c.as_slice.ensures)))
    c.add_all_numbers.ensures

pub add_numbers-returns-in-Named : goal.add_numbers-returns-in-Named
add_numbers-returns-in-Named t c =
    subst (λ l. OnOk c.add_name.result (c.add_name.new.list ≡ c.args.list.now ++ l))
    (numbers-Named c.args.numbers.now c.args.ty.now c.in-Named.name c.in-Named.is) c.add_name.ensures

pub add_numbers-returns-in-Int : goal.add_numbers-returns-in-Int
add_numbers-returns-in-Int t c = adds-nothing c.args.numbers.now c.args.ty.now c.args.list.now c.in-Int.is

pub add_numbers-returns-in-Int-2 : goal.add_numbers-returns-in-Int-2
add_numbers-returns-in-Int-2 t c = adds-nothing c.args.numbers.now c.args.ty.now c.args.list.now c.in-Int.is

pub add_numbers-returns-in-Int-3 : goal.add_numbers-returns-in-Int-3
add_numbers-returns-in-Int-3 t c = adds-nothing c.args.numbers.now c.args.ty.now c.args.list.now c.in-Int.is
