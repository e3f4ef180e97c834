use Rattle.std.proofs.Common.{ap, sym, ◌∙◌}
use Rattle.ir_tree.specs.declared.type_text.TyText.TheVariants as text
use Rattle.ir_types.specs.Graph.{names_unknown}
use Rattle.ir_types.proofs.Mentioned.{unknown-plain, unknown-Array, unknown-Struct, unknown-Named}
use Rattle.ir_types.proofs.mentions.+unknown.Goals as goal

pub names_unknown_type-returns-in-Array : goal.names_unknown_type-returns-in-Array
names_unknown_type-returns-in-Array t c =
    c.names_unknown_type.ensures ∙ ap (names_unknown c.args.numbers.now) c.get.ensures
    ∙ unknown-Array c.args.numbers.now c.args.ty.now c.in-Array.field-0 c.in-Array.of c.in-Array.is

pub names_unknown_type-returns-in-Struct : goal.names_unknown_type-returns-in-Struct
names_unknown_type-returns-in-Struct t c =
    c.some_names_unknown_type.ensures
    ∙ unknown-Struct c.args.numbers.now c.args.ty.now c.as_slice.result.now (c.in-Struct.is ∙ ap text.Struct (sym c.as_slice.ensures))

pub names_unknown_type-returns-in-Named : goal.names_unknown_type-returns-in-Named
names_unknown_type-returns-in-Named t c =
    c.is_unknown.ensures ∙ unknown-Named c.args.numbers.now c.args.ty.now c.in-Named.name c.in-Named.is

pub names_unknown_type-returns-in-Int : goal.names_unknown_type-returns-in-Int
names_unknown_type-returns-in-Int t c = unknown-plain c.args.numbers.now c.args.ty.now c.in-Int.is

pub names_unknown_type-returns-in-Int-2 : goal.names_unknown_type-returns-in-Int-2
names_unknown_type-returns-in-Int-2 t c = unknown-plain c.args.numbers.now c.args.ty.now c.in-Int.is

pub names_unknown_type-returns-in-Int-3 : goal.names_unknown_type-returns-in-Int-3
names_unknown_type-returns-in-Int-3 t c = unknown-plain c.args.numbers.now c.args.ty.now c.in-Int.is
