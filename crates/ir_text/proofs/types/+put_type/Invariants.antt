use Rattle.std.proofs.Common.{◌≡◌, map, take}
use Rattle.ir_text.specs.Parts.{type_lexemes, with_commas}
use Rattle.ir_text.specs.Printing.{with_tokens}
use Rattle.ir_text.proofs.types.+put_type.Given as goal

abbrev pub invariant-put_types-each : goal.invariant-put_types-each
invariant-put_types-each l = l.sheet ≡ with_tokens l.initial.sheet (with_commas (map type_lexemes (take l.i l.types)))
