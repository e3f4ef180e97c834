use Rattle.std.proofs.Common.{sym, ap, ◌∙◌, subst}
use Rattle.std.proofs.lemmas.Int.{to_z-of_z}
use Rattle.am_base.specs.declared.word.Width.TheVariants.{W64}
use Rattle.am_base.specs.Word.{IsWord, signed, word_of}
use Rattle.am_base.proofs.ResultWords.{word_of-lt}
use Rattle.ir_op_codes.proofs.Wrapped.{number-scaled}
use Rattle.ir_op_codes.proofs.words.scaled.Goals as goal

pub convert-requires : goal.convert-requires
convert-requires c = subst (IsWord c.args.w) (sym c.word_of.ensures) (word_of-lt c.args.w _)

pub returns : goal.returns
returns c =
    let w = c.args.w in
    number-scaled c.args.size c.convert.result (signed w (word_of w c.args.z))
    (c.convert.ensures ∙ ap (λ n. word_of W64 (signed w n)) (c.word_of.ensures ∙ ap (word_of w) (to_z-of_z _ c.args.z c.ranges.z)))
