-- The first words of instructions, by the four tables that they stand in.
use Rattle.std.proofs.Common.{◌≡◌, ◌∙◌, ap}
use Rattle.ir_tokens.specs.Bytes.{Text}
use Rattle.ir_grammar.specs.declared.starts.OpStart.{OpStart}
use Rattle.ir_grammar.specs.declared.starts.OpStart.TheVariants as ops
use Rattle.ir_grammar.specs.Starts.{op_word, arithmetic_words, value_words, memory_words, control_words}
use Rattle.ir_grammar.specs.Words.{meaning}

pub op_word_parts : (s : Text) (control memory value found : OpStart) → control ≡ meaning control_words ops.Nothing s → memory ≡ meaning memory_words control s
    → value ≡ meaning value_words memory s
    → found ≡ meaning arithmetic_words value s → found ≡ op_word s
unfolding op_word
op_word_parts s control memory value found c m v f =
    f ∙ ap (λ o. meaning arithmetic_words o s) (v ∙ ap (λ o. meaning value_words o s) (m ∙ ap (λ o. meaning memory_words o s) c))
