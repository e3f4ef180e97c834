use Rattle.std.proofs.Common.{sym, subst}
use Rattle.ir_tokens.specs.Tokens.{HasTokens, BadByte, OpenQuote}
use Rattle.ir_reader.proofs.Places.{tokens_lie}
use Rattle.ir_reader.proofs.Whole.{faulty, cut_whole, cut_given}
use Rattle.ir_reader.proofs.modules.read_instruction.Goals as goal

pub whole_instruction-requires : goal.whole_instruction-requires
whole_instruction-requires c = tokens_lie c.args.text.now c.as_slice.result.now
    (subst (λ ts. HasTokens c.args.text.now ts) (sym c.as_slice.ensures.value) c.in-Ok.ensures.tokens)

pub returns-in-Err-BadByte-clause-none : goal.returns-in-Err-BadByte-clause-none
returns-in-Err-BadByte-clause-none c = faulty c.args.text.now c.in-Err-BadByte.field-0-0 BadByte
    (rw c.in-Err-BadByte.field-0-is at c.in-Err-BadByte.ensures.fault)

pub returns-in-Err-OpenQuote-clause-none : goal.returns-in-Err-OpenQuote-clause-none
returns-in-Err-OpenQuote-clause-none c = faulty c.args.text.now c.in-Err-OpenQuote.field-0-0 OpenQuote
    (rw c.in-Err-OpenQuote.field-0-is at c.in-Err-OpenQuote.ensures.fault)

pub returns-in-Ok-clause-none : goal.returns-in-Ok-clause-none
returns-in-Ok-clause-none c = cut_whole c.args.text.now c.as_slice.result.now
    (subst (λ ts. HasTokens c.args.text.now ts) (sym c.as_slice.ensures.value) c.in-Ok.ensures.tokens) c.whole_instruction.result c.whole_instruction.ensures

pub returns-in-Ok-clause-item : goal.returns-in-Ok-clause-item
returns-in-Ok-clause-item c = cut_given c.args.text.now c.as_slice.result.now
    (subst (λ ts. HasTokens c.args.text.now ts) (sym c.as_slice.ensures.value) c.in-Ok.ensures.tokens) c.whole_instruction.result c.whole_instruction.ensures
