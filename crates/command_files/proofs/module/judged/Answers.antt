use Rattle.std.proofs.Common.{arith}
use Rattle.ir_grammar.specs.Lexeme.{lexemes}
use Rattle.ir_sound.proofs.Whole.{items-whole}
use Rattle.command_files.proofs.Few.{few-items}
use Rattle.command_files.proofs.module.judged.Goals as goal

pub check-requires-clause-whole : goal.check-requires-clause-whole
check-requires-clause-whole c =
    items-whole (lexemes c.args.text.now c.args.tokens.now) c.args.reading.module.items c.args.reading.starts c.requires.items.whole

pub check-requires-clause-few : goal.check-requires-clause-few
check-requires-clause-few c =
    let few = few-items c.args.text.now c.args.tokens.now c.args.reading.module.items c.args.reading.starts c.requires.items in
    let short = c.requires.short in
    omega (arith, few, short)
