use Rattle.std.proofs.Common.{arith}
use Rattle.ir_grammar.specs.Lexeme.{lexemes}
use Rattle.ir_sound.proofs.Whole.{items-whole}
use Rattle.command_files.proofs.Few.{few-items}
use Rattle.command_files.proofs.mutants.mutants_of.Goals as goal

pub read_mutants-requires-clause-few : goal.read_mutants-requires-clause-few
read_mutants-requires-clause-few c =
    let file = c.requires.accepted.0 in
    let h = c.requires.accepted.2 in
    let few = few-items file h.tokens c.args.m.now.module.items h.starts h.items in
    let short = c.requires.accepted.1 in
    omega (arith, few, short)

pub read_mutants-requires-clause-whole : goal.read_mutants-requires-clause-whole
read_mutants-requires-clause-whole c =
    let file = c.requires.accepted.0 in
    let h = c.requires.accepted.2 in
    items-whole (lexemes file h.tokens) c.args.m.now.module.items h.starts h.items.whole
