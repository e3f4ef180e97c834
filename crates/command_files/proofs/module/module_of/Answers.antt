use Rattle.command_files.proofs.module.module_of.Goals as goal

pub returns-in-Err-clause-refused : goal.returns-in-Err-clause-refused
returns-in-Err-clause-refused c = c.lexical_refusal.ensures c.args.signs.now

pub returns-clause-refused : goal.returns-clause-refused
returns-clause-refused c = c.reading_refusal.ensures c.args.signs.now
