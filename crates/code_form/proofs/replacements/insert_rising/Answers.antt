use Rattle.code_form.proofs.Lists.{contains-insert}
use Rattle.code_form.proofs.replacements.insert_rising.Goals as goal

pub returns-clause-mutants : goal.returns-clause-mutants
returns-clause-mutants c =
    let within = rw c.deref.ensures.value at c.index_for-at.ensures.within in
    rw c.in_ok-insert.ensures.items (contains-insert c.args.mutants.now.items c.index_for-at.result c.args.m within)
