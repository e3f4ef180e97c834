use Rattle.code_form.proofs.Tables.{same-push}
use Rattle.code_form.proofs.replacements.push_empty.Goals as goal

pub returns-clause-same : goal.returns-clause-same
returns-clause-same c = rw c.in_ok-push.ensures.items (same-push c.args.places.now.items c.new.result c.new.ensures.instrs c.new.ensures.mutants)
