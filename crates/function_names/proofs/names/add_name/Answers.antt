use Rattle.function_names.proofs.Numbered.{added}
use Rattle.function_names.proofs.names.add_name.Goals as goal

pub returns : goal.returns
returns c = added c.args.map.now _ _ _ _ _ c.contains_key.ensures c.if-contains_key.false c.in_ok-copy.ensures c.in_ok-insert.ensures.entries
