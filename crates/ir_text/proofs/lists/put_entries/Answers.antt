use Rattle.ir_text.specs.Parts as parts
use Rattle.ir_text.proofs.Steps.{commas_turn}
use Rattle.ir_text.proofs.lists.put_entries.Goals as goal

pub each-preserved : goal.each-preserved
each-preserved c = commas_turn parts.entry c.args.entries.now c.each.i c.index-entries-i.result _ _ _ _ c.each-test.true c.index-entries-i.is c.each.invariant
    c.in_ok-put_comma.ensures c.in_ok-put_entry.ensures
