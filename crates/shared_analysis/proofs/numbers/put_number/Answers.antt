use Rattle.std.proofs.Common.{length, arith, ◌∙◌, ◌<◌, get_or}
use Rattle.std.proofs.lemmas.List.{length-set, take_all}
use Rattle.shared_analysis.proofs.NumberLemmas.{put_more, kept_more}
use Rattle.shared_analysis.proofs.numbers.put_number.Goals as goal

pub loop-m-preserved : goal.loop-m-preserved
loop-m-preserved c =
    let inv = c.loop-m.invariant in let at = c.loop-m.m-index in let members = c.args.members.now in let table = c.loop-m.table.items in
    let within : get_or members at 0 < length table = (let w = c.requires.within at 0 c.loop-m-test.true in omega (arith, w, inv.size)) in
    record {
      size = length-set table (get_or members at 0) c.args.number ∙ inv.size;
      put = put_more members c.args.table.now.items table at c.args.number c.loop-m-test.true within inv.put;
      kept = kept_more members c.args.table.now.items table at c.args.number c.loop-m-test.true within inv.kept;
    }

pub returns-clause-put : goal.returns-clause-put
returns-clause-put c = λ m h. c.loop-m.invariant.put m (rw (take_all c.loop-m.m-index c.args.members.now c.loop-m-test.false) h)
