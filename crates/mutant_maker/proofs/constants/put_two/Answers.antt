use Rattle.mutant_maker.proofs.Steps.{pair}
use Rattle.mutant_maker.proofs.constants.put_two.Goals as goal

pub returns : goal.returns
returns c = pair c.args.walk.now c.put_numbers.new.walk c.put_numbers-2.new.walk _ _ c.in_ok-put_numbers.ensures c.in_ok-put_numbers-2.ensures
