use Rattle.std.proofs.Common.{sym, ap}
use Rattle.std.specs.Prelude.{unwrap_or}
use Rattle.lane_eval.proofs.FoundSpots.{block_read}
use Rattle.lane_eval.proofs.spots.block_here.Goals as goal

pub returns : goal.returns
returns c = ap (λ o. unwrap_or o 0) (sym (block_read c.args.code.now c.args.spots.now c.requires.spots c.args.place c.requires.within (record { function = 0; block = 0 })))
