use Rattle.command_files.proofs.Placed.{fault-placed}
use Rattle.command_files.proofs.laws.broken_item_has_a_token.Goals as goal

pub returns : goal.returns
returns c = record { token = fault-placed }
