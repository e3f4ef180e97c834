use Rattle.ir_text.proofs.ReadBack.{made-reads}
use Rattle.ir_text.proofs.laws.made_instructions.Goals as goal

pub returns : goal.returns
returns c = made-reads
