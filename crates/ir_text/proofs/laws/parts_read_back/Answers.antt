use Rattle.ir_text.proofs.PartsBack.{number-reads, true-reads, false-reads}
use Rattle.ir_text.proofs.ReadBack.{instruction-parts, alone-parts}
use Rattle.ir_text.proofs.laws.parts_read_back.Goals as goal

pub returns-clause-module : goal.returns-clause-module
returns-clause-module c = instruction-parts

pub returns-clause-alone : goal.returns-clause-alone
returns-clause-alone c = alone-parts

pub returns-clause-number : goal.returns-clause-number
returns-clause-number c = number-reads

pub returns-clause-yes : goal.returns-clause-yes
returns-clause-yes c = true-reads

pub returns-clause-no : goal.returns-clause-no
returns-clause-no c = false-reads
