use Rattle.ir_text.specs.Lines.{canon}
use Rattle.ir_text.proofs.ReadBack.{canon-reads, canon-no_fault, one-module, instruction-parts, alone-parts, made-reads}
use Rattle.ir_text.proofs.laws.canon_reads_back.Goals as goal

pub returns-clause-module : goal.returns-clause-module
returns-clause-module c = canon-reads

pub returns-clause-only : goal.returns-clause-only
returns-clause-only c = λ text items others h t u. one-module (canon items) items others (canon-reads text items h t) u

pub returns-clause-fault : goal.returns-clause-fault
returns-clause-fault c = canon-no_fault

pub returns-clause-instruction : goal.returns-clause-instruction
returns-clause-instruction c = λ text items n o h t k. made-reads o (instruction-parts text items n o h t k)

pub returns-clause-alone : goal.returns-clause-alone
returns-clause-alone c = λ text o h i. made-reads o (alone-parts text o h i)
