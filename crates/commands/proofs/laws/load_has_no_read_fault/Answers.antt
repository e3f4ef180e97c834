use Rattle.am_base.specs.Cause.{Rose}
use Rattle.commands.proofs.LoadLemmas.{load_reads}
use Rattle.commands.proofs.laws.load_has_no_read_fault.Goals as goal

pub returns : goal.returns
returns c = λ files before after number. load_reads files (λ name. Rose (before name) (after name)) number
