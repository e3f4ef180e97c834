use Rattle.std.proofs.Common.{Result, List, subst}
use Rattle.list_records.specs.Records.{rows_of}
use Rattle.mutant_records.specs.Lists.{ListGives}
use Rattle.mutant_records.specs.declared.error.MutantError.{MutantError}
use Rattle.mutant_records.specs.declared.list.Made.{Made}
use Rattle.mutant_records.proofs.Reading.{list_good}
use Rattle.mutant_records.proofs.read.read_whole.Goals as goal

pub list_of-requires-clause-order : goal.list_of-requires-clause-order
list_of-requires-clause-order g c =
    let Reads = g.C.Replaces.Reads (g.C.Replaces.subject c.args.checker.now) in
    (list_good c.args.code.now Reads (rows_of c.args.text.now) c.in-Ok.all c.requires.fit
    (subst (λ (r : Result (List Made) MutantError). ListGives c.args.code.now Reads (rows_of c.args.text.now) r) c.in-Ok.is c.in_ok-fault.ensures)).order

pub list_of-requires-clause-fit : goal.list_of-requires-clause-fit
list_of-requires-clause-fit g c =
    let Reads = g.C.Replaces.Reads (g.C.Replaces.subject c.args.checker.now) in
    (list_good c.args.code.now Reads (rows_of c.args.text.now) c.in-Ok.all c.requires.fit
    (subst (λ (r : Result (List Made) MutantError). ListGives c.args.code.now Reads (rows_of c.args.text.now) r) c.in-Ok.is c.in_ok-fault.ensures)).fit
