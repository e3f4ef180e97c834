use Rattle.std.proofs.Common.{subst, sym}
use Rattle.code_form.specs.Sound.{IsSound}
use Rattle.ir_sound.proofs.Whole.{code-sound}
use Rattle.mutant_list.proofs.Fits.{read_fits}
use Rattle.mutant_list.proofs.list.read_mutants_by.Goals as goal

pub read_mutants_over-requires-clause-sound : goal.read_mutants_over-requires-clause-sound
read_mutants_over-requires-clause-sound c =
    subst IsSound (sym c.requires.code) (code-sound c.args.checker.items c.args.checker.signs c.requires.whole c.requires.faultless)

pub read_mutants_over-requires-clause-fit : goal.read_mutants_over-requires-clause-fit
read_mutants_over-requires-clause-fit c =
    read_fits c.args.checker.items c.args.checker.signs c.args.code.now c.requires.whole c.requires.faultless c.requires.code
