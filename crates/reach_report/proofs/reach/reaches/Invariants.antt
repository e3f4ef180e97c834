use Rattle.code_form.specs.Variant.{mutants_of, variant_of}
use Rattle.reach_report.specs.Least.{AreLeast}
use Rattle.reach_report.proofs.reach.reaches.Given as goal

abbrev pub invariant-places : goal.invariant-places
invariant-places l = AreLeast (variant_of l.variants) l.visits (mutants_of l.variants) l.at l.table.items
