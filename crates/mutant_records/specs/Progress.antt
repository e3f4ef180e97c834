-- How far a list is read.
use Rattle.std.specs.Prelude.{◌≡◌, []}
use Rattle.mutant_records.specs.Lists.{last_mutant, places_of}
use Rattle.mutant_records.specs.Order.{AreInOrder}
use Rattle.mutant_records.specs.declared.progress.Progress.{Progress}

-- the replacements stand in order, and the mutant and the places are those of the last one
pub record Keeps (p : Progress) : Type 0 where
  pub order : AreInOrder [] p.all
  pub mutant : p.mutant ≡ last_mutant p.all
  pub places : p.places.items ≡ places_of p.all p.mutant
