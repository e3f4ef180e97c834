-- What is kept of the replacements that are read.
use Rattle.std.proofs.Common.{◌≡◌, List, [], ◌∷◌, ◌++◌, refl, sym, ◌∙◌, subst}
use Rattle.mutant_records.specs.Lists.{places_of}
use Rattle.mutant_records.specs.Order.{AreInOrder, Follows}
use Rattle.mutant_records.specs.Progress.{Keeps}
use Rattle.mutant_records.specs.declared.list.Made.{Made}
use Rattle.mutant_records.specs.declared.progress.Progress.{Progress}
use Rattle.mutant_records.proofs.Order.{last-more, order-more, places-here}

-- one more is kept
pub keeps-more : (p q : Progress) (made : Made) → Keeps p → Follows p.all made → q.all ≡ p.all ++ made ∷ [] → q.mutant ≡ made.mutant
    → q.places.items ≡ places_of p.all made.mutant ++ made.place.0 ∷ [] → Keeps q
keeps-more p q made k f all mutant places = record {
  order = subst (λ l. AreInOrder [] l) (sym all) (order-more [] p.all made k.order f);
  mutant = rw all (mutant ∙ sym (last-more p.all made));
  places = rw (all, mutant) (places ∙ sym (places-here p.all made made.mutant refl));
}
