use Rattle.std.proofs.Common.{ℕ, List, [], ◌∷◌, ◌++◌, ap, ◌∙◌}
use Rattle.mutant_records.specs.declared.list.Made.{Made}
use Rattle.mutant_records.proofs.Keeping.{keeps-more}
use Rattle.mutant_records.proofs.progress.Progress.push.Goals as goal

pub returns-clause-keeps : goal.returns-clause-keeps
returns-clause-keeps c =
    keeps-more c.args.self.now _ c.args.made c.requires.keeps c.requires.follows
    (c.in_ok-push.ensures.ok ∙ ap (λ (l : List Made). l ++ c.args.made ∷ []) c.turn_to.ensures.all) c.turn_to.ensures.mutant
    (c.push-2.ensures.items ∙ ap (λ (ps : List ℕ). ps ++ c.args.made.place.0 ∷ []) c.turn_to.ensures.places)
