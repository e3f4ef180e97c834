use Rattle.std.proofs.Common.{◌≡◌, IfOk, sym, subst}
use Rattle.ir_rules.specs.Types.{TypeDefs}
use Rattle.ir_rules.specs.Replacements.{replacement_by}
use Rattle.ir_replacements.specs.Prepared.{IsPrepared, Subject}
use Rattle.ir_replacements.proofs.checker.Checker.replacement.Goals as goal

pub invariant_of-self : goal.invariant_of-self
invariant_of-self c =
    subst (λ (ds : TypeDefs). IsPrepared ds c.self.inside.known) (sym c.replacement_in.ensures.defs) c.self.invariant

pub returns-clause-kept : goal.returns-clause-kept
returns-clause-kept c = c.self.view_is

pub returns-clause-found : goal.returns-clause-found
returns-clause-found c =
    subst (λ (s : Subject). IfOk c.replacement_in.result (λ found. found ≡ replacement_by s.items s.signs c.args.place.0 c.args.item.now)) c.self.view_is
    c.replacement_in.ensures.found
