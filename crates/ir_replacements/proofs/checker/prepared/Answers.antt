use Rattle.std.proofs.Common.{◌≡◌, List, None, sym, subst, ◌∙◌}
use Rattle.code_form.specs.declared.sign.PortSign.{PortSign}
use Rattle.ir_rules.specs.Types.{kind_of}
use Rattle.ir_rules.specs.Rules.{fault}
use Rattle.ir_replacements.proofs.checker.prepared.Goals as goal

pub returns-clause-known : goal.returns-clause-known
returns-clause-known c =
    record {
      types = c.requires.types;
      kinds = c.in_ok-kinds.ensures ∙ (λ j. kind_of (c.requires.types j));
      entities = c.in_ok-entities.ensures;
      addresses = c.requires.placed;
      places = c.in_ok-places.ensures;
      whole = c.requires.whole;
      faultless = subst (λ (s : List PortSign). fault c.args.items.now s ≡ None) (sym c.in_ok-ports.ensures) c.requires.faultless;
    }
