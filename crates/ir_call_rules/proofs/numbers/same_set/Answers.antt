use Rattle.std.proofs.Common.{◌&&◌, ap, ◌∙◌}
use Rattle.std.specs.List.{list_all}
use Rattle.ir_rules.specs.Blocks.{has}
use Rattle.ir_call_rules.specs.Numbers.{set_of}
use Rattle.ir_call_rules.proofs.Sets.{sets-same}
use Rattle.ir_call_rules.proofs.numbers.same_set.Goals as goal

pub returns : goal.returns
returns c =
    let ms = c.args.ms.now in
    let ns = c.args.ns.now in
    c.both.ensures
    ∙ ap (λ b. b && c.has_all-2.result) (c.has_all.ensures ∙ ap (λ set. list_all (has set) ms) c.in_ok-second.ensures)
    ∙ ap (λ b. list_all (has (set_of ns)) ms && b) (c.has_all-2.ensures ∙ ap (λ set. list_all (has set) ns) c.in_ok-first.ensures)
    ∙ sets-same ms ns
