use Rattle.std.proofs.Common.{◌≡◌, ℕ, List, [], ◌++◌, map, take, sym, ap, ◌∙◌}
use Rattle.std.specs.List.{fold}
use Rattle.std.proofs.lemmas.List.{take_all}
use Rattle.ir_tree.specs.declared.name.Name.{Name}
use Rattle.ir_names.specs.Names.{with_first, firsts}
use Rattle.ir_memory.specs.Places.{placed, named}
use Rattle.ir_memory.specs.declared.places.Placed.{Placed}
use Rattle.ir_memory.proofs.Globals.{maps}
use Rattle.ir_memory.proofs.Loops.{fold-more}
use Rattle.ir_memory.proofs.places.addresses_of.Goals as goal

pub each-preserved : goal.each-preserved
each-preserved c =
    c.in_ok-add.ensures
    ∙ ap (λ (t : List (Name × ℕ)). with_first t (named (placed c.global-item.result))) c.each.invariant
    ∙ fold-more with_first (λ (p : Placed). named (placed p)) [] c.args.list.now c.each.global-index c.global-item.result c.each-test.true c.global-item.is

pub returns : goal.returns
returns c =
    c.each.invariant
    ∙ ap (λ (l : List Placed). fold with_first [] (map (λ (p : Placed). named (placed p)) l)) (take_all c.each.global-index c.args.list.now c.each-test.false)
    ∙ ap (λ (l : List (Name × ℕ)). firsts l) (sym (maps named placed c.args.list.now))
