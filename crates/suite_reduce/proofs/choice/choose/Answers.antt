use Rattle.std.proofs.Common.{◌-◌, ◌∙◌, sym, ap, subst, arith, replicate, false}
use Rattle.suite_reduce.specs.Pass.{IsPass}
use Rattle.suite_reduce.proofs.Choosing.{no_cover, pass_begins, pass_ends}
use Rattle.suite_reduce.proofs.choice.choose.Goals as goal

pub pass-init : goal.pass-init
pass-init c =
    let grid = c.args.matrix.now in
    subst (λ xs. IsPass grid (c.args.tests - 0) xs c.in_ok-covered.covered.items) (sym c.new-chosen.ensures.items)
    (pass_begins grid (c.args.tests - 0) c.in_ok-covered.covered.items (omega (arith, c.requires))
    (c.in_ok-covered.ensures.items_if_clones_equal (λ y e. e) ∙ ap (λ n. replicate n false) c.mutants.ensures ∙ no_cover grid 0 grid.mutants))

pub returns : goal.returns
returns c =
    c.reverse.ensures.items
    ∙ pass_ends c.args.matrix.now (c.args.tests - c.pass.k) c.pass.chosen.items c.pass.covered.items (omega (arith, c.pass-test.false)) c.pass.invariant
