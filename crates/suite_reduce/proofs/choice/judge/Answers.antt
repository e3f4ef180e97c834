use Rattle.std.proofs.Common.{◌==◌, ◌&&◌, ◌||◌, not, false, ◌∙◌, sym, ap, subst, map, reverse, get_or, arith}
use Rattle.std.specs.List.{list_any, range_with_len}
use Rattle.suite_reduce.specs.Kills.{is_killed_by}
use Rattle.suite_reduce.specs.Pass.{IsPass}
use Rattle.suite_reduce.proofs.Choosing.{as_many, needed_is, pass_by, pass_on}
use Rattle.suite_reduce.proofs.choice.judge.Goals as goal

pub is_needed-requires : goal.is_needed-requires
is_needed-requires c = let long = as_many c.args.matrix.now c.args.firsts.now c.requires.firsts in let e = c.mutants.ensures in omega arith

pub returns-then-not-is_needed : goal.returns-then-not-is_needed
returns-then-not-is_needed c =
    let grid = c.args.matrix.now in let chosen = c.args.chosen.now.items in let covered = c.args.covered.now.items in
    let tested = needed_is grid c.args.firsts.now c.deref.result.now c.args.t (reverse chosen) c.requires.firsts c.requires.test (c.deref.ensures.value ∙ c.requires.pass.covered_are) in
    let all = ap (λ n. list_any (λ m. (get_or c.args.firsts.now m 0 == c.args.t) && not (get_or c.deref.result.now m false)) (range_with_len 0 n)) c.mutants.ensures in
    pass_by grid c.args.t chosen covered c.requires.test c.requires.pass (sym tested ∙ sym (c.if-not-is_needed.ensures ∙ all))

pub returns : goal.returns
returns c =
    let grid = c.args.matrix.now in let chosen = c.args.chosen.now.items in let covered = c.args.covered.now.items in let more = c.in_ok-more.more.items in
    let tested = needed_is grid c.args.firsts.now c.deref.result.now c.args.t (reverse chosen) c.requires.firsts c.requires.test (c.deref.ensures.value ∙ c.requires.pass.covered_are) in
    let all = ap (λ n. list_any (λ m. (get_or c.args.firsts.now m 0 == c.args.t) && not (get_or c.deref.result.now m false)) (range_with_len 0 n)) c.mutants.ensures in
    subst (λ xs. IsPass grid c.args.t xs more) (sym c.in_ok-push.ensures.items)
    (pass_on grid c.args.t chosen covered more c.requires.test c.requires.pass (sym tested ∙ sym (c.if-not-is_needed.ensures ∙ all))
    (c.in_ok-more.ensures ∙ ap (λ xs. map (λ m. is_killed_by grid m c.args.t || get_or xs m false) (range_with_len 0 grid.mutants)) c.deref-2.ensures.value))
