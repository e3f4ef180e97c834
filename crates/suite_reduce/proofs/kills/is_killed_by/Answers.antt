use Rattle.std.proofs.Common.{◌∙◌, sym, ap, arith}
use Rattle.kill_matrix.specs.Verdict.{kills}
use Rattle.suite_reduce.specs.Kills.{is_killed_by}
use Rattle.suite_reduce.proofs.Letters.{no_test, no_mutant, no_original, by_letter}
use Rattle.suite_reduce.proofs.kills.is_killed_by.Goals as goal
use Rattle.suite_reduce.proofs.kills.is_killed_by.Goals.{then-m-eq0-via-then-m-eq0, then-m-eq0-via-else-m-eq0+then-m-mutants, then-m-eq0-via-else-m-eq0+else-m-mutants+then-t-tests}

pub returns-then-m-eq0 : goal.returns-then-m-eq0
returns-then-m-eq0 c =
    let grid = c.args.matrix.now in let m = c.args.m in let t = c.args.t in elim c.then-m-eq0.branch [
      | then-m-eq0-via-then-m-eq0 w ↦ sym (ap (λ k. is_killed_by grid k t) w.if-m-eq0.true ∙ no_original grid t)
      | then-m-eq0-via-else-m-eq0+then-m-mutants w ↦ sym (no_mutant grid m t (omega arith))
      | then-m-eq0-via-else-m-eq0+else-m-mutants+then-t-tests w ↦ sym (no_test grid m t (omega arith))
    ]

pub returns : goal.returns
returns c = c.kills.ensures ∙ ap kills c.letter.ensures ∙ by_letter c.args.matrix.now c.args.m c.args.t (omega arith) (omega arith)
