use Rattle.std.proofs.Common.{◌≤◌, ◌+◌, Bool, ℕ, sym, ap, subst, ◌∙◌}
use Rattle.std.specs.Prelude.{cond}
use Rattle.html_page.specs.Tests.{is_kill}
use Rattle.html_page.proofs.More.{count-more, few-more}
use Rattle.html_page.proofs.tests_part.kill_count.Goals as goal

pub mutants-preserved : goal.mutants-preserved
mutants-preserved c =
    let p = is_kill c.args.matrix.now c.args.t in
    let m = c.mutants.m in
    record {
      so_far = ap (λ (n : ℕ). c.mutants.count + n) (c.one-count.ensures ∙ ap (λ (b : Bool). cond b 1 0) c.is_kill.ensures)
          ∙ ap (λ (n : ℕ). n + cond (p m) 1 0) c.mutants.invariant.so_far ∙ sym (count-more p m);
      few = subst (λ (n : ℕ). c.mutants.count + n ≤ m + 1) (sym c.one-count.ensures) (few-more c.is_kill.result c.mutants.count m c.mutants.invariant.few);
    }
