use Rattle.std.proofs.Common.{◌≡◌, ℕ, ◌≤◌, ◌<◌, nat_cmp, slice_index, arith, refl, ◌∙◌, subst, take}
use Rattle.std.specs.Ordering.{ord_max, is_lt}
use Rattle.std.proofs.lemmas.Bool.Decides.{nat_tests}
use Rattle.traces.proofs.Bools.{on_bool}
use Rattle.std.specs.List.{All}
use Rattle.std.proofs.lemmas.List.{take_all}
use Rattle.std.proofs.lemmas.List.Elements.{All-more, All-weaker}
use Rattle.exec_core.proofs.plan.greatest.Goals as goal

above_both : (a b m : ℕ) → m ≡ ord_max nat_cmp a b → (a ≤ m) × (b ≤ m)
above_both a b m e = on_bool (is_lt (nat_cmp b a))
    (λ t. let f : m ≡ a = (e ∙ rw t refl) in let l : b < a = grind (arith, nat_tests) in (omega arith, omega arith))
    (λ n. let f : m ≡ b = (e ∙ rw n refl) in let l : a ≤ b = grind (arith, nat_tests) in (omega arith, omega arith))

pub loop-n-preserved : goal.loop-n-preserved
loop-n-preserved c =
    let top = c.max-top.result in let m = above_both c.loop-n.top (slice_index c.args.numbers.now c.loop-n.n-index) top c.max-top.ensures in
    All-more (λ n. n ≤ top) c.args.numbers.now c.loop-n.n-index 0 c.loop-n-test.true
    (All-weaker (λ n. n ≤ c.loop-n.top) (λ n. n ≤ top) (λ x h. let a = m.0 in omega arith) (take c.loop-n.n-index c.args.numbers.now) c.loop-n.invariant) m.1

pub returns : goal.returns
returns c = subst (All (λ n. n ≤ c.loop-n.top)) (take_all c.loop-n.n-index c.args.numbers.now c.loop-n-test.false) c.loop-n.invariant
