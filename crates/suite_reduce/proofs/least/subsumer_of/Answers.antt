use Rattle.std.proofs.Common.{◌+◌, ◌-◌, ◌&&◌, sym, ap, ◌∙◌, subst, arith}
use Rattle.std.specs.List.{find, range_with_len}
use Rattle.suite_reduce.specs.Planes.{words_within, words_kill}
use Rattle.suite_reduce.specs.Scan.{AreMinimal}
use Rattle.suite_reduce.proofs.Scanning.{unkilled_alone, unkilled_further, found_least, found_further, new_least, new_further}
use Rattle.suite_reduce.proofs.least.subsumer_of.Goals as goal

pub returns-then-not-is_killed-clause-least : goal.returns-then-not-is_killed-clause-least
returns-then-not-is_killed-clause-least c grid e are m a s =
    unkilled_alone grid c.args.planes.now are c.args.b (omega (arith, e, c.requires)) (sym c.if-not-is_killed.ensures) a s

pub returns-then-not-is_killed-clause-minimal : goal.returns-then-not-is_killed-clause-minimal
returns-then-not-is_killed-clause-minimal c grid e are m =
    unkilled_further grid c.args.planes.now are c.args.minimal.now.items c.args.b (omega (arith, e, c.requires)) (sym c.if-not-is_killed.ensures) m

pub returns-in-Some-clause-least : goal.returns-in-Some-clause-least
returns-in-Some-clause-least c grid e are m =
    found_least grid c.args.planes.now are c.args.minimal.now.items c.args.b c.in-Some.a (omega (arith, e, c.requires)) m
    (ap (find (λ x. words_within c.args.planes.now x c.args.b)) (sym c.deref.ensures.value) ∙ sym c.in-Some.ensures)

pub returns-in-Some-clause-minimal : goal.returns-in-Some-clause-minimal
returns-in-Some-clause-minimal c grid e are m =
    found_further grid c.args.planes.now are c.args.minimal.now.items c.args.b c.in-Some.a (omega (arith, e, c.requires)) m
    (ap (find (λ x. words_within c.args.planes.now x c.args.b)) (sym c.deref.ensures.value) ∙ sym c.in-Some.ensures)

pub returns-in_ok-push-in-None-clause-least : goal.returns-in_ok-push-in-None-clause-least
returns-in_ok-push-in-None-clause-least c grid e are m =
    new_least grid c.args.planes.now are c.args.minimal.now.items c.args.b c.next_within.result (omega (arith, e, c.requires)) m
    (ap (find (λ x. words_within c.args.planes.now x c.args.b)) (sym c.deref.ensures.value) ∙ sym c.in-None.ensures)
    (c.next_within.ensures ∙ ap (λ n. find (λ x. words_within c.args.planes.now x c.args.b && words_kill c.args.planes.now x) (range_with_len (c.args.b + 1) (n - (c.args.b + 1)))) (sym e))

pub returns-in_ok-push-in-None-clause-minimal : goal.returns-in_ok-push-in-None-clause-minimal
returns-in_ok-push-in-None-clause-minimal c grid e are m =
    subst (λ xs. AreMinimal grid xs (c.args.b + 1)) (sym c.in_ok-push-in-None.ensures.items)
    (new_further grid c.args.planes.now are c.args.minimal.now.items c.args.b (omega (arith, e, c.requires)) (sym c.if-not-is_killed.ensures) m)
