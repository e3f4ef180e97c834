use Rattle.std.proofs.Common.{ℕ, List, ◌<◌, ◌∷◌, [], ◌++◌, sym, subst, ◌∙◌, ap, arith, map}
use Rattle.std.specs.List.{All}
use Rattle.std.specs.List.Sorted.{IsStrictlyIncreasing}
use Rattle.machine_form.proofs.HeldSteps.{one_more}
use Rattle.machine_form.proofs.Rises.{push_rises}
use Rattle.machine_form.proofs.writes.ByteWrites.push.Goals as goal

pub invariant_of-self : goal.invariant_of-self
invariant_of-self c =
    let P : List (ℕ × ℕ) → Type 0 = All (λ w. w.0 < c.args.address) in
    let R : List (ℕ × ℕ) → Type 0 = λ ws. IsStrictlyIncreasing (map (λ w. w.0) ws) in
    let above = subst P (sym c.self.view_is) c.requires.above in
    let more = one_more c.self.inside.is_long c.self.inside.pairs.items c.self.inside.few c.self.inside.count (c.args.address, c.args.byte) c.if-not-self.true (omega arith) in
    (omega (arith, c.if-self-lt-FEW_BYTES.true), subst R (sym more) (push_rises _ c.args.address c.args.byte c.self.invariant.1 above))

pub invariant_of-self-2 : goal.invariant_of-self-2
invariant_of-self-2 c =
    let P : List (ℕ × ℕ) → Type 0 = All (λ w. w.0 < c.args.address) in
    let R : List (ℕ × ℕ) → Type 0 = λ ws. IsStrictlyIncreasing (map (λ w. w.0) ws) in
    let above = subst P (sym c.self.view_is) c.requires.above in
    let more = c.in_ok-push.ensures.ok ∙ ap (λ ws. ws ++ (c.args.address, c.args.byte) ∷ []) c.in_ok-keep_all.ensures.ok in
    (c.self.invariant.0, subst R (sym more) (push_rises _ c.args.address c.args.byte c.self.invariant.1 above))
