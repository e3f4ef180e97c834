use Rattle.std.proofs.Common.{◌<◌, ◌++◌, ◌∷◌, [], length, get_or, arith, sym, ap, ◌∙◌, subst}
use Rattle.std.specs.List.{remove}
use Rattle.std.specs.List.Sorted.{IsPermutation}
use Rattle.std.proofs.lemmas.List.Sorted.{IsPermutation-remove, IsPermutation-trans, IsPermutation-sym, IsPermutation-to_front}
use Rattle.exec_core.proofs.OrderLemmas.{last_left, put_behind}
use Rattle.exec_core.proofs.pick.move_behind.Goals as goal

pub put-requires : goal.put-requires
put-requires g c = omega (arith, c.remove-last.ensures.len, c.remove-last.ensures.capacity, c.args.lives.now.ok.1, c.remove-last.new.self.ok.1)

pub returns-clause-moved : goal.returns-clause-moved
returns-clause-moved g c =
    let xs = c.args.lives.now.items in let at = c.args.at in let x = c.remove-last.result in
    let l : at < length xs = omega (arith, c.if-at-len.false, c.len.ensures, c.args.lives.now.ok.0) in
    subst (IsPermutation xs) (ap (λ ys. ys ++ x ∷ []) (sym c.remove-last.ensures.items) ∙ sym c.put.ensures.items)
    (IsPermutation-trans _ _ _ (IsPermutation-remove xs at x l c.remove-last.ensures.value) (IsPermutation-sym _ _ (IsPermutation-to_front (remove xs at) x)))

pub returns-clause-order : goal.returns-clause-order
returns-clause-order g c before taken l e =
    let at = c.args.at in let x = c.remove-last.result in
    c.put.ensures.items ∙ ap (λ ys. ys ++ x ∷ []) (c.remove-last.ensures.items ∙ ap (λ zs. remove zs at) e)
    ∙ put_behind before at l taken x (omega (arith, c.if-at-len.false, c.len.ensures, c.args.lives.now.ok.0, ap length e)) (c.remove-last.ensures.value
    ∙ ap (λ zs. get_or zs at x) e)

pub returns-then-at-len-clause-order : goal.returns-then-at-len-clause-order
returns-then-at-len-clause-order g c before taken l e =
    e ∙ last_left before c.args.at l taken (omega (arith, c.if-at-len.true, c.len.ensures, c.args.lives.now.ok.0, ap length e))
