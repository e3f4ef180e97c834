use Rattle.std.proofs.Common.{◌≡◌, ℕ, List, [], ◌∷◌, length, get_or, ap, ◌∙◌, sym, arith}
use Rattle.member_sets.proofs.Kernels.{one_of}
use Rattle.member_sets.proofs.form.listed.Goals as goal

pub returns-then-len-eq1 : goal.returns-then-len-eq1
returns-then-len-eq1 c = ap (λ xs. get_or xs 0 0 ∷ []) c.as_slice.ensures ∙ one_of c.args.list (sym c.len.ensures ∙ c.if-len-eq1.true)
