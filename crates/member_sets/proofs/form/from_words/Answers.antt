use Rattle.std.proofs.Common.{◌≡◌, ◌≢◌, ℕ, ◌+◌, ◌-◌, ◌<◌, ◌≤◌, List, length, take, drop, slice_index, ap, ◌∙◌, sym, subst, arith}
use Rattle.std.specs.Prelude.{IfOk}
use Rattle.std.proofs.lemmas.List.{get_or-take, get_or-drop}
use Rattle.member_sets.specs.Planes.{numbers_in}
use Rattle.member_sets.specs.Seen.{seen}
use Rattle.member_sets.specs.declared.form.Form.{Form}
use Rattle.member_sets.proofs.Kernels.{kept_words, trimmed}
use Rattle.member_sets.proofs.form.from_words.Goals as goal

pub from_first-requires-clause-some : goal.from_first-requires-clause-some
from_first-requires-clause-some c =
    let words = c.args.words.now in let z = c.zeros_before-zeros.result in let end = c.end_of-end.result in
    let h = kept_words c.args.first words z end c.requires.some c.zeros_before-zeros.ensures.zeros c.zeros_before-zeros.ensures.next c.end_of-end.ensures.zeros in
    let ne = c.zeros_before-zeros.ensures.next h.0 in let b = h.1 in
    let at : slice_index (take (end - z) (drop z words)) 0 ≡ slice_index words (z + 0) = get_or-take (end - z) (drop z words) 0 0 (omega arith) ∙ get_or-drop z words 0 0 in
    let same : slice_index words (z + 0) ≡ slice_index words z = ap (slice_index words) (let e : z + 0 ≡ z = omega arith in e) in
    omega arith

pub returns : goal.returns
returns c =
    let words = c.args.words.now in let z = c.zeros_before-zeros.result in let end = c.end_of-end.result in
    subst (λ (xs : List ℕ). IfOk c.from_first.result (λ (form : Form). seen form ≡ xs))
    (trimmed c.args.first z end words c.end_of-end.ensures.after c.end_of-end.ensures.within c.zeros_before-zeros.ensures.zeros c.end_of-end.ensures.zeros) c.from_first.ensures
