use Rattle.std.proofs.Common.{◌≡◌, ℕ, ◌<◌, List, length, slice_index, ap, ◌∙◌, sym, subst, arith}
use Rattle.std.specs.Prelude.{IfOk}
use Rattle.member_sets.specs.Planes.{numbers_in}
use Rattle.member_sets.specs.Seen.{seen}
use Rattle.member_sets.specs.declared.form.Form.{Form}
use Rattle.member_sets.proofs.form.from_first.Goals as goal

pub returns-then-is_list_leaner : goal.returns-then-is_list_leaner
returns-then-is_list_leaner c =
    subst (λ (xs : List ℕ). IfOk c.listed.result (λ (form : Form). seen form ≡ xs)) (c.from_vec.ensures ∙ c.in_ok-list_of.ensures) c.listed.ensures

pub new-requires-clause-some : goal.new-requires-clause-some
new-requires-clause-some c = subst (λ (ws : List ℕ). 0 < slice_index ws 0) (sym c.in_ok-words.ensures.items) c.requires.some

pub returns : goal.returns
returns c = c.in_ok-new-2.ensures.ok ∙ c.in_ok-new.ensures ∙ ap (numbers_in c.args.first) c.in_ok-words.ensures.items
