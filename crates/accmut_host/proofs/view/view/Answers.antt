use Rattle.std.proofs.Common.{◌≡◌, ℕ, map, ap, refl, ◌∙◌}
use mathlib.Core.Logic.{inl, inr}
use denote.Param.Object.{read_made}
use Rattle.accmut_host.proofs.view.view.Goals as goal
use Rattle.accmut_host.proofs.view.view.OwnLists.{own-2}
use Rattle.accmut_host.proofs.Fresh.{four_fresh}

pub accmut_view-requires-clause-few : goal.accmut_view-requires-clause-few
accmut_view-requires-clause-few g c =
    let abs = c.into_dyn_box-in_ok-new-3 in
    let labs = c.into_dyn_box-in_ok-new-5 in
    let is_digit = c.into_dyn_box-in_ok-new-7 in
    let is_space = c.into_dyn_box-in_ok-new-9 in
    four_fresh _ (ap (map _) c.in_ok-ports.ensures.items)
    (read_made own-2 _ (inl tt) refl ℕ (λ j y. j.1.asked y) abs.result.vtable abs.result.value _ abs.ensures.1
    ∙ c.in_ok-new-3.ensures.ok ∙ c.in_ok-new-2.ensures)
    (read_made own-2 _ (inr (inl tt)) refl ℕ (λ j y. j.1.asked y) labs.result.vtable labs.result.value _ labs.ensures.1
    ∙ c.in_ok-new-5.ensures.ok ∙ c.in_ok-new-4.ensures)
    (read_made own-2 _ (inr (inr (inl tt))) refl ℕ (λ j y. j.1.asked y) is_digit.result.vtable is_digit.result.value _ is_digit.ensures.1
    ∙ c.in_ok-new-7.ensures.ok ∙ c.in_ok-new-6.ensures)
    (read_made own-2 _ (inr (inr (inr (inl tt)))) refl ℕ (λ j y. j.1.asked y) is_space.result.vtable is_space.result.value _ is_space.ensures.1
    ∙ c.in_ok-new-9.ensures.ok ∙ c.in_ok-new-8.ensures)
