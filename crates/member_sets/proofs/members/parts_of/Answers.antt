use Rattle.std.proofs.Common.{◌≡◌, ◌<◌, ◌==◌, false, [], ℕ, List, length, ap, arith, sym, ◌∙◌, subst}
use Rattle.std.specs.List.{All}
use Rattle.std.proofs.lemmas.Bool.Decides.{nat_tests}
use Rattle.code_form.specs.Variant.{variant_of}
use Rattle.member_sets.specs.Members.{IsMemberList, class_at}
use Rattle.member_sets.proofs.Lists.{parts_are}
use Rattle.member_sets.proofs.members.parts_of.Goals as goal

some_from : (n : ℕ) → (n == 0) ≡ false → 0 < n
some_from n h = grind (arith, nat_tests)

pub sets_of-requires : goal.sets_of-requires
sets_of-requires c =
    let class : ℕ → ℕ = class_at (variant_of c.args.table.now) c.args.place.0 c.args.class_of.now in
    subst (All IsMemberList) (sym (c.deref-2.ensures.value ∙ c.in_ok-lists.ensures class (c.deref.ensures.value ∙ c.in_ok-classes.ensures)))
    (parts_are class c.args.members.now (c.requires.members (some_from (length c.args.members.now) (sym c.is_empty.ensures ∙ c.if-is_empty.false))))
