use Rattle.std.proofs.Common.{rules, ◌∙◌, sym, subst}
use Rattle.std.proofs.lemmas.Result.{IfOk-weaker}
use Rattle.change_classes.specs.Keyed.{HasEqualKeys}
use Rattle.machine_form.specs.Same.{same_change}
use Rattle.machine_parts.specs.Keys.{change_key}
use Rattle.machine_parts.proofs.Equal.{keys_agree}
use Rattle.machine_parts.proofs.classes.group.Goals as goal

pub returns : goal.returns
returns c =
    let agree = subst (λ keys. HasEqualKeys same_change keys c.args.changes.now) (sym (c.deref.ensures.value ∙ c.in_ok-keys.ensures))
    (keys_agree change_key c.args.changes.now) in
    IfOk-weaker c.classes_keyed.result _ _ (λ numbers h. h same_change (search rules) agree) c.classes_keyed.ensures
