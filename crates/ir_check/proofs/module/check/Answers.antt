use Rattle.std.proofs.Common.{List, None, Some, subst, sym, ap, ◌∙◌, arith}
use Rattle.code_form.specs.Sound.{IsSound}
use Rattle.code_form.specs.declared.code.Code.{Code}
use Rattle.ir_tree.specs.declared.item.Item.{Item}
use Rattle.ir_rules.specs.Modules.{code_of}
use Rattle.ir_sound.proofs.Whole.{code-sound}
use Rattle.ir_check.proofs.Faults.{item-small, fault-is}
use Rattle.ir_check.proofs.module.check.Goals as goal

pub overflow_cast-item : goal.overflow_cast-item
overflow_cast-item c =
    let small =
    item-small c.args.m.now.items c.args.signs.now c.in-Some.fault c.requires.few
    (fault-is c.args.m.now.items c.as_slice-items.result.now c.args.signs.now c.in_ok-found.found (Some c.in-Some.fault) c.as_slice-items.ensures
    c.in_ok-found.ensures c.in-Some.is) in
    omega arith

pub returns-in-Some-clause-broken : goal.returns-in-Some-clause-broken
returns-in-Some-clause-broken c =
    fault-is c.args.m.now.items c.as_slice-items.result.now c.args.signs.now c.in_ok-found.found (Some c.in-Some.fault) c.as_slice-items.ensures
    c.in_ok-found.ensures c.in-Some.is

pub returns-in_ok-code-in-None-clause-sound : goal.returns-in_ok-code-in-None-clause-sound
returns-in_ok-code-in-None-clause-sound c =
    let items = c.args.m.now.items in
    let signs = c.args.signs.now in
    let kept =
    fault-is items c.as_slice-items.result.now signs c.in_ok-found.found None c.as_slice-items.ensures c.in_ok-found.ensures c.in-None.is in
    let same = c.in_ok-code-in-None.ensures ∙ ap (λ (l : List Item). code_of l signs) c.as_slice-items.ensures in
    subst (λ (code : Code). IsSound code) (sym same) (code-sound items signs c.requires.whole kept)
