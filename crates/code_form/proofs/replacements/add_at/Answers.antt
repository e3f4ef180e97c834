use Rattle.std.proofs.Common.{List, subst}
use Rattle.code_form.specs.declared.instr.Instr.{Instr}
use Rattle.code_form.specs.Variant.{AreDifferent}
use Rattle.code_form.proofs.Added.{replacements-before, mutants-before, same-place, added-place}
use Rattle.code_form.proofs.replacements.add_at.Goals as goal

pub add-requires-clause-different : goal.add-requires-clause-different
add-requires-clause-different c =
    subst (λ (l : List Instr). AreDifferent l) (replacements-before _ _ c.args.at c.index_mut-place.result.now c.in_ok-make_room.ensures.same
    c.in_ok-make_room.ensures.ok c.index_mut-place.ensures.value) c.requires.different

pub add-requires-clause-mentioned_by_one : goal.add-requires-clause-mentioned_by_one
add-requires-clause-mentioned_by_one c =
    let e = replacements-before _ _ c.args.at c.index_mut-place.result.now c.in_ok-make_room.ensures.same c.in_ok-make_room.ensures.ok
    c.index_mut-place.ensures.value in
    let f = mutants-before _ _ c.args.at c.index_mut-place.result.now c.in_ok-make_room.ensures.same c.in_ok-make_room.ensures.ok
    c.index_mut-place.ensures.value in
    rw (← e, ← f) c.requires.mentioned_by_one

pub returns-clause-added : goal.returns-clause-added
returns-clause-added c =
    added-place _ _ c.args.at c.index_mut-place.result.now c.in_ok-make_room.ensures.same c.in_ok-make_room.ensures.ok c.index_mut-place.ensures.value
    c.add.result c.add.new.self _ _ _
    c.add.ensures.numbered c.add.ensures.given c.add.ensures.mutants c.add.ensures.different c.add.ensures.mentioned_by_one c.add.ensures.rising

pub returns-clause-err : goal.returns-clause-err
returns-clause-err c =
    same-place _ _ c.args.at c.index_mut-place.result.now c.in_ok-make_room.ensures.same c.in_ok-make_room.ensures.ok c.index_mut-place.ensures.value
    c.add.result c.add.new.self c.add.ensures.err
