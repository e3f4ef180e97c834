use Rattle.std.proofs.Common.{rules, ◌<◌, ◌+◌, ◌*◌, ◌&&◌, ℕ, get_or, length, ap, sym, subst, ◌∙◌, arith}
use Rattle.type_table.specs.Table.{type_at, AreBelow, Within}
use Rattle.ir_init_rules.specs.Same.{same_at}
use Rattle.ir_init_rules.proofs.Lists.{agree-more, agree-none}
use Rattle.ir_init_rules.proofs.Structures.{same-own, same-found, levels_at, levels_of, levels_below, levels-found, levels-part, below-part, below-Array, below-Struct}
use Rattle.ir_init_rules.proofs.same.+same.Goals as goal

pub same_types-same_levels-requires : goal.same_types-same_levels-requires
same_types-same_levels-requires t c =
    let ts = c.args.table.now in
    let e = levels-found ts c.args.m c.in-Some.first.now c.requires.first c.in-Some.ensures.shape in
    let smaller : 4 * levels_below ts c.in-Some.first.now + 2 < 4 * levels_at ts c.args.m + 3 = omega arith in
    search rules

pub same_types-returns : goal.same_types-returns
same_types-returns t c =
    c.same_levels.ensures
    ∙ same-found c.args.table.now c.args.m c.args.n c.in-Some.first.now c.in-Some-shape.second.now c.requires.first c.requires.second
    c.in-Some.ensures.shape c.in-Some-shape.ensures.shape

pub same_types-returns-then-m-n : goal.same_types-returns-then-m-n
same_types-returns-then-m-n t c =
    let ts = c.args.table.now in sym (same-own (type_at ts c.args.m)) ∙ ap (λ (i : ℕ). same_at ts c.args.m i) c.if-m-n.true

pub same_levels-also_same-requires : goal.same_levels-also_same-requires
same_levels-also_same-requires t c =
    let ts = c.args.table.now in
    let first = c.in-Array in
    let second = c.in-Array-second in
    let e = below-Array ts c.args.first.now first.k first.of first.is in
    let smaller : 4 * levels_at ts first.of + 4 < 4 * levels_below ts c.args.first.now + 2 = omega arith in
    let own = subst (Within (length ts)) first.is c.requires.first in
    let other = subst (Within (length ts)) second.is c.requires.second in
    search rules

pub same_levels-same_parts-requires : goal.same_levels-same_parts-requires
same_levels-same_parts-requires t c =
    let ts = c.args.table.now in
    let first = c.in-Struct in
    let second = c.in-Struct-second in
    let e = below-Struct ts c.args.first.now first.parts first.is in
    let f = ap (levels_of ts) c.as_slice.ensures in
    let smaller : 4 * levels_of ts c.as_slice.result.now + 5 < 4 * levels_below ts c.args.first.now + 2 = omega arith in
    let own = subst (AreBelow (length ts)) (sym c.as_slice.ensures) (subst (Within (length ts)) first.is c.requires.first) in
    let other = subst (AreBelow (length ts)) (sym c.as_slice-in-Struct-second.ensures) (subst (Within (length ts)) second.is c.requires.second) in
    search rules

pub same_parts-returns-then-first-second : goal.same_parts-returns-then-first-second
same_parts-returns-then-first-second t c = sym (agree-none (same_at c.args.table.now) c.args.first.now c.args.second.now c.if-first-second.true)

pub same_parts-also_same-same-requires : goal.same_parts-also_same-same-requires
same_parts-also_same-same-requires t c =
    let ts = c.args.table.now in
    let k = c.each.k in
    let small = levels-part ts c.args.first.now k c.each-test.true in
    let smaller : 4 * levels_at ts (get_or c.args.first.now k 0) + 4 < 4 * levels_of ts c.args.first.now + 5 = omega arith in
    let own = below-part (length ts) c.args.first.now k c.requires.first c.each-test.true in
    let other = below-part (length ts) c.args.second.now k c.requires.second (omega arith) in
    search rules

pub same_parts-each-preserved : goal.same_parts-each-preserved
same_parts-each-preserved t c =
    let ts = c.args.table.now in
    let k = c.each.k in
    c.also_same-same.ensures ∙ ap (λ b. b && same_at ts (get_or c.args.first.now k 0) (get_or c.args.second.now k 0)) c.each.invariant
    ∙ sym (agree-more (same_at ts) c.args.first.now c.args.second.now k c.each-test.true (omega arith))
