use Rattle.std.proofs.Common.{◌≡◌, List, ℕ, sym, ◌∙◌, ap, length, arith}
use Rattle.std.specs.Simd.Lanes.{zip2}
use Rattle.std.proofs.lemmas.Simd.{length-zip2}
use Rattle.lane_ops.specs.Lane.{and_not}
use Rattle.member_sets.specs.Planes.{numbers_in}
use Rattle.member_sets.proofs.Kernels.{written_over, numbers_alone}
use Rattle.member_sets.proofs.words.in_first.Goals as goal

pub returns-clause-size : goal.returns-clause-size
returns-clause-size c =
    let z = length-zip2 and_not c.args.a.now c.args.b.now (sym c.requires) in
    ap length (written_over c.in_ok-first.first.len c.and_not_planes.new.out c.in_ok-first.first.items (omega (arith, z, ap length c.and_not_planes.ensures, c.in_ok-first.ensures.len))) ∙ ap length c.and_not_planes.ensures ∙ z

pub returns-clause-numbers : goal.returns-clause-numbers
returns-clause-numbers c first =
    let z = length-zip2 and_not c.args.a.now c.args.b.now (sym c.requires) in
    ap (numbers_in first) (written_over c.in_ok-first.first.len c.and_not_planes.new.out c.in_ok-first.first.items (omega (arith, z, ap length c.and_not_planes.ensures, c.in_ok-first.ensures.len)) ∙ c.and_not_planes.ensures)
    ∙ numbers_alone first c.args.a.now c.args.b.now c.requires (λ i. (c.type_inv.b i).fits)
