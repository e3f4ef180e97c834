use Rattle.std.proofs.Common.{◌≡◌, List, ℕ, sym, ◌∙◌, ap, length, bit_and, arith}
use Rattle.std.specs.Simd.Lanes.{zip2}
use Rattle.std.proofs.lemmas.Simd.{length-zip2}
use Rattle.member_sets.specs.Planes.{numbers_in}
use Rattle.member_sets.proofs.Kernels.{written_over, numbers_both}
use Rattle.member_sets.proofs.words.in_both.Goals as goal

pub returns-clause-size : goal.returns-clause-size
returns-clause-size c =
    let z = length-zip2 bit_and c.args.a.now c.args.b.now (sym c.requires) in
    ap length (written_over c.in_ok-both.both.len c.and_planes.new.out c.in_ok-both.both.items (omega (arith, z, ap length c.and_planes.ensures, c.in_ok-both.ensures.len))) ∙ ap length c.and_planes.ensures ∙ z

pub returns-clause-numbers : goal.returns-clause-numbers
returns-clause-numbers c first =
    let z = length-zip2 bit_and c.args.a.now c.args.b.now (sym c.requires) in
    ap (numbers_in first) (written_over c.in_ok-both.both.len c.and_planes.new.out c.in_ok-both.both.items (omega (arith, z, ap length c.and_planes.ensures, c.in_ok-both.ensures.len)) ∙ c.and_planes.ensures)
    ∙ numbers_both first c.args.a.now c.args.b.now c.requires
