use Rattle.std.proofs.Common.{◌≢◌, arith, sym, slice_index}
use Rattle.std.specs.Int.{trailing_zeros, w64}
use Rattle.std.proofs.lemmas.Nat.Bits.{bit_at-trailing_zeros}
use Rattle.member_sets.proofs.Bits.{some_number}
use Rattle.member_sets.proofs.Kernels.{least_bit}
use Rattle.member_sets.proofs.words.least_of.Goals as goal

pub returns-clause-least : goal.returns-clause-least
returns-clause-least c =
    let w = slice_index c.args.words.now 0 in let h = bit_at-trailing_zeros w64 w c.requires.some (c.type_inv.words 0).fits in
    sym (least_bit c.args.first c.args.words.now (trailing_zeros w64 w) h.0 h.1 h.2)

pub returns-clause-there : goal.returns-clause-there
returns-clause-there c = some_number c.args.first c.args.words.now 0 (λ e. omega (arith, e, c.requires.some)) (c.type_inv.words 0).fits
