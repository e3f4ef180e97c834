use Rattle.am_base.proofs.Words.{can_divide, ok_remainder}
use Rattle.am_base.proofs.word.signed_remainder.Goals as goal

pub nonzero_rem-to_signed : goal.nonzero_rem-to_signed
nonzero_rem-to_signed c =
    can_divide c.args.w c.args.a c.args.b _ _ c.requires.left c.requires.right c.to_signed.type_inv c.to_signed-2.type_inv c.to_signed.ensures
    c.to_signed-2.ensures c.requires.fits

pub returns : goal.returns
returns c =
    ok_remainder c.args.w c.args.a c.args.b _ _ _ c.requires.left c.requires.right c.to_signed.type_inv c.to_signed-2.type_inv c.to_signed.ensures
    c.to_signed-2.ensures c.requires.fits c.from_signed.ensures
