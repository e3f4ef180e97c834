use Rattle.std.proofs.Common.{List, ℕ, arith, subst, sym}
use Rattle.ir_tokens.specs.Bytes.{Text}
use Rattle.ir_text.specs.Texts.{IsTextOf}
use Rattle.ir_rows.proofs.Readable.{are_bytes, readable}
use Rattle.ir_rows.proofs.again.module_again.Goals as goal

pub want_of_memory-requires : goal.want_of_memory-requires
want_of_memory-requires c =
    let text = c.canon_reads_back.ensures.module c.args.text.now c.args.first.now.items (are_bytes c.args.text.now (λ k. omega (arith, (c.type_inv.text k).fits))) c.requires.first in
    let whole : IsTextOf c.args.canonical.now c.args.first.now.items = subst (λ (t : Text). IsTextOf t c.args.first.now.items) (sym c.requires.canonical) text in
    readable c.args.canonical.now c.args.first.now.items c.in-Err.refused whole c.in-Err.ensures.refused

pub returns-in-Ok : goal.returns-in-Ok
returns-in-Ok c =
    let read : IsTextOf c.args.canonical.now c.in-Ok.again.items = c.in-Ok.ensures.module in
    c.canon_reads_back.ensures.only c.args.text.now c.args.first.now.items c.in-Ok.again.items (are_bytes c.args.text.now (λ k. omega (arith, (c.type_inv.text k).fits))) c.requires.first
    (subst (λ (t : Text). IsTextOf t c.in-Ok.again.items) c.requires.canonical read)
