use Rattle.std.proofs.Common.{◌∙◌, sym, ap, arith}
use Rattle.std.specs.Str.{bytes_eq}
use Rattle.am_base.proofs.Pieces.{file_in-here}
use Rattle.am_base.proofs.memory_shelf.find_file.Goals as goal

pub returns-then-eq : goal.returns-then-eq
returns-then-eq c =
    let name = c.args.name.now in
    let same = ap (λ bytes. bytes_eq bytes name) (sym c.as_str.ensures.value) ∙ sym c.eq.ensures ∙ c.if-eq.true in
    sym (file_in-here c.args.files.now name c.loop-key.key-index c.loop-key-item.result (omega arith) c.loop-key-item.is same) ∙ c.loop-key.invariant
