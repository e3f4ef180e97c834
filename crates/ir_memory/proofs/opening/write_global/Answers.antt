use Rattle.std.proofs.Common.{◌≡◌, ℕ, List, ◌-◌, ◌++◌, length, replicate, ap, ◌∙◌, arith}
use Rattle.ir_rules.specs.Types.{expanded}
use Rattle.ir_rules.specs.Memory.{padded, init_bytes}
use Rattle.ir_memory.proofs.opening.write_global.Goals as goal

from-start : (old new : List ℕ) (n : ℕ) → new ≡ old ++ replicate (n - (length old - 0)) 0 → new ≡ padded n old
from-start old new n e = let none : length old - 0 ≡ length old = omega arith in e ∙ ap (λ k. old ++ replicate (n - k) 0) none

pub returns-clause-bytes : goal.returns-clause-bytes
returns-clause-bytes c =
    let defs = c.args.types.now.defs in
    let own = init_bytes defs c.args.names.now.addresses.now c.args.global.now.init.now (expanded defs c.args.global.now.ty.now) in
    c.in_ok-write_init.ensures.bytes
    ∙ ap (λ (l : List ℕ). l ++ own) (from-start c.args.buffer.now c.pad_to.new.buffer c.args.global.now.at c.in_ok-pad_to.ensures)
