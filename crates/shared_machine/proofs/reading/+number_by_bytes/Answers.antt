use Rattle.std.proofs.Common.{◌≡◌, ◌+◌, ◌*◌, ◌-◌, ◌<◌, ℕ, length, arith, ap, sym, ◌∙◌}
use Rattle.std.specs.Prelude.{slice_index}
use Rattle.lane_eval.proofs.Numbers.{more_bytes}
use Rattle.shared_pages.specs.Store.{the_memory}
use Rattle.shared_machine.proofs.Ranges.{number_more}
use Rattle.shared_machine.proofs.reading.+number_by_bytes.Goals as goal

pub overflow_mul-result : goal.overflow_mul-result
overflow_mul-result t c =
    let one : c.args.len ≡ c.args.len - 1 + 1 = omega (arith, c.if-len-eq0.false) in
    record { fits = (more_bytes c.widened.result c.number_by_bytes.result (c.args.len - 1) c.args.len c.widened.ensures.small c.number_by_bytes.ensures.small one c.requires.few).0 }

pub overflow_add-result : goal.overflow_add-result
overflow_add-result t c =
    let one : c.args.len ≡ c.args.len - 1 + 1 = omega (arith, c.if-len-eq0.false) in
    record { fits = (more_bytes c.widened.result c.number_by_bytes.result (c.args.len - 1) c.args.len c.widened.ensures.small c.number_by_bytes.ensures.small one c.requires.few).1 }

pub returns-clause-value : goal.returns-clause-value
returns-clause-value t c =
    let bytes = (the_memory c.args.store.now c.args.memory.now).bytes in
    let one : c.args.len ≡ c.args.len - 1 + 1 = omega (arith, c.if-len-eq0.false) in
    let within : c.args.at < length bytes = omega (arith, c.requires.long, c.requires.within, c.if-len-eq0.false) in
    ap (λ (b : ℕ). b + 256 * c.number_by_bytes.result) (c.widened.ensures.value ∙ c.read.ensures)
    ∙ ap (λ (n : ℕ). slice_index bytes c.args.at + 256 * n) c.number_by_bytes.ensures.value
    ∙ sym (number_more bytes c.args.at c.args.len (c.args.len - 1) within one)

pub returns-clause-small : goal.returns-clause-small
returns-clause-small t c =
    let one : c.args.len ≡ c.args.len - 1 + 1 = omega (arith, c.if-len-eq0.false) in
    (more_bytes c.widened.result c.number_by_bytes.result (c.args.len - 1) c.args.len c.widened.ensures.small c.number_by_bytes.ensures.small one c.requires.few).2
