use Rattle.std.proofs.Common.{◌≡◌, ◌<◌, arith, length, get_or, ap, sym}
use Rattle.lane_eval.proofs.Numbers.{more_bytes}
use Rattle.lane_eval.proofs.number.+number.Goals as goal

pub overflow_mul-result : goal.overflow_mul-result
overflow_mul-result t c =
    let e : get_or c.args.bytes.now 0 0 ≡ c.in-Some.b.now = ap (λ bs. get_or bs 0 0) c.in-Some.ensures.cases.0 in
    let b : c.from.result < 256 = omega (arith, e, c.from.ensures, (c.type_inv.bytes 0).fits) in
    record { fits = (more_bytes c.from.result c.number.result (length c.in-Some.rest.now) (length c.args.bytes.now) b c.number.ensures.small (sym c.in-Some.ensures.cases.1) c.requires).0 }

pub overflow_add-result : goal.overflow_add-result
overflow_add-result t c =
    let e : get_or c.args.bytes.now 0 0 ≡ c.in-Some.b.now = ap (λ bs. get_or bs 0 0) c.in-Some.ensures.cases.0 in
    let b : c.from.result < 256 = omega (arith, e, c.from.ensures, (c.type_inv.bytes 0).fits) in
    record { fits = (more_bytes c.from.result c.number.result (length c.in-Some.rest.now) (length c.args.bytes.now) b c.number.ensures.small (sym c.in-Some.ensures.cases.1) c.requires).1 }

pub returns-in-Some-clause-small : goal.returns-in-Some-clause-small
returns-in-Some-clause-small t c =
    let e : get_or c.args.bytes.now 0 0 ≡ c.in-Some.b.now = ap (λ bs. get_or bs 0 0) c.in-Some.ensures.cases.0 in
    let b : c.from.result < 256 = omega (arith, e, c.from.ensures, (c.type_inv.bytes 0).fits) in
    (more_bytes c.from.result c.number.result (length c.in-Some.rest.now) (length c.args.bytes.now) b c.number.ensures.small (sym c.in-Some.ensures.cases.1) c.requires).2
