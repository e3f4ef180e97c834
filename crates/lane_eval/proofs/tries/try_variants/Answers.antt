use Rattle.std.proofs.Common.{ℕ, arith}
use Rattle.std.proofs.lemmas.List.Sums.{sum_by-take-le, sum_by_more_le}
use Rattle.code_form.specs.Variant.{instr_of}
use Rattle.machine_form.specs.Machine.{toll_of}
use Rattle.machine_form.proofs.LightChanges.{toll_small}
use Rattle.lane_eval.proofs.TollSums.{few_tolls, whole_sum}
use Rattle.lane_eval.proofs.tries.try_variants.Goals as goal

pub fill_variant-requires-clause-few : goal.fill_variant-requires-clause-few
fill_variant-requires-clause-few g c p =
    let here : ℕ → ℕ = λ v. toll_of p (g.V.View.state c.args.s.now) (instr_of c.args.program.now c.args.table.now (g.V.View.state c.args.s.now).running.place v) in
    let small = few_tolls here c.args.variants.now
    (λ v. toll_small p (g.V.View.state c.args.s.now) (instr_of c.args.program.now c.args.table.now (g.V.View.state c.args.s.now).running.place v)) in
    omega (arith, c.loop-v.invariant.asks p, c.requires.few p, small, sum_by-take-le here c.args.variants.now c.loop-v.v-index)

pub returns-in_err-fill_variant-clause-asks_at_most : goal.returns-in_err-fill_variant-clause-asks_at_most
returns-in_err-fill_variant-clause-asks_at_most g c p =
    let here : ℕ → ℕ = λ v. toll_of p (g.V.View.state c.args.s.now) (instr_of c.args.program.now c.args.table.now (g.V.View.state c.args.s.now).running.place v) in
    let rest = sum_by_more_le here c.args.variants.now c.loop-v.v-index 0 c.loop-v-test.true in
    (omega (arith, c.loop-v.invariant.asks p, (c.fill_variant.ensures.asks_at_most p).0), omega (arith, c.loop-v.invariant.asks p, (c.fill_variant.ensures.asks_at_most p).1, rest))

pub returns-in_err-push-clause-asks_at_most : goal.returns-in_err-push-clause-asks_at_most
returns-in_err-push-clause-asks_at_most g c p =
    let here : ℕ → ℕ = λ v. toll_of p (g.V.View.state c.args.s.now) (instr_of c.args.program.now c.args.table.now (g.V.View.state c.args.s.now).running.place v) in
    let rest = sum_by_more_le here c.args.variants.now c.loop-v.v-index 0 c.loop-v-test.true in
    (omega (arith, c.loop-v.invariant.asks p, (c.fill_variant.ensures.asks_at_most p).0), omega (arith, c.loop-v.invariant.asks p, (c.fill_variant.ensures.asks_at_most p).1, rest))

pub returns-clause-asks : goal.returns-clause-asks
returns-clause-asks g c p =
    let here : ℕ → ℕ = λ v. toll_of p (g.V.View.state c.args.s.now) (instr_of c.args.program.now c.args.table.now (g.V.View.state c.args.s.now).running.place v) in
    let all = whole_sum here c.args.variants.now c.loop-v.v-index (omega arith) in
    omega (arith, c.loop-v.invariant.asks p, all)

pub returns-clause-asks_at_most : goal.returns-clause-asks_at_most
returns-clause-asks_at_most g c p =
    let here : ℕ → ℕ = λ v. toll_of p (g.V.View.state c.args.s.now) (instr_of c.args.program.now c.args.table.now (g.V.View.state c.args.s.now).running.place v) in
    let all = whole_sum here c.args.variants.now c.loop-v.v-index (omega arith) in
    (omega (arith, c.loop-v.invariant.asks p), omega (arith, c.loop-v.invariant.asks p, all))
