use Rattle.std.proofs.Common.{rules, ℕ, List, subst, sym}
use Rattle.std.specs.List.{All}
use Rattle.std.proofs.lemmas.List.Elements.{All-tail}
use Rattle.am_base.specs.declared.word.Width.{Width}
use Rattle.code_form.specs.declared.instr.Operand.{Operand}
use Rattle.lane_eval.specs.Operands.{HoldsWord}
use Rattle.lane_eval.proofs.Wrapped.{scaled_more}
use Rattle.lane_eval.proofs.get.+scaled.Goals as goal

pub scaled-requires : goal.scaled-requires
scaled-requires g t c κs outlives =
    let P : ℕ × Width × Operand → Type 0 = λ i. HoldsWord (g.V.View.state c.args.s.now) i.1 i.2 in
    let Q : List (ℕ × Width × Operand) → Type 0 = All P in
    (search rules, (outlives, All-tail P c.in-Some.i.now c.in-Some.rest.now (subst Q c.in-Some.ensures.cases.0 c.requires)))

pub returns-in_ok-more-in-Some : goal.returns-in_ok-more-in-Some
returns-in_ok-more-in-Some g t c =
    scaled_more (g.V.View.state c.args.s.now) c.args.indices.now c.in-Some.rest.now c.in-Some.i.now c.in_ok-x-in-Some.x c.in_ok-more-in-Some.more c.convert-index.result c.in-Some.ensures.cases.0
    (sym c.in_ok-x-in-Some.ensures) c.in_ok-more-in-Some.ensures c.convert-index.ensures
