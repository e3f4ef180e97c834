use Rattle.std.proofs.Common.{ℕ, List, take_all, Bor, sym, ap, ◌∙◌, subst}
use Rattle.std.specs.List.{flat_map}
use Rattle.std.proofs.lemmas.List.Folds.{flat_map-map}
use Rattle.am_base.specs.declared.word.Width.{Width}
use Rattle.code_form.specs.declared.instr.Operand.{Operand}
use Rattle.ir_rules.specs.Parts.{Typed as Pair}
use Rattle.ir_rules.specs.Memory as memory
use Rattle.ir_rules.specs.Codes.{index_code}
use Rattle.ir_rules.specs.Types.{TypeDefs}
use Rattle.ir_op_codes.specs.declared.paths.Step.{Step}
use Rattle.ir_op_codes.specs.Paths.{meant}
use Rattle.ir_op_codes.specs.Words.{IsFit}
use Rattle.ir_op_codes.specs.Settings.{setting_by}
use Rattle.ir_op_codes.proofs.lists.indices.Goals as goal

pub add_index-requires : goal.add_index-requires
add_index-requires c =
    subst (λ (ds : TypeDefs). IsFit ds c.m-item.result.0.now.1) (sym c.each.invariant.defs)
    (subst (λ (m : Bor Pair × Step). IsFit c.args.types.now.defs m.0.now.1) (sym c.m-item.is) (c.requires c.each.m-index c.m-item.result c.each-test.true))

pub returns-clause-indices : goal.returns-clause-indices
returns-clause-indices c =
    let f : Pair × memory.Step → List (ℕ × Width × Operand) =
    index_code (setting_by c.args.types.now.defs c.args.names.now) c.args.names.now.addresses.now in
    c.each.invariant.indices
    ∙ ap (flat_map (λ (m : Bor Pair × Step). f (m.0.now, meant m.1))) (take_all c.each.m-index c.args.path.now c.each-test.false)
    ∙ sym (flat_map-map f (λ (m : Bor Pair × Step). (m.0.now, meant m.1)) c.args.path.now)
