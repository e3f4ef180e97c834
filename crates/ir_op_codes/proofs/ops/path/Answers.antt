use Rattle.std.proofs.Common.{◌≡◌, ℕ, List, All, Bor, sym, ap, ◌∙◌, subst}
use Rattle.std.specs.List.{flat_map}
use Rattle.am_base.specs.declared.word.Width.{Width}
use Rattle.am_base.specs.declared.word.Width.TheVariants.{W64}
use Rattle.am_base.specs.Word.{word_of}
use Rattle.code_form.specs.declared.instr.Operand.{Operand}
use Rattle.code_form.specs.declared.instr.Instr.{Instr}
use Rattle.code_form.specs.declared.instr.Instr.TheVariants as instr
use Rattle.ir_rules.specs.Types.{TypeDefs}
use Rattle.ir_rules.specs.Parts.{Typed as Pair}
use Rattle.ir_rules.specs.Memory.{steps_of, literal_part}
use Rattle.ir_rules.specs.Memory as memory
use Rattle.ir_rules.specs.Codes.{typed_code, index_code}
use Rattle.ir_op_codes.specs.declared.paths.Step.{Step}
use Rattle.ir_op_codes.specs.Paths.{moves}
use Rattle.ir_op_codes.specs.Words.{IsFit}
use Rattle.ir_op_codes.specs.Settings.{setting_by}
use Rattle.ir_op_codes.proofs.Fits.{path-fits}
use Rattle.ir_op_codes.proofs.ops.path.Goals as goal

pub indices-requires : goal.indices-requires
indices-requires c =
    let defs = c.args.types.now.defs in
    let list = c.args.list.now in
    let of = c.args.of.now in
    let ms : List (Bor Pair × Step) = c.as_slice-3.result.now in
    let e : moves ms ≡ steps_of defs of list =
    ap moves c.as_slice-3.ensures ∙ c.in_ok-steps.ensures.steps ∙ ap (steps_of defs of) c.as_slice.ensures in
    subst (λ (ds : TypeDefs). All (λ (m : Bor Pair × Step). IsFit ds m.0.now.1) ms) (sym (c.in_ok-base.ensures.defs ∙ c.in_ok-steps.ensures.defs))
    (path-fits defs of list ms c.requires.indices e)

same-get : (b p : Operand) (l m : ℕ) (is js : List (ℕ × Width × Operand)) → b ≡ p → l ≡ m → is ≡ js → instr.Get b l is ≡ instr.Get p m js
same-get b p l m is js e f g = λ i. instr.Get (e i) (f i) (g i)

pub returns-clause-code : goal.returns-clause-code
returns-clause-code c =
    let defs = c.args.types.now.defs in
    let names = c.args.names.now in
    let addresses = names.addresses.now in
    let list = c.args.list.now in
    let of = c.args.of.now in
    let same = c.in_ok-steps.ensures.defs in
    let path = steps_of defs of list in
    let e : moves c.as_slice-2.result.now ≡ path =
    ap moves c.as_slice-2.ensures ∙ c.in_ok-steps.ensures.steps ∙ ap (steps_of defs of) c.as_slice.ensures in
    let f : moves c.as_slice-3.result.now ≡ path =
    ap moves c.as_slice-3.ensures ∙ c.in_ok-steps.ensures.steps ∙ ap (steps_of defs of) c.as_slice.ensures in
    let base = c.in_ok-base.ensures.operand ∙ ap (λ (ds : TypeDefs). typed_code (setting_by ds names) addresses c.args.a.0.now c.args.a.1.now) same in
    let literal =
    c.literal_part-literal.ensures ∙ ap (λ (ds : TypeDefs). word_of W64 (literal_part ds (moves c.as_slice-2.result.now))) same
    ∙ ap (λ p. word_of W64 (literal_part defs p)) e in
    let others =
    c.in_ok-others.ensures.indices
    ∙ ap (λ (ds : TypeDefs). flat_map (index_code (setting_by ds names) addresses) (moves c.as_slice-3.result.now)) (c.in_ok-base.ensures.defs ∙ same)
    ∙ ap (flat_map (index_code (setting_by defs names) addresses)) f in
    same-get _ _ _ _ _ _ base literal others
