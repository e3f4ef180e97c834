use Rattle.std.proofs.Common.{◌≡◌, ℕ, Bool, false, List, length, Some, slice_get, unwrap_or, sym, ap, ◌∙◌, ◌<◌, subst, map, Bor}
use Rattle.type_layout.specs.declared.ty.Ty.TheVariants as ty
use Rattle.type_table.specs.Table.{type_at}
use Rattle.ir_tree.specs.declared.type_text.TyText.{TyText}
use Rattle.ir_rules.specs.Types.{type_defs, empty}
use Rattle.ir_types.specs.Graph.{numbers_in, reaches}
use Rattle.ir_types.specs.Named.{Level, Stands}
use Rattle.ir_types.proofs.Numbers.{bodies-defs, zero-first}
use Rattle.ir_types.proofs.Leading.{marks-of}
use Rattle.ir_types.proofs.types.Types.of.Goals as goal

pub named_of-requires-clause-zero : goal.named_of-requires-clause-zero
named_of-requires-clause-zero c =
    let at = c.in_ok-add.ensures.number ∙ ap (λ (is : List ℕ). Some (ty.Struct (map (type_at c.new-table.result) is))) c.new.ensures in
    zero-first c.new-table.result c.add.new.self c.in_ok-add.field-0 empty c.new-table.ensures c.in_ok-add.ensures.few at

pub named_of-requires-clause-graph : goal.named_of-requires-clause-graph
named_of-requires-clause-graph c =
    let bodies = ap (λ (bs : List (Bor TyText)). map (λ b. b.now) bs) c.as_slice.ensures ∙ c.in_ok-bodies.ensures in
    let same : c.as_slice-3.result.now ≡ c.as_slice-6.result.now = c.as_slice-3.ensures ∙ sym c.as_slice-6.ensures in
    record {
      numbered = c.in_ok-numbers.ensures;
      bodied = ap (λ (bs : List (Bor TyText)). map (λ b. b.now) bs) c.as_slice-5.ensures ∙ c.in_ok-bodies.ensures;
      linked = c.as_slice-6.ensures ∙ c.in_ok-edges.ensures
          ∙ bodies-defs (numbers_in c.in_ok-numbers.numbers) c.as_slice.result.now (type_defs c.args.items.now) bodies;
      long = ap length c.as_slice-7.ensures ∙ c.in_ok-recursive.ensures.long ∙ ap length same;
      exact = λ d. ap (λ (l : List Bool). unwrap_or (slice_get l d) false) c.as_slice-7.ensures ∙ c.in_ok-recursive.ensures.exact d
          ∙ ap (λ (es : List (List ℕ)). reaches es (length es) d d) same;
    }

pub named_of-requires-clause-whole : goal.named_of-requires-clause-whole
named_of-requires-clause-whole c = λ d h.
    subst (λ (l : List ℕ). Stands l d) (sym c.as_slice-8.ensures)
    (c.in_ok-order.ensures d (subst (λ (es : List (List ℕ)). d < length es) (c.as_slice-6.ensures ∙ sym c.as_slice-2.ensures) h))

pub invariant_of-result : goal.invariant_of-result
invariant_of-result c =
    let defs = type_defs c.args.items.now in
    let nums = c.in_ok-numbers.numbers in
    let bodies = ap (λ (bs : List (Bor TyText)). map (λ b. b.now) bs) c.as_slice.ensures ∙ c.in_ok-bodies.ensures in
    let same = c.as_slice-3.ensures ∙ c.in_ok-edges.ensures ∙ bodies-defs (numbers_in nums) c.as_slice.result.now defs bodies in
    record {
      numbered = c.in_ok-numbers.ensures;
      marks = marks-of defs nums c.in_ok-numbers.ensures c.as_slice-3.result.now c.in_ok-recursive.recursive same c.in_ok-recursive.ensures.exact;
      level =
          subst (λ (l : List Bool). Level c.named_of.new.table nums l c.in_ok-named.named defs (length defs)) c.as_slice-7.ensures c.in_ok-named.ensures.level;
    }
