use Rattle.std.proofs.Common.{rules, ◌≡◌, ◌<◌, ◌+◌, ◌*◌, ◌&&◌, Bool, List, IfOk, length, slice_get, suc, ap, sym, subst, ◌∙◌, arith}
use Rattle.type_layout.specs.declared.ty.Ty.{Ty, out-Ty}
use Rattle.type_table.specs.Table.{type_at}
use Rattle.type_table.proofs.Tables.{type-kept}
use Rattle.ir_rules.specs.Types.{scalar_of}
use Rattle.ir_rules.specs.Initialisers as rule
use Rattle.ir_type_rules.proofs.Inits.{lists, all_lists, lists-Array, lists-Struct, lists-element}
use Rattle.ir_init_rules.specs.Levels.{is_array_of, is_struct_of, part_type}
use Rattle.ir_init_rules.specs.Same.{same_at}
use Rattle.ir_init_rules.specs.Fits as spec
use Rattle.ir_init_rules.proofs.Elements.{fits-One, fits-Text, fits-Array, fits-Struct, elements-more, elements-short, element-found, keeps-both, keeps-within}
use Rattle.ir_init_rules.proofs.fits.+fits.Goals as goal

pub elements_fit-element_fits-requires : goal.elements_fit-element_fits-requires
elements_fit-element_fits-requires t c =
    let small = lists-element c.args.elements.now c.each.k c.index-elements-k.result c.each-test.true c.index-elements-k.is in
    let within = keeps-within c.args.types.now.types c.each.types.types c.args.n c.each.invariant.kept c.requires in
    let smaller : 3 * lists c.index-elements-k.result.1 + 1 < 3 * all_lists c.args.elements.now + 2 = omega arith in
    search rules

pub elements_fit-each-preserved : goal.elements_fit-each-preserved
elements_fit-each-preserved t c =
    let old = c.args.types.now in
    let now = c.each.types in
    let e = c.index-elements-k.result in
    let kept : type_at now.types c.args.n ≡ type_at old.types c.args.n = type-kept old.types now.types c.each.invariant.kept c.args.n c.requires in
    let here : c.in_ok-here.here ≡ spec.element_fits old.defs (part_type (out-Ty (type_at old.types c.args.n)) c.each.k) e =
    c.in_ok-here.ensures.fits ∙ (λ i. spec.element_fits (c.each.invariant.defs i) (part_type (out-Ty (kept i)) c.each.k) e) in
    record {
      defs = c.in_ok-here.ensures.defs ∙ c.each.invariant.defs;
      kept = keeps-both old.types now.types c.element_fits.new.types.types c.each.invariant.kept c.in_ok-here.ensures.kept;
      fits =
          elements-more old.defs (part_type (out-Ty (type_at old.types c.args.n))) c.args.elements.now c.each.k e c.args.whole c.each.fits c.in_ok-here.here
          c.both-fits.result c.each-test.true c.index-elements-k.is c.each.invariant.fits here c.both-fits.ensures;
    }

pub elements_fit-returns-then-not-fits-clause-fits : goal.elements_fit-returns-then-not-fits-clause-fits
elements_fit-returns-then-not-fits-clause-fits t c =
    let old = c.args.types.now in
    elements-short old.defs (part_type (out-Ty (type_at old.types c.args.n))) c.args.elements.now c.each.k c.args.whole
    (sym c.if-not-fits.true ∙ c.each.invariant.fits)

pub init_fits-elements_fit-requires : goal.init_fits-elements_fit-requires
init_fits-elements_fit-requires t c =
    let e : lists c.args.init.now ≡ suc (all_lists c.in-Array.elements) = ap lists c.in-Array.is ∙ lists-Array c.in-Array.elements in
    let f = ap all_lists c.as_slice-list.ensures in
    let smaller : 3 * all_lists c.as_slice-list.result.now + 2 < 3 * lists c.args.init.now = omega arith in
    search rules

pub init_fits-elements_fit-requires-in-Struct : goal.init_fits-elements_fit-requires-in-Struct
init_fits-elements_fit-requires-in-Struct t c =
    let e : lists c.args.init.now ≡ suc (all_lists c.in-Struct.fields) = ap lists c.in-Struct.is ∙ lists-Struct c.in-Struct.fields in
    let f = ap all_lists c.as_slice-list-in-Struct.ensures in
    let smaller : 3 * all_lists c.as_slice-list-in-Struct.result.now + 2 < 3 * lists c.args.init.now = omega arith in
    search rules

pub init_fits-returns-in-One-clause-fits : goal.init_fits-returns-in-One-clause-fits
init_fits-returns-in-One-clause-fits t c =
    let types = c.args.types.now in
    c.constant_fits.ensures
    ∙ ap (λ k. rule.constant_fits k c.in-One.a) (c.kind_at.ensures ∙ ap (λ (ts : List Ty). scalar_of (type_at ts c.args.n)) c.table.ensures)
    ∙ fits-One types.defs c.args.init.now (type_at types.types c.args.n) c.in-One.a c.in-One.is

pub init_fits-returns-in-Text-clause-fits : goal.init_fits-returns-in-Text-clause-fits
init_fits-returns-in-Text-clause-fits t c =
    let types = c.args.types.now in
    c.text_fits.ensures
    ∙ (λ i. rule.text_fits (c.as_slice.ensures i) (out-Ty (type_at (c.table-in-Text.ensures i) c.args.n)))
    ∙ fits-Text types.defs c.args.init.now (type_at types.types c.args.n) c.in-Text.text c.in-Text.is

pub init_fits-returns-in-Array-clause-fits : goal.init_fits-returns-in-Array-clause-fits
init_fits-returns-in-Array-clause-fits t c =
    let types = c.args.types.now in
    let ty = type_at types.types c.args.n in
    let list = c.as_slice-list.result.now in
    let fit = spec.elements_fit types.defs (part_type (out-Ty ty)) list in
    let whole : c.is_array_of-whole.result ≡ is_array_of (length list) (out-Ty ty) =
    c.is_array_of-whole.ensures ∙ (λ i. is_array_of (length list) (out-Ty (type_at (c.table-in-Array.ensures i) c.args.n))) in
    subst (λ (r : Bool). IfOk c.elements_fit.result (λ b. b ≡ r))
    (ap (λ b. b && fit) whole ∙ fits-Array types.defs c.args.init.now ty c.in-Array.elements list c.in-Array.is c.as_slice-list.ensures)
    c.elements_fit.ensures.fits

pub init_fits-returns-in-Struct-clause-fits : goal.init_fits-returns-in-Struct-clause-fits
init_fits-returns-in-Struct-clause-fits t c =
    let types = c.args.types.now in
    let ty = type_at types.types c.args.n in
    let list = c.as_slice-list-in-Struct.result.now in
    let fit = spec.elements_fit types.defs (part_type (out-Ty ty)) list in
    let whole : c.is_struct_of-whole.result ≡ is_struct_of (length list) (out-Ty ty) =
    c.is_struct_of-whole.ensures ∙ (λ i. is_struct_of (length list) (out-Ty (type_at (c.table-in-Struct.ensures i) c.args.n))) in
    subst (λ (r : Bool). IfOk c.elements_fit-in-Struct.result (λ b. b ≡ r))
    (ap (λ b. b && fit) whole ∙ fits-Struct types.defs c.args.init.now ty c.in-Struct.fields list c.in-Struct.is c.as_slice-list-in-Struct.ensures)
    c.elements_fit-in-Struct.ensures.fits

pub element_fits-returns-in-None-clause-fits : goal.element_fits-returns-in-None-clause-fits
element_fits-returns-in-None-clause-fits t c =
    let types = c.args.types.now in
    ap (λ o. spec.element_fits types.defs o c.args.element.now)
    (c.in-None.ensures.part ∙ ap (λ (ts : List Ty). part_type (out-Ty (type_at ts c.args.n)) c.args.k) c.table.ensures)

pub element_fits-returns-in_ok-fits-in-Some-clause-fits : goal.element_fits-returns-in_ok-fits-in-Some-clause-fits
element_fits-returns-in_ok-fits-in-Some-clause-fits t c =
    let types = c.args.types.now in
    let next = c.number.new.self in
    let wanted = c.in-Some.wanted in
    let within : wanted < length types.types = subst (λ (ts : List Ty). wanted < length ts) c.table.ensures c.in-Some.ensures.within in
    let at = (λ i. slice_get (sym c.table.ensures i) wanted) ∙ c.in-Some.ensures.part
    ∙ ap (λ (ts : List Ty). part_type (out-Ty (type_at ts c.args.n)) c.args.k) c.table.ensures in
    element-found types.defs next.defs types.types next.types c.args.element.now (part_type (out-Ty (type_at types.types c.args.n)) c.args.k) c.in_ok-own-in-Some.own wanted
    c.same_types-same.result c.in_ok-fits-in-Some.fits c.both.result c.in_ok-own-in-Some.ensures.kept within at c.in_ok-own-in-Some.ensures.defs c.in_ok-own-in-Some.ensures.number
    (c.same_types-same.ensures ∙ ap (λ (ts : List Ty). same_at ts c.in_ok-own-in-Some.own wanted) c.table-in-Some.ensures)
    c.in_ok-fits-in-Some.ensures.fits c.both.ensures
