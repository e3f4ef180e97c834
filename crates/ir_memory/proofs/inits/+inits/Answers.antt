use Rattle.std.proofs.Common.{rules, ◌≡◌, ◌<◌, ◌+◌, ◌*◌, ◌-◌, ℕ, suc, List, [], ◌++◌, OnOk, map, take, length, replicate, ap, sym, refl, subst, ◌∙◌, arith, append-nil}
use Rattle.std.specs.List.{fold, flat_map}
use Rattle.std.proofs.lemmas.List.{take_all}
use Rattle.type_layout.specs.Layout.{round_up}
use Rattle.ir_tree.specs.declared.type_text.TyText.{TyText}
use Rattle.ir_tree.specs.declared.operand.Init.{Init}
use Rattle.ir_tree.specs.declared.operand.Init.TheVariants as initial
use Rattle.ir_rules.specs.Types.{TypeDefs, expanded, is_large}
use Rattle.ir_rules.specs.Memory.{with_field, padded}
use Rattle.ir_memory.specs.Inits.{IsSmall, AreSmall, element, element_bytes}
use Rattle.ir_memory.proofs.Loops.{flat-more, fold-more}
use Rattle.ir_memory.proofs.Buffers.{padded-behind, field-behind}
use Rattle.ir_memory.proofs.Walks.{lists, all_lists, lists-Array, lists-Struct, lists-element}
use Rattle.ir_memory.proofs.Initials.{bytes-One, bytes-Text, bytes-Array, bytes-Struct, small-type, small-constant, small-array, small-struct}
use Rattle.ir_memory.proofs.inits.+inits.Goals as goal

-- ---- an initialiser

pub write_init-write_constant-requires-clause-small : goal.write_init-write_constant-requires-clause-small
write_init-write_constant-requires-clause-small t c = small-type c.args.types.now.defs c.args.ty.now c.args.init.now c.requires

pub write_init-write_constant-requires-clause-fit : goal.write_init-write_constant-requires-clause-fit
write_init-write_constant-requires-clause-fit t c =
    small-constant c.args.types.now.defs c.args.ty.now c.args.init.now c.in-One.a c.in-One.is c.requires

pub write_init-write_elements-requires : goal.write_init-write_elements-requires
write_init-write_elements-requires t c =
    let e : lists c.args.init.now ≡ suc (all_lists c.in-Array.list) = ap lists c.in-Array.is ∙ lists-Array c.in-Array.list in
    let f = ap all_lists c.as_slice.ensures in
    let smaller : 4 * all_lists c.as_slice.result.now + 1 < 4 * lists c.args.init.now = omega arith in (
      search rules,
      small-array c.args.types.now.defs c.args.ty.now c.args.init.now c.as_slice.result.now (c.in-Array.is ∙ ap initial.Array (sym c.as_slice.ensures)) c.requires,
    )

pub write_init-write_struct-requires : goal.write_init-write_struct-requires
write_init-write_struct-requires t c =
    let e : lists c.args.init.now ≡ suc (all_lists c.in-Struct.list) = ap lists c.in-Struct.is ∙ lists-Struct c.in-Struct.list in
    let f = ap all_lists c.as_slice-in-Struct.ensures in
    let smaller : 4 * all_lists c.as_slice-in-Struct.result.now + 3 < 4 * lists c.args.init.now = omega arith in (
      search rules,
      (
        small-type c.args.types.now.defs c.args.ty.now c.args.init.now c.requires,
        small-struct c.args.types.now.defs c.args.ty.now c.args.init.now c.as_slice-in-Struct.result.now
            (c.in-Struct.is ∙ ap initial.Struct (sym c.as_slice-in-Struct.ensures)) c.requires,
      ),
    )

pub write_init-returns-in-One-clause-bytes : goal.write_init-returns-in-One-clause-bytes
write_init-returns-in-One-clause-bytes t c =
    let defs = c.args.types.now.defs in
    subst (λ (l : List ℕ). OnOk c.write_constant.result (c.write_constant.new.buffer ≡ c.args.buffer.now ++ l))
    (bytes-One defs c.args.names.now.addresses.now (expanded defs c.args.ty.now) c.args.init.now c.in-One.a c.in-One.is)
    c.write_constant.ensures.bytes

pub write_init-returns-in-Text-clause-bytes : goal.write_init-returns-in-Text-clause-bytes
write_init-returns-in-Text-clause-bytes t c =
    let defs = c.args.types.now.defs in
    subst (λ (l : List ℕ). OnOk c.write_text.result (c.write_text.new.buffer ≡ c.args.buffer.now ++ l))
    (bytes-Text defs c.args.names.now.addresses.now (expanded defs c.args.ty.now) c.args.init.now c.in-Text.text c.in-Text.is)
    c.write_text.ensures

pub write_init-returns-in-Array-clause-bytes : goal.write_init-returns-in-Array-clause-bytes
write_init-returns-in-Array-clause-bytes t c =
    let defs = c.args.types.now.defs in
    subst (λ (l : List ℕ). OnOk c.write_elements.result (c.write_elements.new.buffer ≡ c.args.buffer.now ++ l))
    (bytes-Array defs c.args.names.now.addresses.now (expanded defs c.args.ty.now) c.args.init.now c.as_slice.result.now
    (c.in-Array.is ∙ ap initial.Array (sym c.as_slice.ensures)))
    c.write_elements.ensures.bytes

pub write_init-returns-in-Struct-clause-bytes : goal.write_init-returns-in-Struct-clause-bytes
write_init-returns-in-Struct-clause-bytes t c =
    let defs = c.args.types.now.defs in
    subst (λ (l : List ℕ). OnOk c.write_struct.result (c.write_struct.new.buffer ≡ c.args.buffer.now ++ l))
    (bytes-Struct defs c.args.names.now.addresses.now (expanded defs c.args.ty.now) c.args.init.now c.as_slice-in-Struct.result.now
    (c.in-Struct.is ∙ ap initial.Struct (sym c.as_slice-in-Struct.ensures)))
    c.write_struct.ensures.bytes

-- ---- the elements of an array

pub write_elements-write_init-requires : goal.write_elements-write_init-requires
write_elements-write_init-requires t c =
    let small = lists-element c.args.list.now c.each.e-index c.e-item.result c.each-test.true c.e-item.is in
    let smaller : 4 * lists c.e-item.result.1 < 4 * all_lists c.args.list.now + 1 = omega arith in (
      search rules,
      subst (λ (ds : TypeDefs). IsSmall ds c.e-item.result.0 c.e-item.result.1) (sym c.each.invariant.defs)
          (subst (λ (e : TyText × Init). IsSmall c.args.types.now.defs e.0 e.1) (sym c.e-item.is) (c.requires c.each.e-index c.e-item.result c.each-test.true)),
    )

pub write_elements-each-preserved : goal.write_elements-each-preserved
write_elements-each-preserved t c =
    let defs = c.args.types.now.defs in
    let addresses = c.args.names.now.addresses.now in
    record {
      defs = c.in_ok-write_init.ensures.defs ∙ c.each.invariant.defs;
      bytes =
          flat-more (element_bytes defs addresses) c.args.list.now c.each.e-index c.e-item.result c.args.buffer.now c.each.buffer c.write_init.new.buffer
          c.each-test.true c.e-item.is c.each.invariant.bytes
          (c.in_ok-write_init.ensures.bytes ∙ ap (λ (ds : TypeDefs). c.each.buffer ++ element_bytes ds addresses c.e-item.result) c.each.invariant.defs);
    }

-- ---- the fields of a struct

pub write_field-room_of-requires : goal.write_field-room_of-requires
write_field-room_of-requires t c = small-type c.args.types.now.defs c.args.field.now.0 c.args.field.now.1 c.requires

pub write_field-write_init-requires : goal.write_field-write_init-requires
write_field-write_init-requires t c =
    let smaller : 4 * lists c.args.field.now.1 < 4 * lists c.args.field.now.1 + 1 = omega arith in (
      search rules,
      subst (λ (ds : TypeDefs). IsSmall ds c.args.field.now.0 c.args.field.now.1) (sym c.in_ok-room.ensures.defs) c.requires,
    )

pub write_field-returns-clause-bytes : goal.write_field-returns-clause-bytes
write_field-returns-clause-bytes t c = λ front bytes e s.
    let defs = c.args.types.now.defs in
    let addresses = c.args.names.now.addresses.now in
    let start = c.args.start in
    let old = c.args.buffer.now in
    let align = c.in_ok-room.room.1 in
    field-behind front bytes (element_bytes defs addresses c.args.field.now) c.pad_field.new.buffer c.write_init.new.buffer align start s
    (c.in_ok-pad_field.ensures ∙ ap (λ (l : List ℕ). l ++ replicate (round_up (length l - start) align - (length l - start)) 0) e)
    (c.in_ok-write_init.ensures.bytes ∙ ap (λ (ds : TypeDefs). c.pad_field.new.buffer ++ element_bytes ds addresses c.args.field.now) c.in_ok-room.ensures.defs)
    ∙ ap (λ (n : ℕ). front ++ (padded (round_up (length bytes) n) bytes ++ element_bytes defs addresses c.args.field.now)) c.in_ok-room.ensures.align

pub write_fields-write_field-requires : goal.write_fields-write_field-requires
write_fields-write_field-requires t c =
    let small = lists-element c.args.list.now c.each.e-index c.e-item.result c.each-test.true c.e-item.is in
    let smaller : 4 * lists c.e-item.result.1 + 1 < 4 * all_lists c.args.list.now + 2 = omega arith in (
      search rules,
      subst (λ (ds : TypeDefs). IsSmall ds c.e-item.result.0 c.e-item.result.1) (sym c.each.invariant.defs)
          (subst (λ (e : TyText × Init). IsSmall c.args.types.now.defs e.0 e.1) (sym c.e-item.is) (c.requires c.each.e-index c.e-item.result c.each-test.true)),
    )

pub write_fields-each-init : goal.write_fields-each-init
write_fields-each-init t c = record { defs = refl; bytes = λ front bytes e s. e }

pub write_fields-each-preserved : goal.write_fields-each-preserved
write_fields-each-preserved t c =
    let defs = c.args.types.now.defs in
    let addresses = c.args.names.now.addresses.now in
    record {
      defs = c.in_ok-write_field.ensures.defs ∙ c.each.invariant.defs;
      bytes = λ front bytes e s.
          let before = fold (with_field defs) bytes (map (element defs addresses) (take c.each.e-index c.args.list.now)) in
          c.in_ok-write_field.ensures.bytes front before (c.each.invariant.bytes front bytes e s) s
          ∙ ap (λ (ds : TypeDefs). front ++ with_field ds before (element ds addresses c.e-item.result)) c.each.invariant.defs
          ∙ ap (λ (l : List ℕ). front ++ l)
          (fold-more (with_field defs) (element defs addresses) bytes c.args.list.now c.each.e-index c.e-item.result c.each-test.true c.e-item.is);
    }

pub write_fields-returns-clause-bytes : goal.write_fields-returns-clause-bytes
write_fields-returns-clause-bytes t c = λ front bytes e s.
    let defs = c.args.types.now.defs in
    let addresses = c.args.names.now.addresses.now in
    c.each.invariant.bytes front bytes e s
    ∙ ap (λ (l : List (TyText × Init)). front ++ fold (with_field defs) bytes (map (element defs addresses) l)) (take_all c.each.e-index c.args.list.now c.each-test.false)

-- ---- a struct

pub write_struct-room_of-requires : goal.write_struct-room_of-requires
write_struct-room_of-requires t c = c.requires.0

pub write_struct-write_fields-requires : goal.write_struct-write_fields-requires
write_struct-write_fields-requires t c =
    let smaller : 4 * all_lists c.args.list.now + 2 < 4 * all_lists c.args.list.now + 3 = omega arith in
    (search rules, subst (λ (ds : TypeDefs). AreSmall ds c.args.list.now) (sym c.in_ok-room.ensures.defs) c.requires.1)

pub write_struct-returns-clause-bytes : goal.write_struct-returns-clause-bytes
write_struct-returns-clause-bytes t c =
    let defs = c.args.types.now.defs in
    let addresses = c.args.names.now.addresses.now in
    let old = c.args.buffer.now in
    let start = c.len-start.result in
    let fields = fold (with_field defs) [] (map (element defs addresses) c.args.list.now) in
    let written =
    c.in_ok-write_fields.ensures.bytes old [] (sym (append-nil old)) c.len-start.ensures
    ∙ ap (λ (ds : TypeDefs). old ++ fold (with_field ds) [] (map (element ds addresses) c.args.list.now)) c.in_ok-room.ensures.defs in
    c.in_ok-pad_to.ensures
    ∙ ap (λ (l : List ℕ). l ++ replicate (c.in_ok-room.room.0 - (length l - start)) 0) written
    ∙ padded-behind old fields c.in_ok-room.room.0 start c.len-start.ensures
    ∙ ap (λ (n : ℕ). old ++ padded n fields) c.in_ok-room.ensures.size
