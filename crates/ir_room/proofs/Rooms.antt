-- The room with one item more.
use Rattle.std.proofs.Common.{◌≡◌, ℕ, ◌+◌, nat_lt, Bool, true, false, List, [], ◌∷◌, ◌++◌, Some, None, slice_get, slice_index, if◌then◌else◌, refl, sym, ap, ◌∙◌}
use Rattle.std.proofs.lemmas.List.{append-nil}
use Rattle.am_base.specs.declared.limits.TheConstants.{FIRST_ADDRESS, MAX_TYPE_BYTES}
use Rattle.type_layout.specs.Layout.{round_up}
use Rattle.type_layout.specs.declared.ty.Ty.{Ty}
use Rattle.type_layout.specs.Types.{layout_of, size_of, align_of}
use Rattle.type_table.specs.declared.shape.Extent.{Extent}
use Rattle.type_table.specs.Table.{extent_at, extent_of}
use Rattle.ir_tree.specs.declared.name.Name.{Name}
use Rattle.ir_tree.specs.declared.type_text.TyText.{TyText}
use Rattle.ir_tree.specs.declared.operand.Init.{Init}
use Rattle.ir_tree.specs.declared.item.Item.{Item}
use Rattle.ir_tree.specs.declared.item.Item.TheVariants as item
use Rattle.ir_rules.specs.Types.{TypeDefs, expanded}
use Rattle.ir_rules.specs.Memory.{Global, constants_of, variables_of, constants_end, end_from}
use Rattle.ir_room.specs.declared.room.Room.{Room}
use Rattle.ir_room.specs.Ends.{limited, end_after}
use Rattle.ir_room.specs.Rooms.{IsRoomOf, Takes}
use Rattle.ir_room.proofs.Aligned.{aligned}
use Rattle.ir_room.proofs.Places.{constants-append, variables-append, end-append, after-limited}

-- ---- how much room a type takes

abbrev pub whole : Ty → Extent
whole t = record { size = size_of t; align = align_of t; offsets = (layout_of t).offsets }

pub is-whole : (ts : List Ty) (n : ℕ) (t : Ty) (e : Extent) → slice_get ts n ≡ Some t → Some e ≡ extent_at ts n → e ≡ whole t
is-whole ts n t e h is = by (nat_lt MAX_TYPE_BYTES (layout_of t).most) (is ∙ at)
  where
    at : extent_at ts n ≡ extent_of t
    at = rw h refl

    by : (b : Bool) → Some e ≡ (if b then None else Some (whole t)) → e ≡ whole t
    by true k = cc
    by false k = cc

-- ---- an item that is no global

room-same : (defs : TypeDefs) (above : List Item) (x : Item) (room : Room) → constants_of (x ∷ []) ≡ [] → variables_of (x ∷ []) ≡ []
    → IsRoomOf defs above room → IsRoomOf defs (above ++ x ∷ []) room
room-same defs above x room c v is =
    let constants : constants_of (above ++ x ∷ []) ≡ constants_of above =
    constants-append above (x ∷ []) ∙ ap (λ (l : List Global). constants_of above ++ l) c ∙ append-nil (constants_of above) in
    let variables : variables_of (above ++ x ∷ []) ≡ variables_of above =
    variables-append above (x ∷ []) ∙ ap (λ (l : List Global). variables_of above ++ l) v ∙ append-nil (variables_of above) in
    record {
      constants = is.constants ∙ ap (λ l. limited (end_from defs FIRST_ADDRESS l)) (sym constants);
      variables = λ r h. is.variables r h ∙ ap (λ l. limited (end_from defs r l)) (sym variables);
    }

pub other : (defs : TypeDefs) (above : List Item) (x : Item) (room : Room) → ((n : Name) (c : Bool) (t : TyText) (v : Init) → x ≡ item.Global n c t v → ⊥)
    → IsRoomOf defs above room → IsRoomOf defs (above ++ x ∷ []) room
other defs above (item.Global n c t v) room free is = absurd (free n c t v refl)
other defs above (item.TypeDef n t) room free is = room-same defs above (item.TypeDef n t) room refl refl is
other defs above (item.Declare n t ts) room free is = room-same defs above (item.Declare n t ts) room refl refl is
other defs above (item.Head n t ps) room free is = room-same defs above (item.Head n t ps) room refl refl is
other defs above (item.Label n) room free is = room-same defs above (item.Label n) room refl refl is
other defs above (item.Instr r o) room free is = room-same defs above (item.Instr r o) room refl refl is
other defs above item.End room free is = room-same defs above item.End room refl refl is

-- ---- a global

module _ (defs : TypeDefs) (above : List Item) (n : Name) (t : TyText) (v : Init) (e : Extent) (fits : e ≡ whole (expanded defs t)) (old new : Room) where
  abbrev one : Global
  one = (n, t, v)

  after : (at : ℕ) → end_after (limited at) e ≡ limited (round_up at (align_of (expanded defs t)) + size_of (expanded defs t))
  after at =
      let ty = expanded defs t in
      ap (end_after (limited at)) fits ∙ after-limited at (size_of ty) (align_of ty) (layout_of ty).offsets (aligned ty)

  pub taken : (constant : Bool) → Takes constant e old new → IsRoomOf defs above old → IsRoomOf defs (above ++ item.Global n constant t v ∷ []) new
  taken true h is =
      let x = item.Global n true t v in
      let constants : constants_of (above ++ x ∷ []) ≡ constants_of above ++ one ∷ [] = constants-append above (x ∷ []) in
      let variables : variables_of (above ++ x ∷ []) ≡ variables_of above = variables-append above (x ∷ []) ∙ append-nil (variables_of above) in
      record {
        constants =
            h.0
            ∙ ap (λ at. end_after at e) is.constants
            ∙ after (constants_end defs above)
            ∙ ap limited (sym (end-append defs (constants_of above) one FIRST_ADDRESS))
            ∙ ap (λ l. limited (end_from defs FIRST_ADDRESS l)) (sym constants);
        variables = λ r k. ap (λ l. slice_index l r) h.1 ∙ is.variables r k ∙ ap (λ l. limited (end_from defs r l)) (sym variables);
      }
  taken false h is =
      let x = item.Global n false t v in
      let constants : constants_of (above ++ x ∷ []) ≡ constants_of above = constants-append above (x ∷ []) ∙ append-nil (constants_of above) in
      let variables : variables_of (above ++ x ∷ []) ≡ variables_of above ++ one ∷ [] = variables-append above (x ∷ []) in
      record {
        constants = h.0 ∙ is.constants ∙ ap (λ l. limited (end_from defs FIRST_ADDRESS l)) (sym constants);
        variables = λ r k.
            h.1 r k
            ∙ ap (λ at. end_after at e) (is.variables r k)
            ∙ after (end_from defs r (variables_of above))
            ∙ ap limited (sym (end-append defs (variables_of above) one r))
            ∙ ap (λ l. limited (end_from defs r l)) (sym variables);
      }
