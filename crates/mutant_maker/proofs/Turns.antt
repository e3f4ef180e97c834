-- What is done of a list with what is left of it.
use Rattle.std.proofs.Common.{◌≡◌, ℕ, ◌+◌, ◌<◌, List, [], ◌∷◌, ◌++◌, length, map, drop, get_or, Option, Some, None, slice_get, refl, sym, ap, subst, ◌∙◌, arith}
use Rattle.std.specs.Prelude.{fold, ◌≤◌}
use Rattle.std.proofs.lemmas.List.{drop_more}
use Rattle.std.proofs.lemmas.List.Sums.{fold-append}
use Rattle.code_form.specs.declared.instr.Instr.{Instr}
use Rattle.ir_tree.specs.declared.name.Name.{Name}
use Rattle.ir_tree.specs.declared.operand.Opd.TheVariants as opd
use Rattle.ir_tree.specs.declared.op.Op.{Op}
use Rattle.ir_tree.specs.declared.item.Item.{Item}
use Rattle.ir_tree.specs.declared.item.Item.TheVariants as item
use Rattle.ir_rules.specs.Types.{Kinds}
use Rattle.ir_rules.specs.Parts.{Typed}
use Rattle.mutant_maker.specs.declared.rows.Row.{Row}
use Rattle.mutant_maker.specs.declared.rows.Walk.{Walk}
use Rattle.mutant_maker.specs.Makers.{replacements_of, new_numbers, with_value, constants_from}
use Rattle.mutant_maker.specs.Lists.{Made, made_in, made_at, made_from}
use Rattle.mutant_maker.specs.Walks.{with_made, with_all, with_ops, with_item, replacements_at}
use Rattle.mutant_maker.proofs.Steps.{joined}

-- ---- the arguments of a call

pub argument_turn : (kind : Kinds) (o : Op) (k : ℕ) (vs : List Typed) (v : Typed) (w u : Walk) → k < length vs → v ≡ get_or vs k v
    → u ≡ with_ops w (map (λ z. with_value o k (opd.Number z)) (new_numbers (kind v.0) v.1))
    → with_ops u (constants_from kind o (k + 1) (drop (k + 1) vs)) ≡ with_ops w (constants_from kind o k (drop k vs))
argument_turn kind o k vs v w u h e a =
    let here = map (λ z. with_value o k (opd.Number z)) (new_numbers (kind v.0) v.1) in
    let rest = constants_from kind o (k + 1) (drop (k + 1) vs) in
    ap (λ x. with_ops x rest) a ∙ joined w here rest
    ∙ ap (λ l. with_ops w (constants_from kind o k l)) (ap (λ x. x ∷ drop (k + 1) vs) e ∙ sym (drop_more vs k v h))

-- ---- the items of a module

made_of : (kind : Kinds) (code : Option Instr) (w : Walk) (n : ℕ) (o : Op)
    → (with_ops (record w { instruction = n }) (replacements_at kind code o)).rows ≡ with_all w.rows (made_at kind w.function n code o)
unfolding with_ops
made_of kind None w n o = refl
made_of kind (Some code) w n o = refl

module _ (kind : Kinds) (instrs : List Instr) where
  -- with the records of some items
  abbrev With : Walk → List Item → List Row
  With w items = with_all w.rows (made_from kind instrs w.function w.instruction w.place items)

  pub one_item : (w : Walk) (x : Item) (more : List Item) → With (with_item kind instrs w x) more ≡ With w (x ∷ more)
  unfolding with_ops
  one_item w (item.Head g t ps) more = refl
  one_item w (item.Instr r o) more =
      let here = made_at kind w.function (w.instruction + 1) (slice_get instrs w.place) o in
      let rest = made_from kind instrs w.function (w.instruction + 1) (w.place + 1) more in
      ap (λ rows. with_all rows rest) (made_of kind (slice_get instrs w.place) w (w.instruction + 1) o) ∙ sym (fold-append with_made w.rows here rest)
  one_item w (item.TypeDef n t) more = refl
  one_item w (item.Global n c t i) more = refl
  one_item w (item.Declare n t ts) more = refl
  one_item w (item.Label n) more = refl
  one_item w item.End more = refl

  pub item_turn : (items : List Item) (i : ℕ) (x : Item) (w v : Walk) → i < length items → x ≡ get_or items i x → v ≡ with_item kind instrs w x
      → With v (drop (i + 1) items) ≡ With w (drop i items)
  item_turn items i x w v h e a =
      ap (λ u. With u (drop (i + 1) items)) a ∙ one_item w x (drop (i + 1) items)
      ∙ ap (With w) (ap (λ y. y ∷ drop (i + 1) items) e ∙ sym (drop_more items i x h))

  -- an instruction, where its replacements are done
  pub stepped : (w v : Walk) (x : Item) (r : Option Name) (o p : Op) (code : Option Instr) → x ≡ item.Instr r o → code ≡ slice_get instrs w.place → p ≡ o
      → v ≡ with_ops (record w { instruction = w.instruction + 1 }) (replacements_at kind code p)
      → record v { place = v.place + 1 } ≡ with_item kind instrs w x
  unfolding with_ops
  stepped w v x r o p code ex ec ep a =
      let at = record w { instruction = w.instruction + 1 } in
      ap (λ (u : Walk). record u { place = u.place + 1 })
      (a ∙ ap (λ (c : Option Instr). with_ops at (replacements_at kind c p)) ec
      ∙ ap (λ (q : Op). with_ops at (replacements_at kind (slice_get instrs w.place) q)) ep)
      ∙ ap (with_item kind instrs w) (sym ex)

  -- the numbers of a walk rise by one at most
  within : (w : Walk) (x : Item) → ((with_item kind instrs w x).instruction ≤ w.instruction + 1) × ((with_item kind instrs w x).place ≤ w.place + 1)
  unfolding with_ops
  within w (item.Head g t ps) = (omega arith, omega arith)
  within w (item.Instr r o) = (omega arith, omega arith)
  within w (item.TypeDef n t) = (omega arith, omega arith)
  within w (item.Global n c t i) = (omega arith, omega arith)
  within w (item.Declare n t ts) = (omega arith, omega arith)
  within w (item.Label n) = (omega arith, omega arith)
  within w item.End = (omega arith, omega arith)

  pub rises : (w v : Walk) (x : Item) → v ≡ with_item kind instrs w x → (v.instruction ≤ w.instruction + 1) × (v.place ≤ w.place + 1)
  rises w v x e = subst (λ (u : Walk). (u.instruction ≤ w.instruction + 1) × (u.place ≤ w.place + 1)) (sym e) (within w x)

pub place_kept : (w v : Walk) (os : List Op) → v ≡ with_ops w os → v.place ≡ w.place
unfolding with_ops
place_kept w v os e = ap (λ (u : Walk). u.place) e
