-- The rules that are asked of a replacement, part by part: those on each operand behind its type, and the rest.
use Rattle.std.proofs.Common.{◌≡◌, Bool, false, not, ◌||◌, List, [], ◌∷◌, ◌++◌, map, Option, refl, is_none, ℤ}
use Rattle.std.specs.List.{list_any, flat_map}
use Rattle.ir_tree.specs.declared.name.Name.{Name}
use Rattle.ir_tree.specs.declared.type_text.TyText.{TyText}
use Rattle.ir_tree.specs.declared.op.Op.{Op}
use Rattle.ir_tree.specs.declared.item.Item.TheVariants as item
use Rattle.ir_rules.specs.declared.rule.Rule.{Rule}
use Rattle.ir_rules.specs.declared.rule.Rule.TheVariants.{UnknownType, TypeTooLarge, ScalarWanted, UnknownName, TypeDiffers, LiteralRange, UnknownLabel}
use Rattle.ir_rules.specs.declared.rule.Rule.TheVariants.{UnknownCallee, CallDiffers, ReturnDiffers, SwitchCase, GetPath, EntryTarget, CastWidth}
use Rattle.ir_rules.specs.Types.{has_unknown, is_large}
use Rattle.ir_rules.specs.Parts.{Typed, op_operands, opd_types, indices_of, op_types, op_scalars, op_labels, branch_labels}
use Rattle.ir_rules.specs.Settings.{Setting, local_of}
use Rattle.ir_rules.specs.Operands.{names_nothing, operand_differs, operand_out, number_out, no_integer, type_not_taken, op_differs, index_differs}
use Rattle.ir_rules.specs.Blocks.{is_block, is_first}
use Rattle.ir_rules.specs.Calls.{unknown_callee, call_differs, return_differs}
use Rattle.ir_rules.specs.Paths.{switch_case, no_op_path, no_constant_path, cast_width}
use Rattle.ir_rules.specs.Rules.{breaks_in}
use Rattle.ir_rules.specs.Replacements.{replacement_rules, breaks_there}
use Rattle.ir_sound.proofs.Lists.{neither, Each, none-each, each-weaker, each-both, each-left, each-right, each-append, each-map, map-each, each-flat}

-- ---- lists

each-none : {X : Type 0} (p : X → Bool) (xs : List X) → Each (λ x. p x ≡ false) xs → list_any p xs ≡ false
each-none p [] h = refl
each-none p (x ∷ xs) (h, hs) = rw h (each-none p xs hs)

pub flat-each : {X Y : Type 0} (P : Y → Type 0) (f : X → List Y) (xs : List X) → Each (λ x. Each P (f x)) xs → Each P (flat_map f xs)
flat-each P f [] h = tt
flat-each P f (x ∷ xs) (h, hs) = each-append P (f x) (flat_map f xs) h (flat-each P f xs hs)

pub or-no : (a b : Bool) → a ≡ false → b ≡ false → (a || b) ≡ false
or-no a b e f = rw e f

-- ---- one operand

abbrev pub IndexKept : Setting → TyText × ℤ → Type 0
IndexKept s i = (is_none (s.kind i.0) ≡ false) × ((no_integer (s.kind i.0) ≡ false) × (number_out (s.kind i.0) i.1 ≡ false))

abbrev TypeKept : Setting → TyText → Type 0
TypeKept s t = (has_unknown s.types t ≡ false) × (is_large s.types t ≡ false)

pub record OperandKept (s : Setting) (v : Typed) : Type 0 where
  pub types : Each (TypeKept s) (v.0 ∷ opd_types v.1)
  pub scalar : is_none (s.kind v.0) ≡ false
  pub indices : Each (IndexKept s) (indices_of v.1)
  pub named : names_nothing s v.1 ≡ false
  pub typed : operand_differs s (s.kind v.0) v.1 ≡ false
  pub range : operand_out (s.kind v.0) v.1 ≡ false
  pub path : no_constant_path s.types v.1 ≡ false

-- ---- what stands around the operands

abbrev pub LabelKept : Setting → Name → Type 0
LabelKept s n = not (is_block (local_of s n)) ≡ false

abbrev pub TargetKept : Setting → Name → Type 0
TargetKept s n = is_first (local_of s n) ≡ false

-- it is said by the types and labels alone, so that an instruction with other operands of the same types has it too
abbrev pub Around : Setting → Option Name → Op → Type 0
Around s r o =
    Each (TypeKept s) (op_types o) × Each (λ t. is_none (s.kind t) ≡ false) (op_scalars o) × (type_not_taken s o ≡ false) × Each (LabelKept s) (op_labels o)
    × Each (TargetKept s) (branch_labels o) × (unknown_callee s (item.Instr r o) ≡ false) × (call_differs s (item.Instr r o) ≡ false)
    × (return_differs s (item.Instr r o) ≡ false) × (switch_case s (item.Instr r o) ≡ false) × (no_op_path s.types o ≡ false)
    × (cast_width s (item.Instr r o) ≡ false)

-- ---- and the other way round

abbrev pub AllKept : Setting → Option Name → Op → Type 0
AllKept s r o = (x : Rule) → breaks_in s (item.Instr r o) x ≡ false

module _ (s : Setting) (r : Option Name) (o : Op) where
  abbrev vs : List Typed
  vs = op_operands o

  abbrev all_types : List TyText
  all_types = flat_map (λ (v : Typed). v.0 ∷ opd_types v.1) vs

  abbrev index_list : List (TyText × ℤ)
  index_list = flat_map (λ (v : Typed). indices_of v.1) vs

  module _ (k : AllKept s r o) where
    types-kept : Each (TypeKept s) (op_types o ++ [] ++ all_types)
    types-kept = each-both _ _ _ (none-each (has_unknown s.types) _ (k UnknownType)) (none-each (is_large s.types) _ (k TypeTooLarge))

    scalars-kept : Each (λ t. is_none (s.kind t) ≡ false) (op_scalars o ++ map (λ (v : Typed). v.0) vs ++ map (λ (i : TyText × ℤ). i.0) index_list)
    scalars-kept = none-each (λ t. is_none (s.kind t)) _ (k ScalarWanted)

    two_types : (op_differs s o ≡ false) × (index_differs s (item.Instr r o) ≡ false)
    two_types = neither (op_differs s o) _ (k TypeDiffers)

    two_ranges : (list_any (λ (v : Typed). operand_out (s.kind v.0) v.1) vs ≡ false)
        × (list_any (λ (i : TyText × ℤ). number_out (s.kind i.0) i.1) index_list ≡ false)
    two_ranges = neither _ _ (k LiteralRange)

    two_paths : (no_op_path s.types o ≡ false) × (list_any (λ (v : Typed). no_constant_path s.types v.1) vs ≡ false)
    two_paths = neither (no_op_path s.types o) _ (k GetPath)

    indices-kept : Each (IndexKept s) index_list
    indices-kept = each-both _ _ index_list (each-map _ (λ (i : TyText × ℤ). i.0) index_list (each-right _ (op_scalars o ++ map (λ (v : Typed). v.0) vs) _ scalars-kept))
        (each-both _ _ index_list (none-each (λ (i : TyText × ℤ). no_integer (s.kind i.0)) index_list two_types.1)
        (none-each (λ (i : TyText × ℤ). number_out (s.kind i.0) i.1) index_list two_ranges.1))

    pub operands-kept : Each (OperandKept s) vs
    operands-kept = each-weaker _ _
        (λ v h. record { types = h.0; scalar = h.1.0; indices = h.1.1.0; named = h.1.1.1.0; typed = h.1.1.1.1.0; range = h.1.1.1.1.1.0; path = h.1.1.1.1.1.1 }) vs
        (each-both _ _ vs (each-flat (TypeKept s) (λ (v : Typed). v.0 ∷ opd_types v.1) vs (each-right _ (op_types o ++ []) _ types-kept))
        (each-both _ _ vs (each-map _ (λ (v : Typed). v.0) vs (each-right _ (op_scalars o) _ (each-left _ (op_scalars o ++ map (λ (v : Typed). v.0) vs) _ scalars-kept)))
        (each-both _ _ vs (each-flat (IndexKept s) (λ (v : Typed). indices_of v.1) vs indices-kept)
        (each-both _ _ vs (none-each (λ (v : Typed). names_nothing s v.1) vs (k UnknownName))
        (each-both _ _ vs (none-each (λ (v : Typed). operand_differs s (s.kind v.0) v.1) vs (neither _ _ two_types.0).0)
        (each-both _ _ vs (none-each (λ (v : Typed). operand_out (s.kind v.0) v.1) vs two_ranges.0)
        (none-each (λ (v : Typed). no_constant_path s.types v.1) vs two_paths.1)))))))

    pub around-kept : Around s r o
    around-kept = (
      each-left _ (op_types o) [] (each-left _ (op_types o ++ []) _ types-kept),
      each-left _ (op_scalars o) _ (each-left _ (op_scalars o ++ map (λ (v : Typed). v.0) vs) _ scalars-kept),
      (neither (list_any (λ (v : Typed). operand_differs s (s.kind v.0) v.1) vs) (type_not_taken s o) two_types.0).1,
      none-each (λ n. not (is_block (local_of s n))) (op_labels o) (k UnknownLabel),
      none-each (λ n. is_first (local_of s n)) (branch_labels o) (k EntryTarget),
      k UnknownCallee,
      k CallDiffers,
      k ReturnDiffers,
      k SwitchCase,
      two_paths.0,
      k CastWidth,
    )

  pub none-broken : Each (OperandKept s) vs → Around s r o → breaks_there s r o ≡ false
  none-broken h (types, scalars, taken, labels, targets, callee, call, returned, cases, path, cast) =
      let of_types = each-append (TypeKept s) (op_types o ++ []) all_types (each-append (TypeKept s) (op_types o) [] types tt)
      (flat-each (TypeKept s) (λ (v : Typed). v.0 ∷ opd_types v.1) vs (each-weaker _ _ (λ v k. k.types) vs h)) in
      let of_indices = flat-each (IndexKept s) (λ (v : Typed). indices_of v.1) vs (each-weaker _ _ (λ v k. k.indices) vs h) in
      each-none (breaks_in s (item.Instr r o)) replacement_rules (
        each-none (has_unknown s.types) _ (each-weaker _ _ (λ t k. k.0) _ of_types),
        (
          refl,
          (
            each-none (is_large s.types) _ (each-weaker _ _ (λ t k. k.1) _ of_types),
            (
              each-none (λ t. is_none (s.kind t)) _ (each-append _ (op_scalars o ++ map (λ (v : Typed). v.0) vs) _
                  (each-append _ (op_scalars o) _ scalars (map-each _ (λ (v : Typed). v.0) vs (each-weaker _ _ (λ v k. k.scalar) vs h)))
                  (map-each _ (λ (i : TyText × ℤ). i.0) index_list (each-weaker _ _ (λ i k. k.0) _ of_indices))),
              (
                each-none (λ (v : Typed). names_nothing s v.1) vs (each-weaker _ _ (λ v k. k.named) vs h),
                (
                  or-no (op_differs s o) _ (or-no _ (type_not_taken s o)
                      (each-none (λ (v : Typed). operand_differs s (s.kind v.0) v.1) vs (each-weaker _ _ (λ v k. k.typed) vs h)) taken)
                      (each-none (λ (i : TyText × ℤ). no_integer (s.kind i.0)) index_list (each-weaker _ _ (λ i k. k.1.0) _ of_indices)),
                  (
                    or-no _ _ (each-none (λ (v : Typed). operand_out (s.kind v.0) v.1) vs (each-weaker _ _ (λ v k. k.range) vs h))
                        (each-none (λ (i : TyText × ℤ). number_out (s.kind i.0) i.1) index_list (each-weaker _ _ (λ i k. k.1.1) _ of_indices)),
                    (
                      each-none (λ n. not (is_block (local_of s n))) (op_labels o) labels,
                      (
                        callee,
                        (
                          call,
                          (
                            returned,
                            (
                              cases,
                              (
                                or-no (no_op_path s.types o) _ path (each-none (λ (v : Typed). no_constant_path s.types v.1) vs (each-weaker _ _ (λ v k. k.path) vs h)),
                                (
                                  refl,
                                  (
                                    each-none (λ n. is_first (local_of s n)) (branch_labels o) targets,
                                    (
                                      cast,
                                      tt,
                                    ),
                                  ),
                                ),
                              ),
                            ),
                          ),
                        ),
                      ),
                    ),
                  ),
                ),
              ),
            ),
          ),
        ),
      )
