-- The bytes of a constant, by the integer or pointer that its type stands for.
use Rattle.std.proofs.Common.{◌≡◌, ℕ, List, length, replicate, Option, Some, None, sym, ap, ◌∙◌, subst}
use Rattle.code_form.specs.declared.code.TyScalar.{TyScalar}
use Rattle.type_layout.specs.declared.ty.Ty.{Ty}
use Rattle.type_layout.specs.Types.{size_of}
use Rattle.ir_tree.specs.declared.name.Name.{Name}
use Rattle.ir_tree.specs.declared.type_text.TyText.{TyText, out-TyText, roll-TyText, roll-out-TyText}
use Rattle.ir_tree.specs.declared.type_text.TyText.TheVariants as text
use Rattle.ir_tree.specs.declared.type_text.TyText.TheOpen.{TyText-F}
use Rattle.ir_tree.specs.declared.type_text.TyText.TheFolds.{fold-roll-TyText}
use Rattle.ir_tree.specs.declared.operand.Opd.{Opd}
use Rattle.ir_rules.specs.Types.{TypeDefs, named_type, expand_step, expanded, scalar_of, kind_of}
use Rattle.ir_rules.specs.Paths.{kind_width}
use Rattle.ir_rules.specs.Memory.{Addresses, constant_word, little_endian, constant_bytes}

module _ (defs : TypeDefs) where
  abbrev named : Name → Ty
  named = named_type defs (length defs)

  abbrev KindIs : TyText → Type 0
  KindIs t = kind_of defs t ≡ scalar_of (expanded defs t)

  kinds : (x : TyText-F TyText) → KindIs (roll-TyText x)
  kinds (TyText-F.Int w) = ap (kind_of defs) (text.rolls-Int w) ∙ sym (ap scalar_of (fold-roll-TyText Ty (expand_step named) (TyText-F.Int w)))
  kinds TyText-F.Ptr = ap (kind_of defs) text.rolls-Ptr ∙ sym (ap scalar_of (fold-roll-TyText Ty (expand_step named) TyText-F.Ptr))
  kinds TyText-F.Void = ap (kind_of defs) text.rolls-Void ∙ sym (ap scalar_of (fold-roll-TyText Ty (expand_step named) TyText-F.Void))
  kinds (TyText-F.Array n t) = ap (kind_of defs) (text.rolls-Array n t) ∙ sym (ap scalar_of (fold-roll-TyText Ty (expand_step named) (TyText-F.Array n t)))
  kinds (TyText-F.Struct ts) = ap (kind_of defs) (text.rolls-Struct ts) ∙ sym (ap scalar_of (fold-roll-TyText Ty (expand_step named) (TyText-F.Struct ts)))
  kinds (TyText-F.Named n) = ap (kind_of defs) (text.rolls-Named n) ∙ sym (ap scalar_of (fold-roll-TyText Ty (expand_step named) (TyText-F.Named n)))

  -- the kind of a type as it is written is that of what it stands for
  pub kind-expanded : (t : TyText) → kind_of defs t ≡ scalar_of (expanded defs t)
  kind-expanded t = subst KindIs (roll-out-TyText t) (kinds (out-TyText t))

  module _ (addresses : Addresses) (t : Ty) (a : Opd) where
    abbrev bytes_by : Option TyScalar → List ℕ
    bytes_by o = elim o as (λ v. List ℕ) [
      | None ↦ replicate (size_of t) 0
      | Some k ↦ little_endian (size_of t) (constant_word defs addresses (kind_width (Some k)) a)
    ]

    pub zero-bytes : None ≡ scalar_of t → replicate (size_of t) 0 ≡ constant_bytes defs addresses t a
    zero-bytes e = ap bytes_by e

    pub word-bytes : (k : TyScalar) → Some k ≡ scalar_of t
        → little_endian (size_of t) (constant_word defs addresses (kind_width (Some k)) a) ≡ constant_bytes defs addresses t a
    word-bytes k e = ap bytes_by e
