-- The bytes of initialisers depend on no more of a table of addresses than what each name has.
use Rattle.std.proofs.Common.{◌≡◌, ℕ, pos, ◌+ℤ◌, List, ◌++◌, replicate, map, Option, Some, None, refl, ap}
use Rattle.am_base.specs.declared.word.Width.{Width}
use Rattle.am_base.specs.declared.word.Width.TheVariants.{W64}
use Rattle.am_base.specs.Word.{word_of}
use Rattle.code_form.specs.declared.code.TyScalar.{TyScalar}
use Rattle.type_layout.specs.declared.ty.Ty.{Ty}
use Rattle.type_layout.specs.Types.{size_of}
use Rattle.ir_tree.specs.declared.name.Name.{Name}
use Rattle.ir_tree.specs.declared.operand.Opd.{Opd}
use Rattle.ir_tree.specs.declared.operand.Opd.TheVariants as opd
use Rattle.ir_tree.specs.declared.operand.Init.{Init}
use Rattle.ir_tree.specs.declared.operand.Init.TheOpen.{Init-F}
use Rattle.ir_tree.specs.declared.operand.Init.TheFolds.{fold-Init}
use Rattle.ir_rules.specs.Types.{TypeDefs, expanded, scalar_of}
use Rattle.ir_rules.specs.Paths.{kind_width, index_operand}
use Rattle.ir_rules.specs.Memory.{Addresses, Global, address_in, steps_of, literal_part, constant_word, little_endian, padded, constant_bytes, bytes_step}
use Rattle.ir_rules.specs.Memory.{init_bytes, with_global}

module _ (defs : TypeDefs) (a b : Addresses) (same : (n : Name) → address_in a n ≡ address_in b n) where
  pub word-same : (w : Width) (o : Opd) → constant_word defs a w o ≡ constant_word defs b w o
  word-same w (opd.Global n) = same n
  word-same w (opd.Get g) = ap (λ (k : ℕ). word_of W64 (pos k +ℤ literal_part defs (steps_of defs g.0 (map index_operand g.3)))) (same g.2)
  word-same w (opd.Local n) = refl
  word-same w (opd.Number z) = refl
  word-same w opd.True = refl
  word-same w opd.False = refl
  word-same w opd.Null = refl
  word-same w opd.Undef = refl
  word-same w opd.Poison = refl
  word-same w opd.Zero = refl

  constant-same : (t : Ty) (o : Opd) → constant_bytes defs a t o ≡ constant_bytes defs b t o
  constant-same t o = by (scalar_of t)
    where
      by : (k : Option TyScalar) → (elim k as (λ v. List ℕ) [
        | None ↦ replicate (size_of t) 0
        | Some k ↦ little_endian (size_of t) (constant_word defs a (kind_width (Some k)) o)
      ]) ≡ (elim k as (λ v. List ℕ) [
        | None ↦ replicate (size_of t) 0
        | Some k ↦ little_endian (size_of t) (constant_word defs b (kind_width (Some k)) o)
      ])
      by None = refl
      by (Some k) = ap (little_endian (size_of t)) (word-same (kind_width (Some k)) o)

  step-same : (x : Init-F (Ty → List ℕ)) (t : Ty) → bytes_step defs a x t ≡ bytes_step defs b x t
  step-same (Init-F.One o) t = constant-same t o
  step-same (Init-F.Text s) t = refl
  step-same (Init-F.Array es) t = refl
  step-same (Init-F.Struct es) t = refl

  init-same : (i : Init) (t : Ty) → init_bytes defs a i t ≡ init_bytes defs b i t
  unfolding init_bytes
  init-same i t = λ j. fold-Init (Ty → List ℕ) (λ x u. step-same x u j) i t

  pub global-same : ◌≡◌ {A = List ℕ → ℕ × Global → List ℕ} (with_global defs a) (with_global defs b)
  global-same = λ j bytes p. padded p.0 bytes ++ init-same p.1.2 (expanded defs p.1.1) j
