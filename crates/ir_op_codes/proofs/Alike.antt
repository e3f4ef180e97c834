-- The code of an instruction asks a setting for its types, what names stand for, and the ports, and for no more.
use Rattle.std.proofs.Common.{◌≡◌, ℕ, List, [], ◌∷◌, map, Option, Some, None, refl, sym, ap, ◌∙◌, pos}
use Rattle.std.specs.Prelude.{◌+ℤ◌, unwrap_or}
use Rattle.std.specs.List.{flat_map, fold}
use Rattle.am_base.specs.declared.word.Width.{Width}
use Rattle.am_base.specs.declared.word.Width.TheVariants.{W64}
use Rattle.am_base.specs.Word.{word_of}
use Rattle.code_form.specs.declared.instr.Operand.TheVariants.{Reg, Word}
use Rattle.code_form.specs.declared.instr.Callee.TheVariants.{Abort}
use Rattle.code_form.specs.declared.instr.Instr.TheVariants as instr
use Rattle.type_layout.specs.Types.{size_of, align_of}
use Rattle.ir_tree.specs.declared.name.Name.{Name}
use Rattle.ir_tree.specs.declared.type_text.TyText.{TyText}
use Rattle.ir_tree.specs.declared.operand.Opd.{Opd}
use Rattle.ir_tree.specs.declared.operand.Opd.TheVariants as opd
use Rattle.ir_tree.specs.declared.op.Op.{Op}
use Rattle.ir_tree.specs.declared.op.Op.TheVariants as op
use Rattle.ir_names.specs.Names.{firsts}
use Rattle.ir_names.proofs.Defined.{defined-firsts}
use Rattle.ir_rules.specs.declared.entity.Entity.{Entity}
use Rattle.ir_rules.specs.declared.entity.Entity.TheVariants as entity
use Rattle.ir_rules.specs.Types.{Kinds, kind_of, expanded}
use Rattle.ir_rules.specs.Parts.{Typed}
use Rattle.ir_rules.specs.Entities.{name_bytes}
use Rattle.ir_rules.specs.Settings.{Setting}
use Rattle.ir_rules.specs.Blocks.{block_number}
use Rattle.ir_rules.specs.Calls.{known_callee}
use Rattle.ir_rules.specs.Paths.{kind_width, index_operand, Case, case_word}
use Rattle.ir_rules.specs.Memory.{Addresses, Step, scaled, field, address_in, literal_part, steps_of, constant_word}
use Rattle.ir_rules.specs.Codes.{register_of, operand_code, width_in, typed_code, block_code, count_code, value_code, index_code, entry_once, callee_code, op_code}
use Rattle.ir_op_codes.specs.Alone.{AreAlike, AreSame, code_alone}

module _ (s u : Setting) (a b : Addresses) (like : AreAlike s u) (same : AreSame a b) where
  constant-is : (w : Width) (x : Opd) → constant_word s.types a w x ≡ constant_word u.types b w x
  constant-is w (opd.Global n) = same n
  constant-is w (opd.Get g) =
      λ i. word_of W64 (pos (same g.2 i) +ℤ literal_part (like.types i) (steps_of (like.types i) g.0 (map index_operand g.3)))
  constant-is w (opd.Local n) = refl
  constant-is w (opd.Number z) = refl
  constant-is w opd.True = refl
  constant-is w opd.False = refl
  constant-is w opd.Null = refl
  constant-is w opd.Undef = refl
  constant-is w opd.Poison = refl
  constant-is w opd.Zero = refl

  operand-is : (w : Width) (x : Opd) → operand_code s a w x ≡ operand_code u b w x
  operand-is w (opd.Local n) = λ i. Reg (register_of (like.locals n i))
  operand-is w (opd.Global n) = ap Word (constant-is w (opd.Global n))
  operand-is w (opd.Get g) = ap Word (constant-is w (opd.Get g))
  operand-is w (opd.Number z) = refl
  operand-is w opd.True = refl
  operand-is w opd.False = refl
  operand-is w opd.Null = refl
  operand-is w opd.Undef = refl
  operand-is w opd.Poison = refl
  operand-is w opd.Zero = refl

  width-is : (t : TyText) → width_in s t ≡ width_in u t
  width-is t = λ i. kind_width (like.kinds i t)

  typed-is : (t : TyText) (x : Opd) → typed_code s a t x ≡ typed_code u b t x
  typed-is t x = ap (λ (w : Width). operand_code s a w x) (width-is t) ∙ operand-is (width_in u t) x

  block-is : (n : Name) → block_code s n ≡ block_code u n
  block-is n = ap block_number (like.locals n)

  count-is : (v : Option Typed) → count_code s a v ≡ count_code u b v
  count-is None = refl
  count-is (Some v) = typed-is v.0 v.1

  value-is : (v : Option Typed) → value_code s a v ≡ value_code u b v
  value-is None = refl
  value-is (Some v) = λ i. Some (typed-is v.0 v.1 i)

  index-is : (m : Typed × Step) → index_code s a m ≡ index_code u b m
  index-is (v, field offset) = refl
  index-is ((t, opd.Number z), scaled n) = refl
  index-is ((t, opd.Local x), scaled n) = λ i. (n, width-is t i, typed-is t (opd.Local x) i) ∷ []
  index-is ((t, opd.Global x), scaled n) = λ i. (n, width-is t i, typed-is t (opd.Global x) i) ∷ []
  index-is ((t, opd.Get g), scaled n) = λ i. (n, width-is t i, typed-is t (opd.Get g) i) ∷ []
  index-is ((t, opd.True), scaled n) = λ i. (n, width-is t i, typed-is t opd.True i) ∷ []
  index-is ((t, opd.False), scaled n) = λ i. (n, width-is t i, typed-is t opd.False i) ∷ []
  index-is ((t, opd.Null), scaled n) = λ i. (n, width-is t i, typed-is t opd.Null i) ∷ []
  index-is ((t, opd.Undef), scaled n) = λ i. (n, width-is t i, typed-is t opd.Undef i) ∷ []
  index-is ((t, opd.Poison), scaled n) = λ i. (n, width-is t i, typed-is t opd.Poison i) ∷ []
  index-is ((t, opd.Zero), scaled n) = λ i. (n, width-is t i, typed-is t opd.Zero i) ∷ []

  indices-are : (ms : List (Typed × Step)) → flat_map (index_code s a) ms ≡ flat_map (index_code u b) ms
  indices-are ms = λ i. flat_map (λ (m : Typed × Step). index-is m i) ms

  callee-is : (f : Name) (e : Option Entity) → callee_code s f e ≡ callee_code u f e
  callee-is f (Some (entity.Defined k sign)) = refl
  callee-is f (Some (entity.Declared sign)) = λ i. unwrap_or (known_callee (like.signs i) (name_bytes f)) Abort
  callee-is f (Some entity.Variable) = λ i. unwrap_or (known_callee (like.signs i) (name_bytes f)) Abort
  callee-is f None = λ i. unwrap_or (known_callee (like.signs i) (name_bytes f)) Abort

  pub alike : (o : Op) → op_code s a o ≡ op_code u b o
  alike (op.Bin o t x y) = λ i. instr.Bin o (width-is t i) (typed-is t x i) (typed-is t y i)
  alike (op.Cmp p t x y) = λ i. instr.Cmp p (width-is t i) (typed-is t x i) (typed-is t y i)
  alike (op.Select c x t y v z) = λ i. instr.Select (typed-is c x i) (typed-is t y i) (typed-is v z i)
  alike (op.Cast c t x to) = λ i. instr.Cast c (width-is t i) (width-is to i) (typed-is t x i)
  alike (op.Freeze t x) = λ i. instr.Freeze (typed-is t x i)
  alike (op.Alloca t n) = λ i. instr.Alloca (size_of (expanded (like.types i) t)) (align_of (expanded (like.types i) t)) (count-is n i)
  alike (op.Load t v x) = λ i. instr.Load (width-is t i) (typed-is v x i)
  alike (op.Store t x v y) = λ i. instr.Store (width-is t i) (typed-is t x i) (typed-is v y i)
  alike (op.Get of t x is) =
      let others =
      ap (λ (ms : List (Typed × Step)). flat_map (index_code s a) ms) (λ i. steps_of (like.types i) of is) ∙ indices-are (steps_of u.types of is) in
      λ i. instr.Get (typed-is t x i) (word_of W64 (literal_part (like.types i) (steps_of (like.types i) of is))) (others i)
  alike (op.Phi t es) = λ i. instr.Phi (fold entry_once [] (map (λ (e : Opd × Name). (block-is e.1 i, typed-is t e.0 i)) es))
  alike (op.Call t f xs) =
      let callee = ap (callee_code s f) (like.entities f) ∙ callee-is f _ in
      λ i. instr.Call (callee i) (map (λ (x : Typed). typed-is x.0 x.1 i) xs)
  alike (op.Jump n) = λ i. instr.Jump (block-is n i)
  alike (op.Branch t c x y) = λ i. instr.Branch (typed-is t c i) (block-is x i) (block-is y i)
  alike (op.Switch t x n cs) =
      λ i. instr.Switch (width-is t i) (typed-is t x i) (block-is n i)
      (map (λ (c : Case). (unwrap_or (case_word (width-is t i) c.1) 0, block-is c.2 i)) cs)
  alike (op.Ret v) = λ i. instr.Ret (value-is v i)
  alike op.Unreachable = refl

pub first-addresses : (a : Addresses) → AreSame a (firsts a)
first-addresses a n = ap (λ (o : Option ℕ). unwrap_or o 0) (sym (defined-firsts a [] n))

pub alone : (s : Setting) (a : Addresses) (o : Op) → ◌≡◌ {A = Kinds} s.kind (kind_of s.types)
    → op_code s a o ≡ op_code (code_alone s.types s.function.table s.entities s.signs) a o
alone s a o k =
    alike s (code_alone s.types s.function.table s.entities s.signs) a a
    (record { types = refl; kinds = k; locals = λ n. refl; entities = λ n. refl; signs = refl }) (λ n. refl) o

pub by-firsts : (s : Setting) (a : Addresses) (o : Op) → ◌≡◌ {A = Kinds} s.kind (kind_of s.types)
    → op_code s a o ≡ op_code (code_alone s.types s.function.table (firsts s.entities) s.signs) (firsts a) o
by-firsts s a o k =
    alike s (code_alone s.types s.function.table (firsts s.entities) s.signs) a (firsts a)
    (record { types = refl; kinds = k; locals = λ n. refl; entities = λ n. sym (defined-firsts s.entities [] n); signs = refl }) (first-addresses a) o
