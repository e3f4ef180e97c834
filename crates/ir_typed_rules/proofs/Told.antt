-- Rules that ask for the type definitions alone, and those on initialisers.
use Rattle.std.proofs.Common.{◌≡◌, nat_lt, true, false, not, Result, Ok, Err, IfOk, List, [], ◌∷◌, ◌++◌, refl, ap, ◌∙◌}
use Rattle.std.specs.List.{list_any}
use Rattle.am_base.specs.declared.limits.TheConstants.{MEMORY_BYTES}
use Rattle.ir_tree.specs.declared.name.Name.{Name}
use Rattle.ir_tree.specs.declared.operand.Opd.{Opd}
use Rattle.ir_tree.specs.declared.operand.Opd.TheVariants as opd
use Rattle.ir_tree.specs.declared.item.Item.{Item}
use Rattle.ir_tree.specs.declared.item.Item.TheVariants as item
use Rattle.ir_names.specs.Names.{firsts}
use Rattle.ir_names.proofs.Defined.{defined-firsts}
use Rattle.ir_rules.specs.declared.entity.Entity.{Entity}
use Rattle.ir_rules.specs.declared.local.Local.{Local}
use Rattle.ir_rules.specs.Types.{TypeDefs, Kinds}
use Rattle.ir_rules.specs.Parts.{Typed, operands_of}
use Rattle.ir_rules.specs.Settings.{Setting}
use Rattle.ir_rules.specs.Operands.{recursive_type, unknown_name, type_differs, literal_range, names_nothing, is_variable, index_differs}
use Rattle.ir_rules.specs.Paths.{get_path}
use Rattle.ir_rules.specs.Initialisers.{init_differs}
use Rattle.ir_rules.specs.Limits.{limit, is_instruction}
use Rattle.ir_rules.specs.Memory.{stack_base_of}
use Rattle.ir_operand_rules.specs.Each.{setting_in}
use Rattle.ir_type_rules.specs.Alone.{types_alone, kinds_alone}
use Rattle.ir_checker.specs.Judged.{is_global}
use Rattle.ir_checker.specs.Passes.{IsJudgedBy}

pub recursive-alone : (s : Setting) (x : Item) → recursive_type (types_alone s.types) x ≡ recursive_type s x
recursive-alone s (item.Global n c t v) = refl
recursive-alone s (item.TypeDef n t) = refl
recursive-alone s (item.Declare n t ts) = refl
recursive-alone s (item.Head n t ps) = refl
recursive-alone s (item.Label n) = refl
recursive-alone s (item.Instr r o) = refl
recursive-alone s item.End = refl

pub limit-global : (s : Setting) (x : Item) → is_global x ≡ true → nat_lt MEMORY_BYTES (stack_base_of s.types (s.above ++ x ∷ [])) ≡ limit s x
limit-global s (item.Global n c t v) g = refl
limit-global s (item.TypeDef n t) g = cc
limit-global s (item.Declare n t ts) g = cc
limit-global s (item.Head n t ps) g = cc
limit-global s (item.Label n) g = cc
limit-global s (item.Instr r o) g = cc
limit-global s item.End g = cc

-- ---- rules on initialisers

init-alone : (s : Setting) (x : Item) → init_differs (types_alone s.types) x ≡ init_differs s x
init-alone s (item.Global n c t v) = refl
init-alone s (item.TypeDef n t) = refl
init-alone s (item.Declare n t ts) = refl
init-alone s (item.Head n t ps) = refl
init-alone s (item.Label n) = refl
init-alone s (item.Instr r o) = refl
init-alone s item.End = refl

-- of an item that is no instruction
differs-alone : (s : Setting) (x : Item) → is_instruction x ≡ false → index_differs (kinds_alone s.kind) x ≡ type_differs s x
differs-alone s (item.Global n c t v) h = refl
differs-alone s (item.TypeDef n t) h = refl
differs-alone s (item.Declare n t ts) h = refl
differs-alone s (item.Head n t ps) h = refl
differs-alone s (item.Label n) h = refl
differs-alone s (item.Instr r o) h = cc
differs-alone s item.End h = refl

nothing-first : (s : Setting) (a : Opd) → names_nothing (setting_in s.kind (firsts s.entities) s.function.table) a ≡ names_nothing s a
nothing-first s (opd.Global n) = ap (λ e. not (is_variable e)) (defined-firsts s.entities [] n)
nothing-first s (opd.Get g) = ap (λ e. not (is_variable e)) (defined-firsts s.entities [] g.2)
nothing-first s _ = refl

module _ (s : Setting) (defs : TypeDefs) (kind : Kinds) (entities : List (Name × Entity)) (locals : List (Name × Local)) (told : IsJudgedBy s defs kind entities locals) where
  pub names-told : (x : Item) → unknown_name (setting_in kind entities locals) x ≡ unknown_name s x
  names-told x =
      (λ i. unknown_name (setting_in (told.kinds i) (told.entities i) (told.locals i)) x)
      ∙ (λ i. list_any (λ (v : Typed). nothing-first s v.1 i) (operands_of x))

  pub range-told : (x : Item) → literal_range (setting_in kind entities locals) x ≡ literal_range s x
  range-told x = λ i. literal_range (setting_in (told.kinds i) entities locals) x

  pub differs-told : (x : Item) → is_instruction x ≡ false → index_differs (kinds_alone kind) x ≡ type_differs s x
  differs-told x h = (λ i. index_differs (kinds_alone (told.kinds i)) x) ∙ differs-alone s x h

  pub path-told : (x : Item) → get_path (types_alone defs) x ≡ get_path s x
  path-told x = ap (λ ds. get_path (types_alone ds) x) told.types

  pub init-told : (x : Item) → init_differs (types_alone defs) x ≡ init_differs s x
  init-told x = ap (λ ds. init_differs (types_alone ds) x) told.types ∙ init-alone s x

-- ---- answers

pub ok-goes : {A E : Type 0} (r : Result A E) (P Q : A → Type 0) → ((a : A) → P a → Q a) → IfOk r P → IfOk r Q
ok-goes (Ok a) P Q f h = f a h
ok-goes (Err e) P Q f h = tt
