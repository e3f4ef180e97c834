-- Items. One that isn't in the tree has no value.
use Rattle.std.specs.Prelude.{Bool, true, false, List, [], ◌∷◌, map, codes, Option, Some, None}
use Rattle.ir_tree.specs.declared.name.Name.{Name}
use Rattle.ir_tree.specs.declared.type_text.TyText.{TyText}
use Rattle.ir_tree.specs.declared.item.Item.{Item}
use Rattle.ir_tree.specs.declared.item.Item.TheVariants as tree
use Rattle.ir_tokens.specs.Bytes.{Text}
use Rattle.ir_grammar.specs.declared.starts.ItemStart.{ItemStart}
use Rattle.ir_grammar.specs.declared.starts.ItemStart.TheVariants as items
use Rattle.ir_grammar.specs.Lexeme.{sees_word, sees_local}
use Rattle.ir_grammar.specs.Rule.{Rule, ◌>>=◌, ◌>>◌, pure, one, next, look, where_it, sign, listed}
use Rattle.ir_grammar.specs.Words.{local, global_name, label_name, word, quoted, hash, meta, meaning, value_of}
use Rattle.ir_grammar.specs.Starts.{item_start, sees_type}
use Rattle.ir_grammar.specs.Groups.{curly, group}
use Rattle.ir_grammar.specs.Types.{type_text, result_type}
use Rattle.ir_grammar.specs.Skips.{skipped, head_skipped, optional, tailed, global_tailed}
use Rattle.ir_grammar.specs.Operands.{initialiser}
use Rattle.ir_grammar.specs.Ops.{instruction}

abbrev pub SomeItem : Type 0
SomeItem = Option Item

-- source = source_filename = Quoted
abbrev pub source : Rule SomeItem
source = do
  next
  sign 61
  quoted
  pure None

-- datalayout | triple
abbrev pub target_kind : Rule (Unit {0})
target_kind = where_it (sees_word (codes "datalayout")) next (word (codes "triple"))

-- target = target (datalayout | triple) = Quoted
abbrev pub target_line : Rule SomeItem
target_line = do
  next
  target_kind
  sign 61
  quoted
  pure None

-- attrs = attributes Hash = { .. }
abbrev pub attributes : Rule SomeItem
attributes = do
  next
  hash
  sign 61
  curly
  pure None

-- meta = Meta = distinct? Meta group
abbrev pub metadata : Rule SomeItem
metadata = do
  next
  sign 61
  optional (codes "distinct")
  meta
  group
  pure None

-- type T, after Local =
abbrev pub type_definition : Name → Rule SomeItem
type_definition n = do
  next
  t ← type_text
  pure (Some (tree.TypeDef n t))

-- op tail*
abbrev pub instruction_of : Option Name → Rule SomeItem
instruction_of n = do
  o ← instruction
  tailed
  pure (Some (tree.Instr n o))

-- typedef = Local = type T, or instr = Local = op tail*
abbrev pub bound : Rule SomeItem
bound = do
  n ← local
  sign 61
  where_it (sees_word (codes "type")) (type_definition n) (instruction_of (Some n))

abbrev pub global_kinds : List (Text × Option Bool)
global_kinds = (codes "global", Some false) ∷ (codes "constant", Some true) ∷ []

-- global | constant: whether it is constant
abbrev pub global_kind : Rule Bool
global_kind = one (value_of (meaning global_kinds None))

-- global = Global = skip* (global | constant) T init gtail*
abbrev pub global : Rule SomeItem
global = do
  n ← global_name
  sign 61
  skipped
  constant ← global_kind
  t ← type_text
  x ← initialiser
  global_tailed
  pure (Some (tree.Global n constant t x))

-- Local?
abbrev pub optional_local : Rule (Option Name)
optional_local = where_it sees_local (local >>= (λ n. pure (Some n))) (pure None)

-- param = T skip* Local?
abbrev pub parameter : Rule (TyText × Option Name)
parameter = do
  t ← type_text
  skipped
  n ← optional_local
  pure (t, n)

-- ( param,* )
abbrev pub parameters : Rule (List (TyText × Option Name))
parameters = do
  sign 40
  ps ← listed sees_type parameter
  sign 41
  pure ps

-- declare = declare skip* R Global ( param,* ) skip*
abbrev pub declare : Rule SomeItem
declare = do
  next
  skipped
  t ← result_type
  n ← global_name
  ps ← parameters
  skipped
  pure (Some (tree.Declare n t (map (λ p. p.0) ps)))

-- head = define skip* R Global ( param,* ) (skip | Meta Meta)* {
abbrev pub head : Rule SomeItem
head = do
  next
  skipped
  t ← result_type
  n ← global_name
  ps ← parameters
  head_skipped
  sign 123
  pure (Some (tree.Head n t ps))

abbrev pub item_by : ItemStart → Rule SomeItem
item_by items.Source = source
item_by items.Target = target_line
item_by items.Attributes = attributes
item_by items.Meta = metadata
item_by items.Local = bound
item_by items.Global = global
item_by items.Declare = declare
item_by items.Define = head
item_by items.Label = label_name >>= (λ n. pure (Some (tree.Label n)))
item_by items.End = next >> pure (Some tree.End)
item_by items.Other = instruction_of None

unfoldable pub item : Rule SomeItem
item = look item_start item_by
