-- What the items of a module define as variables and functions, one after another.
use Rattle.std.specs.Prelude.{◌+◌, List, [], map, fold, Option}
use Rattle.ir_tree.specs.declared.name.Name.{Name}
use Rattle.ir_tree.specs.declared.type_text.TyText.{TyText}
use Rattle.ir_tree.specs.declared.item.Item.{Item}
use Rattle.ir_tree.specs.declared.item.Item.TheVariants as item
use Rattle.ir_names.specs.Names.{with_first}
use Rattle.ir_rules.specs.declared.entity.Entity.TheVariants.{Variable, Declared, Defined}
use Rattle.ir_rules.specs.Types.{Kinds, result_kind}
use Rattle.ir_rules.specs.Entities.{signature_of}
use Rattle.ir_scopes.specs.declared.entities.Globals.{Globals}

abbrev pub no_globals : Globals
no_globals = record { table = []; functions = 0 }

abbrev pub with_declared : Kinds → Globals → Name → TyText → List TyText → Globals
with_declared kind g n t ts = record g { table = with_first g.table (n, Declared (signature_of kind t ts)) }

abbrev pub with_defined : Kinds → Globals → Name → TyText → List (TyText × Option Name) → Globals
with_defined kind g n t ps = record g {
  table = with_first g.table (n, Defined g.functions (record { params = map (λ p. kind p.0) ps; result = result_kind kind t }));
  functions = g.functions + 1;
}

abbrev pub with_entity : Kinds → Globals → Item → Globals
with_entity kind g (item.Global n c t i) = record g { table = with_first g.table (n, Variable) }
with_entity kind g (item.Declare n t ts) = with_declared kind g n t ts
with_entity kind g (item.Head n t ps) = with_defined kind g n t ps
with_entity kind g _ = g

abbrev pub gathered : Kinds → List Item → Globals
gathered kind items = fold (with_entity kind) no_globals items
