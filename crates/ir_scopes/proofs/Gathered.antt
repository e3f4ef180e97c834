-- The pass over a module's items gathers the first definition of each global name.
use Rattle.std.proofs.Common.{◌≡◌, suc, ◌+◌, List, [], ◌∷◌, map, Option, refl, ap, ◌∙◌, arith}
use Rattle.std.specs.List.{fold}
use Rattle.ir_tree.specs.declared.name.Name.{Name}
use Rattle.ir_tree.specs.declared.type_text.TyText.{TyText}
use Rattle.ir_tree.specs.declared.item.Item.{Item}
use Rattle.ir_tree.specs.declared.item.Item.TheVariants as item
use Rattle.ir_names.specs.Names.{with_first, firsts}
use Rattle.ir_rules.specs.declared.entity.Entity.TheVariants.{Variable, Defined}
use Rattle.ir_rules.specs.Types.{Kinds, result_kind}
use Rattle.ir_rules.specs.Entities.{entities_from, entities_of}
use Rattle.ir_scopes.specs.declared.entities.Globals.{Globals}
use Rattle.ir_scopes.specs.Globals.{with_entity, with_declared, with_defined, gathered, no_globals}

maps : (kind : Kinds) (ps : List (TyText × Option Name)) → map (λ p. kind p.0) ps ≡ map kind (map (λ p. p.0) ps)
maps kind [] = refl
maps kind (p ∷ ps) = ap (λ ks. kind p.0 ∷ ks) (maps kind ps)

-- the definitions so far and those of the items to come are all
table-rest : (kind : Kinds) (xs : List Item) (g : Globals) → (fold (with_entity kind) g xs).table ≡ fold with_first g.table (entities_from kind g.functions xs)
table-rest kind [] g = refl
table-rest kind (item.Global n c t i ∷ xs) g = table-rest kind xs (record g { table = with_first g.table (n, Variable) })
table-rest kind (item.Declare n t ts ∷ xs) g = table-rest kind xs (with_declared kind g n t ts)
table-rest kind (item.Head n t ps ∷ xs) g =
    table-rest kind xs (with_defined kind g n t ps)
    ∙ ap (λ k. fold with_first (with_defined kind g n t ps).table (entities_from kind k xs)) next
    ∙ ap (λ ks. fold with_first (with_first g.table (
      n,
      Defined g.functions (record {
        params = ks;
        result =
            result_kind kind t;
      }),
    )) (entities_from kind (suc g.functions) xs)) (maps kind ps)
  where
    next : g.functions + 1 ≡ suc g.functions
    next = omega arith
table-rest kind (item.TypeDef n t ∷ xs) g = table-rest kind xs g
table-rest kind (item.Label n ∷ xs) g = table-rest kind xs g
table-rest kind (item.Instr r o ∷ xs) g = table-rest kind xs g
table-rest kind (item.End ∷ xs) g = table-rest kind xs g

pub gathered-firsts : (kind : Kinds) (items : List Item) → (gathered kind items).table ≡ firsts (entities_of kind items)
gathered-firsts kind items = table-rest kind items no_globals
