use Rattle.std.proofs.Common.{[], ◌∷◌, ◌++◌, sym, ap, subst, ◌∙◌}
use Rattle.ir_rules.specs.Types.{TypeDefs}
use Rattle.ir_rules.specs.Operands.{unknown_type, recursive_type, type_too_large, scalar_wanted}
use Rattle.ir_type_rules.specs.Alone.{types_alone, kinds_alone}
use Rattle.ir_room.specs.Rooms.{IsRoomOf}
use Rattle.ir_checker.specs.Judged.{has_large}
use Rattle.ir_typed_rules.proofs.Told.{recursive-alone, limit-global}
use Rattle.ir_typed_rules.proofs.typed.TypedRules.judge.Goals as goal

pub returns : goal.returns
returns c =
    let x = c.args.item.now in
    let first = c.in_ok-add.ensures.defs in
    let defs = c.in_ok-large.ensures.defs ∙ first in
    record {
      defs = defs;
      judged = λ above small room.
          subst (λ (ds : TypeDefs). IsRoomOf ds (above ++ x ∷ []) c.add.new.self) (sym defs) (c.in_ok-add.ensures.room above small room);
      broken = λ s room told walks.
          let at = first ∙ told.types in
          record {
            unknown_type = c.in_ok-unknown.ensures ∙ ap (λ ds. unknown_type (types_alone ds) x) at;
            recursive_type = c.recursive_type-recursive.ensures ∙ ap (λ ds. recursive_type (types_alone ds) x) (defs ∙ told.types) ∙ recursive-alone s x;
            type_too_large = c.in_ok-large.ensures.broken ∙ ap (λ ds. type_too_large (types_alone ds) x) at;
            scalar_wanted = c.in_ok-scalars.ensures ∙ (λ i. scalar_wanted (kinds_alone (told.kinds i)) x);
            get_path = walks.get_path;
            init_differs = walks.init_differs;
            unknown_name = walks.unknown_name;
            type_differs = walks.type_differs;
            literal_range = walks.literal_range;
            full = λ g small.
                c.is_full-full.ensures s.types (s.above ++ x ∷ [])
                (subst (λ (ds : TypeDefs). IsRoomOf ds (s.above ++ x ∷ []) c.add.new.self) told.types
                (c.in_ok-add.ensures.room s.above (ap (λ ds. has_large ds x) told.types ∙ small) room))
                ∙ limit-global s x g;
          };
    }
