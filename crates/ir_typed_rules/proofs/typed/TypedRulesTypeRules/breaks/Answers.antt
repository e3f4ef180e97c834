use Rattle.std.proofs.Common.{◌≡◌, false, List, [], ◌∷◌, ◌++◌, OnOk, sym, subst, ◌∙◌}
use Rattle.ir_tree.specs.declared.item.Item.{Item}
use Rattle.ir_rules.specs.Types.{TypeDefs}
use Rattle.ir_rules.specs.Settings.{Setting}
use Rattle.ir_scopes.specs.Kinds.{kind_in}
use Rattle.ir_room.specs.Rooms.{IsRoomOf}
use Rattle.ir_checker.specs.Judged.{AreOf, has_large}
use Rattle.ir_checker.specs.Passes.{IsJudgedBy}
use Rattle.ir_typed_rules.specs.Walks.{IsTold, WalksAre}
use Rattle.ir_typed_rules.proofs.Told.{ok-goes}
use Rattle.ir_typed_rules.proofs.typed.TypedRulesTypeRules.breaks.Goals as goal

pub returns : goal.returns
returns c =
    let x = c.args.item.now in
    let room = c.args.self.now.room in
    let defs = c.args.self.now.types.defs in
    let new = c.judge.new.self in
    let first = c.in_ok-walked.ensures.defs in
    let kind = kind_in c.args.known.now.kinds.now.names in
    let es = c.args.known.now.entities.now in
    let locals = c.args.locals.now in
    record {
      defs = c.judge.ensures.defs ∙ first;
      judged =
          subst (λ (ds : TypeDefs). OnOk c.judge.result ((above : List Item) → has_large ds x ≡ false → IsRoomOf ds above room
          → IsRoomOf new.types.defs (above ++ x ∷ []) new.room))
          first c.judge.ensures.judged;
      broken =
          ok-goes c.judge.result
          (λ typed. (s : Setting) → IsRoomOf c.walked_of.new.types.defs s.above room → IsTold s c.walked_of.new.types.defs kind
          → WalksAre s x c.in_ok-walked.walked → AreOf s x typed)
          (λ typed. (s : Setting) → IsRoomOf defs s.above room → IsJudgedBy s defs kind es locals → AreOf s x typed)
          (λ typed h s held told. h s (subst (λ (ds : TypeDefs). IsRoomOf ds s.above room) (sym first) held)
          (record { types = first ∙ told.types; kinds = told.kinds }) (c.in_ok-walked.ensures.walks s told))
          c.judge.ensures.broken;
    }
