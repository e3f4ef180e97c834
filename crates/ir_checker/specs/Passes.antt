-- The pass over the items of a module.
use Rattle.std.specs.Prelude.{◌≡◌, Bool, List}
use Rattle.ir_tree.specs.declared.name.Name.{Name}
use Rattle.ir_tree.specs.declared.item.Item.{Item}
use Rattle.ir_names.specs.Names.{firsts}
use Rattle.ir_rules.specs.declared.entity.Entity.{Entity}
use Rattle.ir_rules.specs.declared.local.Local.{Local}
use Rattle.ir_rules.specs.Types.{Kinds, TypeDefs, kind_of}
use Rattle.ir_rules.specs.Settings.{Setting}
use Rattle.ir_pass.specs.declared.frame.Frame.{Frame}
use Rattle.ir_pass.specs.Frames.{Holds, body_at, prior_at, with_step}
use Rattle.ir_pass.specs.Heads as heads
use Rattle.ir_checker.specs.declared.broken.Notes.{Notes}
use Rattle.ir_checker.specs.Judged.{notes_of}

abbrev pub opened : Bool → Item → Bool
opened inside x = heads.opened inside x

-- these are the integers and pointers that types stand for
abbrev pub AreKindsOf : Kinds → TypeDefs → Type 0
AreKindsOf kind defs = ◌≡◌ {A = Kinds} kind (kind_of defs)

-- a setting is told by the items before, the type definitions, and what names stand for
pub record IsJudgedBy (s : Setting) (defs : TypeDefs) (kind : Kinds) (es : List (Name × Entity)) (table : List (Name × Local)) : Type 0 where
  pub types : defs ≡ s.types
  pub kinds : ◌≡◌ {A = Kinds} kind s.kind
  pub entities : es ≡ firsts s.entities
  pub locals : table ≡ s.function.table

-- the pass came to an item, noted what stands before it, and went over it
pub record Arrived (kind : Kinds) (old : Frame) (rest : List Item) (x : Item) (ns : Notes) (f : Frame) : Type 0 where
  pub frame : Frame
  pub holds : (body prior : List Item) → Holds kind body prior old → Holds kind (body_at body rest) (prior_at prior rest) frame
  pub notes : ns ≡ notes_of frame.before x
  pub new : f ≡ with_step kind frame x
