-- The instructions of a module by their places in the code, each with what is known of its function.
use Rattle.std.specs.Prelude.{◌≡◌, ℕ, suc, ◌+◌, List, [], ◌∷◌, ◌++◌, length, take, drop, Some, None, slice_get}
use Rattle.ir_tree.specs.declared.op.Op.{Op}
use Rattle.ir_tree.specs.declared.item.Item.{Item}
use Rattle.ir_tree.specs.declared.item.Item.TheVariants as item
use Rattle.ir_rules.specs.Types.{Kinds}
use Rattle.ir_rules.specs.Scopes.{scope_of}
use Rattle.ir_rules.specs.Parts.{branch_labels}
use Rattle.ir_rules.specs.Settings.{open_from, function_items, result_of}
use Rattle.ir_rules.specs.Replacements.{Original}
use Rattle.ir_pass.specs.declared.frame.Frame.{Frame}
use Rattle.ir_pass.specs.Frames.{no_frame, body_at}
use Rattle.ir_replacements.specs.Labels.{label_table}
use Rattle.ir_replacements.specs.declared.places.Spot.{Spot}
use Rattle.ir_replacements.specs.declared.places.Places.{Places}

-- the instructions of some items, which are numbered from `at`
abbrev pub instructions_from : ℕ → List Item → List Original
instructions_from at [] = []
instructions_from at (item.Instr r o ∷ more) = record { at = at; result = r; instruction = o } ∷ instructions_from (suc at) more
instructions_from at (x ∷ more) = instructions_from (suc at) more

-- what the frame says of a function, by its items
pub record IsFrameOf (kind : Kinds) (body : List Item) (f : Frame) : Type 0 where
  pub function : f.function ≡ scope_of kind body
  pub result : f.result ≡ result_of kind body

-- the items of the function that is open before item i
abbrev pub open_items : List Item → ℕ → List Item
open_items items i = function_items items (open_from 0 None (take i items))

pub record IsSpot (kind : Kinds) (items : List Item) (frames : List Frame) (s : Spot) (o : Original) : Type 0 where
  pub op : s.op.now ≡ o.instruction
  pub labels : s.labels ≡ label_table (branch_labels o.instruction)
  pub frame : Frame
  pub there : slice_get frames s.frame ≡ Some frame
  pub is : IsFrameOf kind (open_items items o.at) frame

abbrev pub AreSpots : Kinds → List Item → List Frame → List Spot → List Original → Type 0
AreSpots kind items frames [] [] = Unit {0}
AreSpots kind items frames (s ∷ ss) (o ∷ os) = IsSpot kind items frames s o × AreSpots kind items frames ss os
AreSpots kind items frames _ _ = ⊥

-- ---- one item more

abbrev pub with_frame : Places → Frame → Places
with_frame p f = record p { frames = p.frames ++ f ∷ []; current = length p.frames }

abbrev pub with_spot : Places → Spot → Places
with_spot p s = record p { spots = p.spots ++ s ∷ [] }

abbrev pub outside : Places → Places
outside p = record p { current = 0 }

-- a function is opened
pub record IsOpened (kind : Kinds) (rest : List Item) (p q : Places) : Type 0 where
  pub frame : Frame
  pub is : IsFrameOf kind (body_at [] rest) frame
  pub new : q ≡ with_frame p frame

-- an instruction is added
pub record IsAdded (o : Op) (p q : Places) : Type 0 where
  pub spot : Spot
  pub op : spot.op.now ≡ o
  pub labels : spot.labels ≡ label_table (branch_labels o)
  pub current : spot.frame ≡ p.current
  pub new : q ≡ with_spot p spot

-- the pass went over an item, the first of `rest`
abbrev pub IsNoted : Kinds → List Item → Item → Places → Places → Type 0
IsNoted kind rest (item.Head n t ps) p q = IsOpened kind rest p q
IsNoted kind rest item.End p q = q ≡ outside p
IsNoted kind rest (item.Instr r o) p q = IsAdded o p q
IsNoted kind rest _ p q = q ≡ p

-- the pass has come to item i
pub record IsPassed (kind : Kinds) (items : List Item) (i : ℕ) (p : Places) : Type 0 where
  pub done : List Original
  pub originals : instructions_from 0 items ≡ done ++ instructions_from i (drop i items)
  pub spots : AreSpots kind items p.frames p.spots done
  pub first : slice_get p.frames 0 ≡ Some no_frame
  pub frame : Frame
  pub there : slice_get p.frames p.current ≡ Some frame
  pub is : IsFrameOf kind (open_items items i) frame
