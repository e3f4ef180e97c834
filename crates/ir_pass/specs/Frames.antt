-- What the pass knows of the function in which an item stands.
use Rattle.std.specs.Prelude.{◌≡◌, ℕ, Bool, true, false, List, [], None, if◌then◌else◌}
use Rattle.ir_tree.specs.declared.item.Item.{Item}
use Rattle.ir_rules.specs.Types.{Kinds}
use Rattle.ir_rules.specs.Scopes.{empty_scope, with_item, scope_of}
use Rattle.ir_rules.specs.Settings.{upto_end, edges_of, result_of}
use Rattle.ir_call_rules.specs.Alone.{branches_alone}
use Rattle.ir_call_rules.specs.Sources.{bucket, sources_once}
use Rattle.ir_pass.specs.Heads.{is_end, starts}
use Rattle.ir_pass.specs.declared.frame.Frame.{Frame}

-- the frame is that of a function, `body`, of which `prior` are the items before an item
pub record Holds (kind : Kinds) (body prior : List Item) (f : Frame) : Type 0 where
  pub function : f.function ≡ scope_of kind body
  pub sources : (b : ℕ) → bucket f.sources b ≡ sources_once (branches_alone f.function.table []) (edges_of kind body) b
  pub result : f.result ≡ result_of kind body
  pub before : f.before ≡ scope_of kind prior

abbrev pub no_frame : Frame
no_frame = record { function = empty_scope; sources = []; result = None; before = empty_scope }

-- the function and what stands before an item in it, where a head begins one
abbrev pub body_at : List Item → List Item → List Item
body_at body rest = if starts rest then upto_end rest else body

abbrev pub prior_at : List Item → List Item → List Item
prior_at prior rest = if starts rest then [] else prior

abbrev pub with_step : Kinds → Frame → Item → Frame
with_step kind f x = record f { before = with_item kind f.before x }

abbrev pub left : Bool → Frame → Item → Frame
left inside f x = if is_end x then no_frame else (if inside then f else record f { before = empty_scope })
