-- For each block of a function the blocks that branch to it.
use Rattle.std.specs.Prelude.{ℕ, ◌-◌, nat_eq, Bool, false, not, ◌||◌, List, [], ◌∷◌, ◌++◌, fold, map, length, Option, Some, None, slice_get, slice_index_or, if◌then◌else◌}
use Rattle.ir_tree.specs.declared.name.Name.{Name}
use Rattle.ir_tree.specs.declared.operand.Opd.{Opd}
use Rattle.ir_tree.specs.declared.op.Op.TheVariants as op
use Rattle.ir_tree.specs.declared.item.Item.{Item}
use Rattle.ir_tree.specs.declared.item.Item.TheVariants as item
use Rattle.ir_names.specs.Names.{defined}
use Rattle.ir_rules.specs.declared.local.Local.{Local}
use Rattle.ir_rules.specs.Settings.{Setting, Edge}
use Rattle.ir_rules.specs.Blocks.{goes_to, block_number, same_set, same_operand, two_differ}

-- a number is the last one
abbrev pub is_number : ℕ → Option ℕ → Bool
is_number n None = false
is_number n (Some m) = nat_eq m n

abbrev pub is_last : List ℕ → ℕ → Bool
is_last ns n = is_number n (slice_get ns (length ns - 1))

-- the blocks that branch to a block, with one more; the branches of one block stand side by side
abbrev pub with_source : List ℕ → ℕ → List ℕ
with_source ns n = if is_last ns n then ns else ns ++ n ∷ []

-- the blocks that branch to block b; a block behind the last list has none
abbrev pub bucket : List (List ℕ) → ℕ → List ℕ
bucket lists b = slice_index_or lists b []

-- the blocks that branch to block b, with those of one more branch
abbrev pub with_edge : Setting → ℕ → List ℕ → Edge → List ℕ
with_edge s b ns e = if goes_to s b e then with_source ns e.0 else ns

-- the blocks that branch to block b
abbrev pub sources_once : Setting → List Edge → ℕ → List ℕ
sources_once s edges b = fold (with_edge s b) [] edges

-- the entries of a `phi` by their labels
abbrev pub by_label : List (Opd × Name) → List (Name × Opd)
by_label es = map (λ (e : Opd × Name). (e.1, e.0)) es

-- an operand isn't the first one of its label
abbrev pub differs_from_first : Option Opd → Opd → Bool
differs_from_first None a = false
differs_from_first (Some first) a = not (same_operand first a)

-- the labels of a `phi` as a set aren't some blocks, or two entries of one label differ
abbrev pub phi_differs : List (Name × Local) → List ℕ → Item → Bool
phi_differs locals sources (item.Instr r (op.Phi t es)) =
    not (same_set (map (λ (e : Opd × Name). block_number (defined locals e.1)) es) sources) || two_differ es
phi_differs locals sources _ = false
