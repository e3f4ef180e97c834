-- The rules on blocks: labels, `phi`, terminators and the first block.
use Rattle.std.specs.Prelude.{ℕ, nat_eq, nat_lt, nat_le, Bool, true, false, not, ◌&&◌, ◌||◌, List, [], ◌∷◌, length, map, filter, Option, Some, ℤ, pos, negsuc}
use Rattle.std.specs.List.{list_any, list_all}
use Rattle.ir_tree.specs.declared.name.Name.{Name}
use Rattle.ir_tree.specs.declared.type_text.TyText.{TyText}
use Rattle.ir_tree.specs.declared.type_text.TyText.{out-TyText}
use Rattle.ir_tree.specs.declared.type_text.TyText.TheOpen.{TyText-F}
use Rattle.ir_tree.specs.declared.type_text.TyText.TheFolds.{fold-TyText}
use Rattle.ir_tree.specs.declared.operand.Opd.{Opd}
use Rattle.ir_tree.specs.declared.operand.Opd.TheVariants as opd
use Rattle.ir_tree.specs.declared.op.Op.TheVariants as op
use Rattle.ir_tree.specs.declared.item.Item.{Item}
use Rattle.ir_tree.specs.declared.item.Item.TheVariants as item
use Rattle.ir_names.specs.Names.{same_name}
use Rattle.ir_rules.specs.declared.local.Local.{Local}
use Rattle.ir_rules.specs.declared.local.Local.TheVariants.{Block}
use Rattle.ir_rules.specs.declared.scope.Scope.{Scope}
use Rattle.ir_rules.specs.Types.{same_width, all_agree}
use Rattle.ir_rules.specs.Scopes.{is_phi}
use Rattle.ir_rules.specs.Parts.{branch_labels, labels_of}
use Rattle.ir_rules.specs.Settings.{Setting, Edge, local_of, last_block}

-- ---- UnknownLabel: a label isn't a block of the function

abbrev pub is_block : Option Local → Bool
is_block (Some (Block b)) = true
is_block _ = false

abbrev pub unknown_label : Setting → Item → Bool
unknown_label s x = list_any (λ n. not (is_block (local_of s n))) (labels_of x)

-- ---- PhiPlace: a `phi` stands in the first block or after another instruction of its block

abbrev pub in_first_block : Scope → Bool
in_first_block before = nat_le (length before.starts) 1

abbrev pub phi_place : Setting → Item → Bool
phi_place s (item.Instr r o) = is_phi o && (in_first_block s.before || s.before.mixed)
phi_place s _ = false

-- ---- PhiEntries: the labels as a set aren't the blocks that branch to its block, or two entries of one label differ

-- the blocks that branch to a block
abbrev pub goes_to : Setting → ℕ → Edge → Bool
goes_to s b e = leads_to (local_of s e.1)
  where
    leads_to : Option Local → Bool
    leads_to (Some (Block c)) = nat_eq c b
    leads_to _ = false

abbrev pub sources : Setting → ℕ → List ℕ
sources s b = map (λ (e : Edge). e.0) (filter (goes_to s b) s.edges)

abbrev pub block_number : Option Local → ℕ
block_number (Some (Block b)) = b
block_number _ = 0

abbrev pub entry_blocks : Setting → List (Opd × Name) → List ℕ
entry_blocks s es = map (λ (e : Opd × Name). block_number (local_of s e.1)) es

abbrev pub has : List ℕ → ℕ → Bool
has ns n = list_any (nat_eq n) ns

abbrev pub same_set : List ℕ → List ℕ → Bool
same_set ms ns = list_all (has ns) ms && list_all (has ms) ns

-- the two types are written alike
abbrev pub same_text_step : TyText-F (TyText → Bool) → TyText-F TyText → Bool
same_text_step (TyText-F.Int v) (TyText-F.Int w) = same_width v w
same_text_step TyText-F.Ptr TyText-F.Ptr = true
same_text_step TyText-F.Void TyText-F.Void = true
same_text_step (TyText-F.Array m of) (TyText-F.Array n t) = nat_eq m n && of t
same_text_step (TyText-F.Struct tests) (TyText-F.Struct ts) = all_agree tests ts
same_text_step (TyText-F.Named a) (TyText-F.Named b) = same_name a b
same_text_step _ _ = false

unfoldable pub same_text : TyText → TyText → Bool
same_text t u = fold-TyText (TyText → Bool) (λ x u. same_text_step x (out-TyText u)) t u

abbrev pub same_integer : ℤ → ℤ → Bool
same_integer (pos m) (pos n) = nat_eq m n
same_integer (negsuc m) (negsuc n) = nat_eq m n
same_integer _ _ = false

abbrev pub same_indices : List (TyText × ℤ) → List (TyText × ℤ) → Bool
same_indices [] [] = true
same_indices (i ∷ is) (j ∷ js) = same_text i.0 j.0 && same_integer i.1 j.1 && same_indices is js
same_indices _ _ = false

-- the two operands are written alike: `true` and 1 differ, and so do -1 and 255
abbrev pub same_operand : Opd → Opd → Bool
same_operand (opd.Local a) (opd.Local b) = same_name a b
same_operand (opd.Global a) (opd.Global b) = same_name a b
same_operand (opd.Number y) (opd.Number z) = same_integer y z
same_operand opd.True opd.True = true
same_operand opd.False opd.False = true
same_operand opd.Null opd.Null = true
same_operand opd.Undef opd.Undef = true
same_operand opd.Poison opd.Poison = true
same_operand opd.Zero opd.Zero = true
same_operand (opd.Get g) (opd.Get h) = same_text g.0 h.0 && same_text g.1 h.1 && same_name g.2 h.2 && same_indices g.3 h.3
same_operand _ _ = false

abbrev pub two_differ : List (Opd × Name) → Bool
two_differ [] = false
two_differ (e ∷ es) = list_any (λ (d : Opd × Name). same_name e.1 d.1 && not (same_operand e.0 d.0)) es || two_differ es

-- the block in which the item stands
abbrev pub own_block : Setting → ℕ
own_block s = last_block s.before

abbrev pub phi_entries : Setting → Item → Bool
phi_entries s (item.Instr r (op.Phi t es)) = not (same_set (entry_blocks s es) (sources s (own_block s))) || two_differ es
phi_entries s _ = false

-- ---- BlockOpen: a label or end follows a block without a terminator, an instruction follows a terminator, or a function has no block

abbrev pub has_block : Scope → Bool
has_block before = nat_lt 0 (length before.starts)

abbrev pub block_open : Setting → Item → Bool
block_open s (item.Label n) = has_block s.before && not s.before.terminated
block_open s (item.Instr r o) = s.before.terminated
block_open s item.End = not (has_block s.before) || not s.before.terminated
block_open s _ = false

-- ---- EntryTarget: a branch goes to the first block

abbrev pub is_first : Option Local → Bool
is_first (Some (Block b)) = nat_eq b 0
is_first _ = false

abbrev pub entry_target : Setting → Item → Bool
entry_target s (item.Instr r o) = list_any (λ n. is_first (local_of s n)) (branch_labels o)
entry_target s _ = false
