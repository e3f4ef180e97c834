-- Each rule asks for no more than what its function is handed.
use Rattle.std.proofs.Common.{◌≡◌, Bool, not, ◌||◌, List, [], ◌∷◌, map, None, refl, sym, ap, ◌∙◌}
use Rattle.ir_tree.specs.declared.name.Name.{Name}
use Rattle.ir_tree.specs.declared.op.Op.TheVariants as op
use Rattle.ir_tree.specs.declared.item.Item.{Item}
use Rattle.ir_tree.specs.declared.item.Item.TheVariants as item
use Rattle.ir_names.specs.Names.{defined, firsts}
use Rattle.ir_names.proofs.Defined.{defined-firsts}
use Rattle.ir_rules.specs.declared.entity.Entity.{Entity}
use Rattle.ir_rules.specs.Entities.{signature_of}
use Rattle.ir_rules.specs.Parts.{Typed}
use Rattle.ir_rules.specs.Settings.{Setting}
use Rattle.ir_rules.specs.Blocks.{phi_entries, own_block, entry_blocks, two_differ}
use Rattle.ir_rules.specs.Calls.{unknown_callee, call_differs, is_callee, has_other_signature}
use Rattle.ir_call_rules.specs.Alone.{calls_alone}
use Rattle.ir_call_rules.specs.Sources.{phi_differs, sources_once}
use Rattle.ir_call_rules.proofs.Buckets.{sources-same}

first-is : (entities : List (Name × Entity)) (n : Name) → defined entities n ≡ defined (firsts entities) n
first-is entities n = sym (defined-firsts entities [] n)

pub callee-alike : (s : Setting) (x : Item) → unknown_callee s x ≡ unknown_callee (calls_alone (λ t. None) (firsts s.entities) s.signs) x
callee-alike s (item.Instr r (op.Call t f xs)) = ap (λ e. not (is_callee s.signs f e)) (first-is s.entities f)
callee-alike s _ = refl

pub call-alike : (s : Setting) (x : Item) → call_differs s x ≡ call_differs (calls_alone s.kind (firsts s.entities) []) x
call-alike s (item.Instr r (op.Call t f xs)) = ap (has_other_signature (signature_of s.kind t (map (λ (x : Typed). x.0) xs))) (first-is s.entities f)
call-alike s _ = refl

pub entries-alike : (s : Setting) (x : Item) → phi_entries s x ≡ phi_differs s.function.table (sources_once s s.edges (own_block s)) x
entries-alike s (item.Instr r (op.Phi t es)) = ap (λ b. not b || two_differ es) (sources-same s (own_block s) (entry_blocks s es) s.edges)
entries-alike s _ = refl
