-- The functions of the code of a module that keeps the rules are sound.
use Rattle.std.proofs.Common.{◌≡◌, ◌↔◌, ℕ, ◌+◌, ◌-◌, ◌<◌, ◌≤◌, Bool, true, false, not, ◌&&◌, ◌||◌, nat_le, nat_lt, List, [], ◌∷◌, ◌++◌, map, length, take, drop}
use Rattle.std.proofs.Common.{slice_get}
use Rattle.std.proofs.Common.{Option, Some, None, unwrap_or, refl, sym, ap, ◌∙◌, subst, arith}
use Rattle.std.specs.List.{Contains}
use Rattle.std.specs.Option.{option_map}
use Rattle.std.proofs.lemmas.List.{length-map, map-append, take_at}
use Rattle.std.proofs.lemmas.Bool.Decides.{nat_tests}
use Rattle.code_form.specs.declared.code.TyScalar.{TyScalar}
use Rattle.code_form.specs.declared.code.Block.{Block as CodeBlock}
use Rattle.code_form.specs.declared.code.Func.{Func}
use Rattle.code_form.specs.declared.code.Code.{Code}
use Rattle.code_form.specs.declared.instr.Instr.{Instr}
use Rattle.code_form.specs.declared.instr.Instr.TheVariants.{Unreachable}
use Rattle.code_form.specs.declared.sign.PortSign.{PortSign}
use Rattle.code_form.specs.Places as code
use Rattle.code_form.specs.Sound.{InstrFits, HasEntryFor, IsSoundBlock, IsPlaceOf, IsSoundFunc}
use Rattle.ir_tree.specs.declared.name.Name.{Name}
use Rattle.ir_tree.specs.declared.type_text.TyText.{TyText}
use Rattle.ir_tree.specs.declared.op.Op.{Op}
use Rattle.ir_tree.specs.declared.op.Op.TheVariants as op
use Rattle.ir_tree.specs.declared.item.Item.{Item}
use Rattle.ir_tree.specs.declared.item.Item.TheVariants as item
use Rattle.ir_names.specs.Names.{defined}
use Rattle.ir_rules.specs.declared.local.Local.{Local}
use Rattle.ir_rules.specs.declared.local.Local.TheVariants.{Value, NoType, Block}
use Rattle.ir_rules.specs.declared.scope.Scope.{Scope}
use Rattle.ir_rules.specs.declared.rule.Rule.TheVariants.{PhiPlace, UnknownLabel}
use Rattle.ir_rules.specs.Types.{type_defs, kind_of, Kinds}
use Rattle.ir_rules.specs.Scopes.{empty_scope, with_item, scope_of, value_register, value_kind, is_phi, is_terminator}
use Rattle.ir_rules.specs.Parts.{branch_labels}
use Rattle.ir_rules.specs.Settings.{Setting, setting_of, local_of, last_block, upto_end, function_items, result_of, edges_of}
use Rattle.ir_rules.specs.Rules.{fault}
use Rattle.ir_rules.specs.Blocks.{is_block, block_number, phi_place, unknown_label}
use Rattle.ir_rules.specs.Memory.{Addresses, addresses_of}
use Rattle.ir_rules.specs.Replacements.{Original}
use Rattle.ir_rules.specs.Codes.{scalar_in, op_code, block_code}
use Rattle.ir_rules.specs.Modules.{code_of, function_code}
use Rattle.ir_sound.proofs.Lists.{no, Each, none-each, each-at, get-some, contains-at}
use Rattle.ir_sound.proofs.Scopes.{scope-good, head-types, items-grow, grows-length}
use Rattle.ir_sound.proofs.Places.{KeepsOp, Place, places_in, placed, Keeps, keeps-op, KeptFrom, IsBody}
use Rattle.ir_sound.proofs.Blocks.{AllBlocked, function-blocked}
use Rattle.ir_sound.proofs.Laid.{IsBlockOf, block-of, length-blocks}
use Rattle.ir_sound.proofs.InstrsFit.{Stage, Writes, instr-fits}
use Rattle.ir_sound.proofs.Walk.{Coded, base, originals_from, original-instr, original-result}
use Rattle.ir_sound.proofs.Addresses.{address-small}
use Rattle.ir_sound.proofs.Names.{named-function, declared-same}
use Rattle.ir_sound.proofs.Registers.{function-few, place-after, place-before, place-writes, get-map, register-is, once}
use Rattle.ir_sound.proofs.Edges.{same-phi, same-terminator, same-labels, map-member, edge-of, entry-for}

-- the labels of a branch are among those of the instruction
branches : (s : Setting) (r : Option Name) (o : Op) → unknown_label s (item.Instr r o) ≡ false
    → Each (λ n. not (is_block (local_of s n)) ≡ false) (branch_labels o)
branches s r (op.Phi t es) h = tt
branches s r (op.Bin o t x y) h = none-each (λ n. not (is_block (local_of s n))) [] h
branches s r (op.Cmp p t x y) h = tt
branches s r (op.Select c i t x u y) h = tt
branches s r (op.Cast c t x to) h = tt
branches s r (op.Freeze t x) h = tt
branches s r (op.Alloca t v) h = tt
branches s r (op.Load t u x) h = tt
branches s r (op.Store t x u y) h = tt
branches s r (op.Get of t x is) h = tt
branches s r (op.Call t f xs) h = tt
branches s r (op.Jump m) h = none-each (λ n. not (is_block (local_of s n))) (m ∷ []) h
branches s r (op.Branch t c x y) h = none-each (λ n. not (is_block (local_of s n))) (x ∷ y ∷ []) h
branches s r (op.Switch t x m cs) h = none-each (λ n. not (is_block (local_of s n))) (branch_labels (op.Switch t x m cs)) h
branches s r (op.Ret v) h = tt
branches s r op.Unreachable h = tt

module _ (items : List Item) (signs : List PortSign) (faultless : fault items signs ≡ None) (h at : ℕ) (n : Name) (t : TyText)
    (ps : List (TyText × Option Name)) (rest : List Item) (begins : drop h items ≡ item.Head n t ps ∷ rest) (body : IsBody (upto_end rest))
    (keeping : KeptFrom (base items signs faultless h) empty_scope (item.Head n t ps ∷ upto_end rest))
    (coded : (k : ℕ) (p : Place) → slice_get (places_in (kind_of (type_defs items)) empty_scope (item.Head n t ps ∷ upto_end rest)) k ≡ Some p
    → Coded items signs faultless h (originals_from 0 items) p (at + k)) where
  abbrev k : Kinds
  k = kind_of (type_defs items)

  abbrev xs : List Item
  xs = item.Head n t ps ∷ upto_end rest

  abbrev f : Scope
  f = scope_of k xs

  abbrev own : Func
  own = function_code (type_defs items) at n t ps f

  abbrev l : List Place
  l = places_in k empty_scope xs

  abbrev a : Addresses
  a = addresses_of (type_defs items) items

  abbrev b : Setting
  b = base items signs faultless h

  abbrev whole : Code
  whole = code_of items signs

  all : AllBlocked f l
  all = function-blocked b n t ps (upto_end rest) keeping body

  items-are : function_items items (Some h) ≡ xs
  items-are = ap upto_end begins

  function-is : b.function ≡ f
  function-is = ap (scope_of k) items-are

  -- ---- instructions

  local-is : (m : Name) → defined b.function.table m ≡ defined f.table m
  local-is m = ap (λ (s : Scope). defined s.table m) function-is

  stage : (s : Scope) (above : List Item) → Stage whole own (placed b s above) a
  stage s above = record {
    lays = record {
      registers = λ m u r e. get-map f.types r (Some u) (scope-good k xs m (Value (Some u) r) (sym (local-is m) ∙ e));
      within = address-small items signs faultless;
    };
    bit = refl;
    address = refl;
    blocks = λ m c e. (
        let below = scope-good k xs m (Block c) (sym (local-is m) ∙ e) in
        let long = length-blocks at f.starts (length f.results) in
        omega arith);
    result = sym (ap (λ (l : List Item). option_map scalar_in (result_of k l)) items-are);
    ports = refl;
    functions = λ m j sign e. named-function (type_defs items) items m j sign e;
    declared = λ m sign e. declared-same items signs faultless m sign e;
  }

  -- what stands at a place of the function
  pub record Stood (j : ℕ) (p : Place) : Type 0 where
    pub number : ℕ
    pub original : slice_get (originals_from 0 items) (at + j) ≡ Some (record { at = number; result = p.result; instruction = p.op })
    pub above : List Item
    pub setting : setting_of items signs number (item.Instr p.result p.op) ≡ placed b p.before above
    pub instr : code.instr_at whole (at + j) ≡ op_code (placed b p.before above) a p.op
    pub result : code.result_at whole (at + j) ≡ value_register p.before p.op
    pub keeps : Keeps (placed b p.before above) (item.Instr p.result p.op)

  pub stood : (j : ℕ) (p : Place) → slice_get l j ≡ Some p → Stood j p
  stood j p e =
      let c = coded j p e in
      let x = item.Instr p.result p.op in
      let o : Original = record { at = c.number; result = p.result; instruction = p.op } in
      record {
        number = c.number;
        original = c.original;
        above = c.above;
        setting = c.setting;
        instr = ap (λ (i : Option Instr). unwrap_or i Unreachable) (original-instr items signs a 0 items (at + j) o c.original)
            ∙ ap (λ s. op_code s a p.op) c.setting;
        result = ap (λ (r : Option (Option ℕ)). unwrap_or r None) (original-result items signs 0 items (at + j) o c.original)
            ∙ ap (λ (s : Setting). value_register s.before p.op) c.setting;
        keeps = c.keeps;
      }

  place-fits : (j : ℕ) (p : Place) → slice_get l j ≡ Some p → InstrFits whole own (code.result_at whole (at + j)) (code.instr_at whole (at + j))
  place-fits j p e =
      let s = stood j p e in
      let set = placed b p.before s.above in
      let fits : InstrFits whole own (value_register p.before p.op) (op_code set a p.op) =
      instr-fits whole own set a (stage p.before s.above) (value_register p.before p.op) p.result p.op (keeps-op set (item.Instr p.result p.op) s.keeps)
      (place-writes k p f.types (place-after k empty_scope xs j p e)) in
      let P : Instr → Type 0 = λ i. InstrFits whole own (value_register p.before p.op) i in
      let Q : Option ℕ → Type 0 = λ r. InstrFits whole own r (code.instr_at whole (at + j)) in
      subst Q (sym s.result) (subst P (sym s.instr) fits)

  -- another instruction that keeps the rules there, and has a value of the same type, fits the place as well
  pub replaced-fits : (j : ℕ) (p : Place) (o : Op) (above : List Item) → slice_get l j ≡ Some p → KeepsOp (placed b p.before above) (item.Instr p.result o)
      → value_kind k p.op ≡ value_kind k o → InstrFits whole own (code.result_at whole (at + j)) (op_code (placed b p.before above) a o)
  replaced-fits j p o above e keeps same =
      let s = stood j p e in
      let set = placed b p.before above in
      let P : Option (Option TyScalar) → Type 0 = λ v. Writes (map scalar_in f.types) (value_register p.before p.op) v in
      let fits : InstrFits whole own (value_register p.before p.op) (op_code set a o) =
      instr-fits whole own set a (stage p.before above) (value_register p.before p.op) p.result o keeps
      (subst P same (place-writes k p f.types (place-after k empty_scope xs j p e))) in
      let Q : Option ℕ → Type 0 = λ r. InstrFits whole own r (op_code set a o) in
      subst Q (sym s.result) fits

  terminator-at : (j : ℕ) (p : Place) → slice_get l j ≡ Some p → code.is_terminator (code.instr_at whole (at + j)) ≡ is_terminator p.op
  terminator-at j p e = let s = stood j p e in ap code.is_terminator s.instr ∙ same-terminator (placed b p.before s.above) a p.op

  phi-at : (j : ℕ) (p : Place) → slice_get l j ≡ Some p → code.is_phi (code.instr_at whole (at + j)) ≡ is_phi p.op
  phi-at j p e = let s = stood j p e in ap code.is_phi s.instr ∙ same-phi (placed b p.before s.above) a p.op

  -- ---- one block

  module _ (c : ℕ) (block : CodeBlock) (o : IsBlockOf at c block l) where
    place-in : (i : ℕ) → i < block.len → (p : Place) × (slice_get l (o.start + i) ≡ Some p)
    place-in i m = let w = o.spans.within in get-some l (o.start + i) (omega arith)

    there : (i : ℕ) → block.first + i ≡ at + (o.start + i)
    there i = let first = o.first in omega arith

    block-ends : (i : ℕ) → i < block.len → (code.is_terminator (code.instr_at whole (block.first + i)) ≡ true) ↔ (i + 1 ≡ block.len)
    block-ends i m =
        let p = place-in i m in
        let same = ap (λ q. code.is_terminator (code.instr_at whole q)) (there i) ∙ terminator-at (o.start + i) p.0 p.1 in (
          (λ e. let end = o.ended.ends (o.start + i) p.0 (omega arith) (omega arith) p.1 (sym same ∙ e) in omega arith),
          (λ e. same ∙ o.ended.ending (o.start + i) p.0 (omega arith) p.1),
        )

    block-phis : (i : ℕ) → i + 1 < block.len → code.is_phi (code.instr_at whole (block.first + i + 1)) ≡ true
        → code.is_phi (code.instr_at whole (block.first + i)) ≡ true
    block-phis i m e =
        let p = place-in i (omega arith) in
        let q = place-in (i + 1) m in
        let here = ap (λ q. code.is_phi (code.instr_at whole q)) (there i) ∙ phi-at (o.start + i) p.0 p.1 in
        let along : block.first + i + 1 ≡ at + (o.start + (i + 1)) = (let first = o.first in omega arith) in
        let next = ap (λ q. code.is_phi (code.instr_at whole q)) along ∙ phi-at (o.start + (i + 1)) q.0 q.1 in
        let one : o.start + (i + 1) ≡ o.start + i + 1 = omega arith in
        let second = ap (slice_get l) (sym one) ∙ q.1 in
        here ∙ o.spans.phis (o.start + i) p.0 q.0 (omega arith) (omega arith) p.1 second (sym next ∙ e)

    -- a `phi` doesn't stand in the first block
    later-phi : (p : Place) (above : List Item) → Keeps (placed b p.before above) (item.Instr p.result p.op) → last_block p.before ≡ 0 → is_phi p.op ≡ false
    later-phi p above keeps first = by (is_phi p.op) refl (keeps PhiPlace)
      where
        by : (v : Bool) → is_phi p.op ≡ v → phi_place (placed b p.before above) (item.Instr p.result p.op) ≡ false → v ≡ false
        by false e g = refl
        by true e g =
            let few : length p.before.starts ≤ 1 = omega arith in
            let le : nat_le (length p.before.starts) 1 ≡ true = grind (arith, nat_tests) in
            let is : phi_place (placed b p.before above) (item.Instr p.result p.op) ≡ true =
            ap (λ v. v && (nat_le (length p.before.starts) 1 || p.before.mixed)) e ∙ ap (λ v. v || p.before.mixed) le in
            sym is ∙ g

    no-entry-phi : c ≡ 0 → code.is_phi (code.instr_at whole block.first) ≡ false
    no-entry-phi e =
        let some = o.ended.some in
        let p = place-in 0 (omega arith) in
        let s = stood (o.start + 0) p.0 p.1 in
        let owner = o.spans.owned (o.start + 0) p.0 (omega arith) (omega arith) p.1 in
        let along : block.first ≡ at + (o.start + 0) = (let first = o.first in omega arith) in
        ap (λ q. code.is_phi (code.instr_at whole q)) along ∙ phi-at (o.start + 0) p.0 p.1 ∙ later-phi p.0 s.above s.keeps (owner ∙ e)

    block-fits : (i : ℕ) → i < block.len → InstrFits whole own (code.result_at whole (block.first + i)) (code.instr_at whole (block.first + i))
    block-fits i m =
        let p = place-in i m in
        let P : ℕ → Type 0 = λ q. InstrFits whole own (code.result_at whole q) (code.instr_at whole q) in
        subst P (sym (there i)) (place-fits (o.start + i) p.0 p.1)

  blocks-at : (c : ℕ) (block : CodeBlock) → slice_get own.blocks c ≡ Some block → IsBlockOf at c block l
  blocks-at c block e = block-of at f l all c block e

  -- a label of a branch names the block that it goes to
  label-of : (s : Setting) (r : Option Name) (o : Op) → Keeps s (item.Instr r o) → (i : ℕ) (m : Name) → slice_get (branch_labels o) i ≡ Some m
      → local_of s m ≡ Some (Block (block_code s m))
  label-of s r o keeps i m e =
      let known : is_block (local_of s m) ≡ true =
      no _ (each-at (λ n. not (is_block (local_of s n)) ≡ false) (branch_labels o) i m (branches s r o (keeps UnknownLabel)) e) in
      by (local_of s m) known
    where
      by : (v : Option Local) → is_block v ≡ true → v ≡ Some (Block (block_number v))
      by (Some (Block c)) g = refl
      by (Some (Value u r)) g = cc
      by (Some NoType) g = cc
      by None g = cc

  block-entries : (c d : ℕ) (block from : CodeBlock) (i : ℕ) → slice_get own.blocks c ≡ Some block → slice_get own.blocks d ≡ Some from
      → Contains (code.labels_of (code.instr_at whole (from.first + from.len - 1))) c → i < block.len → HasEntryFor d (code.instr_at whole (block.first + i))
  block-entries c d block from i e g goes m =
      let o = blocks-at c block e in
      let q = blocks-at d from g in
      let some = q.ended.some in
      let within = q.spans.within in
      let last = get-some l (q.start + from.len - 1) (omega arith) in
      let s = stood (q.start + from.len - 1) last.0 last.1 in
      let set = placed b last.0.before s.above in
      let there : from.first + from.len - 1 ≡ at + (q.start + from.len - 1) = (let first = q.first in omega arith) in
      let labels : code.labels_of (code.instr_at whole (from.first + from.len - 1)) ≡ map (block_code set) (branch_labels last.0.op) =
      ap (λ q. code.labels_of (code.instr_at whole q)) there ∙ ap code.labels_of s.instr ∙ same-labels set a last.0.op in
      let P : List ℕ → Type 0 = λ l. Contains l c in
      let found = contains-at (map (block_code set) (branch_labels last.0.op)) c (subst P labels goes) in
      let name = map-member (block_code set) (branch_labels last.0.op) found.0 c found.1 in
      let known = label-of set last.0.result last.0.op s.keeps found.0 name.0 name.1 in
      let owner = q.spans.owned (q.start + from.len - 1) last.0 (omega arith) (omega arith) last.1 in
      let edge = edge-of k empty_scope xs (q.start + from.len - 1) last.0 found.0 name.0 last.1 name.1 in
      let p = place-in c block o i m in
      let z = stood (o.start + i) p.0 p.1 in
      let own-set = placed b p.0.before z.above in
      let mine = o.spans.owned (o.start + i) p.0 (omega arith) (omega arith) p.1 in
      let edges : slice_get (edges_of k (function_items items (Some h))) edge.0 ≡ Some (d, name.0) =
      ap (λ (l : List Item). slice_get (edges_of k l) edge.0) items-are ∙ edge.1 ∙ ap (λ d. Some (d, name.0)) owner in
      let entry = entry-for own-set a c d name.0 edge.0 edges (known ∙ ap (λ c. Some (Block c)) name.2) p.0.result p.0.op z.keeps mine in
      let Q : Instr → Type 0 = HasEntryFor d in
      let along = ap (code.instr_at whole) (there-in c block o i) ∙ z.instr in
      subst Q (sym along) entry
    where
      there-in : (c : ℕ) (block : CodeBlock) (o : IsBlockOf at c block l) (i : ℕ) → block.first + i ≡ at + (o.start + i)
      there-in c block o i = there c block o i

  sound-block : (c : ℕ) (block : CodeBlock) → slice_get own.blocks c ≡ Some block → IsSoundBlock whole own c block
  sound-block c block e =
      let o = blocks-at c block e in
      let some = o.ended.some in
      record {
        some = omega arith;
        ends = block-ends c block o;
        phis_first = block-phis c block o;
        no_entry_phi = no-entry-phi c block o;
        fits = block-fits c block o;
        entries = λ d from i g goes m. block-entries c d block from i e g goes m;
      }

  -- ---- the function

  -- a place of the function, by its number in it
  pub place-of : (q : ℕ) → IsPlaceOf own q → (j : ℕ) × (p : Place) × (q ≡ at + j) × (slice_get l j ≡ Some p)
  place-of q w =
      let o = blocks-at w.number w.block w.is in
      let from = w.from in
      let below = w.below in
      let first = o.first in
      let within = o.spans.within in
      let p = get-some l (q - at) (omega arith) in
      (q - at, p.0, omega arith, p.1)

  result-of : (q r : ℕ) → IsPlaceOf own q → code.result_at whole q ≡ Some r → (j : ℕ) × (p : Place) × (q ≡ at + j) × (slice_get l j ≡ Some p)
      × (value_register p.before p.op ≡ Some r)
  result-of q r w e =
      let p = place-of q w in
      let s = stood p.0 p.1 p.3 in
      (p.0, p.1, p.2, p.3, sym s.result ∙ ap (code.result_at whole) (sym p.2) ∙ e)

  -- ---- registers

  abbrev head : Scope
  head = with_item k empty_scope (item.Head n t ps)

  abbrev param_types : List (Option TyScalar)
  param_types = map (λ (p : TyText × Option Name). k p.0) ps

  params-are : (qs : List (TyText × Option Name)) → map scalar_in (map (λ (p : TyText × Option Name). k p.0) qs) ≡ map
      (λ (p : TyText × Option Name). scalar_in (k p.0)) qs
  params-are [] = refl
  params-are (q ∷ qs) = ap (λ l. scalar_in (k q.0) ∷ l) (params-are qs)

  own-params : take (length own.params) own.types ≡ own.params
  own-params =
      let more = items-grow k (upto_end rest) head in
      let types : f.types ≡ param_types ++ more.0 = more.1 ∙ ap (λ (l : List (Option TyScalar)). l ++ more.0) (head-types k n t ps) in
      let whole-types : own.types ≡ own.params ++ map scalar_in more.0 =
      ap (map scalar_in) types ∙ map-append scalar_in param_types more.0 ∙ ap (λ l. l ++ map scalar_in more.0) (params-are ps) in
      ap (take (length own.params)) whole-types ∙ take_at own.params (map scalar_in more.0) (length own.params) refl

  own-beyond : (q r : ℕ) → IsPlaceOf own q → code.result_at whole q ≡ Some r → length own.params ≤ r
  own-beyond q r w e =
      let p = result-of q r w e in
      let number = register-is p.1.before p.1.op r p.4 in
      let grows = grows-length head.types p.1.before.types (place-before k head (upto_end rest) p.0 p.1 p.3) in
      let first = ap (λ (l : List (Option TyScalar)). length l) (head-types k n t ps) in
      omega (arith, length-map ps (λ (p : TyText × Option Name). k p.0), length-map ps (λ (p : TyText × Option Name). scalar_in (k p.0)))

  own-once : (q u r : ℕ) → IsPlaceOf own q → IsPlaceOf own u → code.result_at whole q ≡ Some r → code.result_at whole u ≡ Some r → q ≡ u
  own-once q u r v w d e =
      let p = result-of q r v d in
      let o = result-of u r w e in
      by (nat_lt p.0 o.0) refl (nat_lt o.0 p.0) refl (once k empty_scope xs p.0 o.0 r p.1 o.1 p.3 o.3 p.4 o.4)
      (once k empty_scope xs o.0 p.0 r o.1 p.1 o.3 p.3 o.4 p.4) p.2 o.2
    where
      by : {i j : ℕ} (c : Bool) → nat_lt i j ≡ c → (d : Bool) → nat_lt j i ≡ d → (i < j → ⊥) → (j < i → ⊥) → q ≡ at + i → u ≡ at + j → q ≡ u
      by true c d e f g a b = absurd (f (grind (arith, nat_tests)))
      by false c true e f g a b = absurd (g (grind (arith, nat_tests)))
      by {i} {j} false c false e f g a b =
          let first : j ≤ i = grind (arith, nat_tests) in
          let second : i ≤ j = grind (arith, nat_tests) in
          omega arith

  pub sound-function : IsSoundFunc whole own
  sound-function =
      let some = all.some in
      record {
        some = omega (arith, length-blocks at f.starts (length f.results));
        few = function-few b n t ps (upto_end rest) keeping body;
        typed = length-map f.types scalar_in;
        params = own-params;
        blocks = sound-block;
        beyond_params = own-beyond;
        once = own-once;
      }
