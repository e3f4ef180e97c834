-- One turn of the pass over the items that makes the code.
use Rattle.std.proofs.Common.{◌≡◌, ℕ, suc, ◌+◌, ◌-◌, ◌^◌, ◌<◌, ◌≤◌, Bool, false, List, [], ◌∷◌, ◌++◌, length, take, drop, get_or, Option, Some, None, slice_get, refl, sym, ap, subst, ◌∙◌, add-one}
use Rattle.std.proofs.lemmas.List.{append_assoc, drop_more, length-append, take_rest}
use Rattle.std.proofs.lemmas.Option.{slice_get-get_or}
use Rattle.am_base.specs.declared.limits.TheConstants.{MAX_FILE_BYTES, MAX_INSTRUCTIONS}
use Rattle.code_form.specs.declared.instr.Instr.{Instr}
use Rattle.code_form.specs.declared.sign.PortSign.{PortSign}
use Rattle.ir_tree.specs.declared.name.Name.{Name}
use Rattle.ir_tree.specs.declared.type_text.TyText.{TyText}
use Rattle.ir_tree.specs.declared.op.Op.{Op}
use Rattle.ir_tree.specs.declared.item.Item.{Item}
use Rattle.ir_tree.specs.declared.item.Item.TheVariants as item
use Rattle.ir_names.specs.Names.{firsts}
use Rattle.ir_rules.specs.declared.rule.Rule.TheVariants.{TypeTooLarge}
use Rattle.ir_rules.specs.declared.scope.Scope.{Scope}
use Rattle.ir_rules.specs.Types.{Kinds, TypeDefs, type_defs, kind_of}
use Rattle.ir_rules.specs.Scopes.{scope_of, value_register}
use Rattle.ir_rules.specs.Entities.{entities_of}
use Rattle.ir_rules.specs.Settings.{setting_of, head_of, function_items, items_before, upto_end}
use Rattle.ir_rules.specs.Memory.{Addresses, addresses_of}
use Rattle.ir_rules.specs.Codes.{op_code}
use Rattle.ir_rules.specs.Rules.{fault}
use Rattle.ir_rules.specs.Modules.{function_code, functions_from, instrs_from, results_from, code_of}
use Rattle.ir_rules.proofs.FirstFaults.{fault-none}
use Rattle.ir_sound.specs.Whole.{AreWhole}
use Rattle.ir_sound.proofs.Whole.{code-sound}
use Rattle.ir_pass.specs.declared.frame.Frame.{Frame}
use Rattle.ir_pass.specs.Heads.{opened}
use Rattle.ir_pass.specs.Frames.{Holds, body_at, prior_at, with_step, left}
use Rattle.ir_pass.proofs.Heads.{Stands, entered, passed}
use Rattle.ir_op_codes.specs.Alone.{code_alone}
use Rattle.ir_op_codes.proofs.Alike.{by-firsts}
use Rattle.ir_op_codes.proofs.Fitting.{op-fits}
use Rattle.ir_module.specs.declared.parts.Parts.{Parts}
use Rattle.ir_module.specs.declared.tables.Tables.{Tables}
use Rattle.ir_module.specs.Parts.{no_parts, with_function, with_instruction, code_in, with_code, HasRoom, CanCode}
use Rattle.ir_memory.proofs.Few.{AreFew, few-locals, few-registers, few-blocks}
use Rattle.ir_module.proofs.Rooms.{front-few, function-room, register-room}

one-more : {X : Type 0} (old new : List X) (x : X) (rest before : List X) → new ≡ old ++ x ∷ [] → before ≡ x ∷ rest → new ++ rest ≡ old ++ before
one-more old new x rest before e h =
    ap (λ l. l ++ rest) e ∙ append_assoc old (x ∷ []) rest ∙ ap (λ l. old ++ l) (sym h)

module _ (items : List Item) (signs : List PortSign) where
  abbrev D : TypeDefs
  D = type_defs items

  abbrev A : Addresses
  A = addresses_of D items

  -- what is done with what is left is the code of the module
  pub record IsSoFar (i : ℕ) (p : Parts) : Type 0 where
    pub funcs : p.funcs ++ functions_from D (length p.instrs) (drop i items) ≡ functions_from D 0 items
    pub instrs : p.instrs ++ instrs_from items signs A i (drop i items) ≡ instrs_from items signs A 0 items
    pub results : p.results ++ results_from items signs i (drop i items) ≡ results_from items signs 0 items

  pub begun : IsSoFar 0 no_parts
  begun = record { funcs = refl; instrs = refl; results = refl }

  -- behind an item that is nothing in the code
  abbrev Same : ℕ → Parts → Item → Type 0
  Same i p x =
      (functions_from D (length p.instrs) (x ∷ drop (i + 1) items) ≡ functions_from D (length p.instrs) (drop (i + 1) items))
      × (instrs_from items signs A i (x ∷ drop (i + 1) items) ≡ instrs_from items signs A (suc i) (drop (i + 1) items))
      × (results_from items signs i (x ∷ drop (i + 1) items) ≡ results_from items signs (suc i) (drop (i + 1) items))

  same-on : (i : ℕ) (p : Parts) (x : Item) → drop i items ≡ x ∷ drop (i + 1) items → Same i p x → IsSoFar i p → IsSoFar (i + 1) p
  same-on i p x d same so =
      let more = drop (i + 1) items in
      let next = add-one i in
      record {
        funcs = ap (λ l. p.funcs ++ l) (sym same.0) ∙ ap (λ l. p.funcs ++ functions_from D (length p.instrs) l) (sym d) ∙ so.funcs;
        instrs =
            ap (λ k. p.instrs ++ instrs_from items signs A k more) next
            ∙ ap (λ l. p.instrs ++ l) (sym same.1)
            ∙ ap (λ l. p.instrs ++ instrs_from items signs A i l) (sym d)
            ∙ so.instrs;
        results =
            ap (λ k. p.results ++ results_from items signs k more) next
            ∙ ap (λ l. p.results ++ l) (sym same.2)
            ∙ ap (λ l. p.results ++ results_from items signs i l) (sym d)
            ∙ so.results;
      }

  module _ (t : Tables) (f : Frame) (i : ℕ) (ports : t.ports.now ≡ signs) (entities : t.entities.now ≡ firsts (entities_of (kind_of D) items))
      (addresses : t.addresses.now ≡ firsts A) where
    -- the frame is that of the item
    pub record IsFrameAt (x : Item) : Type 0 where
      pub function : f.function ≡ (setting_of items signs i x).function
      pub before : f.before ≡ (setting_of items signs i x).before

    code-is : (r : Option Name) (o : Op) → IsFrameAt (item.Instr r o) → code_in D t f o ≡ op_code (setting_of items signs i (item.Instr r o)) A o
    code-is r o at =
        (λ j. op_code (code_alone D (at.function j).table (entities j) (ports j)) (addresses j) o)
        ∙ sym (by-firsts (setting_of items signs i (item.Instr r o)) A o refl)

    head-on : (p : Parts) (n : Name) (ty : TyText) (ps : List (TyText × Option Name)) → IsFrameAt (item.Head n ty ps)
        → drop i items ≡ item.Head n ty ps ∷ drop (i + 1) items → IsSoFar i p → IsSoFar (i + 1) (with_function D p f.function n ty ps)
    head-on p n ty ps at d so =
        let more = drop (i + 1) items in
        let next = add-one i in
        let own = function_code D (length p.instrs) n ty ps f.function in
        let scopes : f.function ≡ scope_of (kind_of D) (upto_end (item.Head n ty ps ∷ more)) =
        at.function ∙ ap (λ l. scope_of (kind_of D) (upto_end l)) d in
        let here : functions_from D (length p.instrs) (drop i items) ≡ own ∷ functions_from D (length p.instrs) more =
        ap (functions_from D (length p.instrs)) d
        ∙ ap (λ s. function_code D (length p.instrs) n ty ps s ∷ functions_from D (length p.instrs) more) (sym scopes) in
        record {
          funcs = one-more p.funcs (p.funcs ++ own ∷ []) own (functions_from D (length p.instrs) more) (functions_from D (length p.instrs) (drop i items)) refl here ∙ so.funcs;
          instrs = ap (λ k. p.instrs ++ instrs_from items signs A k more) next ∙ ap (λ l. p.instrs ++ instrs_from items signs A i l) (sym d) ∙ so.instrs;
          results = ap (λ k. p.results ++ results_from items signs k more) next ∙ ap (λ l. p.results ++ results_from items signs i l) (sym d) ∙ so.results;
        }

    instr-on : (p : Parts) (r : Option Name) (o : Op) → IsFrameAt (item.Instr r o) → drop i items ≡ item.Instr r o ∷ drop (i + 1) items → IsSoFar i p
        → IsSoFar (i + 1) (with_instruction p (code_in D t f o) (value_register f.before o))
    instr-on p r o at d so =
        let x = item.Instr r o in
        let more = drop (i + 1) items in
        let next = add-one i in
        let code = code_in D t f o in
        let register = value_register f.before o in
        let long : length (p.instrs ++ code ∷ []) ≡ suc (length p.instrs) = length-append p.instrs (code ∷ []) ∙ add-one (length p.instrs) in
        let instr : instrs_from items signs A i (drop i items) ≡ code ∷ instrs_from items signs A (suc i) more =
        ap (instrs_from items signs A i) d ∙ ap (λ c. c ∷ instrs_from items signs A (suc i) more) (sym (code-is r o at)) in
        let result : results_from items signs i (drop i items) ≡ register ∷ results_from items signs (suc i) more =
        ap (results_from items signs i) d ∙ ap (λ (s : Scope). value_register s o ∷ results_from items signs (suc i) more) (sym at.before) in
        record {
          funcs = ap (λ k. p.funcs ++ functions_from D k more) long ∙ ap (λ l. p.funcs ++ functions_from D (length p.instrs) l) (sym d) ∙ so.funcs;
          instrs =
              ap (λ k. (p.instrs ++ code ∷ []) ++ instrs_from items signs A k more) next
              ∙ one-more p.instrs (p.instrs ++ code ∷ []) code (instrs_from items signs A (suc i) more) (instrs_from items signs A i (drop i items)) refl instr
              ∙ so.instrs;
          results =
              ap (λ k. (p.results ++ register ∷ []) ++ results_from items signs k more) next
              ∙ one-more p.results (p.results ++ register ∷ []) register (results_from items signs (suc i) more) (results_from items signs i (drop i items)) refl result
              ∙ so.results;
        }

    pub goes-on : (p : Parts) (x : Item) → IsFrameAt x → drop i items ≡ x ∷ drop (i + 1) items → IsSoFar i p → IsSoFar (i + 1) (with_code D t p f x)
    goes-on p (item.Head n ty ps) at d so = head-on p n ty ps at d so
    goes-on p (item.Instr r o) at d so = instr-on p r o at d so
    goes-on p (item.TypeDef n ty) at d so = same-on i p (item.TypeDef n ty) d (refl, refl, refl) so
    goes-on p (item.Global n c ty v) at d so = same-on i p (item.Global n c ty v) d (refl, refl, refl) so
    goes-on p (item.Declare n ty ts) at d so = same-on i p (item.Declare n ty ts) d (refl, refl, refl) so
    goes-on p (item.Label n) at d so = same-on i p (item.Label n) d (refl, refl, refl) so
    goes-on p item.End at d so = same-on i p item.End d (refl, refl, refl) so

    -- ---- what the item asks for

    module _ (whole : AreWhole false items) (faultless : fault items signs ≡ None) (few : length items ≤ MAX_FILE_BYTES) where
      instrs-few : (p : Parts) → IsSoFar i p → length p.instrs ≤ MAX_INSTRUCTIONS
      instrs-few p so =
          front-few (code_of items signs) p.instrs (instrs_from items signs A i (drop i items)) (code-sound items signs whole faultless) so.instrs

      pub can-code : (p : Parts) (x : Item) → IsFrameAt x → drop i items ≡ x ∷ drop (i + 1) items → slice_get items i ≡ Some x → IsSoFar i p → CanCode D p f x
      can-code p (item.Head n ty ps) at d there so =
          let s = scope_of (kind_of D) (upto_end (drop i items)) in
          let here : functions_from D (length p.instrs) (drop i items)
          ≡ function_code D (length p.instrs) n ty ps s ∷ functions_from D (length p.instrs) (drop (i + 1) items) =
          ap (functions_from D (length p.instrs)) d
          ∙ ap (λ l. function_code D (length p.instrs) n ty ps (scope_of (kind_of D) (upto_end l)) ∷ functions_from D (length p.instrs) (drop (i + 1) items)) (sym d) in
          let room =
          function-room (code_of items signs) items (code-sound items signs whole faultless) few D (kind_of D) p.funcs
          (functions_from D (length p.instrs) (drop (i + 1) items)) (length p.instrs) i n ty ps (instrs-few p so) (ap (λ l. p.funcs ++ l) (sym here) ∙ so.funcs) in
          subst (HasRoom (length p.instrs)) (sym at.function) room
      can-code p (item.Instr r o) at d there so =
          let names : AreFew f.function = subst AreFew (sym at.function) (few-locals items signs whole faultless i) in
          record {
            fits = op-fits D r o (fault-none items signs i (item.Instr r o) TypeTooLarge faultless there);
            register = λ h. subst (λ (s : Scope). length s.types < 2 ^ 32) (sym at.before) (register-room items signs i r o faultless there h);
            small = record { registers = few-registers f.function names; blocks = few-blocks f.function names };
          }
      can-code p (item.TypeDef n ty) at d there so = tt
      can-code p (item.Global n c ty v) at d there so = tt
      can-code p (item.Declare n ty ts) at d there so = tt
      can-code p (item.Label n) at d there so = tt
      can-code p item.End at d there so = tt

-- ---- coming to an item, and going on

module _ (items : List Item) (kind : Kinds) (same : ◌≡◌ {A = Kinds} kind (kind_of (type_defs items))) (i : ℕ) (x : Item) (h : i < length items) (e : x ≡ get_or items i x)
    (inside : Bool) (old f : Frame) (stands : Stands kind items i inside old)
    (came : (body prior : List Item) → Holds kind body prior old
    → Holds kind (body_at body (take (length items - i) (drop i items))) (prior_at prior (take (length items - i) (drop i items))) f) where
  holds : Holds kind (function_items items (head_of items i x)) (items_before items i (head_of items i x)) f
  holds =
      let P : List Item → Type 0 = λ l. (body prior : List Item) → Holds kind body prior old → Holds kind (body_at body l) (prior_at prior l) f in
      entered kind items i x h e inside old f stands (subst P (take_rest items i) came)

  pub dropped : drop i items ≡ x ∷ drop (i + 1) items
  dropped = drop_more items i x h ∙ ap (λ y. y ∷ drop (i + 1) items) (sym e)

  pub there : slice_get items i ≡ Some x
  there = slice_get-get_or items i x h ∙ ap Some (sym e)

  pub frame-at : (signs : List PortSign) (t : Tables) (ports : t.ports.now ≡ signs) (entities : t.entities.now ≡ firsts (entities_of (kind_of (type_defs items)) items))
      (addresses : t.addresses.now ≡ firsts (addresses_of (type_defs items) items)) → IsFrameAt items signs t f i ports entities addresses x
  frame-at signs t ports entities addresses = record {
    function = holds.function ∙ ap (λ k. scope_of k (function_items items (head_of items i x))) same;
    before = holds.before ∙ ap (λ k. scope_of k (items_before items i (head_of items i x))) same;
  }

  pub passes : Stands kind items (i + 1) (opened inside x) (left (opened inside x) (with_step kind f x) x)
  passes = passed kind items i x h e inside old f stands holds
