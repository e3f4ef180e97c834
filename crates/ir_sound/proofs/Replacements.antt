-- A replacement that is accepted for a place of the code of a module that keeps the rules fits that place.
use Rattle.std.proofs.Common.{◌≡◌, ℕ, suc, ◌+◌, ◌<◌, Bool, true, false, not, ◌&&◌, ◌||◌, List, [], ◌∷◌, map, length, drop, slice_get}
use Rattle.std.proofs.Common.{Option, Some, None, unwrap_or, if◌then◌else◌, refl, sym, ap, ◌∙◌, subst}
use Rattle.std.specs.List.{list_any, list_all, Contains}
use Rattle.std.proofs.lemmas.Option.{slice_get_within}
use Rattle.code_form.specs.declared.code.Func.{Func}
use Rattle.code_form.specs.declared.code.Code.{Code}
use Rattle.code_form.specs.declared.instr.Instr.{Instr}
use Rattle.code_form.specs.declared.instr.Instr.TheVariants.{Unreachable}
use Rattle.code_form.specs.declared.sign.PortSign.{PortSign}
use Rattle.code_form.specs.Places as code
use Rattle.code_form.specs.Sound.{InstrFits, IsPlaceOf}
use Rattle.code_form.specs.Fit.{FitsPlace}
use Rattle.ir_tree.specs.declared.name.Name.{Name}
use Rattle.ir_tree.specs.declared.type_text.TyText.{TyText}
use Rattle.ir_tree.specs.declared.op.Op.{Op}
use Rattle.ir_tree.specs.declared.op.Op.TheVariants as op
use Rattle.ir_tree.specs.declared.item.Item.{Item}
use Rattle.ir_tree.specs.declared.item.Item.TheVariants as item
use Rattle.ir_tree.specs.declared.item.Module.{Module}
use Rattle.ir_names.specs.Names.{same_name}
use Rattle.ir_names.proofs.Defined.{same-eq}
use Rattle.ir_rules.specs.Types.{type_defs, kind_of}
use Rattle.ir_rules.specs.Scopes.{is_phi, is_terminator, value_kind, empty_scope, scope_of}
use Rattle.ir_rules.specs.Parts.{branch_labels}
use Rattle.ir_rules.specs.Settings.{Setting, setting_of, upto_end}
use Rattle.ir_rules.specs.Rules.{fault, breaks_in}
use Rattle.ir_rules.specs.Memory.{Addresses, addresses_of}
use Rattle.ir_rules.specs.Codes.{op_code, block_code}
use Rattle.ir_rules.specs.Modules.{code_of, function_code, instrs_from}
use Rattle.ir_rules.specs.Replacements.{Original, original_from, is_alloca, stays_as_it_is, ends_otherwise, replacement_rules, breaks_there}
use Rattle.ir_rules.specs.Replacements.{is_misfit, replacement_for, replacement}
use Rattle.ir_sound.specs.Whole.{AreWhole}
use Rattle.ir_sound.proofs.Lists.{no, neither, none-each, get-one, contains-at, at-contains}
use Rattle.ir_sound.proofs.Places.{Place, places_in, placed, KeepsOp, KeptFrom, IsBody}
use Rattle.ir_sound.proofs.Walk.{Coded, function-of, originals_from, original-is, original-instr, base}
use Rattle.ir_sound.proofs.Edges.{same-phi, same-terminator, same-labels, map-member, member-map, all-member}
use Rattle.ir_sound.proofs.InstrsFit.{same-result}
use Rattle.ir_sound.proofs.Functions.{stood, place-of, replaced-fits}
use Rattle.ir_sound.proofs.Whole.{code-sound}
use Rattle.ir_sound.proofs.Replaced.{sound-new}

same-alloca : (s : Setting) (a : Addresses) (o : Op) → code.is_alloca (op_code s a o) ≡ is_alloca o
same-alloca s a (op.Bin o t x y) = refl
same-alloca s a (op.Cmp p t x y) = refl
same-alloca s a (op.Select c i t x u y) = refl
same-alloca s a (op.Cast c t x to) = refl
same-alloca s a (op.Freeze t x) = refl
same-alloca s a (op.Alloca t n) = refl
same-alloca s a (op.Load t u x) = refl
same-alloca s a (op.Store t x u y) = refl
same-alloca s a (op.Get of t x is) = refl
same-alloca s a (op.Phi t es) = refl
same-alloca s a (op.Call t f xs) = refl
same-alloca s a (op.Jump n) = refl
same-alloca s a (op.Branch t c x y) = refl
same-alloca s a (op.Switch t x n cs) = refl
same-alloca s a (op.Ret v) = refl
same-alloca s a op.Unreachable = refl

both-end : (p q : Bool) → ((p && not q) || (not p && q)) ≡ false → q ≡ p
both-end true true h = refl
both-end true false h = cc
both-end false true h = cc
both-end false false h = refl

any-member : {X : Type 0} (p : X → Bool) (xs : List X) → list_any p xs ≡ true → (i : ℕ) × (x : X) × (slice_get xs i ≡ Some x) × (p x ≡ true)
any-member p [] h = cc
any-member {X} p (x ∷ xs) h = by (p x) refl h (any-member p xs)
  where
    by : (b : Bool) → p x ≡ b → (b || list_any p xs) ≡ true → (list_any p xs ≡ true → (i : ℕ) × (y : X) × (slice_get xs i ≡ Some y) × (p y ≡ true))
        → (i : ℕ) × (y : X) × (slice_get (x ∷ xs) i ≡ Some y) × (p y ≡ true)
    by true e g rest = (0, x, refl, e)
    by false e g rest = (let there = rest g in (suc there.0, there.1, there.2, there.3))

-- the rules that are asked of a replacement are all that its own parts are judged by
keeps-there : (s : Setting) (r : Option Name) (o : Op) → breaks_there s r o ≡ false → KeepsOp s (item.Instr r o)
keeps-there s r o h =
    let all = none-each (breaks_in s (item.Instr r o)) replacement_rules h in
    record {
      scalar = all.1.1.1.0;
      types = all.1.1.1.1.1.0;
      large = all.1.1.0;
      label = all.1.1.1.1.1.1.1.0;
      callee = all.1.1.1.1.1.1.1.1.0;
      call = all.1.1.1.1.1.1.1.1.1.0;
      returned = all.1.1.1.1.1.1.1.1.1.1.0;
      cases = all.1.1.1.1.1.1.1.1.1.1.1.0;
      entry = all.1.1.1.1.1.1.1.1.1.1.1.1.1.1.0;
      cast = all.1.1.1.1.1.1.1.1.1.1.1.1.1.1.1.0;
    }

module _ (items : List Item) (signs : List PortSign) (whole : AreWhole false items) (faultless : fault items signs ≡ None) (place : ℕ) (original : Original)
    (o : Op)
    (there : slice_get (originals_from 0 items) place ≡ Some original) where
  abbrev a : Addresses
  a = addresses_of (type_defs items) items

  abbrev made : Code
  made = code_of items signs

  abbrev s : Setting
  s = setting_of items signs original.at (item.Instr original.result original.instruction)

  old-instr : code.instr_at made place ≡ op_code s a original.instruction
  old-instr = ap (λ (i : Option Instr). unwrap_or i Unreachable) (original-instr items signs a 0 items place original there)

  within : place < length made.instrs
  within = slice_get_within (instrs_from items signs a 0 items) place _ (original-instr items signs a 0 items place original there)

  module _ (fine : is_misfit s original o ≡ false) where
    stays : (stays_as_it_is original.instruction || stays_as_it_is o) ≡ false
    stays = (neither _ _ (neither _ _ (neither _ _ (neither _ (breaks_there s original.result o) fine).0).0).0).0

    old-stays : stays_as_it_is original.instruction ≡ false
    old-stays = (neither (stays_as_it_is original.instruction) (stays_as_it_is o) stays).0

    new-stays : stays_as_it_is o ≡ false
    new-stays = (neither (stays_as_it_is original.instruction) (stays_as_it_is o) stays).1

    ends : ends_otherwise original.instruction o ≡ false
    ends = (neither _ _ (neither _ _ (neither _ _ (neither _ (breaks_there s original.result o) fine).0).0).0).1

    gives : value_kind s.kind original.instruction ≡ value_kind s.kind o
    gives = same-result _ _ (no _ (neither _ _ (neither _ _ (neither _ (breaks_there s original.result o) fine).0).0).1)

    goes : list_all (λ n. list_any (same_name n) (branch_labels original.instruction)) (branch_labels o) ≡ true
    goes = no _ (neither _ _ (neither _ (breaks_there s original.result o) fine).0).1

    breaks : breaks_there s original.result o ≡ false
    breaks = (neither _ (breaks_there s original.result o) fine).1

    new-labels : (b : ℕ) → Contains (code.labels_of (op_code s a o)) b → Contains (code.labels_of (code.instr_at made place)) b
    new-labels b h =
        let P : List ℕ → Type 0 = λ l. Contains l b in
        let found = contains-at (map (block_code s) (branch_labels o)) b (subst P (same-labels s a o) h) in
        let name = map-member (block_code s) (branch_labels o) found.0 b found.1 in
        let known = all-member (λ n. list_any (same_name n) (branch_labels original.instruction)) (branch_labels o) found.0 name.0 goes name.1 in
        let other = any-member (same_name name.0) (branch_labels original.instruction) known in
        let same = same-eq name.0 other.1 other.3 in
        let mapped = member-map (block_code s) (branch_labels original.instruction) other.0 other.1 other.2 in
        let here : slice_get (map (block_code s) (branch_labels original.instruction)) other.0 ≡ Some b =
        mapped ∙ ap (λ n. Some (block_code s n)) (sym same) ∙ ap Some name.2 in
        let Q : Instr → Type 0 = λ i. Contains (code.labels_of i) b in
        subst Q (sym old-instr) (subst P (sym (same-labels s a original.instruction)) (at-contains _ b other.0 here))

    module _ (h at : ℕ) (n : Name) (t : TyText) (ps : List (TyText × Option Name)) (rest : List Item) (begins : drop h items ≡ item.Head n t ps ∷ rest)
        (body : IsBody (upto_end rest)) (keeping : KeptFrom (base items signs faultless h) empty_scope (item.Head n t ps ∷ upto_end rest))
        (coded : (k : ℕ) (p : Place) → slice_get (places_in (kind_of (type_defs items)) empty_scope (item.Head n t ps ∷ upto_end rest)) k ≡ Some p
        → Coded items signs faultless h (originals_from 0 items) p (at + k)) where
      abbrev own : Func
      own = function_code (type_defs items) at n t ps (scope_of (kind_of (type_defs items)) (item.Head n t ps ∷ upto_end rest))

      own-fits : IsPlaceOf own place → InstrFits made own (code.result_at made place) (op_code s a o)
      own-fits is =
          let q = place-of items signs faultless h at n t ps rest begins body keeping coded place is in
          let z = stood items signs faultless h at n t ps rest begins body keeping coded q.0 q.1 q.3 in
          let mine : original ≡ record { at = z.number; result = q.1.result; instruction = q.1.op } =
          get-one (originals_from 0 items) place original _ there (ap (slice_get (originals_from 0 items)) q.2 ∙ z.original) in
          let setting : s ≡ placed (base items signs faultless h) q.1.before z.above =
          ap (λ (o : Original). setting_of items signs o.at (item.Instr o.result o.instruction)) mine ∙ z.setting in
          let set = placed (base items signs faultless h) q.1.before z.above in
          let P : Setting → Type 0 = λ v. KeepsOp v (item.Instr original.result o) in
          let R : Option Name → Type 0 = λ r. KeepsOp set (item.Instr r o) in
          let keeps : KeepsOp set (item.Instr q.1.result o) =
          subst R (ap (λ (o : Original). o.result) mine) (subst P setting (keeps-there s original.result o breaks)) in
          let same : value_kind (kind_of (type_defs items)) q.1.op ≡ value_kind (kind_of (type_defs items)) o =
          ap (λ (o : Original). value_kind (kind_of (type_defs items)) o.instruction) (sym mine) ∙ gives in
          let new = replaced-fits items signs faultless h at n t ps rest begins body keeping coded q.0 q.1 o z.above q.3 keeps same in
          let Q : ℕ → Type 0 = λ w. InstrFits made own (code.result_at made w) (op_code set a o) in
          let T : Instr → Type 0 = λ i. InstrFits made own (code.result_at made place) i in
          subst T (ap (λ v. op_code v a o) (sym setting)) (subst Q (sym q.2) new)

    fits-place : (g : ℕ) (f : Func) → slice_get made.funcs g ≡ Some f → IsPlaceOf f place → InstrFits made f (code.result_at made place) (op_code s a o)
    fits-place g f e is =
        let found = function-of items signs faultless whole g f e in
        let it = found.function in
        let P : Func → Type 0 = λ f. IsPlaceOf f place in
        let Q : Func → Type 0 = λ f. InstrFits made f (code.result_at made place) (op_code s a o) in
        subst Q (sym it.is) (own-fits found.h found.at it.name it.type_of it.params it.rest it.begins it.body it.keeping it.coded (subst P it.is is))

    pub fits : FitsPlace made place (op_code s a o)
    fits =
        let phi : code.is_phi (op_code s a o) ≡ false = same-phi s a o ∙ (neither _ _ new-stays).0 in
        let old-phi : code.is_phi (code.instr_at made place) ≡ false =
        ap code.is_phi old-instr ∙ same-phi s a original.instruction ∙ (neither _ _ old-stays).0 in
        let terminates : code.is_terminator (op_code s a o) ≡ code.is_terminator (code.instr_at made place) =
        same-terminator s a o ∙ both-end (is_terminator original.instruction) (is_terminator o) ends
        ∙ sym (ap code.is_terminator old-instr ∙ same-terminator s a original.instruction) in
        record {
          within = within;
          no_phi = phi;
          no_alloca = same-alloca s a o ∙ (neither (is_phi o) _ new-stays).1;
          original_no_phi = old-phi;
          original_no_alloca = ap code.is_alloca old-instr ∙ same-alloca s a original.instruction ∙ (neither (is_phi original.instruction) _ old-stays).1;
          terminates = terminates;
          labels = new-labels;
          sound = sound-new made place (op_code s a o) within phi old-phi terminates new-labels fits-place (code-sound items signs whole faultless);
        }

misfit-fits : (items : List Item) (signs : List PortSign) → AreWhole false items → fault items signs ≡ None
    → (place : ℕ) (original : Option Original) (o : Op) (i : Instr)
    → slice_get (originals_from 0 items) place ≡ original → replacement_for items signs original o ≡ Some i → FitsPlace (code_of items signs) place i
misfit-fits items signs w f place None o i e h = cc
misfit-fits items signs w f place (Some original) o i e h =
    by (is_misfit (setting_of items signs original.at (item.Instr original.result original.instruction)) original o) refl h
  where
    by : (b : Bool) → is_misfit (setting_of items signs original.at (item.Instr original.result original.instruction)) original o ≡ b
        → (if b then None else Some (op_code (setting_of items signs original.at (item.Instr original.result original.instruction))
        (addresses_of (type_defs items) items) o)) ≡ Some i
        → FitsPlace (code_of items signs) place i
    by true m g = cc
    by false m g =
        let same : op_code (setting_of items signs original.at (item.Instr original.result original.instruction)) (addresses_of (type_defs items) items) o ≡ i =
        cc in
        let P : Instr → Type 0 = FitsPlace (code_of items signs) place in
        subst P same (fits items signs w f place original o e m)

pub replacement-fits : (m : Module) (signs : List PortSign) (place : ℕ) (x : Item) (i : Instr) → AreWhole false m.items → fault m.items signs ≡ None
    → replacement m (code_of m.items signs) place x ≡ Some i → FitsPlace (code_of m.items signs) place i
replacement-fits m signs place (item.Instr r o) i w f h = misfit-fits m.items signs w f place (original_from 0 place m.items) o i
    (sym (original-is 0 m.items place)) h
replacement-fits m signs place (item.TypeDef n t) i w f h = cc
replacement-fits m signs place (item.Global n c t v) i w f h = cc
replacement-fits m signs place (item.Declare n t ts) i w f h = cc
replacement-fits m signs place (item.Head n t ps) i w f h = cc
replacement-fits m signs place (item.Label n) i w f h = cc
replacement-fits m signs place item.End i w f h = cc
