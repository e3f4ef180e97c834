-- An instruction that keeps the rules fits the code, form by form.
use Rattle.std.proofs.Common.{◌≡◌, inl, inr, ℕ, zero, suc, ◌+◌, ◌<◌, ◌≤◌, ◌^◌, Bool, true, false, not, List, [], ◌∷◌, length, map}
use Rattle.std.proofs.Common.{slice_get, Option, Some, None, is_some, nat_eq, unwrap_or, refl, sym, ap, ◌∙◌, subst, arith, if◌then◌else◌, codes}
use Rattle.std.specs.Option.{option_map}
use Rattle.std.specs.List.{list_any, flat_map}
use Rattle.std.specs.Cmp.Lexicographic.{pointwise}
use Rattle.am_base.specs.declared.word.Width.{Width}
use Rattle.am_base.specs.declared.word.Width.TheVariants.{W1, W32, W64}
use Rattle.am_base.specs.declared.word.Cast.{Cast}
use Rattle.am_base.specs.declared.limits.TheConstants.{MAX_TYPE_BYTES}
use Rattle.am_base.specs.Word.{IsWord}
use Rattle.code_form.specs.declared.code.TyScalar.{TyScalar}
use Rattle.code_form.specs.declared.code.TyScalar.TheVariants.{Int, Ptr}
use Rattle.code_form.specs.declared.code.Func.{Func}
use Rattle.code_form.specs.declared.code.Code.{Code}
use Rattle.code_form.specs.declared.sign.PortSign.{PortSign}
use Rattle.code_form.specs.declared.instr.Operand.{Operand}
use Rattle.code_form.specs.declared.instr.Callee.{Callee}
use Rattle.code_form.specs.declared.instr.Callee.TheVariants.{Func as CallFunc, Port, PutChar, GetChar, Exit, Abort}
use Rattle.code_form.specs.Sound.{HasType, HasWidth, HaveTypes, Gives, GivesWidth, GivesMaybe, IsInteger, IsTarget, InstrFits, result_type}
use Rattle.code_form.specs.Sound.{CallFits}
use Rattle.ir_tree.specs.declared.name.Name.{Name}
use Rattle.ir_tree.specs.declared.type_text.TyText.{TyText}
use Rattle.ir_tree.specs.declared.type_text.TyText.TheVariants as text
use Rattle.ir_tree.specs.declared.operand.Opd.{Opd}
use Rattle.ir_tree.specs.declared.operand.Opd.TheVariants as opd
use Rattle.ir_tree.specs.declared.op.Op.{Op}
use Rattle.ir_tree.specs.declared.op.Op.TheVariants as op
use Rattle.ir_tree.specs.declared.item.Item.TheVariants as item
use Rattle.ir_rules.specs.declared.local.Local.{Local}
use Rattle.ir_rules.specs.declared.local.Local.TheVariants.{Value, NoType, Block}
use Rattle.ir_rules.specs.declared.entity.Entity.{Entity}
use Rattle.ir_rules.specs.declared.entity.Entity.TheVariants.{Defined, Declared, Variable}
use Rattle.ir_rules.specs.declared.entity.Signature.{Signature}
use Rattle.ir_rules.specs.Types.{expanded, result_kind}
use Rattle.ir_rules.specs.Scopes.{value_kind}
use Rattle.ir_rules.specs.Parts.{Typed, op_labels, branch_labels}
use Rattle.ir_rules.specs.Entities.{name_bytes, signature_of, same_result}
use Rattle.ir_rules.specs.Settings.{Setting, local_of, entity_of}
use Rattle.ir_rules.specs.Operands.{no_integer, no_pointer, no_condition}
use Rattle.ir_rules.specs.Blocks.{is_block, is_first, block_number}
use Rattle.ir_rules.specs.Calls.{is_text, known_callee, port_from, outside, callee_signature, port_signature, sign_signature, same_signature, differs_from}
use Rattle.ir_rules.specs.Calls.{is_callee, has_other_signature}
use Rattle.ir_rules.specs.Calls.{returned_kind}
use Rattle.ir_rules.specs.Paths.{kind_width, Case, no_case}
use Rattle.ir_rules.specs.Memory.{Addresses, Step, scaled, field, steps_of, literal_part}
use Rattle.ir_rules.specs.Codes.{scalar_in, typed_code, width_in, block_code, count_code, index_code, entries_code, case_code, callee_code, op_code}
use Rattle.ir_sound.proofs.Lists.{no, neither, both, Each, none-each, each-map, map-each, each-append, each-weaker, each-both, all-each}
use Rattle.ir_sound.proofs.Places.{KeepsOp}
use Rattle.ir_sound.proofs.Layouts.{aligned, small, size-most, StepFrom, steps-each}
use Rattle.ir_sound.proofs.Operands.{kind-same, kinds-same, one-fits, word-fits, integer, pointer, condition, call-result, Lays, Fine, Known}
use Rattle.ir_sound.proofs.Operands.{typed-as, wide, typed-each, known, operands, taken, large}
use Rattle.ir_sound.proofs.Ops.{Good, Entry, all-distinct, all-once, cast-fits, case-word, cases-distinct}

-- what an instruction's function and code are, by what its names stand for
pub record Stage (code : Code) (f : Func) (s : Setting) (addresses : Addresses) : Type 0 where
  pub lays : Lays s addresses f.types
  pub bit : s.kind (text.Int W1) ≡ Some (Int W1)
  pub address : s.kind text.Ptr ≡ Some Ptr
  pub blocks : (n : Name) (b : ℕ) → local_of s n ≡ Some (Block b) → b < length f.blocks
  pub result : f.result ≡ option_map scalar_in s.result
  pub ports : code.signs ≡ s.signs
  pub functions : (n : Name) (k : ℕ) (sign : Signature) → entity_of s n ≡ Some (Defined k sign)
      → (g : Func) × (slice_get code.funcs k ≡ Some g) × (g.params ≡ map scalar_in sign.params) × (g.result ≡ option_map scalar_in sign.result)
  pub declared : (n : Name) (sign : Signature) → entity_of s n ≡ Some (Declared sign)
      → differs_from sign (callee_signature s.signs (known_callee s.signs (name_bytes n))) ≡ false

-- the register of an instruction is of the type of its value
abbrev pub Writes : List TyScalar → Option ℕ → Option (Option TyScalar) → Type 0
Writes types r None = r ≡ None
Writes types r (Some k) = Gives types r (scalar_in k)

-- ---- calls of ports

port-is : (p : ℕ) (signs : List PortSign) (name : List ℕ) (c : Callee) → port_from p signs name ≡ Some c
    → (j : ℕ) × (c ≡ Port (p + j)) × ((sign : PortSign) × (slice_get signs j ≡ Some sign))
port-is p [] name c h = cc
port-is p (sign ∷ more) name c h = by (pointwise nat_eq sign.name name) (port-is (suc p) more name c) h
  where
    by : (b : Bool) → (port_from (suc p) more name ≡ Some c → (j : ℕ) × (c ≡ Port (suc p + j)) × ((sign : PortSign) × (slice_get more j ≡ Some sign)))
        → (if b then Some (Port p) else port_from (suc p) more name) ≡ Some c
        → (j : ℕ) × (c ≡ Port (p + j)) × ((s : PortSign) × (slice_get (sign ∷ more) j ≡ Some s))
    by true rest e = let same : Port p ≡ c = cc in (0, sym same ∙ ap Port (omega arith), (sign, refl))
    by false rest e = let there = rest e in (suc there.0, there.1 ∙ ap Port (omega arith), there.2)

-- a callee that is known by its name is an outside function, or one of the ports
abbrev IsKnown : List PortSign → Callee → Type 0
IsKnown signs (CallFunc k) = ⊥
IsKnown signs (Port p) = (sign : PortSign) × (slice_get signs p ≡ Some sign)
IsKnown signs _ = Unit {0}

outside-by : (signs : List PortSign) (x : Callee) (a b c d : Bool)
    → (if a then Some PutChar else (if b then Some GetChar else (if c then Some Exit else (if d then Some Abort else None)))) ≡ Some x → IsKnown signs x
outside-by signs x true b c d h = let same : PutChar ≡ x = cc in let P : Callee → Type 0 = IsKnown signs in subst P same tt
outside-by signs x false true c d h = let same : GetChar ≡ x = cc in let P : Callee → Type 0 = IsKnown signs in subst P same tt
outside-by signs x false false true d h = let same : Exit ≡ x = cc in let P : Callee → Type 0 = IsKnown signs in subst P same tt
outside-by signs x false false false true h = let same : Abort ≡ x = cc in let P : Callee → Type 0 = IsKnown signs in subst P same tt
outside-by signs x false false false false h = cc

outside-known : (signs : List PortSign) (name : List ℕ) (c : Callee) → outside name ≡ Some c → IsKnown signs c
outside-known signs name c h = outside-by signs c (is_text name (codes "putchar")) (is_text name (codes "getchar")) (is_text name (codes "exit"))
    (is_text name (codes "abort")) h

known-is : (signs : List PortSign) (name : List ℕ) (c : Callee) → known_callee signs name ≡ Some c → IsKnown signs c
known-is signs name c h = by (outside name) refl h
  where
    by : (o : Option Callee) → outside name ≡ o → elim o as (λ v. Option Callee) [ None ↦ port_from 0 signs name | Some d ↦ Some d ] ≡ Some c → IsKnown signs c
    by (Some d) e g = outside-known signs name c (e ∙ g)
    by None e g =
        let port = port-is 0 signs name c g in
        let here : 0 + port.0 ≡ port.0 = omega arith in
        let P : Callee → Type 0 = IsKnown signs in
        subst P (sym (port.1 ∙ ap Port here)) port.2

-- ---- results

same-scalar : (o : Option TyScalar) (a b : TyScalar) → o ≡ Some a → o ≡ Some b → a ≡ b
same-scalar o a b e h = let same : ◌≡◌ {A = Option TyScalar} (Some a) (Some b) = sym e ∙ h in cc

pub same-result : (a b : Option (Option TyScalar)) → same_result a b ≡ true → a ≡ b
same-result None None h = refl
same-result (Some t) (Some u) h = ap Some (kind-same t u h)
same-result None (Some u) h = cc
same-result (Some t) None h = cc

words-in : (ws : List Width) → map scalar_in (map (λ w. Some (Int w)) ws) ≡ map (λ w. Int w) ws
words-in [] = refl
words-in (w ∷ ws) = ap (λ l. Int w ∷ l) (words-in ws)

port-result : (o : Option Width) → option_map scalar_in (option_map (λ w. Some (Int w)) o) ≡ result_type o
port-result None = refl
port-result (Some w) = refl

module _ (code : Code) (f : Func) (s : Setting) (addresses : Addresses) (stage : Stage code f s addresses) (r : Option ℕ) where
  gives-known : (t : TyText) (k : TyScalar) → s.kind t ≡ Some k → Gives f.types r (scalar_in (s.kind t)) → Gives f.types r k
  gives-known t k e g = let P : TyScalar → Type 0 = λ k. Gives f.types r k in subst P (ap scalar_in e) g

  gives-width : (t : TyText) → Known s t → Gives f.types r (scalar_in (s.kind t)) → GivesWidth f.types r (width_in s t)
  gives-width t k g = (k.0, gives-known t k.0 k.1 g, ap kind_width (sym k.1))

  abbrev code-of : Typed → Operand
  code-of v = typed_code s addresses v.0 v.1

  -- ---- parts

  has-type : (v : Typed) (g : Fine s v) (t : TyScalar) → g.0 ≡ t → HasType f.types t (code-of v)
  has-type v g t e = typed-as s addresses f.types stage.lays v g t e

  has-width : (v : Typed) → Fine s v → HasWidth f.types (width_in s v.0) (code-of v)
  has-width v g = wide s addresses f.types stage.lays v g

  is-integer : (v : Typed) → Fine s v → no_integer (s.kind v.0) ≡ false → IsInteger f.types (code-of v)
  is-integer v g h = let w = integer (s.kind v.0) g.0 g.1 h in (w.0, has-type v g (Int w.0) w.1)

  target : (n : Name) → not (is_block (local_of s n)) ≡ false → is_first (local_of s n) ≡ false → IsTarget f (block_code s n)
  target n h g = by (local_of s n) refl (no _ h) g
    where
      by : (l : Option Local) → local_of s n ≡ l → is_block l ≡ true → is_first l ≡ false → IsTarget f (block_number l)
      by (Some (Block zero)) e a b = cc
      by (Some (Block (suc b))) e a c = (omega arith, stage.blocks n (suc b) e)
      by (Some (Value k q)) e a b = cc
      by (Some NoType) e a b = cc
      by None e a b = cc

  block : (n : Name) → not (is_block (local_of s n)) ≡ false → block_code s n < length f.blocks
  block n h = by (local_of s n) refl (no _ h)
    where
      by : (l : Option Local) → local_of s n ≡ l → is_block l ≡ true → block_number l < length f.blocks
      by (Some (Block b)) e a = stage.blocks n b e
      by (Some (Value k q)) e a = cc
      by (Some NoType) e a = cc
      by None e a = cc

  -- ---- the path of a `getelementptr`

  abbrev FineIndex : Typed → Type 0
  FineIndex i = Fine s i × (no_integer (s.kind i.0) ≡ false)

  abbrev IndexFits : ℕ × Width × Operand → Type 0
  IndexFits i = (i.0 < 2 ^ 64) × HasType f.types (Int i.1) i.2

  index-fits : (i : Typed) (size : ℕ) → FineIndex i → size ≤ MAX_TYPE_BYTES → IndexFits (size, width_in s i.0, code-of i)
  index-fits i size h l =
      let w = integer (s.kind i.0) h.0.0 h.0.1 h.1 in
      let width : w.0 ≡ width_in s i.0 = ap kind_width (sym (h.0.1 ∙ ap Some w.1)) in
      let P : Width → Type 0 = λ v. HasType f.types (Int v) (code-of i) in
      (omega arith, subst P width (has-type i h.0 (Int w.0) w.1))

  step-fits : (p : Typed × Step) → StepFrom FineIndex p → Each IndexFits (index_code s addresses p)
  step-fits (i, field offset) h = tt
  step-fits ((t, opd.Number z), scaled size) h = tt
  step-fits ((t, opd.Local n), scaled size) h = (index-fits (t, opd.Local n) size h.0 h.1, tt)
  step-fits ((t, opd.Global n), scaled size) h = (index-fits (t, opd.Global n) size h.0 h.1, tt)
  step-fits ((t, opd.True), scaled size) h = (index-fits (t, opd.True) size h.0 h.1, tt)
  step-fits ((t, opd.False), scaled size) h = (index-fits (t, opd.False) size h.0 h.1, tt)
  step-fits ((t, opd.Null), scaled size) h = (index-fits (t, opd.Null) size h.0 h.1, tt)
  step-fits ((t, opd.Undef), scaled size) h = (index-fits (t, opd.Undef) size h.0 h.1, tt)
  step-fits ((t, opd.Poison), scaled size) h = (index-fits (t, opd.Poison) size h.0 h.1, tt)
  step-fits ((t, opd.Zero), scaled size) h = (index-fits (t, opd.Zero) size h.0 h.1, tt)
  step-fits ((t, opd.Get g), scaled size) h = (index-fits (t, opd.Get g) size h.0 h.1, tt)

  path-fits : (ps : List (Typed × Step)) → Each (StepFrom FineIndex) ps → Each IndexFits (flat_map (index_code s addresses) ps)
  path-fits [] h = tt
  path-fits (p ∷ ps) h = each-append IndexFits (index_code s addresses p) _ (step-fits p h.0) (path-fits ps h.1)

  -- ---- calls

  writes-maybe : (o : Option (Option TyScalar)) → Writes f.types r o → GivesMaybe f.types r (option_map scalar_in o)
  writes-maybe None h = h
  writes-maybe (Some k) h = h

  call-writes : (t : TyText) (n : Name) (xs : List Typed) → Writes f.types r (value_kind s.kind (op.Call t n xs))
      → GivesMaybe f.types r (option_map scalar_in (result_kind s.kind t))
  call-writes t n xs h = elim (call-result t n xs s.kind) [
    | inl e ↦ writes-maybe (result_kind s.kind t) (let P : Option (Option TyScalar) → Type 0 = λ o. Writes f.types r o in subst P (e.0 ∙ sym e.1) h)
    | inr e ↦ writes-maybe (result_kind s.kind t) (let P : Option (Option TyScalar) → Type 0 = λ o. Writes f.types r o in subst P (e.0 ∙ sym e.1) h)
  ]

  abbrev signature : TyText → List Typed → Signature
  signature t xs = signature_of s.kind t (map (λ (x : Typed). x.0) xs)

  -- what the parameters and the result of a callee with the call's signature are
  args-fit : (t : TyText) (n : Name) (xs : List Typed) (sign : Signature) → Each (Fine s) xs → Writes f.types r (value_kind s.kind (op.Call t n xs))
      → same_signature (signature t xs) sign ≡ true
      → HaveTypes f.types (map scalar_in sign.params) (map code-of xs) × GivesMaybe f.types r (option_map scalar_in sign.result)
  args-fit t n xs sign fine w h =
      let two = both _ _ h in
      let P : Option (Option TyScalar) → Type 0 = λ o. GivesMaybe f.types r (option_map scalar_in o) in
      (typed-each s addresses f.types stage.lays xs sign.params fine two.0, subst P (same-result _ _ two.1) (call-writes t n xs w))

  abbrev ArgsFit : List Typed → Signature → Type 0
  ArgsFit xs sign = HaveTypes f.types (map scalar_in sign.params) (map code-of xs) × GivesMaybe f.types r (option_map scalar_in sign.result)

  known-fits : (xs : List Typed) (c : Callee) → IsKnown s.signs c
      → ((sign : Signature) → callee_signature s.signs (Some c) ≡ Some sign → ArgsFit xs sign) → CallFits code f.types r c (map code-of xs)
  known-fits xs PutChar k h = let a = h _ refl in a
  known-fits xs GetChar k h = let a = h _ refl in a
  known-fits xs Exit k h = let a = h _ refl in a
  known-fits xs Abort k h = let a = h _ refl in a
  known-fits xs (CallFunc g) k h = absurd k
  known-fits xs (Port p) k h =
      let a = h (sign_signature k.0) (ap port_signature k.1) in
      let P : List TyScalar → Type 0 = λ ts. HaveTypes f.types ts (map code-of xs) in
      let Q : Option TyScalar → Type 0 = λ o. GivesMaybe f.types r o in
      (k.0, ap (λ (l : List PortSign). slice_get l p) stage.ports ∙ k.1, subst P (words-in k.0.params) a.0, subst Q (port-result k.0.result) a.1)

  call-fits : (t : TyText) (n : Name) (xs : List Typed) (e : Option Entity) → entity_of s n ≡ e → is_callee s.signs n e ≡ true
      → has_other_signature (signature t xs) e ≡ false → Each (Fine s) xs → Writes f.types r (value_kind s.kind (op.Call t n xs))
      → CallFits code f.types r (callee_code s n e) (map code-of xs)
  call-fits t n xs (Some (Defined k sign)) e c h fine w =
      let g = stage.functions n k sign e in
      let a = args-fit t n xs sign fine w (no _ h) in
      let P : List TyScalar → Type 0 = λ ts. HaveTypes f.types ts (map code-of xs) in
      let Q : Option TyScalar → Type 0 = λ o. GivesMaybe f.types r o in
      (g.0, g.1, subst P (sym g.2) a.0, subst Q (sym g.3) a.1)
  call-fits t n xs (Some (Declared sign)) e c h fine w = by (known_callee s.signs (name_bytes n)) refl c (stage.declared n sign e)
    where
      by : (o : Option Callee) → known_callee s.signs (name_bytes n) ≡ o → is_some o ≡ true → differs_from sign (callee_signature s.signs o) ≡ false
          → CallFits code f.types r (unwrap_or o Abort) (map code-of xs)
      by (Some d) q a b = known-fits xs d (known-is s.signs (name_bytes n) d q) (λ own j. (
          let same : same_signature sign own ≡ true = no _ (sym (ap (differs_from sign) j) ∙ b) in
          let mine = args-fit t n xs sign fine w (no _ h) in
          let two = both _ _ same in
          let P : List (Option TyScalar) → Type 0 = λ ts. HaveTypes f.types (map scalar_in ts) (map code-of xs) in
          let Q : Option (Option TyScalar) → Type 0 = λ o. GivesMaybe f.types r (option_map scalar_in o) in
          (subst P (kinds-same sign.params own.params two.0) mine.0, subst Q (same-result _ _ two.1) mine.1)))
      by None q a b = cc
  call-fits t n xs (Some Variable) e c h fine w = cc
  call-fits t n xs None e c h fine w = cc

  -- ---- labels

  abbrev Target : Name → Type 0
  Target n = (not (is_block (local_of s n)) ≡ false) × (is_first (local_of s n) ≡ false)

  targets : (n : Option Name) (o : Op) → KeepsOp s (item.Instr n o) → op_labels o ≡ branch_labels o → Each Target (branch_labels o)
  targets n o keeps same =
      let P : List Name → Type 0 = λ l. Each (λ n. not (is_block (local_of s n)) ≡ false) l in
      let blocks = subst P same (none-each (λ n. not (is_block (local_of s n))) (op_labels o) keeps.label) in
      each-both _ _ (branch_labels o) blocks (none-each (λ n. is_first (local_of s n)) (branch_labels o) keeps.entry)

  target-of : (n : Name) → Target n → IsTarget f (block_code s n)
  target-of n h = target n h.0 h.1

  -- ---- all forms

  phi-fits : (n : Option Name) (t : TyText) (es : List (Opd × Name)) → KeepsOp s (item.Instr n (op.Phi t es)) → Writes f.types r (Some (s.kind t))
      → InstrFits code f r (op_code s addresses (op.Phi t es))
  phi-fits n t es keeps w =
      let k = (known s n (op.Phi t es) keeps).0 in
      let fine = each-map (Fine s) (λ (e : Opd × Name). (t, e.0)) es (operands s n (op.Phi t es) keeps) in
      let label = each-map (λ n. not (is_block (local_of s n)) ≡ false) (λ (e : Opd × Name). e.1) es
      (none-each (λ n. not (is_block (local_of s n))) (map (λ (e : Opd × Name). e.1) es) keeps.label) in
      let P : Entry → Type 0 = λ e. (e.0 < length f.blocks) × HasType f.types k.0 e.1 in
      let code : Opd × Name → Entry = λ e. (block_code s e.1, typed_code s addresses t e.0) in
      let each : Each P (map code es) = map-each P code es
      (each-weaker (λ (e : Opd × Name). Fine s (t, e.0) × (not (is_block (local_of s e.1)) ≡ false)) (λ e. P (code e))
      (λ e h. (block e.1 h.1, has-type (t, e.0) h.0 k.0 (same-scalar (s.kind t) h.0.0 k.0 h.0.1 k.1)))
      es (each-both (λ (e : Opd × Name). Fine s (t, e.0)) (λ (e : Opd × Name). not (is_block (local_of s e.1)) ≡ false) es fine label)) in (
        k.0,
        all-each P (entries_code s addresses t es) (all-once P (map code es) [] tt each),
        all-distinct (map code es) [] (λ i j n g h. cc),
        gives-known t k.0 k.1 w,
      )

  switch-fits : (n : Option Name) (t : TyText) (a : Opd) (m : Name) (cs : List Case) → KeepsOp s (item.Instr n (op.Switch t a m cs)) → r ≡ None
      → InstrFits code f r (op_code s addresses (op.Switch t a m cs))
  switch-fits n t a m cs keeps w =
      let fine = (operands s n (op.Switch t a m cs) keeps).0 in
      let to = targets n (op.Switch t a m cs) keeps refl in
      let two = neither (list_any (no_case s.kind t) cs) _ keeps.cases in
      let good : Each (Good s t) cs = none-each (no_case s.kind t) cs two.0 in
      let P : ℕ × ℕ → Type 0 = λ c. IsWord (width_in s t) c.0 × IsTarget f c.1 in
      let each : Each P (map (case_code s t) cs) = map-each P (case_code s t) cs
      (each-weaker (λ (c : Case). Good s t c × Target c.2) (λ c. P (case_code s t c)) (λ c h. (case-word s t c h.0, target-of c.2 h.1))
      cs (each-both (Good s t) (λ (c : Case). Target c.2) cs good (each-map Target (λ (c : Case). c.2) cs to.1))) in (
        has-width (t, a) fine,
        target-of m to.0,
        all-each P (map (case_code s t) cs) each,
        cases-distinct s t cs two.1 good,
        w,
      )

  get-fits : (n : Option Name) (of t : TyText) (a : Opd) (is : List Typed) → KeepsOp s (item.Instr n (op.Get of t a is))
      → Writes f.types r (Some (s.kind text.Ptr))
      → InstrFits code f r (op_code s addresses (op.Get of t a is))
  get-fits n of t a is keeps w =
      let fine = operands s n (op.Get of t a is) keeps in
      let two = neither (no_pointer (s.kind t)) _ (taken s n (op.Get of t a is) keeps) in
      let small = (large s n (op.Get of t a is) keeps).0 in
      let indices : Each FineIndex is = each-both (Fine s) (λ (i : Typed). no_integer (s.kind i.0) ≡ false) is fine.1
      (none-each (λ (i : Typed). no_integer (s.kind i.0)) is two.1) in (
        has-type (t, a) fine.0 Ptr (pointer (s.kind t) fine.0.0 fine.0.1 two.0),
        word-fits W64 (literal_part s.types (steps_of s.types of is)),
        all-each IndexFits _ (path-fits (steps_of s.types of is) (steps-each FineIndex s.types of is indices small)),
        gives-known text.Ptr Ptr stage.address w,
      )

  select-fits : (n : Option Name) (c : TyText) (i : Opd) (t : TyText) (a : Opd) (u : TyText) (b : Opd) → KeepsOp s (item.Instr n (op.Select c i t a u b))
      → Writes f.types r (Some (s.kind t)) → InstrFits code f r (op_code s addresses (op.Select c i t a u b))
  select-fits n c i t a u b keeps w =
      let fine = operands s n (op.Select c i t a u b) keeps in
      let two = neither (no_condition (s.kind c)) _ (taken s n (op.Select c i t a u b) keeps) in
      let k = fine.1.0 in
      let same : s.kind t ≡ s.kind u = kind-same (s.kind t) (s.kind u) (no _ two.1) in (
        has-type (c, i) fine.0 (Int W1) (condition (s.kind c) fine.0.0 fine.0.1 two.0),
        (
          k.0,
          has-type (t, a) k k.0 refl,
          has-type (u, b) fine.1.1.0 k.0 (same-scalar (s.kind u) fine.1.1.0.0 k.0 fine.1.1.0.1 (sym same ∙ k.1)),
          gives-known t k.0 k.1 w,
        ),
      )

  cast-op-fits : (n : Option Name) (c : Cast) (t : TyText) (a : Opd) (to : TyText) → KeepsOp s (item.Instr n (op.Cast c t a to))
      → Writes f.types r (Some (s.kind to)) → InstrFits code f r (op_code s addresses (op.Cast c t a to))
  cast-op-fits n c t a to keeps w =
      let fine = (operands s n (op.Cast c t a to) keeps).0 in
      let k = (known s n (op.Cast c t a to) keeps).0 in
      cast-fits f.types r c (code-of (t, a)) (s.kind t) (s.kind to) fine.0 k.0 fine.1 k.1 (taken s n (op.Cast c t a to) keeps) keeps.cast
      (has-type (t, a) fine fine.0 refl) (gives-known to k.0 k.1 w)

  alloca-fits : (n : Option Name) (t : TyText) (v : Option Typed) → KeepsOp s (item.Instr n (op.Alloca t v)) → Writes f.types r (Some (s.kind text.Ptr))
      → IsInteger f.types (count_code s addresses v) → InstrFits code f r (op_code s addresses (op.Alloca t v))
  alloca-fits n t v keeps w count =
      let small = small s.types t (large s n (op.Alloca t v) keeps).0 in
      (omega (arith, size-most (expanded s.types t)), aligned (expanded s.types t), count, gives-known text.Ptr Ptr stage.address w)

  ret-result : (n : Option Name) (v : Option Typed) → KeepsOp s (item.Instr n (op.Ret v)) → s.result ≡ returned_kind s.kind v
  ret-result n v keeps = same-result s.result (returned_kind s.kind v) (no _ keeps.returned)

  -- an instruction that keeps the rules fits
  pub instr-fits : (n : Option Name) (o : Op) → KeepsOp s (item.Instr n o) → Writes f.types r (value_kind s.kind o) → InstrFits code f r (op_code s addresses o)
  instr-fits n (op.Bin o t a b) keeps w =
      let fine = operands s n (op.Bin o t a b) keeps in
      (has-width (t, a) fine.0, has-width (t, b) fine.1.0, gives-width t (fine.0.0, fine.0.1) w)
  instr-fits n (op.Cmp p t a b) keeps w =
      let fine = operands s n (op.Cmp p t a b) keeps in
      (has-width (t, a) fine.0, has-width (t, b) fine.1.0, gives-known (text.Int W1) (Int W1) stage.bit w)
  instr-fits n (op.Select c i t a u b) keeps w = select-fits n c i t a u b keeps w
  instr-fits n (op.Cast c t a to) keeps w = cast-op-fits n c t a to keeps w
  instr-fits n (op.Freeze t a) keeps w =
      let fine = (operands s n (op.Freeze t a) keeps).0 in
      (fine.0, has-type (t, a) fine fine.0 refl, gives-known t fine.0 fine.1 w)
  instr-fits n (op.Alloca t None) keeps w = alloca-fits n t None keeps w (W32, one-fits W32)
  instr-fits n (op.Alloca t (Some v)) keeps w =
      let fine = (operands s n (op.Alloca t (Some v)) keeps).0 in
      alloca-fits n t (Some v) keeps w (is-integer v fine (taken s n (op.Alloca t (Some v)) keeps))
  instr-fits n (op.Load t u a) keeps w =
      let fine = (operands s n (op.Load t u a) keeps).0 in
      let k = (known s n (op.Load t u a) keeps).0 in
      (has-type (u, a) fine Ptr (pointer (s.kind u) fine.0 fine.1 (taken s n (op.Load t u a) keeps)), gives-width t k w)
  instr-fits n (op.Store t a u b) keeps w =
      let fine = operands s n (op.Store t a u b) keeps in
      (has-width (t, a) fine.0, has-type (u, b) fine.1.0 Ptr (pointer (s.kind u) fine.1.0.0 fine.1.0.1 (taken s n (op.Store t a u b) keeps)), w)
  instr-fits n (op.Get of t a is) keeps w = get-fits n of t a is keeps w
  instr-fits n (op.Phi t es) keeps w = phi-fits n t es keeps w
  instr-fits n (op.Call t c xs) keeps w =
      call-fits t c xs (entity_of s c) refl (no _ keeps.callee) keeps.call (operands s n (op.Call t c xs) keeps) w
  instr-fits n (op.Jump m) keeps w = (target-of m (targets n (op.Jump m) keeps refl).0, w)
  instr-fits n (op.Branch t c a b) keeps w =
      let fine = (operands s n (op.Branch t c a b) keeps).0 in
      let to = targets n (op.Branch t c a b) keeps refl in
      (has-type (t, c) fine (Int W1) (condition (s.kind t) fine.0 fine.1 (taken s n (op.Branch t c a b) keeps)), target-of a to.0, target-of b to.1.0, w)
  instr-fits n (op.Switch t a m cs) keeps w = switch-fits n t a m cs keeps w
  instr-fits n (op.Ret None) keeps w = (stage.result ∙ ap (option_map scalar_in) (ret-result n None keeps), w)
  instr-fits n (op.Ret (Some v)) keeps w =
      let fine = (operands s n (op.Ret (Some v)) keeps).0 in (
        (
          fine.0,
          stage.result ∙ ap (option_map scalar_in) (ret-result n (Some v) keeps) ∙ ap (λ o. Some (scalar_in o)) fine.1,
          has-type v fine fine.0 refl,
        ),
        w,
      )
  instr-fits n op.Unreachable keeps w = w
