-- The functions of a module that keeps the rules, each with its items, their settings and their places in the code.
use Rattle.std.proofs.Common.{◌≡◌, ℕ, zero, suc, ◌+◌, ◌-◌, ◌≤◌, Bool, true, false, List, [], ◌∷◌, ◌++◌, length, take, drop, slice_get}
use Rattle.std.proofs.Common.{Option, Some, None, refl, sym, ap, ◌∙◌, subst, arith, append_assoc}
use Rattle.std.proofs.lemmas.List.{length-append, take_at, drop_at}
use Rattle.code_form.specs.declared.code.Func.{Func}
use Rattle.code_form.specs.declared.sign.PortSign.{PortSign}
use Rattle.ir_tree.specs.declared.name.Name.{Name}
use Rattle.ir_tree.specs.declared.type_text.TyText.{TyText}
use Rattle.ir_tree.specs.declared.op.Op.{Op}
use Rattle.ir_tree.specs.declared.item.Item.{Item}
use Rattle.ir_tree.specs.declared.item.Item.TheVariants as item
use Rattle.ir_rules.specs.declared.scope.Scope.{Scope}
use Rattle.ir_rules.specs.Types.{TypeDefs, type_defs, kind_of, Kinds}
use Rattle.ir_rules.specs.Scopes.{empty_scope, with_item, scope_of, value_register}
use Rattle.ir_rules.specs.Settings.{Setting, upto_end, open_from, head_of, items_before, setting_in, setting_of}
use Rattle.ir_rules.specs.Rules.{fault}
use Rattle.ir_rules.specs.Memory.{Addresses, addresses_of}
use Rattle.ir_rules.specs.Replacements.{Original, original_from}
use Rattle.ir_rules.specs.Codes.{op_code}
use Rattle.ir_rules.specs.Modules.{function_code, functions_from, instrs_from, results_from}
use Rattle.ir_rules.proofs.FirstFaults.{fault-none}
use Rattle.ir_sound.specs.Whole.{AreWhole}
use Rattle.ir_sound.proofs.Lists.{fold-append, take-snoc, drop-get, get-right}
use Rattle.ir_sound.proofs.Places.{Place, places_in, placed, Keeps, KeepsIn, KeptFrom, IsBody}

-- ---- where a function begins

-- a label or an instruction
abbrev IsInner : Item → Type 0
IsInner (item.Label n) = Unit {0}
IsInner (item.Instr r o) = Unit {0}
IsInner _ = ⊥

stays-open : (x : Item) → IsInner x → (xs : List Item) (at : ℕ) (last : Option ℕ) → open_from at last (xs ++ x ∷ []) ≡ open_from at last xs
stays-open (item.Label n) h [] at last = refl
stays-open (item.Instr r o) h [] at last = refl
stays-open (item.TypeDef n t) h [] at last = absurd h
stays-open (item.Global n c t i) h [] at last = absurd h
stays-open (item.Declare n t ts) h [] at last = absurd h
stays-open (item.Head n t ps) h [] at last = absurd h
stays-open item.End h [] at last = absurd h
stays-open x h (item.Label n ∷ xs) at last = stays-open x h xs (suc at) last
stays-open x h (item.Instr r o ∷ xs) at last = stays-open x h xs (suc at) last
stays-open x h (item.TypeDef n t ∷ xs) at last = stays-open x h xs (suc at) last
stays-open x h (item.Global n c t i ∷ xs) at last = stays-open x h xs (suc at) last
stays-open x h (item.Declare n t ts ∷ xs) at last = stays-open x h xs (suc at) last
stays-open x h (item.Head n t ps ∷ xs) at last = stays-open x h xs (suc at) (Some at)
stays-open x h (item.End ∷ xs) at last = stays-open x h xs (suc at) None

opens : (n : Name) (t : TyText) (ps : List (TyText × Option Name)) (xs : List Item) (at : ℕ) (last : Option ℕ)
    → open_from at last (xs ++ item.Head n t ps ∷ []) ≡ Some (at + length xs)
opens n t ps [] at last = ap Some (omega arith)
opens n t ps (item.Label m ∷ xs) at last = opens n t ps xs (suc at) last ∙ ap Some (omega arith)
opens n t ps (item.Instr r o ∷ xs) at last = opens n t ps xs (suc at) last ∙ ap Some (omega arith)
opens n t ps (item.TypeDef m u ∷ xs) at last = opens n t ps xs (suc at) last ∙ ap Some (omega arith)
opens n t ps (item.Global m c u i ∷ xs) at last = opens n t ps xs (suc at) last ∙ ap Some (omega arith)
opens n t ps (item.Declare m u ts ∷ xs) at last = opens n t ps xs (suc at) last ∙ ap Some (omega arith)
opens n t ps (item.Head m u qs ∷ xs) at last = opens n t ps xs (suc at) (Some at) ∙ ap Some (omega arith)
opens n t ps (item.End ∷ xs) at last = opens n t ps xs (suc at) None ∙ ap Some (omega arith)

-- the instructions of some items, which are numbered from i
abbrev pub originals_from : ℕ → List Item → List Original
originals_from i [] = []
originals_from i (item.Instr r o ∷ more) = record { at = i; result = r; instruction = o } ∷ originals_from (suc i) more
originals_from i (x ∷ more) = originals_from (suc i) more

pub original-instr : (items : List Item) (signs : List PortSign) (addresses : Addresses) (i : ℕ) (xs : List Item) (k : ℕ) (o : Original)
    → slice_get (originals_from i xs) k ≡ Some o
    → slice_get (instrs_from items signs addresses i xs) k ≡ Some (op_code
    (setting_of items signs o.at (item.Instr o.result o.instruction)) addresses o.instruction)
original-instr items signs addresses i [] k o h = cc
original-instr items signs addresses i (item.Instr r p ∷ xs) zero o h =
    let same : record { at = i; result = r; instruction = p } ≡ o = cc in
    ap (λ (o : Original). Some (op_code (setting_of items signs o.at (item.Instr o.result o.instruction)) addresses o.instruction)) same
original-instr items signs addresses i (item.Instr r p ∷ xs) (suc k) o h = original-instr items signs addresses (suc i) xs k o h
original-instr items signs addresses i (item.Label n ∷ xs) k o h = original-instr items signs addresses (suc i) xs k o h
original-instr items signs addresses i (item.TypeDef n t ∷ xs) k o h = original-instr items signs addresses (suc i) xs k o h
original-instr items signs addresses i (item.Global n c t v ∷ xs) k o h = original-instr items signs addresses (suc i) xs k o h
original-instr items signs addresses i (item.Declare n t ts ∷ xs) k o h = original-instr items signs addresses (suc i) xs k o h
original-instr items signs addresses i (item.Head n t ps ∷ xs) k o h = original-instr items signs addresses (suc i) xs k o h
original-instr items signs addresses i (item.End ∷ xs) k o h = original-instr items signs addresses (suc i) xs k o h

pub original-result : (items : List Item) (signs : List PortSign) (i : ℕ) (xs : List Item) (k : ℕ) (o : Original) → slice_get (originals_from i xs) k ≡ Some o
    → slice_get (results_from items signs i xs) k ≡ Some (value_register (setting_of items signs o.at (item.Instr o.result o.instruction)).before o.instruction)
original-result items signs i [] k o h = cc
original-result items signs i (item.Instr r p ∷ xs) zero o h =
    let same : record { at = i; result = r; instruction = p } ≡ o = cc in
    ap (λ (o : Original). Some (value_register (setting_of items signs o.at (item.Instr o.result o.instruction)).before o.instruction)) same
original-result items signs i (item.Instr r p ∷ xs) (suc k) o h = original-result items signs (suc i) xs k o h
original-result items signs i (item.Label n ∷ xs) k o h = original-result items signs (suc i) xs k o h
original-result items signs i (item.TypeDef n t ∷ xs) k o h = original-result items signs (suc i) xs k o h
original-result items signs i (item.Global n c t v ∷ xs) k o h = original-result items signs (suc i) xs k o h
original-result items signs i (item.Declare n t ts ∷ xs) k o h = original-result items signs (suc i) xs k o h
original-result items signs i (item.Head n t ps ∷ xs) k o h = original-result items signs (suc i) xs k o h
original-result items signs i (item.End ∷ xs) k o h = original-result items signs (suc i) xs k o h

pub original-is : (i : ℕ) (xs : List Item) (k : ℕ) → original_from i k xs ≡ slice_get (originals_from i xs) k
original-is i [] zero = refl
original-is i [] (suc k) = refl
original-is i (item.Instr r o ∷ xs) zero = refl
original-is i (item.Instr r o ∷ xs) (suc k) = original-is (suc i) xs k
original-is i (item.Label n ∷ xs) zero = original-is (suc i) xs zero
original-is i (item.Label n ∷ xs) (suc k) = original-is (suc i) xs (suc k)
original-is i (item.TypeDef n t ∷ xs) zero = original-is (suc i) xs zero
original-is i (item.TypeDef n t ∷ xs) (suc k) = original-is (suc i) xs (suc k)
original-is i (item.Global n c t v ∷ xs) zero = original-is (suc i) xs zero
original-is i (item.Global n c t v ∷ xs) (suc k) = original-is (suc i) xs (suc k)
original-is i (item.Declare n t ts ∷ xs) zero = original-is (suc i) xs zero
original-is i (item.Declare n t ts ∷ xs) (suc k) = original-is (suc i) xs (suc k)
original-is i (item.Head n t ps ∷ xs) zero = original-is (suc i) xs zero
original-is i (item.Head n t ps ∷ xs) (suc k) = original-is (suc i) xs (suc k)
original-is i (item.End ∷ xs) zero = original-is (suc i) xs zero
original-is i (item.End ∷ xs) (suc k) = original-is (suc i) xs (suc k)

module _ (items : List Item) (signs : List PortSign) (faultless : fault items signs ≡ None) where
  abbrev pub defs : TypeDefs
  defs = type_defs items

  abbrev pub kind : Kinds
  kind = kind_of defs

  abbrev pub addresses : Addresses
  addresses = addresses_of defs items

  -- the setting of the function that begins there
  abbrev pub base : ℕ → Setting
  base h = setting_in items signs h (Some h)

  -- ---- one item

  at-front : (front : List Item) (x : Item) (rest : List Item) (i : ℕ) → items ≡ front ++ x ∷ rest → i ≡ length front → slice_get items i ≡ Some x
  at-front front x rest i is at = ap (λ (l : List Item). slice_get l i) is ∙ get-right front (x ∷ rest) 0 i (omega arith)

  keeps-at : (front : List Item) (x : Item) (rest : List Item) (i : ℕ) → items ≡ front ++ x ∷ rest → i ≡ length front → Keeps (setting_of items signs i x) x
  keeps-at front x rest i is at r = fault-none items signs i x r faultless (at-front front x rest i is at)

  setting-at : (i h : ℕ) (x : Item) → head_of items i x ≡ Some h
      → setting_of items signs i x ≡ placed (base h) (scope_of kind (items_before items i (Some h))) (take i items)
  setting-at i h x e = ap (setting_in items signs i) e

  -- ---- inside a function

  record Inside (front rest : List Item) (i h : ℕ) (s : Scope) : Type 0 where
    is : items ≡ front ++ rest
    at : i ≡ length front
    opened : open_from 0 None front ≡ Some h
    from : h ≤ i
    before : scope_of kind (take (i - h) (drop h items)) ≡ s

  inside-setting : (front : List Item) (x : Item) (rest : List Item) (i h : ℕ) (s : Scope) → Inside front (x ∷ rest) i h s
      → head_of items i x ≡ open_from 0 None (take i items) → setting_of items signs i x ≡ placed (base h) s (take i items)
  inside-setting front x rest i h s in' e =
      let whole : take i items ≡ front = ap (take i) in'.is ∙ take_at front (x ∷ rest) i (sym in'.at) in
      setting-at i h x (e ∙ ap (open_from 0 None) whole ∙ in'.opened) ∙ ap (λ s. placed (base h) s (take i items)) in'.before

  inside-next : (front : List Item) (x : Item) (rest : List Item) (i h : ℕ) (s : Scope) → Inside front (x ∷ rest) i h s → IsInner x
      → Inside (front ++ x ∷ []) rest (suc i) h (with_item kind s x)
  inside-next front x rest i h s in' inner =
      let at = in'.at in
      let from = in'.from in
      let here : slice_get (drop h items) (i - h) ≡ Some x = drop-get items h (i - h) i (omega arith) ∙ at-front front x rest i in'.is in'.at in
      let more : take (suc i - h) (drop h items) ≡ take (i - h) (drop h items) ++ x ∷ [] =
      (let same : suc i - h ≡ suc (i - h) = omega arith in ap (λ n. take n (drop h items)) same ∙ take-snoc (drop h items) (i - h) x here) in
      record {
        is = in'.is ∙ sym (append_assoc front (x ∷ []) rest);
        at = omega (arith, length-append front (x ∷ []));
        opened = stays-open x inner front 0 None ∙ in'.opened;
        from = omega arith;
        before = ap (scope_of kind) more ∙ fold-append (with_item kind) empty_scope (take (i - h) (drop h items)) (x ∷ [])
            ∙ ap (λ s. with_item kind s x) in'.before;
      }

  -- what the code has at the places of a function
  pub record Coded (h : ℕ) (os : List Original) (p : Place) (k : ℕ) : Type 0 where
    pub number : ℕ
    pub original : slice_get os k ≡ Some (record { at = number; result = p.result; instruction = p.op })
    pub above : List Item
    pub setting : setting_of items signs number (item.Instr p.result p.op) ≡ placed (base h) p.before above
    pub keeps : Keeps (placed (base h) p.before above) (item.Instr p.result p.op)

  record Tail (rest : List Item) (i h : ℕ) (s : Scope) : Type 0 where
    body : IsBody (upto_end rest)
    kept : KeptFrom (base h) s (upto_end rest)
    coded : (k : ℕ) (p : Place) → slice_get (places_in kind s (upto_end rest)) k ≡ Some p
        → Coded h (originals_from i rest) p k

  keeps-inside : (front : List Item) (x : Item) (rest : List Item) (i h : ℕ) (s : Scope) → Inside front (x ∷ rest) i h s
      → head_of items i x ≡ open_from 0 None (take i items) → Keeps (placed (base h) s (take i items)) x
  keeps-inside front x rest i h s in' e =
      let P : Setting → Type 0 = λ z. Keeps z x in
      subst P (inside-setting front x rest i h s in' e) (keeps-at front x rest i in'.is in'.at)

  instr-tail : (front : List Item) (r : Option Name) (o : Op) (rest : List Item) (i h : ℕ) (s : Scope) → Inside front (item.Instr r o ∷ rest) i h s
      → Tail rest (suc i) h (with_item kind s (item.Instr r o)) → Tail (item.Instr r o ∷ rest) i h s
  instr-tail front r o rest i h s in' t =
      let x = item.Instr r o in
      let e = inside-setting front x rest i h s in' refl in
      let k = keeps-inside front x rest i h s in' refl in
      record {
        body = t.body;
        kept = ((take i items, k), t.kept);
        coded = coded e k;
      }
    where
      coded : setting_of items signs i (item.Instr r o) ≡ placed (base h) s (take i items)
          → Keeps (placed (base h) s (take i items)) (item.Instr r o) → (k : ℕ) (p : Place)
          → slice_get (places_in kind s (upto_end (item.Instr r o ∷ rest))) k ≡ Some p
          → Coded h (originals_from i (item.Instr r o ∷ rest)) p k
      coded e k zero p g =
          let same : record { before = s; result = r; op = o } ≡ p = cc in
          let P : Place → Type 0 = λ p. Coded h (originals_from i (item.Instr r o ∷ rest)) p 0 in
          subst P same (record { number = i; original = refl; above = take i items; setting = e; keeps = k })
      coded e k (suc j) p g =
          (let c = t.coded j p g in record { number = c.number; original = c.original; above = c.above; setting = c.setting; keeps = c.keeps })

  tail : (front rest : List Item) (i h : ℕ) (s : Scope) → Inside front rest i h s → AreWhole true rest → Tail rest i h s
  tail front [] i h s in' w = cc
  tail front (item.Label n ∷ rest) i h s in' w =
      let x = item.Label n in
      let t = tail (front ++ x ∷ []) rest (suc i) h (with_item kind s x) (inside-next front x rest i h s in' tt) w.1 in
      record { body = t.body; kept = ((take i items, keeps-inside front x rest i h s in' refl), t.kept); coded = t.coded }
  tail front (item.Instr r o ∷ rest) i h s in' w =
      let x = item.Instr r o in
      instr-tail front r o rest i h s in' (tail (front ++ x ∷ []) rest (suc i) h (with_item kind s x) (inside-next front x rest i h s in' tt) w.1)
  tail front (item.End ∷ rest) i h s in' w =
      record { body = tt; kept = ((take i items, keeps-inside front item.End rest i h s in' refl), tt); coded = λ k p g. cc }
  tail front (item.TypeDef n t ∷ rest) i h s in' w = (let no = w.0 in cc)
  tail front (item.Global n c t v ∷ rest) i h s in' w = (let no = w.0 in cc)
  tail front (item.Declare n t ts ∷ rest) i h s in' w = (let no = w.0 in cc)
  tail front (item.Head n t ps ∷ rest) i h s in' w = (let no = w.0 in cc)

  -- ---- a whole function

  -- what is known of a function of the code: where its items and its places begin, and what stands there
  pub record IsFunction (f : Func) (h at : ℕ) : Type 0 where
    pub name : Name
    pub type_of : TyText
    pub params : List (TyText × Option Name)
    pub rest : List Item
    pub is : f ≡ function_code defs at name type_of params (scope_of kind (item.Head name type_of params ∷ upto_end rest))
    pub begins : drop h items ≡ item.Head name type_of params ∷ rest
    pub body : IsBody (upto_end rest)
    pub keeping : KeptFrom (base h) empty_scope (item.Head name type_of params ∷ upto_end rest)
    pub coded : (k : ℕ) (p : Place) → slice_get (places_in kind empty_scope (item.Head name type_of params ∷ upto_end rest)) k ≡ Some p
        → Coded h (originals_from 0 items) p (at + k)

  -- what stands before some items, in the module and in the code
  pub record Along (front rest : List Item) (i at : ℕ) : Type 0 where
    pub is : items ≡ front ++ rest
    pub number : i ≡ length front
    pub originals : List Original
    pub originals_are : originals_from 0 items ≡ originals ++ originals_from i rest
    pub count : at ≡ length originals

  head-inside : (front : List Item) (n : Name) (t : TyText) (ps : List (TyText × Option Name)) (rest : List Item) (h : ℕ)
      → items ≡ front ++ item.Head n t ps ∷ rest → h ≡ length front
      → Inside (front ++ item.Head n t ps ∷ []) rest (suc h) h (with_item kind empty_scope (item.Head n t ps))
  head-inside front n t ps rest h is at =
      let x = item.Head n t ps in
      let there : drop h items ≡ x ∷ rest = ap (drop h) is ∙ drop_at front (x ∷ rest) h (sym at) in
      let one : suc h - h ≡ 1 = omega arith in
      record {
        is = is ∙ sym (append_assoc front (x ∷ []) rest);
        at = omega (arith, length-append front (x ∷ []));
        opened = opens n t ps front 0 None ∙ ap Some (omega arith);
        from = omega arith;
        before = ap (λ k. scope_of kind (take k (drop h items))) one ∙ ap (λ l. scope_of kind (take 1 l)) there;
      }

  head-keeps : (front : List Item) (n : Name) (t : TyText) (ps : List (TyText × Option Name)) (rest : List Item) (h : ℕ)
      → items ≡ front ++ item.Head n t ps ∷ rest → h ≡ length front → KeepsIn (base h) empty_scope (item.Head n t ps)
  head-keeps front n t ps rest h is at =
      let x = item.Head n t ps in
      let none : h - h ≡ 0 = omega arith in
      let e : setting_of items signs h x ≡ placed (base h) empty_scope (take h items) =
      setting-at h h x refl ∙ ap (λ k. placed (base h) (scope_of kind (take k (drop h items))) (take h items)) none in
      let P : Setting → Type 0 = λ z. Keeps z x in
      (take h items, subst P e (keeps-at front x rest h is at))

  coded-on : (h : ℕ) (ls os ms : List Original) (p : Place) (at k : ℕ) → os ≡ ls ++ ms → at ≡ length ls → Coded h ms p k → Coded h os p (at + k)
  coded-on h ls os ms p at k e m c =
      record {
        number = c.number;
        original = ap (λ (l : List Original). slice_get l (at + k)) e ∙ get-right ls ms k (at + k) (omega arith) ∙ c.original;
        above = c.above;
        setting = c.setting;
        keeps = c.keeps;
      }

  pub head-function : (front : List Item) (n : Name) (t : TyText) (ps : List (TyText × Option Name)) (rest : List Item) (h at : ℕ)
      → Along front (item.Head n t ps ∷ rest) h at → AreWhole true rest
      → IsFunction (function_code defs at n t ps (scope_of kind (item.Head n t ps ∷ upto_end rest))) h at
  head-function front n t ps rest h at a w =
      let x = item.Head n t ps in
      let inner = tail (front ++ x ∷ []) rest (suc h) h (with_item kind empty_scope x) (head-inside front n t ps rest h a.is a.number) w in
      record {
        name = n;
        type_of = t;
        params = ps;
        rest = rest;
        is = refl;
        begins = ap (drop h) a.is ∙ drop_at front (x ∷ rest) h (sym a.number);
        body = inner.body;
        keeping = (head-keeps front n t ps rest h a.is a.number, inner.kept);
        coded = λ k p g. coded-on h a.originals _ _ p at k a.originals_are a.count (inner.coded k p g);
      }

  pub head-kept : (front : List Item) (n : Name) (t : TyText) (ps : List (TyText × Option Name)) (rest : List Item) (h at : ℕ)
      → Along front (item.Head n t ps ∷ rest) h at → AreWhole true rest
      → KeptFrom (base h) empty_scope (item.Head n t ps ∷ upto_end rest) × IsBody (upto_end rest)
  head-kept front n t ps rest h at a w =
      let x = item.Head n t ps in
      let inner = tail (front ++ x ∷ []) rest (suc h) h (with_item kind empty_scope x) (head-inside front n t ps rest h a.is a.number) w in
      ((head-keeps front n t ps rest h a.is a.number, inner.kept), inner.body)

  pub along-on : (front : List Item) (x : Item) (rest : List Item) (i at : ℕ) → Along front (x ∷ rest) i at
      → originals_from i (x ∷ rest) ≡ originals_from (suc i) rest → Along (front ++ x ∷ []) rest (suc i) at
  along-on front x rest i at a e =
      let n = a.number in
      record {
        is = a.is ∙ sym (append_assoc front (x ∷ []) rest);
        number = omega (arith, length-append front (x ∷ []));
        originals = a.originals;
        originals_are = a.originals_are ∙ ap (λ (l : List Original). a.originals ++ l) e;
        count = a.count;
      }

  pub along-instr : (front : List Item) (r : Option Name) (o : Op) (rest : List Item) (i at : ℕ) → Along front (item.Instr r o ∷ rest) i at
      → Along (front ++ item.Instr r o ∷ []) rest (suc i) (suc at)
  along-instr front r o rest i at a =
      let x = item.Instr r o in
      let n = a.number in
      let c = a.count in
      let one : List Original = record { at = i; result = r; instruction = o } ∷ [] in
      record {
        is = a.is ∙ sym (append_assoc front (x ∷ []) rest);
        number = omega (arith, length-append front (x ∷ []));
        originals = a.originals ++ one;
        originals_are = a.originals_are ∙ sym (append_assoc a.originals one (originals_from (suc i) rest));
        count = omega (arith, length-append a.originals one);
      }

  pub along-start : Along [] items 0 0
  along-start = record { is = refl; number = refl; originals = []; originals_are = refl; count = refl }

  -- a head among the items, with what stands before it
  record Found (f : Func) : Type 0 where
    front : List Item
    name : Name
    type_of : TyText
    params : List (TyText × Option Name)
    rest : List Item
    h : ℕ
    at : ℕ
    along : Along front (item.Head name type_of params ∷ rest) h at
    inner : AreWhole true rest
    is : f ≡ function_code defs at name type_of params (scope_of kind (item.Head name type_of params ∷ upto_end rest))

  function-along : (inside : Bool) (front rest : List Item) (i at : ℕ) → Along front rest i at → AreWhole inside rest → (g : ℕ) (f : Func)
      → slice_get (functions_from defs at rest) g ≡ Some f → Found f
  function-along inside front [] i at a w g f e = cc
  function-along true front (item.Label n ∷ rest) i at a w g f e =
      function-along true (front ++ item.Label n ∷ []) rest (suc i) at (along-on front (item.Label n) rest i at a refl) w.1 g f e
  function-along true front (item.Instr r o ∷ rest) i at a w g f e =
      function-along true (front ++ item.Instr r o ∷ []) rest (suc i) (suc at) (along-instr front r o rest i at a) w.1 g f e
  function-along true front (item.End ∷ rest) i at a w g f e =
      function-along false (front ++ item.End ∷ []) rest (suc i) at (along-on front item.End rest i at a refl) w.1 g f e
  function-along false front (item.TypeDef n t ∷ rest) i at a w g f e =
      function-along false (front ++ item.TypeDef n t ∷ []) rest (suc i) at (along-on front (item.TypeDef n t) rest i at a refl) w.1 g f e
  function-along false front (item.Global n c t v ∷ rest) i at a w g f e =
      function-along false (front ++ item.Global n c t v ∷ []) rest (suc i) at (along-on front (item.Global n c t v) rest i at a refl) w.1 g f e
  function-along false front (item.Declare n t ts ∷ rest) i at a w g f e =
      function-along false (front ++ item.Declare n t ts ∷ []) rest (suc i) at (along-on front (item.Declare n t ts) rest i at a refl) w.1 g f e
  function-along false front (item.Head n t ps ∷ rest) i at a w zero f e =
      let own = function_code defs at n t ps (scope_of kind (item.Head n t ps ∷ upto_end rest)) in
      let same : own ≡ f = cc in
      record { front = front; name = n; type_of = t; params = ps; rest = rest; h = i; at = at; along = a; inner = w.1; is = sym same }
  function-along false front (item.Head n t ps ∷ rest) i at a w (suc g) f e =
      function-along true (front ++ item.Head n t ps ∷ []) rest (suc i) at (along-on front (item.Head n t ps) rest i at a refl) w.1 g f e
  function-along false front (item.Label n ∷ rest) i at a w g f e = (let no = w.0 in cc)
  function-along false front (item.Instr r o ∷ rest) i at a w g f e = (let no = w.0 in cc)
  function-along false front (item.End ∷ rest) i at a w g f e = (let no = w.0 in cc)
  function-along true front (item.TypeDef n t ∷ rest) i at a w g f e = (let no = w.0 in cc)
  function-along true front (item.Global n c t v ∷ rest) i at a w g f e = (let no = w.0 in cc)
  function-along true front (item.Declare n t ts ∷ rest) i at a w g f e = (let no = w.0 in cc)
  function-along true front (item.Head n t ps ∷ rest) i at a w g f e = (let no = w.0 in cc)

  pub record SomeFunction (f : Func) : Type 0 where
    pub h : ℕ
    pub at : ℕ
    pub function : IsFunction f h at

  some-function : (f : Func) → Found f → SomeFunction f
  some-function f d =
      let it = head-function d.front d.name d.type_of d.params d.rest d.h d.at d.along d.inner in
      let P : Func → Type 0 = λ f. IsFunction f d.h d.at in
      record { h = d.h; at = d.at; function = subst P (sym d.is) it }

  -- each function of the code is one of the module's
  pub function-of : AreWhole false items → (g : ℕ) (f : Func) → slice_get (functions_from defs 0 items) g ≡ Some f → SomeFunction f
  function-of w g f e = some-function f (function-along false [] items 0 0 along-start w g f e)
