-- What the global names of a module that keeps the rules stand for in its code, and how many functions and instructions there are.
use Rattle.std.proofs.Common.{◌≡◌, inl, inr, ℕ, zero, suc, ◌+◌, ◌≤◌, Bool, true, false, cond, List, [], ◌∷◌, ◌++◌, map, length, take, slice_get, nat_lt}
use Rattle.std.proofs.Common.{Option, Some, None, refl, sym, ap, ◌∙◌, subst, arith, append_assoc, append-nil}
use Rattle.std.specs.List.{fold, count_by, list_any}
use Rattle.std.specs.Option.{option_map}
use Rattle.std.proofs.lemmas.List.{take_at}
use Rattle.std.proofs.lemmas.Bool.Decides.{nat_tests}
use Rattle.std.proofs.lemmas.Slice.Eq.{bytes_eq-Decides}
use Rattle.am_base.specs.declared.limits.TheConstants.{MAX_FUNCTIONS, MAX_INSTRUCTIONS}
use Rattle.code_form.specs.declared.code.Func.{Func}
use Rattle.code_form.specs.declared.sign.PortSign.{PortSign}
use Rattle.ir_tree.specs.declared.name.Name.{Name}
use Rattle.ir_tree.specs.declared.type_text.TyText.{TyText}
use Rattle.ir_tree.specs.declared.item.Item.{Item}
use Rattle.ir_tree.specs.declared.item.Item.TheVariants as item
use Rattle.ir_names.specs.Names.{same_name, defined}
use Rattle.ir_names.proofs.Defined.{same-eq}
use Rattle.ir_rules.specs.declared.entity.Entity.{Entity}
use Rattle.ir_rules.specs.declared.entity.Entity.TheVariants.{Defined, Declared, Variable}
use Rattle.ir_rules.specs.declared.entity.Signature.{Signature}
use Rattle.ir_rules.specs.declared.rule.Rule.TheVariants.{DoubleName, DeclareDiffers, Limit}
use Rattle.ir_rules.specs.Types.{TypeDefs, type_defs, kind_of, Kinds}
use Rattle.ir_rules.specs.Scopes.{scope_of}
use Rattle.ir_rules.specs.Entities.{name_bytes, same_bytes, global_names, signature_of, entities_from, entities_of}
use Rattle.ir_rules.specs.Settings.{setting_of, upto_end}
use Rattle.ir_rules.specs.Calls.{known_callee, callee_signature, differs_from}
use Rattle.ir_rules.specs.Rules.{fault, double_name, is_double_global}
use Rattle.ir_rules.specs.Limits.{limit, is_function, is_instruction}
use Rattle.ir_rules.specs.Modules.{function_code, functions_from}
use Rattle.ir_rules.specs.Codes.{scalar_in}
use Rattle.ir_rules.proofs.FirstFaults.{fault-none}
use Rattle.ir_sound.proofs.Lists.{fold-append, neither, get-right, get-cases}
use Rattle.ir_sound.proofs.Placed.{instr_count}

-- ---- functions by their numbers

params-are : (k : Kinds) (ps : List (TyText × Option Name)) → map (λ (p : TyText × Option Name). scalar_in (k p.0)) ps
    ≡ map scalar_in (map k (map (λ (p : TyText × Option Name). p.0) ps))
params-are k [] = refl
params-are k (p ∷ ps) = ap (λ l. scalar_in (k p.0) ∷ l) (params-are k ps)

pub record IsNumbered (defs : TypeDefs) (at k j : ℕ) (rest : List Item) (sign : Signature) : Type 0 where
  pub m : ℕ
  pub number : j ≡ k + m
  pub function : Func
  pub is : slice_get (functions_from defs at rest) m ≡ Some function
  pub params : function.params ≡ map scalar_in sign.params
  pub result : function.result ≡ option_map scalar_in sign.result

numbered-head : (defs : TypeDefs) (at k j : ℕ) (n : Name) (t : TyText) (ps : List (TyText × Option Name)) (rest : List Item) (sign : Signature)
    → ◌≡◌ {A = Option Entity} (Some (Defined k (signature_of (kind_of defs) t (map (λ (p : TyText × Option Name). p.0) ps)))) (Some (Defined j sign))
    → IsNumbered defs at k j (item.Head n t ps ∷ rest) sign
numbered-head defs at k j n t ps rest sign e =
    let number : k ≡ j = cc in
    let same : signature_of (kind_of defs) t (map (λ (p : TyText × Option Name). p.0) ps) ≡ sign = cc in
    record {
      m = 0;
      number = omega arith;
      function = function_code defs at n t ps (scope_of (kind_of defs) (upto_end (item.Head n t ps ∷ rest)));
      is = refl;
      params = params-are (kind_of defs) ps ∙ ap (λ (s : Signature). map scalar_in s.params) same;
      result = ap (λ (s : Signature). option_map scalar_in s.result) same;
    }

numbered-later : (defs : TypeDefs) (at k j : ℕ) (n : Name) (t : TyText) (ps : List (TyText × Option Name)) (rest : List Item) (sign : Signature)
    → IsNumbered defs at (suc k) j rest sign → IsNumbered defs at k j (item.Head n t ps ∷ rest) sign
numbered-later defs at k j n t ps rest sign h =
    let number = h.number in
    record { m = suc h.m; number = omega arith; function = h.function; is = h.is; params = h.params; result = h.result }

numbered : (defs : TypeDefs) (at k : ℕ) (rest : List Item) (n : Name) (j : ℕ) (sign : Signature)
    → defined (entities_from (kind_of defs) k rest) n ≡ Some (Defined j sign)
    → IsNumbered defs at k j rest sign
numbered defs at k [] n j sign h = cc
numbered defs at k (item.Head m t ps ∷ rest) n j sign h = by (same_name n m) h (λ e. numbered defs at (suc k) rest n j sign e)
  where
    by : (b : Bool) → cond b (Some (Defined k (signature_of (kind_of defs) t (map (λ (p : TyText × Option Name). p.0) ps))))
        (defined (entities_from (kind_of defs) (suc k) rest) n) ≡ Some (Defined j sign)
        → (defined (entities_from (kind_of defs) (suc k) rest) n ≡ Some (Defined j sign) → IsNumbered defs at (suc k) j rest sign)
        → IsNumbered defs at k j (item.Head m t ps ∷ rest) sign
    by true e later = numbered-head defs at k j m t ps rest sign e
    by false e later = numbered-later defs at k j m t ps rest sign (later e)
numbered defs at k (item.Global m c t v ∷ rest) n j sign h = by (same_name n m) h (λ e. numbered defs at k rest n j sign e)
  where
    by : (b : Bool) → cond b (Some Variable) (defined (entities_from (kind_of defs) k rest) n) ≡ Some (Defined j sign)
        → (defined (entities_from (kind_of defs) k rest) n ≡ Some (Defined j sign) → IsNumbered defs at k j rest sign)
        → IsNumbered defs at k j (item.Global m c t v ∷ rest) sign
    by true e later = cc
    by false e later = (let h = later e in record { m = h.m; number = h.number; function = h.function; is = h.is; params = h.params; result = h.result })
numbered defs at k (item.Declare m t ts ∷ rest) n j sign h = by (same_name n m) h (λ e. numbered defs at k rest n j sign e)
  where
    by : (b : Bool) → cond b (Some (Declared (signature_of (kind_of defs) t ts))) (defined (entities_from (kind_of defs) k rest) n) ≡ Some (Defined j sign)
        → (defined (entities_from (kind_of defs) k rest) n ≡ Some (Defined j sign) → IsNumbered defs at k j rest sign)
        → IsNumbered defs at k j (item.Declare m t ts ∷ rest) sign
    by true e later = cc
    by false e later = (let h = later e in record { m = h.m; number = h.number; function = h.function; is = h.is; params = h.params; result = h.result })
numbered defs at k (item.TypeDef m t ∷ rest) n j sign h =
    (let h = numbered defs at k rest n j sign h in record {
      m = h.m;
      number = h.number;
      function = h.function;
      is = h.is;
      params = h.params;
      result =
          h.result;
    })
numbered defs at k (item.Label m ∷ rest) n j sign h =
    (let h = numbered defs at k rest n j sign h in record {
      m = h.m;
      number = h.number;
      function = h.function;
      is = h.is;
      params = h.params;
      result =
          h.result;
    })
numbered defs at k (item.Instr r o ∷ rest) n j sign h =
    (let h = numbered defs (suc at) k rest n j sign h in record {
      m = h.m;
      number = h.number;
      function = h.function;
      is = h.is;
      params = h.params;
      result =
          h.result;
    })
numbered defs at k (item.End ∷ rest) n j sign h =
    (let h = numbered defs at k rest n j sign h in record {
      m = h.m;
      number = h.number;
      function = h.function;
      is = h.is;
      params = h.params;
      result =
          h.result;
    })

-- the function of the code that a name stands for
pub named-function : (defs : TypeDefs) (items : List Item) (n : Name) (j : ℕ) (sign : Signature)
    → defined (entities_of (kind_of defs) items) n ≡ Some (Defined j sign)
    → (g : Func) × (slice_get (functions_from defs 0 items) j ≡ Some g) × (g.params ≡ map scalar_in sign.params) × (g.result ≡ option_map scalar_in sign.result)
named-function defs items n j sign h =
    let found = numbered defs 0 0 items n j sign h in
    let same : j ≡ found.m = found.number ∙ omega arith in
    (found.function, ap (slice_get (functions_from defs 0 items)) same ∙ found.is, found.params, found.result)

-- ---- names of functions

abbrev function_names : List Item → List Name
function_names [] = []
function_names (item.Head n t ps ∷ more) = n ∷ function_names more
function_names (x ∷ more) = function_names more

names-are : (defs : TypeDefs) (at : ℕ) (xs : List Item) (g : ℕ) (f : Func) → slice_get (functions_from defs at xs) g ≡ Some f
    → (n : Name) × (slice_get (function_names xs) g ≡ Some n) × (f.name ≡ name_bytes n)
names-are defs at [] g f h = cc
names-are defs at (item.Head n t ps ∷ xs) zero f h =
    let own = function_code defs at n t ps (scope_of (kind_of defs) (upto_end (item.Head n t ps ∷ xs))) in
    let same : own ≡ f = cc in
    (n, refl, ap (λ (f : Func). f.name) (sym same))
names-are defs at (item.Head n t ps ∷ xs) (suc g) f h = names-are defs at xs g f h
names-are defs at (item.Instr r o ∷ xs) g f h = names-are defs (suc at) xs g f h
names-are defs at (item.Label n ∷ xs) g f h = names-are defs at xs g f h
names-are defs at (item.TypeDef n t ∷ xs) g f h = names-are defs at xs g f h
names-are defs at (item.Global n c t v ∷ xs) g f h = names-are defs at xs g f h
names-are defs at (item.Declare n t ts ∷ xs) g f h = names-are defs at xs g f h
names-are defs at (item.End ∷ xs) g f h = names-are defs at xs g f h

fresh-name : (xs : List Item) (m : Name) → list_any (same_bytes m) (global_names xs) ≡ false → (g : ℕ) (n : Name) → slice_get (function_names xs) g ≡ Some n
    → name_bytes m ≡ name_bytes n → ⊥
fresh-name [] m h g n e q = cc
fresh-name (item.Head k t ps ∷ xs) m h zero n e q =
    let same : k ≡ n = cc in
    let other : same_bytes m k ≡ false = (neither (same_bytes m k) _ h).0 in
    let equal : same_bytes m k ≡ true = (bytes_eq-Decides (name_bytes m) (name_bytes k)).1 (q ∙ ap name_bytes (sym same)) in
    let no : true ≡ false = sym equal ∙ other in
    cc
fresh-name (item.Head k t ps ∷ xs) m h (suc g) n e q = fresh-name xs m (neither (same_bytes m k) _ h).1 g n e q
fresh-name (item.Global k c t v ∷ xs) m h g n e q = fresh-name xs m (neither (same_bytes m k) _ h).1 g n e q
fresh-name (item.Declare k t ts ∷ xs) m h g n e q = fresh-name xs m (neither (same_bytes m k) _ h).1 g n e q
fresh-name (item.TypeDef k t ∷ xs) m h g n e q = fresh-name xs m h g n e q
fresh-name (item.Label k ∷ xs) m h g n e q = fresh-name xs m h g n e q
fresh-name (item.Instr r o ∷ xs) m h g n e q = fresh-name xs m h g n e q
fresh-name (item.End ∷ xs) m h g n e q = fresh-name xs m h g n e q

names-append : (xs ys : List Item) → function_names (xs ++ ys) ≡ function_names xs ++ function_names ys
names-append [] ys = refl
names-append (item.Head n t ps ∷ xs) ys = ap (λ l. n ∷ l) (names-append xs ys)
names-append (item.Global n c t v ∷ xs) ys = names-append xs ys
names-append (item.Declare n t ts ∷ xs) ys = names-append xs ys
names-append (item.TypeDef n t ∷ xs) ys = names-append xs ys
names-append (item.Label n ∷ xs) ys = names-append xs ys
names-append (item.Instr r o ∷ xs) ys = names-append xs ys
names-append (item.End ∷ xs) ys = names-append xs ys

abbrev AreApart : List Name → Type 0
AreApart ns = (g h : ℕ) (n m : Name) → slice_get ns g ≡ Some n → slice_get ns h ≡ Some m → name_bytes n ≡ name_bytes m → g ≡ h

apart-last : (ns : List Name) (k : Name) → AreApart ns → ((g : ℕ) (n : Name) → slice_get ns g ≡ Some n → name_bytes k ≡ name_bytes n → ⊥)
    → AreApart (ns ++ k ∷ [])
apart-last ns k d f g h n m a b e = elim (get-cases ns k g n a) [
  | inl p ↦ elim (get-cases ns k h m b) [
    | inl q ↦ d g h n m p q e
    | inr q ↦ absurd (f g n p (ap name_bytes q.1 ∙ sym e))
  ]
  | inr p ↦ elim (get-cases ns k h m b) [
    | inl q ↦ absurd (f h m q (ap name_bytes p.1 ∙ e))
    | inr q ↦ p.0 ∙ sym q.0
  ]
]

count-last : (p : Item → Bool) (xs : List Item) (x : Item) → count_by p (xs ++ x ∷ []) ≡ count_by p xs + cond (p x) 1 0
count-last p xs x = fold-append (λ (a : ℕ) (x : Item). a + cond (p x) 1 0) 0 xs (x ∷ [])

count-from : (p : Item → Bool) (xs : List Item) (n : ℕ) → fold (λ (a : ℕ) (x : Item). a + cond (p x) 1 0) n xs ≡ n + count_by p xs
count-from p [] n = omega arith
count-from p (x ∷ xs) n =
    let one = count-from p xs (n + cond (p x) 1 0) in
    let two = count-from p xs (0 + cond (p x) 1 0) in
    omega arith

count-cons : (p : Item → Bool) (x : Item) (xs : List Item) → count_by p (x ∷ xs) ≡ cond (p x) 1 0 + count_by p xs
count-cons p x xs = count-from p xs (0 + cond (p x) 1 0) ∙ omega arith

module _ (items : List Item) (signs : List PortSign) (faultless : fault items signs ≡ None) where
  at-front : (front : List Item) (x : Item) (rest : List Item) → items ≡ front ++ x ∷ rest → slice_get items (length front) ≡ Some x
  at-front front x rest is = ap (λ (l : List Item). slice_get l (length front)) is ∙ get-right front (x ∷ rest) 0 (length front) (omega arith)

  before : (front : List Item) (x : Item) (rest : List Item) → items ≡ front ++ x ∷ rest → take (length front) items ≡ front
  before front x rest is = ap (take (length front)) is ∙ take_at front (x ∷ rest) (length front) refl

  on : (front : List Item) (x : Item) (rest : List Item) → items ≡ front ++ x ∷ rest → items ≡ (front ++ x ∷ []) ++ rest
  on front x rest is = is ∙ sym (append_assoc front (x ∷ []) rest)

  -- ---- functions have names of their own

  plain-apart : (front : List Item) (x : Item) → function_names (x ∷ []) ≡ [] → AreApart (function_names front) → AreApart (function_names (front ++ x ∷ []))
  plain-apart front x e d =
      subst AreApart (sym (names-append front (x ∷ []) ∙ ap (λ (l : List Name). function_names front ++ l) e ∙ append-nil (function_names front))) d

  head-apart : (front : List Item) (n : Name) (t : TyText) (ps : List (TyText × Option Name)) (rest : List Item) → items ≡ front ++ item.Head n t ps ∷ rest
      → AreApart (function_names front) → AreApart (function_names (front ++ item.Head n t ps ∷ []))
  head-apart front n t ps rest is d =
      let x = item.Head n t ps in
      let i = length front in
      let double : double_name (setting_of items signs i x) x ≡ false = fault-none items signs i x DoubleName faultless (at-front front x rest is) in
      let outer : is_double_global (take i items) n ≡ false = (neither _ _ double).0 in
      let P : List Item → Type 0 = λ l. is_double_global l n ≡ false in
      let fresh : is_double_global front n ≡ false = subst P (before front x rest is) outer in
      subst AreApart (sym (names-append front (x ∷ []))) (apart-last (function_names front) n d (fresh-name front n fresh))

  apart-along : (front rest : List Item) → items ≡ front ++ rest → AreApart (function_names front) → AreApart (function_names items)
  apart-along front [] is d = let P : List Item → Type 0 = λ l. AreApart (function_names l) in subst P (sym (is ∙ append-nil front)) d
  apart-along front (item.Head n t ps ∷ rest) is d = apart-along (front ++ item.Head n t ps ∷ []) rest (on front (item.Head n t ps) rest is)
      (head-apart front n t ps rest is d)
  apart-along front (item.Global n c t v ∷ rest) is d = apart-along (front ++ item.Global n c t v ∷ []) rest (on front (item.Global n c t v) rest is)
      (plain-apart front (item.Global n c t v) refl d)
  apart-along front (item.Declare n t ts ∷ rest) is d = apart-along (front ++ item.Declare n t ts ∷ []) rest (on front (item.Declare n t ts) rest is)
      (plain-apart front (item.Declare n t ts) refl d)
  apart-along front (item.TypeDef n t ∷ rest) is d = apart-along (front ++ item.TypeDef n t ∷ []) rest (on front (item.TypeDef n t) rest is)
      (plain-apart front (item.TypeDef n t) refl d)
  apart-along front (item.Label n ∷ rest) is d = apart-along (front ++ item.Label n ∷ []) rest (on front (item.Label n) rest is)
      (plain-apart front (item.Label n) refl d)
  apart-along front (item.Instr r o ∷ rest) is d = apart-along (front ++ item.Instr r o ∷ []) rest (on front (item.Instr r o) rest is)
      (plain-apart front (item.Instr r o) refl d)
  apart-along front (item.End ∷ rest) is d = apart-along (front ++ item.End ∷ []) rest (on front item.End rest is) (plain-apart front item.End refl d)

  pub names-apart : (defs : TypeDefs) (g h : ℕ) (e f : Func) → slice_get (functions_from defs 0 items) g ≡ Some e
      → slice_get (functions_from defs 0 items) h ≡ Some f
      → e.name ≡ f.name → g ≡ h
  names-apart defs g h e f a b q =
      let p = names-are defs 0 items g e a in
      let r = names-are defs 0 items h f b in
      apart-along [] items refl (λ g h n m a b e. cc) g h p.0 r.0 p.1 r.1 (sym p.2 ∙ q ∙ r.2)

  -- ---- declared functions

  declared-along : (front rest : List Item) (k : ℕ) (n : Name) (sign : Signature) → items ≡ front ++ rest
      → defined (entities_from (kind_of (type_defs items)) k rest) n ≡ Some (Declared sign)
      → differs_from sign (callee_signature signs (known_callee signs (name_bytes n))) ≡ false
  declared-along front [] k n sign is h = cc
  declared-along front (item.Declare m t ts ∷ rest) k n sign is h = by (same_name n m) refl h
      (declared-along (front ++ item.Declare m t ts ∷ []) rest k n sign (on front (item.Declare m t ts) rest is))
    where
      by : (b : Bool) → same_name n m ≡ b
          → cond b (Some (Declared (signature_of (kind_of (type_defs items)) t ts))) (defined (entities_from (kind_of (type_defs items)) k rest) n) ≡ Some
          (Declared sign)
          → (defined (entities_from (kind_of (type_defs items)) k rest) n ≡ Some (Declared sign)
          → differs_from sign (callee_signature signs (known_callee signs (name_bytes n))) ≡ false)
          → differs_from sign (callee_signature signs (known_callee signs (name_bytes n))) ≡ false
      by true q e later =
          let x = item.Declare m t ts in
          let same : signature_of (kind_of (type_defs items)) t ts ≡ sign = cc in
          let own = fault-none items signs (length front) x DeclareDiffers faultless (at-front front x rest is) in
          ap (λ (n : Name). differs_from sign (callee_signature signs (known_callee signs (name_bytes n)))) (same-eq n m q)
          ∙ ap (λ s. differs_from s (callee_signature signs (known_callee signs (name_bytes m)))) (sym same) ∙ own
      by false q e later = later e
  declared-along front (item.Head m t ps ∷ rest) k n sign is h = by (same_name n m) h
      (λ e. declared-along (front ++ item.Head m t ps ∷ []) rest (suc k) n sign (on front (item.Head m t ps) rest is) e)
    where
      by : (b : Bool) → cond b (Some (Defined k (signature_of (kind_of (type_defs items)) t (map (λ (p : TyText × Option Name). p.0) ps))))
          (defined (entities_from (kind_of (type_defs items)) (suc k) rest) n) ≡ Some (Declared sign)
          → (defined (entities_from (kind_of (type_defs items)) (suc k) rest) n ≡ Some (Declared sign)
          → differs_from sign (callee_signature signs (known_callee signs (name_bytes n))) ≡ false)
          → differs_from sign (callee_signature signs (known_callee signs (name_bytes n))) ≡ false
      by true e later = cc
      by false e later = later e
  declared-along front (item.Global m c t v ∷ rest) k n sign is h = by (same_name n m) h
      (λ e. declared-along (front ++ item.Global m c t v ∷ []) rest k n sign (on front (item.Global m c t v) rest is) e)
    where
      by : (b : Bool) → cond b (Some Variable) (defined (entities_from (kind_of (type_defs items)) k rest) n) ≡ Some (Declared sign)
          → (defined (entities_from (kind_of (type_defs items)) k rest) n ≡ Some (Declared sign)
          → differs_from sign (callee_signature signs (known_callee signs (name_bytes n))) ≡ false)
          → differs_from sign (callee_signature signs (known_callee signs (name_bytes n))) ≡ false
      by true e later = cc
      by false e later = later e
  declared-along front (item.TypeDef m t ∷ rest) k n sign is h = declared-along (front ++ item.TypeDef m t ∷ []) rest k n sign
      (on front (item.TypeDef m t) rest is) h
  declared-along front (item.Label m ∷ rest) k n sign is h = declared-along (front ++ item.Label m ∷ []) rest k n sign (on front (item.Label m) rest is) h
  declared-along front (item.Instr r o ∷ rest) k n sign is h = declared-along (front ++ item.Instr r o ∷ []) rest k n sign (on front (item.Instr r o) rest is) h
  declared-along front (item.End ∷ rest) k n sign is h = declared-along (front ++ item.End ∷ []) rest k n sign (on front item.End rest is) h

  -- a declared name that is known has the signature of what it is known as
  pub declared-same : (n : Name) (sign : Signature) → defined (entities_of (kind_of (type_defs items)) items) n ≡ Some (Declared sign)
      → differs_from sign (callee_signature signs (known_callee signs (name_bytes n))) ≡ false
  declared-same n sign h = declared-along [] items 0 n sign refl h

  -- ---- limits

  not-over : (m n : ℕ) → nat_lt m n ≡ false → n ≤ m
  not-over m n h = grind (arith, nat_tests)

  record Few (xs : List Item) : Type 0 where
    functions : count_by is_function xs ≤ MAX_FUNCTIONS
    instrs : count_by is_instruction xs ≤ MAX_INSTRUCTIONS

  head-few : (front : List Item) (n : Name) (t : TyText) (ps : List (TyText × Option Name)) (rest : List Item) → items ≡ front ++ item.Head n t ps ∷ rest
      → Few front → Few (front ++ item.Head n t ps ∷ [])
  head-few front n t ps rest is f =
      let x = item.Head n t ps in
      let i = length front in
      let full : limit (setting_of items signs i x) x ≡ false = fault-none items signs i x Limit faultless (at-front front x rest is) in
      let P : List Item → Type 0 = λ l. nat_lt MAX_FUNCTIONS (count_by is_function l + 1) ≡ false in
      let room = not-over MAX_FUNCTIONS (count_by is_function front + 1) (subst P (before front x rest is) (neither _ _ full).0) in
      let g = f.instrs in
      record { functions = omega (arith, count-last is_function front x); instrs = omega (arith, count-last is_instruction front x) }

  instr-few : (front : List Item) (r : Option Name) (o : _) (rest : List Item) → items ≡ front ++ item.Instr r o ∷ rest
      → Few front → Few (front ++ item.Instr r o ∷ [])
  instr-few front r o rest is f =
      let x = item.Instr r o in
      let i = length front in
      let full : limit (setting_of items signs i x) x ≡ false = fault-none items signs i x Limit faultless (at-front front x rest is) in
      let P : List Item → Type 0 = λ l. nat_lt MAX_INSTRUCTIONS (count_by is_instruction l + 1) ≡ false in
      let room = not-over MAX_INSTRUCTIONS (count_by is_instruction front + 1) (subst P (before front x rest is) (neither _ _ full).0) in
      let g = f.functions in
      record { functions = omega (arith, count-last is_function front x); instrs = omega (arith, count-last is_instruction front x) }

  plain-few : (front : List Item) (x : Item) → is_function x ≡ false → is_instruction x ≡ false → Few front → Few (front ++ x ∷ [])
  plain-few front x a b f =
      let g = f.functions in
      let h = f.instrs in
      let c = count-last is_function front x ∙ ap (λ v. count_by is_function front + cond v 1 0) a in
      let d = count-last is_instruction front x ∙ ap (λ v. count_by is_instruction front + cond v 1 0) b in
      record { functions = omega arith; instrs = omega arith }

  few-along : (front rest : List Item) → items ≡ front ++ rest → Few front → Few items
  few-along front [] is d = let P : List Item → Type 0 = λ l. Few l in subst P (sym (is ∙ append-nil front)) d
  few-along front (item.Head n t ps ∷ rest) is d = few-along (front ++ item.Head n t ps ∷ []) rest (on front (item.Head n t ps) rest is)
      (head-few front n t ps rest is d)
  few-along front (item.Instr r o ∷ rest) is d = few-along (front ++ item.Instr r o ∷ []) rest (on front (item.Instr r o) rest is)
      (instr-few front r o rest is d)
  few-along front (item.Global n c t v ∷ rest) is d = few-along (front ++ item.Global n c t v ∷ []) rest (on front (item.Global n c t v) rest is)
      (plain-few front (item.Global n c t v) refl refl d)
  few-along front (item.Declare n t ts ∷ rest) is d = few-along (front ++ item.Declare n t ts ∷ []) rest (on front (item.Declare n t ts) rest is)
      (plain-few front (item.Declare n t ts) refl refl d)
  few-along front (item.TypeDef n t ∷ rest) is d = few-along (front ++ item.TypeDef n t ∷ []) rest (on front (item.TypeDef n t) rest is)
      (plain-few front (item.TypeDef n t) refl refl d)
  few-along front (item.Label n ∷ rest) is d = few-along (front ++ item.Label n ∷ []) rest (on front (item.Label n) rest is)
      (plain-few front (item.Label n) refl refl d)
  few-along front (item.End ∷ rest) is d = few-along (front ++ item.End ∷ []) rest (on front item.End rest is) (plain-few front item.End refl refl d)

  all-few : Few items
  all-few = few-along [] items refl (record { functions = omega arith; instrs = omega arith })

  count-functions : (defs : TypeDefs) (at : ℕ) (xs : List Item) → length (functions_from defs at xs) ≡ count_by is_function xs
  count-functions defs at [] = refl
  count-functions defs at (item.Head n t ps ∷ xs) = let rest = count-functions defs at xs in omega (arith, count-cons is_function (item.Head n t ps) xs)
  count-functions defs at (item.Instr r o ∷ xs) = let rest = count-functions defs (suc at) xs in omega (arith, count-cons is_function (item.Instr r o) xs)
  count-functions defs at (item.Global n c t v ∷ xs) = let rest = count-functions defs at xs in omega (arith, count-cons is_function (item.Global n c t v) xs)
  count-functions defs at (item.Declare n t ts ∷ xs) = let rest = count-functions defs at xs in omega (arith, count-cons is_function (item.Declare n t ts) xs)
  count-functions defs at (item.TypeDef n t ∷ xs) = let rest = count-functions defs at xs in omega (arith, count-cons is_function (item.TypeDef n t) xs)
  count-functions defs at (item.Label n ∷ xs) = let rest = count-functions defs at xs in omega (arith, count-cons is_function (item.Label n) xs)
  count-functions defs at (item.End ∷ xs) = let rest = count-functions defs at xs in omega (arith, count-cons is_function (item.End) xs)

  count-instrs : (xs : List Item) → instr_count xs ≡ count_by is_instruction xs
  count-instrs [] = refl
  count-instrs (item.Head n t ps ∷ xs) = let rest = count-instrs xs in omega (arith, count-cons is_instruction (item.Head n t ps) xs)
  count-instrs (item.Instr r o ∷ xs) = let rest = count-instrs xs in omega (arith, count-cons is_instruction (item.Instr r o) xs)
  count-instrs (item.Global n c t v ∷ xs) = let rest = count-instrs xs in omega (arith, count-cons is_instruction (item.Global n c t v) xs)
  count-instrs (item.Declare n t ts ∷ xs) = let rest = count-instrs xs in omega (arith, count-cons is_instruction (item.Declare n t ts) xs)
  count-instrs (item.TypeDef n t ∷ xs) = let rest = count-instrs xs in omega (arith, count-cons is_instruction (item.TypeDef n t) xs)
  count-instrs (item.Label n ∷ xs) = let rest = count-instrs xs in omega (arith, count-cons is_instruction (item.Label n) xs)
  count-instrs (item.End ∷ xs) = let rest = count-instrs xs in omega (arith, count-cons is_instruction (item.End) xs)

  pub few-functions : (defs : TypeDefs) → length (functions_from defs 0 items) ≤ MAX_FUNCTIONS
  few-functions defs = let f = all-few in let g = f.functions in omega (arith, count-functions defs 0 items)

  pub few-instrs : instr_count items ≤ MAX_INSTRUCTIONS
  few-instrs = let f = all-few in let g = f.instrs in omega (arith, count-instrs items)
