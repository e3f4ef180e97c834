-- The numbers of what the definitions stand for, each from the numbers of those that it names.
use Rattle.std.proofs.Common.{◌≡◌, ℕ, zero, suc, ◌+◌, ◌<◌, ◌≤◌, nat_eq, Bool, true, false, not, ◌||◌, List, [], ◌∷◌, length, map, replicate, Option, Some, None}
use Rattle.std.proofs.Common.{slice_get, slice_set, unwrap_or, if◌then◌else◌, refl, sym, ap, ◌∙◌, arith, length-set}
use mathlib.Core.Logic.{⊎_elim}
use Rattle.std.specs.List.{list_any}
use Rattle.std.specs.Option.{option_map}
use Rattle.std.proofs.lemmas.Bool.{cases_lt}
use Rattle.std.proofs.lemmas.Option.{slice_get_within, slice_get-map, same_Some}
use Rattle.std.proofs.lemmas.List.{length-map, length-replicate}
use Rattle.std.proofs.lemmas.List.Sums.{count_by-le-length}
use Rattle.type_layout.specs.declared.ty.Ty.{Ty}
use Rattle.type_layout.specs.declared.ty.Ty.TheVariants as ty
use Rattle.type_table.specs.Table.{Keeps}
use Rattle.ir_tree.specs.declared.name.Name.{Name}
use Rattle.ir_tree.specs.declared.type_text.TyText.{TyText}
use Rattle.ir_names.specs.Names.{defined}
use Rattle.ir_rules.specs.Types.{TypeDefs, type_defs, names_in, named_type, holds_itself, expand_by, empty, body_or_empty}
use Rattle.ir_types.specs.declared.level.Graph.{Graph}
use Rattle.ir_types.specs.declared.level.Naming.{Naming}
use Rattle.ir_types.specs.Graph.{maybe_number, numbers_in, next_of, held, some_left, tally, SetsFlag}
use Rattle.ir_types.specs.Named.{definition_number, name_number, types_in, Level, Marks, IsGraph, AreExact}
use Rattle.ir_types.proofs.Numbered.{here, nowhere, Here}
use Rattle.ir_types.proofs.Numbers.{Inside, inside-kept}
use Rattle.ir_types.proofs.Leading.{edges-at, marks-of}
use Rattle.ir_types.proofs.Expanded.{any-flat, expand-same}
use Rattle.ir_types.proofs.Grounds.{left-at, held-past, set-at, one-number, same-number, flag-cases, flag-grows}

-- ---- names that count as `{}`

pub unnamed : (defs : TypeDefs) (k : ℕ) (n : Name) → defined defs n ≡ None → named_type defs k n ≡ empty
unfolding named_type
unnamed defs zero n h = refl
unnamed defs (suc k) n h = by (holds_itself defs n)
  where
    by : (b : Bool) → (if b then empty else body_or_empty (expand_by (named_type defs k)) (defined defs n)) ≡ empty
    by true = refl
    by false = ap (body_or_empty (expand_by (named_type defs k))) h

cyclic : (defs : TypeDefs) (k : ℕ) (n : Name) → holds_itself defs n ≡ true → named_type defs k n ≡ empty
unfolding named_type
cyclic defs zero n h = refl
cyclic defs (suc k) n h = ap (λ b. if b then empty else body_or_empty (expand_by (named_type defs k)) (defined defs n)) h

-- a name stands for what its definition does where names are looked through once less
by-body : (defs : TypeDefs) (k : ℕ) (n : Name) (t : TyText) → holds_itself defs n ≡ false → defined defs n ≡ Some t
    → named_type defs (suc k) n ≡ expand_by (named_type defs k) t
unfolding named_type
by-body defs k n t h e = λ i. if h i then empty else body_or_empty (expand_by (named_type defs k)) (e i)

module _ (g : Graph) (is : IsGraph g) where
  abbrev defs : TypeDefs
  defs = type_defs g.items.now

  marks : Marks g.numbers.now g.recursive.now defs
  marks = marks-of defs g.numbers.now is.numbered g.edges.now g.recursive.now is.linked is.exact

  pub edges-length : length g.edges.now ≡ length defs
  edges-length = ap length is.linked ∙ length-map defs (λ (d : Name × TyText). numbers_in g.numbers.now d.1)

  -- a name has a definition that isn't done
  abbrev undone : List Bool → Name → Bool
  undone done m = some_left done (maybe_number (defined g.numbers.now m))

  -- at first those that contain themselves are done
  pub none-exact : (done : List Bool) (named : List ℕ) (ts : List Ty) → done ≡ g.recursive.now → named ≡ replicate (length g.recursive.now) 0
      → slice_get ts 0 ≡ Some empty → AreExact g (record { done = done; named = named }) ts
  none-exact done named ts e n z = record {
    zero = z;
    long = ap length e ∙ flags-length;
    many = ap length n ∙ length-replicate (length g.recursive.now) 0 ∙ flags-length;
    inside = λ d. (
        let none : ◌≡◌ {A = ℕ} (unwrap_or (slice_get named d) 0) 0 =
        ap (λ (l : List ℕ). unwrap_or (slice_get l d) 0) n ∙ filled 0 (length g.recursive.now) d in
        let first = slice_get_within ts 0 empty z in
        omega (arith, none, first)
        );
    cyclic = λ d h. ap (λ (l : List Bool). held l d) e ∙ h;
    exact = λ n d k p f h l.
        let at = here defs g.numbers.now is.numbered n d p in
        let i = slice_get_within defs d (n, at.body) at.at in
        let s = flags-length in
        absurd (not-both g.recursive.now d (omega arith) f (ap (λ (l : List Bool). held l d) (sym e) ∙ h));
  }
    where
      flags-length : length g.recursive.now ≡ length defs
      flags-length = is.long ∙ edges-length

      filled : (x n d : ℕ) → unwrap_or (slice_get (replicate n x) d) x ≡ x
      filled x zero d = refl
      filled x (suc n) zero = refl
      filled x (suc n) (suc d) = filled x n d

      not-both : (flags : List Bool) (d : ℕ) → d < length flags → unwrap_or (slice_get flags d) false ≡ false → held flags d ≡ true → ⊥
      not-both [] d l f h = omega arith
      not-both (b ∷ flags) zero l f h = (let no : false ≡ true = sym f ∙ h in cc)
      not-both (b ∷ flags) (suc d) l f h = not-both flags d (omega arith) f h

  module _ (naming : Naming) (ts : List Ty) (x : AreExact g naming ts) where
    abbrev number : Name → ℕ
    number = name_number g.numbers.now g.recursive.now naming.named

    pub number-inside : Inside ts number
    number-inside m = by (defined g.numbers.now m)
      where
        first : 0 < length ts
        first = slice_get_within ts 0 empty x.zero

        flagged : (d : ℕ) (b : Bool) → (if b then 0 else unwrap_or (slice_get naming.named d) 0) < length ts
        flagged d true = first
        flagged d false = x.inside d

        by : (o : Option ℕ) → definition_number g.recursive.now naming.named o < length ts
        by None = first
        by (Some d) = flagged d (unwrap_or (slice_get g.recursive.now d) false)

    -- what a name stands for at last, if its definition is done
    number-type : (k : ℕ) → tally naming.done ≤ k → (m : Name) → undone naming.done m ≡ false → slice_get ts (number m) ≡ Some (named_type defs k m)
    number-type k l m q = by (defined g.numbers.now m) refl q
      where
        known : (d : ℕ) → defined g.numbers.now m ≡ Some d → held naming.done d ≡ true → (b : Bool)
            → unwrap_or (slice_get g.recursive.now d) false ≡ b
            → slice_get ts (if b then 0 else unwrap_or (slice_get naming.named d) 0) ≡ Some (named_type defs k m)
        known d p h true f = x.zero ∙ ap Some (sym (cyclic defs k m (sym (marks m d p) ∙ f)))
        known d p h false f = x.exact m d k p f h l

        by : (o : Option ℕ) → defined g.numbers.now m ≡ o → some_left naming.done (maybe_number o) ≡ false
            → slice_get ts (definition_number g.recursive.now naming.named o) ≡ Some (named_type defs k m)
        by None p q = x.zero ∙ ap Some (sym (unnamed defs k m (nowhere defs g.numbers.now is.numbered m p)))
        by (Some d) p q = known d p (left-at naming.done (d ∷ []) 0 d q refl) (unwrap_or (slice_get g.recursive.now d) false) refl

    -- the numbers of all, when all are done
    pub level-all : ((d : ℕ) → held naming.done d ≡ true) → Level ts g.numbers.now g.recursive.now naming.named defs (length defs)
    level-all all n = number-type (length defs) few n (by (defined g.numbers.now n))
      where
        few : tally naming.done ≤ length defs
        few = (let most = count_by-le-length (λ b. b) naming.done in let l = x.long in omega arith)

        by : (o : Option ℕ) → some_left naming.done (maybe_number o) ≡ false
        by None = refl
        by (Some d) = ap (λ b. not b || false) (all d)

    -- one definition more
    module _ (d : ℕ) (other : held naming.done d ≡ false) (ready : some_left naming.done (next_of g.edges.now d) ≡ false) where
      pub there-is : d < length defs
      there-is =
          ⊎_elim (λ (l : d < length naming.done). let e = x.long in omega arith)
          (λ (l : length naming.done ≤ d). let no : true ≡ false = sym (held-past naming.done d l) ∙ other in cc) (cases_lt d (length naming.done))

      module _ (b : TyText) (at : slice_get (map (λ b. b.now) g.bodies.now) d ≡ Some b) where
        same-body : (n : Name) (h : Here defs n d) → b ≡ h.body
        same-body n h =
            same_Some b h.body (sym at ∙ ap (λ (l : List TyText). slice_get l d) is.bodied
            ∙ slice_get-map (λ (d : Name × TyText). d.1) defs d ∙ ap (option_map (λ (d : Name × TyText). d.1)) h.at)

        body-type : (n : Name) (k : ℕ) → defined g.numbers.now n ≡ Some d → unwrap_or (slice_get g.recursive.now d) false ≡ false
            → tally naming.done + 1 ≤ k → expand_by (types_in ts number) b ≡ named_type defs k n
        body-type n zero p f l = absurd (omega arith)
        body-type n (suc k) p f l =
            let h = here defs g.numbers.now is.numbered n d p in
            let names : list_any (undone naming.done) (names_in b) ≡ false =
            ap (λ t. list_any (undone naming.done) (names_in t)) (same-body n h)
            ∙ sym (any-flat (λ c. not (held naming.done c)) (λ m. maybe_number (defined g.numbers.now m)) (names_in h.body))
            ∙ ap (some_left naming.done) (sym (edges-at defs g.numbers.now is.numbered n d h) ∙ ap (λ (es : List (List ℕ)). next_of es d) (sym is.linked))
            ∙ ready in
            expand-same (types_in ts number) (named_type defs k) (undone naming.done)
            (λ m q. ap (λ o. unwrap_or o (ty.Struct [])) (number-type k (omega arith) m q)) b names
            ∙ ap (expand_by (named_type defs k)) (same-body n h)
            ∙ sym (by-body defs k n h.body (sym (marks n d p) ∙ f) h.is)

        pub one-exact : (us : List Ty) (v : ℕ) (done : List Bool) → Keeps ts us → slice_get us v ≡ Some (expand_by (types_in ts number) b)
            → SetsFlag naming.done d done → AreExact g (record { done = done; named = slice_set naming.named d v }) us
        one-exact us v done keeps here s = record {
          zero = keeps 0 empty x.zero;
          long = s.long ∙ x.long;
          many = length-set naming.named d v ∙ x.many;
          inside = λ c. ap2-inside c (nat_eq c d) (set-at naming.named d c v 0 in-named);
          cyclic = λ c h. flag-grows naming.done done d s c (x.cyclic c h);
          exact = λ n c k p f h l. exact-by n c k p f h l (nat_eq c d) refl (set-at naming.named d c v 0 in-named);
        }
          where
            in-named : d < length naming.named
            in-named = (let e = x.many in let i = there-is in omega arith)

            more : tally done ≡ tally naming.done + 1
            more = s.count ∙ ap (λ b. if b then tally naming.done else tally naming.done + 1) other

            ap2-inside : (c : ℕ) (q : Bool) → unwrap_or (slice_get (slice_set naming.named d v) c) 0 ≡ (if q then v else unwrap_or (slice_get naming.named c) 0)
                → unwrap_or (slice_get (slice_set naming.named d v) c) 0 < length us
            ap2-inside c true e = (let i = slice_get_within us v (expand_by (types_in ts number) b) here in omega (arith, e, i))
            ap2-inside c false e = (let i = inside-kept ts us keeps (unwrap_or (slice_get naming.named c) 0) (x.inside c) in omega (arith, e, i))

            exact-by : (n : Name) (c k : ℕ) → defined g.numbers.now n ≡ Some c → unwrap_or (slice_get g.recursive.now c) false ≡ false
                → held done c ≡ true → tally done ≤ k → (q : Bool) → nat_eq c d ≡ q
                → unwrap_or (slice_get (slice_set naming.named d v) c) 0 ≡ (if q then v else unwrap_or (slice_get naming.named c) 0)
                → slice_get us (unwrap_or (slice_get (slice_set naming.named d v) c) 0) ≡ Some (named_type defs k n)
            exact-by n c k p f h l true q e =
                let same = one-number c d q in
                ap (slice_get us) e ∙ here
                ∙ ap Some (body-type n k (p ∙ ap Some same) (ap (λ y. unwrap_or (slice_get g.recursive.now y) false) (sym same) ∙ f) (let m = more in omega arith))
            exact-by n c k p f h l false q e =
                let old : held naming.done c ≡ true =
                ⊎_elim (λ same. let no : true ≡ false = sym (same-number d) ∙ ap (λ y. nat_eq y d) (sym same) ∙ q in cc) (λ h. h)
                (flag-cases naming.done done d c s h) in
                ap (slice_get us) e
                ∙ keeps (unwrap_or (slice_get naming.named c) 0) (named_type defs k n) (x.exact n c k p f old (let m = more in omega arith))
