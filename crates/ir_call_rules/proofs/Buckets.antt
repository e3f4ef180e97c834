-- The branches of a function, put into lists by the blocks that they go to.
use Rattle.std.proofs.Common.{◌≡◌, ◌≢◌, ℕ, zero, suc, ◌+◌, ◌-◌, ◌<◌, Bool, true, false, not, ◌||◌, ◌&&◌, List, [], ◌∷◌, ◌++◌, map, length, take, get_or}
use Rattle.std.proofs.Common.{Option, Some, None, slice_get, slice_set, nat_eq, if◌then◌else◌, cond, refl, sym, ap, subst, ◌∙◌, arith, append_assoc}
use Rattle.std.specs.List.{fold, filter, list_any, list_all}
use Rattle.std.proofs.lemmas.List.{take_more, get_or-set_same, get_or-set_other, append-nil}
use Rattle.std.proofs.lemmas.List.Sums.{fold-append}
use Rattle.std.proofs.lemmas.Bool.Decides.{Decides-eqb}
use Rattle.ir_tree.specs.declared.item.Item.{Item}
use Rattle.ir_rules.specs.declared.scope.Scope.{Scope}
use Rattle.ir_rules.specs.Types.{Kinds}
use Rattle.ir_rules.specs.Scopes.{empty_scope, with_item, scope_of}
use Rattle.ir_rules.specs.Settings.{Setting, Edge, edges_at, edges_from, edges_of}
use Rattle.ir_rules.specs.Blocks.{has, same_set, goes_to, sources}
use Rattle.ir_call_rules.specs.Sources.{is_number, with_source, bucket, with_edge, sources_once}
use Rattle.ir_call_rules.proofs.Tests.{nor, or-true, or_assoc, any-last, all-last, eq-sym}

-- ---- lists by number

pub bucket-push : (lists : List (List ℕ)) (b : ℕ) → bucket (lists ++ [] ∷ []) b ≡ bucket lists b
bucket-push [] zero = refl
bucket-push [] (suc b) = refl
bucket-push (l ∷ lists) zero = refl
bucket-push (l ∷ lists) (suc b) = bucket-push lists b

pub bucket-set : (lists : List (List ℕ)) (at : ℕ) (x : List ℕ) (b : ℕ) → at < length lists → bucket (slice_set lists at x) b ≡ (if nat_eq at b then x else bucket lists b)
bucket-set lists at x b h = by (nat_eq at b) refl
  where
    by : (q : Bool) → nat_eq at b ≡ q → bucket (slice_set lists at x) b ≡ (if q then x else bucket lists b)
    by true e = ap (bucket (slice_set lists at x)) (sym ((Decides-eqb at b).0 e)) ∙ get_or-set_same lists at x [] h
    by false e = get_or-set_other lists at b x [] (λ same. let no : false ≡ true = sym e ∙ (Decides-eqb at b).1 (sym same) in cc)

-- ---- the branches of one more item

pub edges-last : (kind : Kinds) (s : Scope) (xs : List Item) (x : Item)
    → edges_from kind s (xs ++ x ∷ []) ≡ edges_from kind s xs ++ edges_at (with_item kind (fold (with_item kind) s xs) x) x
edges-last kind s [] x = append-nil (edges_at (with_item kind s x) x)
edges-last kind s (y ∷ xs) x =
    ap (λ l. edges_at (with_item kind s y) y ++ l) (edges-last kind (with_item kind s y) xs x)
    ∙ sym (append_assoc (edges_at (with_item kind s y) y) (edges_from kind (with_item kind s y) xs) (edges_at (with_item kind (fold (with_item kind) s (y ∷ xs)) x) x))

module _ (kind : Kinds) (s : Setting) (items : List Item) (i : ℕ) (x : Item) (h : i < length items) (e : x ≡ get_or items i x) where
  taken : take (i + 1) items ≡ take i items ++ x ∷ []
  taken = take_more items i x h ∙ ap (λ y. take i items ++ y ∷ []) (sym e)

  pub scope-more : with_item kind (scope_of kind (take i items)) x ≡ scope_of kind (take (i + 1) items)
  scope-more = sym (ap (scope_of kind) taken ∙ fold-append (with_item kind) empty_scope (take i items) (x ∷ []))

  pub sources-more : (b : ℕ) (after : Scope) → after ≡ with_item kind (scope_of kind (take i items)) x
      → fold (with_edge s b) (sources_once s (edges_of kind (take i items)) b) (edges_at after x) ≡ sources_once s (edges_of kind (take (i + 1) items)) b
  sources-more b after f = sym (
      ap (λ l. sources_once s (edges_of kind l) b) taken
      ∙ ap (λ l. sources_once s l b) (edges-last kind empty_scope (take i items) x)
      ∙ fold-append (with_edge s b) [] (edges_of kind (take i items)) (edges_at (with_item kind (scope_of kind (take i items)) x) x)
      ∙ ap (λ a. fold (with_edge s b) (sources_once s (edges_of kind (take i items)) b) (edges_at a x)) (sym f)
      )

-- ---- as a set they are the blocks that branch there

got-has : (ns : List ℕ) (k m n : ℕ) → slice_get ns k ≡ Some m → nat_eq m n ≡ true → has ns n ≡ true
got-has [] k m n h e = cc
got-has (x ∷ ns) zero m n h e =
    let same : x ≡ m = cc in
    ap (λ b. b || has ns n) (eq-sym n x ∙ ap (λ y. nat_eq y n) same ∙ e)
got-has (x ∷ ns) (suc k) m n h e = ap (λ b. nat_eq n x || b) (got-has ns k m n h e) ∙ or-true (nat_eq n x)

and-self : (a b : Bool) → (a && b) ≡ ((a && b) && a)
and-self true true = refl
and-self true false = refl
and-self false b = refl

and-in : (a b c : Bool) → b ≡ (b && c) → (a && b) ≡ ((a && b) && c)
and-in true b c h = h
and-in false b c h = refl

got-all : (p : ℕ → Bool) (ns : List ℕ) (k m n : ℕ) → slice_get ns k ≡ Some m → nat_eq m n ≡ true → list_all p ns ≡ (list_all p ns && p n)
got-all p [] k m n h e = cc
got-all p (x ∷ ns) zero m n h e =
    let same : x ≡ m = cc in
    and-self (p x) (list_all p ns) ∙ ap (λ y. (p x && list_all p ns) && p y) (same ∙ (Decides-eqb m n).0 e)
got-all p (x ∷ ns) (suc k) m n h e = and-in (p x) (list_all p ns) (p n) (got-all p ns k m n h e)

-- the last number of a list, or one behind it
module _ (ns : List ℕ) (n : ℕ) where
  has-source : (m : ℕ) → has (with_source ns n) m ≡ (has ns m || nat_eq m n)
  has-source m = by (slice_get ns (length ns - 1)) refl
    where
      new : has (ns ++ n ∷ []) m ≡ (has ns m || nat_eq m n)
      new = any-last (nat_eq m) ns n

      known : has ns n ≡ true → (q : Bool) → nat_eq m n ≡ q → has ns m ≡ (has ns m || q)
      known e true f = (ap (has ns) ((Decides-eqb m n).0 f) ∙ e) ∙ sym (or-true (has ns m))
      known e false f = sym (nor (has ns m))

      test : (l : ℕ) → slice_get ns (length ns - 1) ≡ Some l → (q : Bool) → nat_eq l n ≡ q → has (if q then ns else ns ++ n ∷ []) m ≡ (has ns m || nat_eq m n)
      test l g true e = known (got-has ns (length ns - 1) l n g e) (nat_eq m n) refl
      test l g false e = new

      by : (o : Option ℕ) → slice_get ns (length ns - 1) ≡ o → has (if is_number n o then ns else ns ++ n ∷ []) m ≡ (has ns m || nat_eq m n)
      by None g = new
      by (Some l) g = test l g (nat_eq l n) refl

  all-source : (p : ℕ → Bool) → list_all p (with_source ns n) ≡ (list_all p ns && p n)
  all-source p = by (slice_get ns (length ns - 1)) refl
    where
      new : list_all p (ns ++ n ∷ []) ≡ (list_all p ns && p n)
      new = all-last p ns n

      test : (l : ℕ) → slice_get ns (length ns - 1) ≡ Some l → (q : Bool) → nat_eq l n ≡ q → list_all p (if q then ns else ns ++ n ∷ []) ≡ (list_all p ns && p n)
      test l g true e = got-all p ns (length ns - 1) l n g e
      test l g false e = new

      by : (o : Option ℕ) → slice_get ns (length ns - 1) ≡ o → list_all p (if is_number n o then ns else ns ++ n ∷ []) ≡ (list_all p ns && p n)
      by None g = new
      by (Some l) g = test l g (nat_eq l n) refl

and_assoc : (a b c : Bool) → ((a && b) && c) ≡ (a && (b && c))
and_assoc true b c = refl
and_assoc false b c = refl

yes-and : (a : Bool) → a ≡ (a && true)
yes-and true = refl
yes-and false = refl

module _ (s : Setting) (b : ℕ) where
  abbrev there : List Edge → List ℕ
  there es = map (λ (e : Edge). e.0) (filter (goes_to s b) es)

  has-there : (ns : List ℕ) (es : List Edge) (m : ℕ) → has (fold (with_edge s b) ns es) m ≡ (has ns m || has (there es) m)
  has-there ns [] m = sym (nor (has ns m))
  has-there ns (e ∷ es) m = has-there (with_edge s b ns e) es m ∙ by (goes_to s b e)
    where
      by : (q : Bool) → (has (if q then with_source ns e.0 else ns) m || has (there es) m) ≡ (has ns m || has (map (λ (e : Edge). e.0) (cond q (e ∷ filter (goes_to s b) es) (filter (goes_to s b) es))) m)
      by true = ap (λ u. u || has (there es) m) (has-source ns e.0 m) ∙ or_assoc (has ns m) (nat_eq m e.0) (has (there es) m)
      by false = refl

  all-there : (p : ℕ → Bool) (ns : List ℕ) (es : List Edge) → list_all p (fold (with_edge s b) ns es) ≡ (list_all p ns && list_all p (there es))
  all-there p ns [] = yes-and (list_all p ns)
  all-there p ns (e ∷ es) = all-there p (with_edge s b ns e) es ∙ by (goes_to s b e)
    where
      by : (q : Bool) → (list_all p (if q then with_source ns e.0 else ns) && list_all p (there es))
          ≡ (list_all p ns && list_all p (map (λ (e : Edge). e.0) (cond q (e ∷ filter (goes_to s b) es) (filter (goes_to s b) es))))
      by true = ap (λ u. u && list_all p (there es)) (all-source ns e.0 p) ∙ and_assoc (list_all p ns) (p e.0) (list_all p (there es))
      by false = refl

  -- the blocks that branch to a block, each branch of which was put into its list, are as a set all of them
  pub sources-same : (ms : List ℕ) (edges : List Edge) → same_set ms (there edges) ≡ same_set ms (sources_once s edges b)
  sources-same ms edges = λ i. list_all (λ n. sym (has-there [] edges n) i) ms && sym (all-there (has ms) [] edges) i
