-- A module is read in one way, and where there is none, there is one first place that isn't read.
use Rattle.std.proofs.Common.{◌≡◌, ℕ, zero, suc, ◌+◌, ◌-◌, ◌<◌, ◌≤◌, ◌⊎◌, inl, inr, Bool, true, false, List, [], ◌∷◌, ◌++◌, length, Option, Some, None, refl}
use Rattle.std.proofs.Common.{sym, ap, ◌∙◌, subst, arith}
use Rattle.ir_tree.specs.declared.item.Item.{Item}
use Rattle.ir_grammar.specs.Lexeme.{Lexemes}
use Rattle.ir_grammar.specs.Items.{SomeItem, item}
use Rattle.ir_grammar.specs.Modules.{is_allowed, leaves_open, Piece, Front, kept, kept_starts, IsModule, IsUnread}
use Rattle.ir_grammar.proofs.Exact.{parts}
use Rattle.ir_grammar.proofs.Productions.{item-firm}

-- no allowed item begins here
abbrev pub NoItem : Bool → Lexemes → Type 0
NoItem inside rest = (x : SomeItem) (mid : Lexemes) → item.reads rest x mid → is_allowed inside x ≡ true → ⊥

-- ---- one item

pub item-one : (ts : Lexemes) (x y : SomeItem) (rest rest' : Lexemes) → item.reads ts x rest → item.reads ts y rest' → (x ≡ y) × (rest ≡ rest')
item-one ts x y rest rest' h g = parts x y rest rest' (sym (item-firm.exact.only ts x rest h) ∙ item-firm.exact.only ts y rest' g)

pub nothing-read : (inside : Bool) → NoItem inside []
nothing-read inside x mid h a = let s = item-firm.strict [] x mid h in omega arith

-- ---- fronts

pub Front-shorter : (n : ℕ) (i : Bool) (ts : Lexemes) (ps : List Piece) (j : Bool) (rest : Lexemes) → Front n i ts ps j rest → length rest ≤ length ts
Front-shorter n i ts [] j rest (e, f) = let l = ap length f in omega arith
Front-shorter n i ts (p ∷ ps) j rest (mid, h, a, at, more) = let s = item-firm.strict ts p.0 mid h in let t =
    Front-shorter n (leaves_open p.0) mid ps j rest more in omega arith

pub Front-more : (n : ℕ) (i : Bool) (ts : Lexemes) (ps : List Piece) (j : Bool) (rest mid : Lexemes) (x : SomeItem) (at : ℕ) → Front n i ts ps j rest
    → item.reads rest x mid → is_allowed j x ≡ true → at + length rest ≡ n
    → Front n i ts (ps ++ ((x, at) ∷ [])) (leaves_open x) mid
Front-more n i ts [] j rest mid x at (e, f) h a p = (
  mid,
  subst (λ c. item.reads c x mid) (sym f) h,
  subst (λ b. is_allowed b x ≡ true) (sym e) a,
  subst (λ c. at + length c ≡ n) (sym f) p,
  (refl, refl),
)
Front-more n i ts (q ∷ ps) j rest mid x at (m, r, ok, pl, more) h a p = (m, r, ok, pl, Front-more n (leaves_open q.0) m ps j rest mid x at more h a p)

-- two that go as far as they can are one
pub record SameFront (ps qs : List Piece) (j k : Bool) (rest rest' : Lexemes) : Type 0 where
  pub pieces : ps ≡ qs
  pub inside : j ≡ k
  pub rests : rest ≡ rest'

cons-one : (p q : Piece) (ps qs : List Piece) → p.0 ≡ q.0 → p.1 ≡ q.1 → ps ≡ qs → p ∷ ps ≡ q ∷ qs
cons-one p q ps qs e f g = ap (λ x. (x, p.1) ∷ ps) e ∙ ap (λ at. (q.0, at) ∷ ps) f ∙ ap (λ more. q ∷ more) g

pub Front-one : (n : ℕ) (i : Bool) (ts : Lexemes) (ps qs : List Piece) (j k : Bool) (rest rest' : Lexemes) → Front n i ts ps j rest → Front n i ts qs k rest'
    → NoItem j rest → NoItem k rest' → SameFront ps qs j k rest rest'
Front-one n i ts [] [] j k rest rest' (e, f) (e', f') s t = record { pieces = refl; inside = sym e ∙ e'; rests = sym f ∙ f' }
Front-one n i ts [] (q ∷ qs) j k rest rest' (e, f) (mid, h, a, at, more) s t =
    absurd (s q.0 mid (subst (λ c. item.reads c q.0 mid) f h) (subst (λ b. is_allowed b q.0 ≡ true) e a))
Front-one n i ts (p ∷ ps) [] j k rest rest' (mid, h, a, at, more) (e, f) s t =
    absurd (t p.0 mid (subst (λ c. item.reads c p.0 mid) f h) (subst (λ b. is_allowed b p.0 ≡ true) e a))
Front-one n i ts (p ∷ ps) (q ∷ qs) j k rest rest' (mid, h, a, at, more) (mid', h', a', at', more') s t =
    let one = item-one ts p.0 q.0 mid mid' h h' in
    let moved = subst (λ x. Front n (leaves_open x) mid qs k rest') (sym one.0) (subst (λ c. Front n (leaves_open q.0) c qs k rest') (sym one.1) more') in
    let same = Front-one n (leaves_open p.0) mid ps qs j k rest rest' more moved s t in
    record { pieces = cons-one p q ps qs one.0 (omega arith) same.pieces; inside = same.inside; rests = same.rests }

-- ---- how far the items go

pub record Reading (n : ℕ) (inside : Bool) (ts : Lexemes) : Type 0 where
  pub pieces : List Piece
  pub open_at : Bool
  pub rest : Lexemes
  pub front : Front n inside ts pieces open_at rest
  pub none : NoItem open_at rest

stopped : (n : ℕ) (i : Bool) (ts : Lexemes) → NoItem i ts → Reading n i ts
stopped n i ts s = record { pieces = []; open_at = i; rest = ts; front = (refl, refl); none = s }

module _ (n : ℕ) (i : Bool) (ts : Lexemes) (small : length ts ≤ n) where
  going : (x : SomeItem) (mid : Lexemes) → item.reads ts x mid → is_allowed i x ≡ true → Reading n (leaves_open x) mid → Reading n i ts
  going x mid h a r = record {
    pieces = (x, n - length ts) ∷ r.pieces;
    open_at = r.open_at;
    rest = r.rest;
    front = (mid, h, a, (omega arith), r.front);
    none =
        r.none;
  }

  refused : (x : SomeItem) (mid : Lexemes) → item.reads ts x mid → is_allowed i x ≡ false → Reading n i ts
  refused x mid h a = stopped n i ts (λ y mid' g b. let one = item-one ts x y mid mid' h g in let c : is_allowed i x ≡ true = ap (is_allowed i) one.0 ∙ b in cc)

  by_permission : (x : SomeItem) (mid : Lexemes) → item.reads ts x mid → Reading n (leaves_open x) mid → (v : Bool) → is_allowed i x ≡ v → Reading n i ts
  by_permission x mid h r true e = going x mid h e r
  by_permission x mid h r false e = refused x mid h e

  by_item : ((x : SomeItem) (mid : Lexemes) → length mid < length ts → Reading n (leaves_open x) mid) → (o : Option (SomeItem × Lexemes)) → item.parse ts ≡ o
      → Reading n i ts
  by_item ih None e = stopped n i ts (λ x mid h a. let f : ◌≡◌ {A = Option (SomeItem × Lexemes)} None (Some (x, mid)) = sym e
      ∙ item-firm.exact.only ts x mid h in cc)
  by_item ih (Some y) e =
      let h = item-firm.exact.sound ts y.0 y.1 e in
      by_permission y.0 y.1 h (ih y.0 y.1 (item-firm.strict ts y.0 y.1 h)) (is_allowed i y.0) refl

pub reading : (fuel n : ℕ) (i : Bool) (ts : Lexemes) → length ts ≤ fuel → length ts ≤ n → Reading n i ts
reading zero n i ts small all = by_item n i ts all (λ x mid s. absurd (omega arith)) (item.parse ts) refl
reading (suc fuel) n i ts small all = by_item n i ts all (λ x mid s. reading fuel n (leaves_open x) mid (omega arith) (omega arith)) (item.parse ts) refl

-- ---- modules

pub module-one : (ts : Lexemes) (xs ys : List Item) (ss zs : List ℕ) → IsModule ts xs ss → IsModule ts ys zs → (xs ≡ ys) × (ss ≡ zs)
module-one ts xs ys ss zs m k =
    let same = Front-one (length ts) false ts m.pieces k.pieces false false [] [] m.whole k.whole (nothing-read false) (nothing-read false) in
    (sym m.tree ∙ ap kept same.pieces ∙ k.tree, sym m.places ∙ ap kept_starts same.pieces ∙ k.places)

pub unread-one : (ts : Lexemes) (at at' : ℕ) → IsUnread ts at → IsUnread ts at' → at ≡ at'
unread-one ts at at' u v =
    let same = Front-one (length ts) false ts u.pieces v.pieces u.inside v.inside u.rest v.rest u.front v.front u.stops.none v.stops.none in
    let l = ap length same.rests in let a = u.place in let b = v.place in omega arith

pub either-one : (ts : Lexemes) (xs : List Item) (ss : List ℕ) (at : ℕ) → IsModule ts xs ss → IsUnread ts at → ⊥
either-one ts xs ss at m u =
    let same = Front-one (length ts) false ts m.pieces u.pieces false u.inside [] u.rest m.whole u.front (nothing-read false) u.stops.none in
    let e : false ≡ true = same.inside ∙ u.stops.open_end (sym same.rests) in cc

abbrev pub SomeReading : Lexemes → Type 0
SomeReading ts = ((xs : List Item) × (ss : List ℕ) × IsModule ts xs ss) ⊎ ((at : ℕ) × IsUnread ts at)

unread : (ts : Lexemes) (r : Reading (length ts) false ts) → (r.rest ≡ [] → r.open_at ≡ true) → IsUnread ts (length ts - length r.rest)
unread ts r open_end =
    let s = Front-shorter (length ts) false ts r.pieces r.open_at r.rest r.front in
    record { pieces = r.pieces; inside = r.open_at; rest = r.rest; front = r.front; stops = record { none = r.none; open_end = open_end }; place = omega arith }

ended : (ts : Lexemes) (r : Reading (length ts) false ts) → r.rest ≡ [] → (v : Bool) → r.open_at ≡ v → SomeReading ts
ended ts r e true f = inr (length ts - length r.rest, unread ts r (λ _. f))
ended ts r e false f = inl (
  kept r.pieces,
  kept_starts r.pieces,
  record {
    pieces = r.pieces;
    whole = subst (λ j. Front (length ts) false ts r.pieces j []) f (subst (λ c. Front (length ts) false ts r.pieces r.open_at c) e r.front);
    tree = refl;
    places = refl;
  },
)

by_rest : (ts : Lexemes) (r : Reading (length ts) false ts) → (rest : Lexemes) → r.rest ≡ rest → SomeReading ts
by_rest ts r [] e = ended ts r e r.open_at refl
by_rest ts r (l ∷ rest) e = inr (length ts - length r.rest, unread ts r (λ n. let k = ap length (sym e ∙ n) in absurd (omega arith)))

pub some-reading : (ts : Lexemes) → SomeReading ts
some-reading ts = let r = reading (length ts) (length ts) false ts (omega arith) (omega arith) in by_rest ts r r.rest refl
