-- A walk along the definitions comes to those to which its first one leads.
use Rattle.std.proofs.Common.{◌≡◌, ◌⊎◌, inl, inr, ℕ, zero, suc, ◌+◌, ◌<◌, ◌≤◌, nat_eq, Bool, true, false, not, ◌||◌, if◌then◌else◌, List, [], ◌∷◌, ◌++◌, length, take, get_or, Option, Some, None}
use Rattle.std.proofs.Common.{slice_get, refl, sym, ap, subst, ◌∙◌, arith, length-append}
use mathlib.Core.Logic.{⊎_elim}
use Rattle.std.proofs.lemmas.Bool.{cases_lt}
use Rattle.std.proofs.lemmas.Option.{slice_get_within, slice_get-get_or}
use Rattle.std.proofs.lemmas.List.Folds.{list_any_more}
use Rattle.std.proofs.lemmas.List.Sums.{count_by-le-length}
use Rattle.ir_types.specs.declared.walk.Walk.{Walk}
use Rattle.ir_types.specs.Graph.{next_of, reaches, held, some_left, tally, AreGrounded}
use Rattle.ir_types.specs.Walks.{Enters, Waits, IsWalk, Leads, Visits}
use Rattle.ir_types.proofs.Grounds.{or-cases, or-right, same-number, one-number, any-at, any-some, left-less, flag-grows, flag-here, flag-cases, stays}

-- ---- steps

pub mono : (es : List (List ℕ)) (k m a b : ℕ) → k ≤ m → reaches es k a b ≡ true → reaches es m a b ≡ true
unfolding reaches
mono es zero m a b l h = cc
mono es (suc k) zero a b l h = absurd (omega arith)
mono es (suc k) (suc m) a b l h =
    let p = any-some (λ c. nat_eq c b || reaches es k c b) (next_of es a) h in
    let c = p.1 in
    any-at (λ c. nat_eq c b || reaches es m c b) (next_of es a) p.0 c p.2
    (⊎_elim (λ e. ap (λ x. x || reaches es m c b) e) (λ r. or-right (nat_eq c b) (reaches es m c b) (mono es k m c b (omega arith) r))
    (or-cases (nat_eq c b) (reaches es k c b) p.3))

pub edge : (es : List (List ℕ)) (k d j c : ℕ) → slice_get (next_of es d) j ≡ Some c → reaches es (suc k) d c ≡ true
unfolding reaches
edge es k d j c at = any-at (λ y. nat_eq y c || reaches es k y c) (next_of es d) j c at (ap (λ b. b || reaches es k c c) (same-number c))

-- one step more at the end
pub last : (es : List (List ℕ)) (k d a j c : ℕ) → reaches es k d a ≡ true → slice_get (next_of es a) j ≡ Some c → reaches es (suc k) d c ≡ true
unfolding reaches
last es zero d a j c h at = cc
last es (suc k) d a j c h at =
    let p = any-some (λ x. nat_eq x a || reaches es k x a) (next_of es d) h in
    let x = p.1 in
    any-at (λ x. nat_eq x c || reaches es (suc k) x c) (next_of es d) p.0 x p.2 (or-right (nat_eq x c) (reaches es (suc k) x c)
    (⊎_elim
    (λ e. ap (λ y. reaches es (suc k) y c) (one-number x a e) ∙ edge es k a j c at)
    (λ r. last es k x a j c r at)
    (or-cases (nat_eq x a) (reaches es k x a) p.3)))

-- ---- a queue

pub at-left : (xs ys : List ℕ) (j x : ℕ) → slice_get xs j ≡ Some x → slice_get (xs ++ ys) j ≡ Some x
at-left [] ys j x h = cc
at-left (y ∷ xs) ys zero x h = h
at-left (y ∷ xs) ys (suc j) x h = at-left xs ys j x h

pub at-last : (xs : List ℕ) (x : ℕ) → slice_get (xs ++ x ∷ []) (length xs) ≡ Some x
at-last [] x = refl
at-last (y ∷ xs) x = at-last xs x

at-cases : (xs : List ℕ) (x j y : ℕ) → slice_get (xs ++ x ∷ []) j ≡ Some y → (slice_get xs j ≡ Some y) ⊎ (x ≡ y)
at-cases [] x zero y h = inr cc
at-cases [] x (suc j) y h = cc
at-cases (z ∷ xs) x zero y h = inl h
at-cases (z ∷ xs) x (suc j) y h = at-cases xs x j y h

module _ (old : Walk) (c : ℕ) (new : Walk) (e : Enters old c new) where
  more-one : length old.queue ≤ length new.queue
  more-one = by (held old.marks c) e.queue
    where
      by : (b : Bool) → new.queue ≡ (if b then old.queue else old.queue ++ c ∷ []) → length old.queue ≤ length new.queue
      by true q = (let l = ap length q in omega arith)
      by false q = (let l = ap length q ∙ length-append old.queue (c ∷ []) in omega arith)

  kept-one : (j a : ℕ) → slice_get old.queue j ≡ Some a → slice_get new.queue j ≡ Some a
  kept-one j a h = by (held old.marks c) e.queue
    where
      by : (b : Bool) → new.queue ≡ (if b then old.queue else old.queue ++ c ∷ []) → slice_get new.queue j ≡ Some a
      by true q = ap (λ (l : List ℕ). slice_get l j) q ∙ h
      by false q = ap (λ (l : List ℕ). slice_get l j) q ∙ at-left old.queue (c ∷ []) j a h

  enter-walk : (es : List (List ℕ)) (flags : List Bool) (d i : ℕ) → i ≤ length old.queue → IsWalk es flags d i old
      → reaches es (suc (length old.queue)) d c ≡ true → IsWalk es flags d i new
  enter-walk es flags d i low w r = by (held old.marks c) refl
    where
      grows : (c : ℕ) → held old.marks c ≡ true → held new.marks c ≡ true
      grows = flag-grows old.marks new.marks c e.marks

      was : (a : ℕ) → held old.marks a ≡ true → (some_left new.marks (next_of es a) ≡ false) ⊎ Waits new.queue i a
      was a h = ⊎_elim (λ f. inl (left-less old.marks new.marks grows (next_of es a) f)) (λ f. inr (f.0, f.1, kept-one f.0 a f.2)) (w.rest a h)

      by : (b : Bool) → held old.marks c ≡ b → IsWalk es flags d i new
      by true m =
          let q : new.queue ≡ old.queue = e.queue ∙ ap (λ b. if b then old.queue else old.queue ++ c ∷ []) m in
          let n : tally new.marks ≡ tally old.marks = e.marks.count ∙ ap (λ b. if b then tally old.marks else tally old.marks + 1) m in
          let before : (a : ℕ) → held new.marks a ≡ true → held old.marks a ≡ true =
          λ a h. ⊎_elim (λ f. ap (held old.marks) f ∙ m) (λ f. f) (flag-cases old.marks new.marks c a e.marks h) in
          record {
            long = e.marks.long ∙ w.long;
            count = n ∙ w.count ∙ ap (λ (l : List ℕ). tally flags + length l) (sym q);
            named = λ j a h. subst (λ (l : List ℕ). reaches es (length l) d a ≡ true) (sym q) (w.named j a (ap (λ (l : List ℕ). slice_get l j) (sym q) ∙ h));
            sound = λ a h. subst (λ (l : List ℕ). (held flags a ≡ true) ⊎ (reaches es (length l) d a ≡ true)) (sym q) (w.sound a (before a h));
            rest = λ a h. was a (before a h);
          }
      by false m =
          let q : new.queue ≡ old.queue ++ c ∷ [] = e.queue ∙ ap (λ b. if b then old.queue else old.queue ++ c ∷ []) m in
          let n : tally new.marks ≡ tally old.marks + 1 = e.marks.count ∙ ap (λ b. if b then tally old.marks else tally old.marks + 1) m in
          let long : length new.queue ≡ length old.queue + 1 = ap length q ∙ length-append old.queue (c ∷ []) in
          let here : reaches es (length new.queue) d c ≡ true = mono es (suc (length old.queue)) (length new.queue) d c (omega arith) r in
          let up : (a : ℕ) → reaches es (length old.queue) d a ≡ true → reaches es (length new.queue) d a ≡ true =
          λ a h. mono es (length old.queue) (length new.queue) d a (omega arith) h in
          record {
            long = e.marks.long ∙ w.long;
            count = (let before = w.count in omega arith);
            named = λ j a h. ⊎_elim (λ f. up a (w.named j a f)) (λ f. ap (reaches es (length new.queue) d) (sym f) ∙ here)
                (at-cases old.queue c j a (ap (λ (l : List ℕ). slice_get l j) (sym q) ∙ h));
            sound = λ a h. ⊎_elim (λ f. inr (ap (reaches es (length new.queue) d) f ∙ here))
                (λ f. ⊎_elim (λ s. inl s) (λ s. inr (up a s)) (w.sound a f)) (flag-cases old.marks new.marks c a e.marks h);
            rest = λ a h. ⊎_elim
                (λ f. inr (length old.queue, low, ap (λ (l : List ℕ). slice_get l (length old.queue)) q ∙ at-last old.queue c ∙ ap Some (sym f)))
                (λ f. was a f) (flag-cases old.marks new.marks c a e.marks h);
          }

pub visits-none : (walk : Walk) (list : List ℕ) → Visits walk list [] walk
visits-none walk list = record {
  walk = λ es flags d i low w l. w;
  all = refl;
  grows = λ c h. h;
  more = omega arith;
  kept = λ j a h. h;
}

pub visits-more : (first old new : Walk) (list : List ℕ) (i : ℕ) → i < length list → Visits first list (take i list) old
    → Enters old (get_or list i 0) new → Visits first list (take (i + 1) list) new
visits-more first old new list i h v e = record {
  walk = λ es flags d k low w l.
      enter-walk old (get_or list i 0) new e es flags d k (let more = v.more in omega arith) (v.walk es flags d k low w l)
      (mono es (suc (length first.queue)) (suc (length old.queue)) d (get_or list i 0) (let more = v.more in omega arith)
      (l i (get_or list i 0) (slice_get-get_or list i 0 h)));
  all = list_any_more (λ c. not (held new.marks c)) list i 0 h
      ∙ (λ j. left-less old.marks new.marks (flag-grows old.marks new.marks (get_or list i 0) e.marks) (take i list) v.all j
      || not (flag-here old.marks new.marks (get_or list i 0) e.marks j));
  grows = λ a f. flag-grows old.marks new.marks (get_or list i 0) e.marks a (v.grows a f);
  more = (let before = v.more in let here = more-one old (get_or list i 0) new e in omega arith);
  kept = λ j a f. kept-one old (get_or list i 0) new e j a (v.kept j a f);
}

-- ---- one step of the walk

pub step-walk : (es : List (List ℕ)) (flags : List Bool) (old new : Walk) (d i a : ℕ) → slice_get old.queue i ≡ Some a → IsWalk es flags d i old
    → Visits old (next_of es a) (next_of es a) new → IsWalk es flags d (i + 1) new
step-walk es flags old new d i a at w v =
    let low : i ≤ length old.queue = (let l = slice_get_within old.queue i a at in omega arith) in
    let x = v.walk es flags d i low w (λ j c h. last es (length old.queue) d a j c (w.named i a at) h) in
    record {
      long = x.long;
      count = x.count;
      named = x.named;
      sound = x.sound;
      rest = λ b h. ⊎_elim (λ f. inl f) (λ f. by b f.0 f.1 f.2 (cases_lt i f.0)) (x.rest b h);
    }
  where
    by : (b j : ℕ) → i ≤ j → slice_get new.queue j ≡ Some b → (i < j) ⊎ (j ≤ i) → (some_left new.marks (next_of es b) ≡ false) ⊎ Waits new.queue (i + 1) b
    by b j l h (inl m) = inr (j, omega arith, h)
    by b j l h (inr m) =
        let same : i ≡ j = omega arith in
        let one : ◌≡◌ {A = Option ℕ} (Some a) (Some b) = sym (v.kept i a at) ∙ ap (slice_get new.queue) same ∙ h in
        let same : b ≡ a = cc in
        inl (ap (λ x. some_left new.marks (next_of es x)) same ∙ v.all)

pub step-none : (es : List (List ℕ)) (flags : List Bool) (walk : Walk) (d i : ℕ) → slice_get walk.queue i ≡ None → IsWalk es flags d i walk
    → IsWalk es flags d (i + 1) walk
step-none es flags walk d i none w = record {
  long = w.long;
  count = w.count;
  named = w.named;
  sound = w.sound;
  rest = λ b h. ⊎_elim (λ f. inl f) (λ f. inr (by b f.0 f.1 f.2 (cases_lt i f.0))) (w.rest b h);
}
  where
    by : (b j : ℕ) → i ≤ j → slice_get walk.queue j ≡ Some b → (i < j) ⊎ (j ≤ i) → Waits walk.queue (i + 1) b
    by b j l h (inl m) = (j, omega arith, h)
    by b j l h (inr m) =
        let same : i ≡ j = omega arith in
        let one : ◌≡◌ {A = Option ℕ} None (Some b) = sym none ∙ ap (slice_get walk.queue) same ∙ h in
        cc

-- ---- from the first step to the last

module _ (es : List (List ℕ)) (flags : List Bool) (d : ℕ) (g : AreGrounded es flags) where
  pub walk-first : (old new : Walk) (list : List ℕ) → old.marks ≡ flags → old.queue ≡ [] → list ≡ next_of es d
      → Visits old list list new → IsWalk es flags d 0 new × (some_left new.marks (next_of es d) ≡ false)
  walk-first old new list same q n v = (
    v.walk es flags d 0 (omega arith) start (subst (λ (l : List ℕ). Leads es d (length old.queue) l) (sym n)
        (subst (λ (l : List ℕ). Leads es d (length l) (next_of es d)) (sym q) (λ j c at. edge es 0 d j c at))),
    ap (some_left new.marks) (sym n) ∙ v.all,
  )
    where
      start : IsWalk es flags d 0 old
      start = record {
        long = ap length same ∙ g.long;
        count = (let none : length old.queue ≡ 0 = ap length q in let one : tally old.marks ≡ tally flags = ap tally same in omega arith);
        named = λ j a h. (let no : ◌≡◌ {A = Option ℕ} None (Some a) = ap (λ (l : List ℕ). slice_get l j) (sym q) ∙ h in cc);
        sound = λ e h. inl (ap (λ (l : List Bool). held l e) (sym same) ∙ h);
        rest = λ a h. inl (ap (λ (l : List Bool). some_left l (next_of es a)) same ∙ g.closed a (ap (λ (l : List Bool). held l a) (sym same) ∙ h));
      }

  pub walk-last : (walk : Walk) (n : ℕ) → held flags d ≡ false → length es ≤ n → IsWalk es flags d n walk → some_left walk.marks (next_of es d) ≡ false
      → held walk.marks d ≡ reaches es (length es) d d
  walk-last walk n other long w first = by (held walk.marks d) refl (reaches es (length es) d d) refl
    where
      few : length walk.queue ≤ length es
      few =
          let most = count_by-le-length (λ b. b) walk.marks in
          let count = w.count in
          let l = w.long in
          omega arith

      closed : (a : ℕ) → held walk.marks a ≡ true → some_left walk.marks (next_of es a) ≡ false
      closed a h =
          ⊎_elim (λ f. f)
          (λ f. let inside = slice_get_within walk.queue f.0 a f.2 in let low = f.1 in let l = few in absurd (omega arith)) (w.rest a h)

      by : (x : Bool) → held walk.marks d ≡ x → (y : Bool) → reaches es (length es) d d ≡ y → x ≡ y
      by true h y r =
          ⊎_elim (λ s. let no : false ≡ true = sym other ∙ s in cc)
          (λ s. sym (mono es (length walk.queue) (length es) d d few s) ∙ r) (w.sound d h)
      by false h false r = refl
      by false h true r = sym h ∙ stays es walk.marks closed (length es) d d first r
