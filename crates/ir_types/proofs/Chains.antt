-- A definition is done after as many passes as there are definitions: else it names another one, and so on, until one comes again.
use Rattle.std.proofs.Common.{◌≡◌, ℕ, zero, suc, ◌+◌, ◌<◌, ◌≤◌, Bool, true, false, not, if◌then◌else◌, List, [], ◌∷◌, ◌++◌, length, replicate, slice_get, slice_set, get_or, Some}
use Rattle.std.proofs.Common.{unwrap_or, refl, sym, ap, subst, ◌∙◌, arith, length-set}
use mathlib.Core.Logic.{⊎_elim}
use Rattle.std.proofs.lemmas.Bool.{cases_lt}
use Rattle.std.proofs.lemmas.Option.{slice_get-get_or, same_Some}
use Rattle.std.proofs.lemmas.List.{length-replicate}
use Rattle.std.proofs.lemmas.List.Sums.{count_by-le-length}
use Rattle.ir_types.specs.Graph.{next_of, reaches, held, some_left, tally, SetsFlag}
use Rattle.ir_types.specs.Named.{Left, Stands}
use Rattle.ir_types.proofs.Grounds.{any-some, left-less, held-past, none-held, sets-here, flag-cases}
use Rattle.ir_types.proofs.Walking.{mono, last, edge, at-left, at-last}

pub inside : (flags : List Bool) (d : ℕ) → held flags d ≡ false → d < length flags
inside flags d h =
    ⊎_elim (λ (l : d < length flags). l) (λ (l : length flags ≤ d). let no : true ≡ false = sym (held-past flags d l) ∙ h in cc) (cases_lt d (length flags))

pub not-flagged : (flags : List Bool) (d : ℕ) → held flags d ≡ false → unwrap_or (slice_get flags d) false ≡ false
not-flagged [] d h = refl
not-flagged (b ∷ flags) zero h = h
not-flagged (b ∷ flags) (suc d) h = not-flagged flags d h

module _ (es : List (List ℕ)) (recursive : List Bool) (long : length recursive ≡ length es)
    (exact : (d : ℕ) → unwrap_or (slice_get recursive d) false ≡ reaches es (length es) d d) where
  few : (flags : List Bool) → length flags ≡ length es → tally flags ≤ length es
  few flags l = (let most = count_by-le-length (λ b. b) flags in omega arith)

  -- those that have a flag lead to d: it has none yet
  one-flag : (flags : List Bool) (d : ℕ) → length flags ≡ length es
      → ((x : ℕ) → x < length es → held flags x ≡ true → reaches es (tally flags) x d ≡ true) → held recursive d ≡ false
      → ((new : List Bool) → length new ≡ length es → SetsFlag flags d new → tally new ≡ suc (tally flags) → ⊥) → ⊥
  one-flag flags d l lead first rest = by (held flags d) refl
    where
      there : d < length es
      there = (let i = inside recursive d first in omega arith)

      by : (b : Bool) → held flags d ≡ b → ⊥
      by true h =
          let again = mono es (tally flags) (length es) d d (few flags l) (lead d there h) in
          let no : false ≡ true = sym (not-flagged recursive d first) ∙ exact d ∙ again in
          cc
      by false h =
          let s = sets-here flags (slice_set flags d true) d (let i = there in omega arith) refl in
          let t : tally (slice_set flags d true) ≡ tally flags + 1 = s.count ∙ ap (λ b. if b then tally flags else tally flags + 1) h in
          rest (slice_set flags d true) (length-set flags d true ∙ l) s (omega arith)

  -- there is no room for so many more
  chain : (p : ℕ) (flags : List Bool) (d : ℕ) → length flags ≡ length es
      → ((x : ℕ) → x < length es → held flags x ≡ true → reaches es (tally flags) x d ≡ true) → length es < p + suc (tally flags) → Left es recursive p d → ⊥
  chain zero flags d l lead full left = one-flag flags d l lead left (λ new m s t. let f = few new m in omega arith)
  chain (suc p) flags d l lead full left =
      let j = left.1 in
      let c = left.2 in
      let at = left.3 in
      one-flag flags d l lead left.0
      (λ new m s t. chain p new c m
      (λ x i h. ⊎_elim
      (λ same. ap (λ y. reaches es (tally new) y c) same ∙ ap (λ k. reaches es k d c) t ∙ edge es (tally flags) d j c at)
      (λ old. ap (λ k. reaches es k x c) t ∙ last es (tally flags) x d j c (lead x i old) at)
      (flag-cases flags new d x s h))
      (omega arith) left.4)

  none-left : (d : ℕ) → Left es recursive (length es) d → ⊥
  none-left d left =
      chain (length es) (replicate (length es) false) d (length-replicate (length es) false)
      (λ x i h. let past = none-held (length es) x h in absurd (omega arith)) (omega arith) left

  pub all-done : (done : List Bool) (n : ℕ) → length es ≤ n → n ≤ length es → ((d : ℕ) → held done d ≡ false → Left es recursive n d) → (d : ℕ)
      → held done d ≡ true
  all-done done n low high left d = by (held done d) refl
    where
      same : n ≡ length es
      same = omega arith

      by : (b : Bool) → held done d ≡ b → b ≡ true
      by true h = refl
      by false h = absurd (none-left d (subst (λ (m : ℕ). Left es recursive m d) same (left d h)))

-- ---- one pass more

pub left-next : (es : List (List ℕ)) (recursive old new : List Bool) (p m : ℕ) → m ≡ suc p → ((d : ℕ) → held old d ≡ false → Left es recursive p d)
    → ((d : ℕ) → held recursive d ≡ true → held new d ≡ true) → ((d : ℕ) → held new d ≡ false → some_left old (next_of es d) ≡ true)
    → (d : ℕ) → held new d ≡ false → Left es recursive m d
left-next es recursive old new p m e before cyclic tried d h =
    let r = any-some (λ c. not (held old c)) (next_of es d) (tried d h) in
    subst (λ (k : ℕ). Left es recursive k d) (sym e)
    (first (held recursive d) refl, r.0, r.1, r.2, before r.1 (other (held old r.1) r.3))
  where
    first : (b : Bool) → held recursive d ≡ b → b ≡ false
    first false e = refl
    first true e = (let no : true ≡ false = sym (cyclic d e) ∙ h in cc)

    other : (b : Bool) → not b ≡ true → b ≡ false
    other false e = refl
    other true e = cc

-- one definition more in a pass
pub tried-more : (es : List (List ℕ)) (order : List ℕ) (first old new : List Bool) (i : ℕ) → i < length order
    → ((c : ℕ) → held first c ≡ true → held old c ≡ true) → ((c : ℕ) → held old c ≡ true → held new c ≡ true)
    → ((j d : ℕ) → j < i → slice_get order j ≡ Some d → held old d ≡ false → some_left first (next_of es d) ≡ true)
    → (held new (get_or order i 0) ≡ false → some_left old (next_of es (get_or order i 0)) ≡ true)
    → (j d : ℕ) → j < i + 1 → slice_get order j ≡ Some d → held new d ≡ false → some_left first (next_of es d) ≡ true
tried-more es order first old new i l early late before here j d m at h =
    ⊎_elim (λ (k : j < i). before j d k at (was (held old d) refl)) (λ (k : i ≤ j). last-one (let same : i ≡ j = omega arith in same)) (cases_lt j i)
  where
    was : (b : Bool) → held old d ≡ b → b ≡ false
    was false e = refl
    was true e = (let no : true ≡ false = sym (late d e) ∙ h in cc)

    more : (b : Bool) → some_left first (next_of es d) ≡ b → some_left old (next_of es d) ≡ true → b ≡ true
    more true e f = refl
    more false e f = (let no : false ≡ true = sym (left-less first old early (next_of es d) e) ∙ f in cc)

    last-one : i ≡ j → some_left first (next_of es d) ≡ true
    last-one same =
        let one : get_or order i 0 ≡ d =
        same_Some (get_or order i 0) d (sym (slice_get-get_or order i 0 l) ∙ ap (slice_get order) same ∙ at) in
        more (some_left first (next_of es d)) refl
        (ap (λ c. some_left old (next_of es c)) (sym one) ∙ here (ap (held new) one ∙ h))

-- ---- each definition stands in an order

pub stands-more : (order new : List ℕ) (i d : ℕ) → new ≡ order ++ i ∷ [] → ((d : ℕ) → d < i → Stands order d) → d < i + 1 → Stands new d
stands-more order new i d e before h =
    subst (λ (l : List ℕ). Stands l d) (sym e)
    (⊎_elim
    (λ (l : d < i). let s = before d l in (s.0, at-left order (i ∷ []) s.0 d s.1))
    (λ (l : i ≤ d). (length order, at-last order i ∙ (let same : i ≡ d = omega arith in ap Some same)))
    (cases_lt d i))
