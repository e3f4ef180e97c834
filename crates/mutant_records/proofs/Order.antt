-- Replacements in the order of their mutants: how many there are, and what the next one may be.
use Rattle.std.proofs.Common.{◌≡◌, ◌≢◌, ℕ, ◌+◌, ◌-◌, ◌*◌, ◌==◌, ◌<◌, ◌≤◌, ◌&&◌, nat_le, nat_lt, not, Bool, true, false, if◌then◌else◌, List, [], ◌∷◌, ◌++◌, length}
use Rattle.std.proofs.Common.{Option, Some, None, is_none, slice_get, unwrap_or, refl, sym, ap, subst, ◌∙◌, arith, append_assoc, length-append, ⊎_elim}
use Rattle.std.proofs.lemmas.Bool.{and_parts, cases_lt, eq-eqb, ne_eqb, leb-true, ltb-true, lt-ltb, le-ltb, le-leb, lt-leb}
use Rattle.std.proofs.lemmas.List.{append-nil}
use Rattle.am_base.specs.declared.limits.TheConstants.{MAX_LISTED_MUTANTS, MAX_REPLACEMENTS}
use Rattle.code_form.specs.Variant.{has_place}
use Rattle.ir_tokens.specs.Bytes.{Text}
use Rattle.list_records.specs.Numbers.{decimal_of, number_within, positive}
use Rattle.list_records.specs.Records.{Fields, field_of}
use Rattle.list_records.specs.declared.decimal.Decimal.{Decimal}
use Rattle.mutant_records.specs.Lists.{last_mutant, mutant_or_none, places_of, takes, if_taken, mutant_called, mutant_named, is_taken}
use Rattle.mutant_records.specs.Order.{AreInOrder, Follows}
use Rattle.mutant_records.specs.declared.list.ListForm.{ListForm}
use Rattle.mutant_records.specs.declared.list.ListForm.TheVariants.{Plain, Numbered}
use Rattle.mutant_records.specs.declared.list.Made.{Made}

-- ---- one more at the end

at-end : (all : List Made) (made : Made) → slice_get (all ++ made ∷ []) (length all) ≡ Some made
at-end [] made = refl
at-end (a ∷ all) made = at-end all made

pub last-more : (all : List Made) (made : Made) → last_mutant (all ++ made ∷ []) ≡ made.mutant
last-more all made =
    let index : length (all ++ made ∷ []) - 1 ≡ length all = omega (arith, length-append all (made ∷ [])) in
    ap (λ k. mutant_or_none (slice_get (all ++ made ∷ []) k)) index ∙ ap mutant_or_none (at-end all made)

pub places-here : (all : List Made) (made : Made) (m : ℕ) → made.mutant ≡ m → places_of (all ++ made ∷ []) m ≡ places_of all m ++ made.place.0 ∷ []
places-here [] made m e = rw (eq-eqb made.mutant m e) refl
places-here (a ∷ all) made m e = by (a.mutant == m) (places-here all made m e)
  where
    by : (b : Bool) → places_of (all ++ made ∷ []) m ≡ places_of all m ++ made.place.0 ∷ []
        → (if b then a.place.0 ∷ places_of (all ++ made ∷ []) m else places_of (all ++ made ∷ []) m)
        ≡ (if b then a.place.0 ∷ places_of all m else places_of all m) ++ made.place.0 ∷ []
    by true rest = ap (λ (ps : List ℕ). a.place.0 ∷ ps) rest
    by false rest = rest

pub places-other : (all : List Made) (made : Made) (m : ℕ) → made.mutant ≢ m → places_of (all ++ made ∷ []) m ≡ places_of all m
places-other [] made m ne = rw (ne_eqb made.mutant m ne) refl
places-other (a ∷ all) made m ne = ap (λ (ps : List ℕ). if (a.mutant == m) then a.place.0 ∷ ps else ps) (places-other all made m ne)

-- ---- how many there are

pub record AreCounted (all : List Made) : Type 0 where
  pub within : last_mutant all ≤ MAX_LISTED_MUTANTS
  pub short : last_mutant all ≤ length all
  pub none_later : (m : ℕ) → last_mutant all < m → places_of all m ≡ []
  pub counted : length all ≤ 4 * last_mutant all
  pub counted_last : length all ≤ 4 * (last_mutant all - 1) + length (places_of all (last_mutant all))

nothing-counted : AreCounted []
nothing-counted =
    let none : last_mutant [] ≡ 0 = refl in
    record {
      within = omega (arith, none);
      short = omega (arith, none);
      none_later = λ m l. refl;
      counted = omega arith;
      counted_last = omega arith;
    }

module _ (all : List Made) (made : Made) (c : AreCounted all) (f : Follows all made) where
  last : last_mutant (all ++ made ∷ []) ≡ made.mutant
  last = last-more all made

  long : length (all ++ made ∷ []) ≡ length all + 1
  long = length-append all (made ∷ [])

  places : length (places_of (all ++ made ∷ []) made.mutant) ≡ length (places_of all made.mutant) + 1
  places = ap (λ (ps : List ℕ). length ps) (places-here all made made.mutant refl) ∙ length-append (places_of all made.mutant) (made.place.0 ∷ [])

  here : length all + 1 ≤ 4 * (made.mutant - 1) + (length (places_of all made.mutant) + 1)
  here =
      ⊎_elim
      (λ l. omega (arith, l, c.counted))
      (λ l. let e : last_mutant all ≡ made.mutant = omega (arith, l, f.later) in
      let same = ap (λ m. length (places_of all m)) e in omega (arith, e, same, c.counted_last))
      (cases_lt (last_mutant all) made.mutant)

  later : (m : ℕ) → made.mutant < m → places_of (all ++ made ∷ []) m ≡ []
  later m l = places-other all made m (λ e. omega (arith, l, e)) ∙ c.none_later m (omega (arith, l, f.later))

  pub counted-more : AreCounted (all ++ made ∷ [])
  counted-more = record {
    within = omega (arith, last, f.within);
    short = omega (arith, last, long, f.next);
    none_later = λ m l. later m (omega (arith, last, l));
    counted = omega (arith, last, long, here, f.few, f.some);
    counted_last = let same = ap (λ m. length (places_of (all ++ made ∷ []) m)) last in omega (arith, last, long, here, places, same);
  }

counted-on : (before all : List Made) → AreCounted before → AreInOrder before all → AreCounted (before ++ all)
counted-on before [] c o = subst AreCounted (sym (append-nil before)) c
counted-on before (made ∷ all) c o =
    subst AreCounted (append_assoc before (made ∷ []) all) (counted-on (before ++ made ∷ []) all (counted-more before made c o.0) o.1)

pub order-counted : (all : List Made) → AreInOrder [] all → AreCounted all
order-counted all o = counted-on [] all nothing-counted o

pub order-more : (before all : List Made) (made : Made) → AreInOrder before all → Follows (before ++ all) made → AreInOrder before (all ++ made ∷ [])
order-more before [] made o f = (subst (λ l. Follows l made) (append-nil before) f, tt)
order-more before (a ∷ all) made o f =
    (o.0, order-more (before ++ a ∷ []) all made o.1 (subst (λ l. Follows l made) (sym (append_assoc before (a ∷ []) all)) f))

-- the mutants don't fall
last-rises : (before all : List Made) → AreInOrder before all → last_mutant before ≤ last_mutant (before ++ all)
last-rises before [] o = let e = ap last_mutant (append-nil before) in omega (arith, e)
last-rises before (made ∷ all) o =
    let rest = last-rises (before ++ made ∷ []) all o.1 in
    let same = ap last_mutant (append_assoc before (made ∷ []) all) in
    omega (arith, rest, same, last-more before made, o.0.later)

pub next-within : (before all : List Made) (made : Made) → AreInOrder before (made ∷ all) → made.mutant ≤ last_mutant (before ++ made ∷ all)
next-within before all made o =
    let rest = last-rises (before ++ made ∷ []) all o.1 in
    let same = ap last_mutant (append_assoc before (made ∷ []) all) in
    omega (arith, rest, same, last-more before made)

-- ---- the mutant of the next record

pub record Named (all : List Made) (m : ℕ) : Type 0 where
  pub some : 1 ≤ m
  pub later : last_mutant all ≤ m
  pub next : m ≤ length all + 1
  pub few : length (places_of all m) < MAX_REPLACEMENTS

pub number-bounds : (most n : ℕ) (text : Text) → number_within most text ≡ Some n → (1 ≤ n) × (n ≤ most)
number-bounds most n text e = by (decimal_of text) e
  where
    test : (d : Decimal) (b : Bool) → (not d.negative && (nat_le 1 d.magnitude && nat_le d.magnitude most)) ≡ b
        → (if b then Some d.magnitude else None) ≡ Some n → (1 ≤ n) × (n ≤ most)
    test d true h e =
        let parts = and_parts (nat_le 1 d.magnitude) (nat_le d.magnitude most) (and_parts (not d.negative) _ h).1 in
        let same : d.magnitude ≡ n = cc in
        (omega (arith, same, leb-true 1 d.magnitude parts.0), omega (arith, same, leb-true d.magnitude most parts.1))
    test d false h e = cc

    by : (o : Option Decimal) → positive most o ≡ Some n → (1 ≤ n) × (n ≤ most)
    by None e = cc
    by (Some d) e = test d _ refl e

module _ (all : List Made) (c : AreCounted all) where
  taken-named : (o : Option ℕ) → ((m : ℕ) → o ≡ Some m → (1 ≤ m) × (m ≤ last_mutant all + 1)) → is_none (if_taken all o) ≡ false
      → Named all (unwrap_or (if_taken all o) 0)
  taken-named None bounds h = cc
  taken-named (Some m) bounds h = by (takes all m) refl h
    where
      by : (b : Bool) → takes all m ≡ b → is_none (if b then Some m else None) ≡ false → Named all (unwrap_or (if b then Some m else None) 0)
      by true t h =
          let parts = and_parts (nat_le (last_mutant all) m) (nat_lt (length (places_of all m)) MAX_REPLACEMENTS) t in
          let within = bounds m refl in
          record {
            some = within.0;
            later = leb-true (last_mutant all) m parts.0;
            next = omega (arith, within.1, c.short);
            few = ltb-true (length (places_of all m)) MAX_REPLACEMENTS parts.1;
          }
      by false t h = cc

  pub named : (form : ListForm) (fields : Fields) → is_none (mutant_called form all (length all + 1) fields) ≡ false
      → Named all (mutant_named form all (length all + 1) fields)
  named Plain fields h =
      let none = c.none_later (length all + 1) (omega (arith, c.short)) in
      record { some = omega arith; later = omega (arith, c.short); next = omega arith; few = rw none (omega arith) }
  named Numbered fields h =
      taken-named (number_within (last_mutant all + 1) (field_of fields 0))
      (λ m e. number-bounds (last_mutant all + 1) m (field_of fields 0) e) h

  pub not-taken : (form : ListForm) (fields : Fields) (at : ℕ) → is_taken form all (mutant_named form all (length all + 1) fields) at ≡ false
      → has_place (places_of all (mutant_named form all (length all + 1) fields)) at ≡ false
  not-taken Plain fields at h =
      let none = c.none_later (length all + 1) (omega (arith, c.short)) in
      ap (λ (ps : List ℕ). has_place ps at) none
  not-taken Numbered fields at h = h

  pub not-taken-later : (form : ListForm) (m at : ℕ) → last_mutant all < m → is_taken form all m at ≡ false
  not-taken-later Plain m at l = refl
  not-taken-later Numbered m at l = ap (λ (ps : List ℕ). has_place ps at) (c.none_later m l)

  -- a mutant that isn't the last one
  pub takes-other : (last m : ℕ) → last ≡ last_mutant all → m ≢ last → nat_lt last m ≡ takes all m
  takes-other last m e ne =
      ⊎_elim
      (λ (l : last < m). rw (lt-ltb last m l, le-leb (last_mutant all) m (omega (arith, l, e)), c.none_later m (omega (arith, l, e))) refl)
      (λ (l : m ≤ last). rw (le-ltb last m l, lt-leb (last_mutant all) m (omega (arith, l, e, ne))) refl)
      (cases_lt last m)
