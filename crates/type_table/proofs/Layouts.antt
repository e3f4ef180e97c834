-- The room that a value takes, by the room of the parts of its type, is that of its layout.
use Rattle.std.proofs.Common.{◌≡◌, ◌⊎◌, inl, inr, ℕ, ◌+◌, ◌*◌, ◌<◌, ◌≤◌, nat_lt, max, Bool, true, false, List, [], ◌∷◌, ◌++◌, map, Option, Some, None}
use Rattle.std.proofs.Common.{if◌then◌else◌, refl, sym, ap, ◌∙◌, subst, arith, append_assoc}
use mathlib.Core.Logic.{⊎_elim}
use Rattle.std.proofs.lemmas.List.{append-nil}
use Rattle.std.specs.List.{fold}
use Rattle.std.proofs.lemmas.Bool.{cases_lt}
use Rattle.std.proofs.lemmas.Bool.Decides.{nat_tests}
use Rattle.am_base.specs.declared.word.Width.{Width}
use Rattle.am_base.specs.declared.word.Width.TheVariants.{W1, W8, W16, W32, W64}
use Rattle.am_base.specs.declared.limits.TheConstants.{MAX_TYPE_BYTES}
use Rattle.type_layout.specs.Layout.{round_up, bytes_of}
use Rattle.type_layout.specs.declared.ty.Ty.{Ty, map-Ty, roll-Ty}
use Rattle.type_layout.specs.declared.ty.Ty.TheVariants as ty
use Rattle.type_layout.specs.declared.ty.Ty.TheOpen.{Ty-F}
use Rattle.type_layout.specs.declared.ty.Ty.TheFolds.{fold-roll-Ty, ind-Ty}
use Rattle.type_layout.specs.Types.{Layout, layout_of, layout_step, end_after, offsets_from, greatest_align}
use Rattle.type_table.specs.declared.extent.Fields.{Fields}
use Rattle.type_table.specs.declared.shape.Extent.{Extent}
use Rattle.type_table.specs.Table.{extent_with, extent_of}
use Rattle.type_table.specs.Extents.{limited, near, within_memory, array_extent, no_fields, with_field, ended}

-- ---- layouts level by level

pub int-layout : (w : Width) → layout_of (ty.Int w) ≡ layout_step (Ty-F.Int w)
int-layout w = ap layout_of (sym (ty.rolls-Int w)) ∙ fold-roll-Ty Layout layout_step (Ty-F.Int w)

pub ptr-layout : layout_of ty.Ptr ≡ layout_step Ty-F.Ptr
ptr-layout = ap layout_of (sym ty.rolls-Ptr) ∙ fold-roll-Ty Layout layout_step Ty-F.Ptr

pub array-layout : (n : ℕ) (t : Ty) → layout_of (ty.Array n t) ≡ layout_step (Ty-F.Array n (layout_of t))
array-layout n t = ap layout_of (sym (ty.rolls-Array n t)) ∙ fold-roll-Ty Layout layout_step (Ty-F.Array n t)

pub struct-layout : (ts : List Ty) → layout_of (ty.Struct ts) ≡ layout_step (Ty-F.Struct (map layout_of ts))
struct-layout ts = ap layout_of (sym (ty.rolls-Struct ts)) ∙ fold-roll-Ty Layout layout_step (Ty-F.Struct ts)

-- ---- what holds of each layout

pub record Sane (l : Layout) : Type 0 where
  pub within : l.size ≤ l.most
  pub some : 0 < l.align
  pub few : l.align ≤ 8

abbrev AreSane : List Layout → Type 0
AreSane [] = Unit {0}
AreSane (l ∷ ls) = Sane l × AreSane ls

abbrev most_of : ℕ → List Layout → ℕ
most_of m ls = fold (λ most l. max most l.most) m ls

abbrev align_from : ℕ → List Layout → ℕ
align_from a ls = fold (λ most l. max most l.align) a ls

most-start : (ls : List Layout) (m : ℕ) → m ≤ most_of m ls
most-start [] m = omega arith
most-start (l ∷ ls) m = omega (arith, most-start ls (max m l.most))

end-start : (ls : List Layout) (at : ℕ) → at ≤ end_after at ls
end-start [] at = omega arith
end-start (l ∷ ls) at = omega (arith, end-start ls (round_up at l.align + l.size))

align-near : (ls : List Layout) (a : ℕ) → AreSane ls → 0 < a → a ≤ 8 → (0 < align_from a ls) × (align_from a ls ≤ 8)
align-near [] a s p q = (p, q)
align-near (l ∷ ls) a s p q = let h = s.0 in align-near ls (max a l.align) s.1 (omega arith) (let few = h.few in omega arith)

bytes-near : (w : Width) → (0 < bytes_of w) × (bytes_of w ≤ 8)
bytes-near W1 = (omega arith, omega arith)
bytes-near W8 = (omega arith, omega arith)
bytes-near W16 = (omega arith, omega arith)
bytes-near W32 = (omega arith, omega arith)
bytes-near W64 = (omega arith, omega arith)

-- ---- the layout of each type is sane

abbrev SaneTy : Ty → Type 0
SaneTy t = Sane (layout_of t)

abbrev Part : Type 0
Part = (t : Ty) × SaneTy t

parts-sane : (cs : List Part) → AreSane (map layout_of (map (λ c. c.0) cs))
parts-sane [] = tt
parts-sane (c ∷ cs) = (c.1, parts-sane cs)

step-sane : (x : Ty-F Layout) → ((n : ℕ) (l : Layout) → x ≡ Ty-F.Array n l → Sane l) → ((ls : List Layout) → x ≡ Ty-F.Struct ls → AreSane ls) → Sane (layout_step x)
step-sane (Ty-F.Int w) a s = let b = bytes-near w in record { within = omega arith; some = b.0; few = b.1 }
step-sane Ty-F.Ptr a s = record { within = omega arith; some = omega arith; few = omega arith }
step-sane (Ty-F.Array n l) a s = let h = a n l refl in record { within = omega arith; some = h.some; few = h.few }
step-sane (Ty-F.Struct ls) a s =
    let near = align-near ls 1 (s ls refl) (omega arith) (omega arith) in
    record { within = most-start ls (round_up (end_after 0 ls) (greatest_align ls)); some = near.0; few = near.1 }

levels : (y : Ty-F Part) → SaneTy (roll-Ty (map-Ty Part Ty (λ c. c.0) y))
levels (Ty-F.Int w) = subst Sane (sym (fold-roll-Ty Layout layout_step (Ty-F.Int w))) (step-sane (Ty-F.Int w) (λ n l e. cc) (λ ls e. cc))
levels Ty-F.Ptr = subst Sane (sym (fold-roll-Ty Layout layout_step Ty-F.Ptr)) (step-sane Ty-F.Ptr (λ n l e. cc) (λ ls e. cc))
levels (Ty-F.Array n c) =
    subst Sane (sym (fold-roll-Ty Layout layout_step (Ty-F.Array n c.0)))
    (step-sane (Ty-F.Array n (layout_of c.0)) (λ m l e. let same : layout_of c.0 ≡ l = cc in subst Sane same c.1) (λ ls e. cc))
levels (Ty-F.Struct cs) =
    let inner = map layout_of (map (λ (c : Part). c.0) cs) in
    subst Sane (sym (fold-roll-Ty Layout layout_step (Ty-F.Struct (map (λ c. c.0) cs))))
    (step-sane (Ty-F.Struct inner) (λ n l e. cc) (λ ls e. let same : inner ≡ ls = cc in subst AreSane same (parts-sane cs)))

pub sane : (t : Ty) → Sane (layout_of t)
sane = ind-Ty SaneTy (λ x y e. subst (λ (x : Ty-F Ty). SaneTy (roll-Ty x)) e (levels y))

all-sane : (ts : List Ty) → AreSane (map layout_of ts)
all-sane [] = tt
all-sane (t ∷ ts) = (sane t, all-sane ts)

-- ---- fields

abbrev extents_with : List Layout → List (Option Extent)
extents_with ls = map extent_with ls

stays-none : (es : List (Option Extent)) → fold with_field None es ≡ None
stays-none [] = refl
stays-none (e ∷ es) = stays-none es

abbrev after : Fields → List Layout → Fields
after f ls = record { end = end_after f.end ls; align = align_from f.align ls; offsets = f.offsets ++ offsets_from f.end ls }

test-true : (m n : ℕ) → m < n → nat_lt m n ≡ true
test-true m n h = grind (arith, nat_tests)

test-false : (m n : ℕ) → n ≤ m → nat_lt m n ≡ false
test-false m n h = grind (arith, nat_tests)

small-with : (l : Layout) → l.most ≤ MAX_TYPE_BYTES → extent_with l ≡ Some (record { size = l.size; align = l.align; offsets = l.offsets })
small-with l h = ap (λ b. if b then None else Some (record { size = l.size; align = l.align; offsets = l.offsets })) (test-false MAX_TYPE_BYTES l.most h)

large-with : (l : Layout) → MAX_TYPE_BYTES < l.most → extent_with l ≡ None
large-with l h = ap (λ b. if b then None else Some (record { size = l.size; align = l.align; offsets = l.offsets })) (test-true MAX_TYPE_BYTES l.most h)

-- a small field ends where the layout says
abbrev next_end : Fields → Layout → ℕ
next_end f l = round_up f.end l.align + l.size

abbrev next_fields : Fields → Layout → Fields
next_fields f l = record { end = next_end f l; align = max f.align l.align; offsets = f.offsets ++ round_up f.end l.align ∷ [] }

limited-small : (n : ℕ) → n ≤ MAX_TYPE_BYTES → limited n ≡ n
limited-small n h = omega arith

near-small : (n : ℕ) → 0 < n → n ≤ 8 → near n ≡ n
near-small n h k = omega arith

abbrev field_of : Fields → Layout → ℕ → ℕ → Option Fields
field_of f l at end = if nat_lt MAX_TYPE_BYTES end then None else Some (record { end = end; align = max f.align l.align; offsets = f.offsets ++ at ∷ [] })

field-small : (f : Fields) (l : Layout) → Sane l → f.end ≤ MAX_TYPE_BYTES → l.most ≤ MAX_TYPE_BYTES
    → with_field (Some f) (extent_with l) ≡ field_of f l (round_up f.end l.align) (next_end f l)
field-small f l s e h =
    let size : l.size ≤ MAX_TYPE_BYTES = let w = s.within in omega arith in
    ap (with_field (Some f)) (small-with l h)
    ∙ (λ i. field_of f l (round_up (limited-small f.end e i) (near-small l.align s.some s.few i))
    (round_up (limited-small f.end e i) (near-small l.align s.some s.few i) + limited-small l.size size i))

fields-within : (ls : List Layout) (f : Fields) (m : ℕ) → AreSane ls → most_of m ls ≤ MAX_TYPE_BYTES → end_after f.end ls ≤ MAX_TYPE_BYTES
    → fold with_field (Some f) (extents_with ls) ≡ Some (after f ls)
fields-within [] f m s h e = ap (λ (os : List ℕ). Some (record { end = f.end; align = f.align; offsets = os })) (sym (append-nil f.offsets))
fields-within (l ∷ ls) f m s h e =
    let first : l.most ≤ MAX_TYPE_BYTES = omega (arith, most-start ls (max m l.most)) in
    let begin : next_end f l ≤ MAX_TYPE_BYTES = omega (arith, end-start ls (next_end f l)) in
    let before : f.end ≤ MAX_TYPE_BYTES = omega (arith, end-start (l ∷ ls) f.end) in
    ap (λ (o : Option Fields). fold with_field o (extents_with ls)) (field-small f l s.0 before first
    ∙ ap (λ b. if b then None else Some (next_fields f l)) (test-false MAX_TYPE_BYTES (next_end f l) begin))
    ∙ fields-within ls (next_fields f l) (max m l.most) s.1 h e
    ∙ ap (λ (os : List ℕ). Some (record { end = end_after (next_end f l) ls; align = align_from (max f.align l.align) ls; offsets = os }))
    (append_assoc f.offsets (round_up f.end l.align ∷ []) (offsets_from (next_end f l) ls))

-- one field more that is large, ends behind the memory, or has fields behind it that don't fit
over-by : (l : Layout) (ls : List Layout) (f : Fields) → Sane l → f.end ≤ MAX_TYPE_BYTES
    → (l.most ≤ MAX_TYPE_BYTES → next_end f l ≤ MAX_TYPE_BYTES → fold with_field (Some (next_fields f l)) (extents_with ls) ≡ None)
    → fold with_field (Some f) (extents_with (l ∷ ls)) ≡ None
over-by l ls f s e rest = ⊎_elim large small (cases_lt MAX_TYPE_BYTES l.most)
  where
    large : MAX_TYPE_BYTES < l.most → fold with_field (with_field (Some f) (extent_with l)) (extents_with ls) ≡ None
    large p = ap (λ o. fold with_field (with_field (Some f) o) (extents_with ls)) (large-with l p) ∙ stays-none (extents_with ls)

    here : l.most ≤ MAX_TYPE_BYTES → (b : Bool) → nat_lt MAX_TYPE_BYTES (next_end f l) ≡ b
        → fold with_field (with_field (Some f) (extent_with l)) (extents_with ls) ≡ fold with_field (if b then None else Some (next_fields f l)) (extents_with ls)
    here p b q =
        ap (λ (o : Option Fields). fold with_field o (extents_with ls)) (field-small f l s e p ∙ ap (λ b. if b then None else Some (next_fields f l)) q)

    small : l.most ≤ MAX_TYPE_BYTES → fold with_field (with_field (Some f) (extent_with l)) (extents_with ls) ≡ None
    small p =
        ⊎_elim
        (λ q. here p true (test-true MAX_TYPE_BYTES (next_end f l) q) ∙ stays-none (extents_with ls))
        (λ q. here p false (test-false MAX_TYPE_BYTES (next_end f l) q) ∙ rest p q)
        (cases_lt MAX_TYPE_BYTES (next_end f l))

fields-over : (ls : List Layout) (f : Fields) (m : ℕ) → AreSane ls → f.end ≤ MAX_TYPE_BYTES → m ≤ MAX_TYPE_BYTES
    → (MAX_TYPE_BYTES < most_of m ls) ⊎ (MAX_TYPE_BYTES < end_after f.end ls) → fold with_field (Some f) (extents_with ls) ≡ None
fields-over [] f m s e k h = ⊎_elim (λ p. absurd (omega arith)) (λ p. absurd (omega arith)) h
fields-over (l ∷ ls) f m s e k h = over-by l ls f s.0 e (λ p q. fields-over ls (next_fields f l) (max m l.most) s.1 q (omega arith) h)

-- ---- whole types

abbrev size : List Layout → ℕ
size ls = round_up (end_after 0 ls) (greatest_align ls)

abbrev whole : List Layout → ℕ
whole ls = most_of (size ls) ls

struct-with : (ls : List Layout) → AreSane ls → ended (fold with_field (Some no_fields) (extents_with ls)) ≡ extent_with (layout_step (Ty-F.Struct ls))
struct-with ls s = ⊎_elim over within (cases_lt MAX_TYPE_BYTES (whole ls))
  where
    ends : end_after 0 ls ≤ MAX_TYPE_BYTES → ended (Some (after no_fields ls)) ≡ within_memory (size ls) (greatest_align ls) (offsets_from 0 ls)
    ends e =
        let near = align-near ls 1 s (omega arith) (omega arith) in
        λ i. within_memory (round_up (limited-small (end_after 0 ls) e i) (near-small (greatest_align ls) near.0 near.1 i)) (greatest_align ls) (offsets_from 0 ls)

    within : (whole ls) ≤ MAX_TYPE_BYTES → ended (fold with_field (Some no_fields) (extents_with ls)) ≡ extent_with (layout_step (Ty-F.Struct ls))
    within h =
        let fits : (size ls) ≤ MAX_TYPE_BYTES = omega (arith, most-start ls (size ls)) in
        let end : end_after 0 ls ≤ MAX_TYPE_BYTES = omega arith in
        ap ended (fields-within ls no_fields (size ls) s h end) ∙ ends end
        ∙ ap (λ b. if b then None else Some (record { size = size ls; align = greatest_align ls; offsets = offsets_from 0 ls }))
        (test-false MAX_TYPE_BYTES (size ls) fits) ∙ sym (small-with (layout_step (Ty-F.Struct ls)) h)

    over : MAX_TYPE_BYTES < (whole ls) → ended (fold with_field (Some no_fields) (extents_with ls)) ≡ extent_with (layout_step (Ty-F.Struct ls))
    over h = none ∙ sym (large-with (layout_step (Ty-F.Struct ls)) h)
      where
        none : ended (fold with_field (Some no_fields) (extents_with ls)) ≡ None
        none = ⊎_elim (λ e. ap ended (fields-over ls no_fields 0 s (omega arith) (omega arith) (inr e))) ending (cases_lt MAX_TYPE_BYTES (end_after 0 ls))
          where
            ending : end_after 0 ls ≤ MAX_TYPE_BYTES → ended (fold with_field (Some no_fields) (extents_with ls)) ≡ None
            ending e = ⊎_elim long short (cases_lt MAX_TYPE_BYTES (size ls))
              where
                short : (size ls) ≤ MAX_TYPE_BYTES → ended (fold with_field (Some no_fields) (extents_with ls)) ≡ None
                short p = ap ended (fields-over ls no_fields (size ls) s (omega arith) p (inl h))

                long : MAX_TYPE_BYTES < (size ls) → ended (fold with_field (Some no_fields) (extents_with ls)) ≡ None
                long p = ⊎_elim (λ q. ap ended (fields-over ls no_fields 0 s (omega arith) (omega arith) (inl q)))
                    (λ q. ap ended (fields-within ls no_fields 0 s q e) ∙ ends e
                    ∙ ap (λ b. if b then None else Some (record { size = size ls; align = greatest_align ls; offsets = offsets_from 0 ls }))
                    (test-true MAX_TYPE_BYTES (size ls) p))
                    (cases_lt MAX_TYPE_BYTES (most_of 0 ls))

layouts-of : (ts : List Ty) → map extent_of ts ≡ extents_with (map layout_of ts)
layouts-of [] = refl
layouts-of (t ∷ ts) = ap (λ es. extent_of t ∷ es) (layouts-of ts)

pub struct-extent : (ts : List Ty) → ended (fold with_field (Some no_fields) (map extent_of ts)) ≡ extent_of (ty.Struct ts)
struct-extent ts =
    ap (λ es. ended (fold with_field (Some no_fields) es)) (layouts-of ts) ∙ struct-with (map layout_of ts) (all-sane ts) ∙ ap extent_with (sym (struct-layout ts))

array-with : (n : ℕ) (l : Layout) → Sane l → array_extent n (extent_with l) ≡ extent_with (layout_step (Ty-F.Array n l))
array-with n l s = ⊎_elim large small (cases_lt MAX_TYPE_BYTES l.most)
  where
    large : MAX_TYPE_BYTES < l.most → array_extent n (extent_with l) ≡ extent_with (layout_step (Ty-F.Array n l))
    large h = ap (array_extent n) (large-with l h) ∙ sym (large-with (layout_step (Ty-F.Array n l)) (omega arith))

    small : l.most ≤ MAX_TYPE_BYTES → array_extent n (extent_with l) ≡ extent_with (layout_step (Ty-F.Array n l))
    small h = ap (array_extent n) (small-with l h) ∙ ⊎_elim over within (cases_lt MAX_TYPE_BYTES (n * l.size))
      where
        over : MAX_TYPE_BYTES < n * l.size → within_memory (n * l.size) l.align [] ≡ extent_with (layout_step (Ty-F.Array n l))
        over p =
            ap (λ b. if b then None else Some (record { size = n * l.size; align = l.align; offsets = [] })) (test-true MAX_TYPE_BYTES (n * l.size) p)
            ∙ sym (large-with (layout_step (Ty-F.Array n l)) (omega arith))

        within : n * l.size ≤ MAX_TYPE_BYTES → within_memory (n * l.size) l.align [] ≡ extent_with (layout_step (Ty-F.Array n l))
        within p =
            ap (λ b. if b then None else Some (record { size = n * l.size; align = l.align; offsets = [] })) (test-false MAX_TYPE_BYTES (n * l.size) p)
            ∙ sym (small-with (layout_step (Ty-F.Array n l)) (omega arith))

pub array-extent : (n : ℕ) (t : Ty) → array_extent n (extent_of t) ≡ extent_of (ty.Array n t)
array-extent n t = array-with n (layout_of t) (sane t) ∙ ap extent_with (sym (array-layout n t))

pub int-extent : (w : Width) → Some (record { size = bytes_of w; align = bytes_of w; offsets = [] }) ≡ extent_of (ty.Int w)
int-extent w = sym (ap extent_with (int-layout w) ∙ small-with (layout_step (Ty-F.Int w)) (let b = bytes-near w in omega arith))

pub ptr-extent : ◌≡◌ {A = Option Extent} (Some (record { size = 8; align = 8; offsets = [] })) (extent_of ty.Ptr)
ptr-extent = sym (ap extent_with ptr-layout)
