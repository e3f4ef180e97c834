-- A memory is added: a copy of another one, or a memory of zeros.
use Rattle.am_base.specs.declared.limits.TheConstants.{MEMORY_BYTES, PAGE_BYTES}
use Rattle.shared_pages.specs.Size.{memory_pages}
use Rattle.std.proofs.Common.{◌≡◌, ◌≢◌, ℕ, ◌+◌, ◌*◌, ◌/◌, ◌%◌, ◌^◌, ◌<◌, ◌≤◌, ◌⊎◌, List, Bool, true, false, length, get_or, arith, ap, sym, ◌∙◌, refl, inl, inr}
use Rattle.std.specs.Prelude.{nat_lt, ◌&&◌, ◌==◌}
use Rattle.std.proofs.lemmas.Bool.{cases_eq, cases_lt}
use Rattle.std.proofs.lemmas.Bool.Decides.{nat_tests}
use Rattle.shared_pages.specs.Counts.{Names, different, occurs}
use Rattle.shared_pages.specs.Rows.{IsCopied, IsExtended, IsTaken}
use Rattle.shared_pages.specs.Store.{IsStore, own_at, is_live, byte_at, memory_seen, seen, memory}
use Rattle.shared_pages.proofs.Tabulate.{same_tabulate}
use Rattle.shared_pages.proofs.Views.{not_live}
use Rattle.shared_pages.proofs.Kept.{same_memory}

pub own_true : (es : List ℕ) (j : ℕ) → 0 < get_or es j 0 → occurs (get_or es j 0) es ≡ 1 → own_at es j ≡ true
own_true es j some once = both (get_or es j 0) (occurs (get_or es j 0) es) some once
  where
    both : (p n : ℕ) → 0 < p → n ≡ 1 → (nat_lt 0 p && (n == 1)) ≡ true
    both p n h k = grind (arith, nat_tests)

pub when_not : (b : Bool) → (b ≡ true → ⊥) → b ≡ false
when_not true f = absurd (f refl)
when_not false f = refl

pub row_apart : (k n i : ℕ) → k ≢ n → i < memory_pages → (k * memory_pages + i < n * memory_pages) ⊎ (n * memory_pages + memory_pages ≤ k * memory_pages + i)
row_apart k n i ne h = elim (cases_lt k n) [ inl a ↦ inl (omega (arith, a, h)) | inr a ↦ inr (omega (arith, a, ne)) ]

-- a row that names what the row of m did before is a memory that is equal to m
pub copy_seen : (old new : List ℕ) (bs : List ℕ) (m k : ℕ) → ((i : ℕ) → i < memory_pages
    → get_or new (k * memory_pages + i) 0 ≡ get_or old (m * memory_pages + i) 0) → memory_seen new bs k ≡ memory_seen old bs m
copy_seen old new bs m k same =
    let bytes = same_tabulate MEMORY_BYTES (byte_at new bs k) (byte_at old bs m)
    (λ a low. ap (λ (p : ℕ). get_or bs (p * PAGE_BYTES + a % PAGE_BYTES) 0) (same (a / PAGE_BYTES) (omega (arith, low)))) in
    let pages = same_tabulate memory_pages (λ i. get_or new (k * memory_pages + i) 0) (λ i. get_or old (m * memory_pages + i) 0) same in
    λ i. record { bytes = bytes i; pages = pages i }

-- a row that was copied from a row of the entries before
pub copied_row : (old mid new : Names) (m n i : ℕ) → IsExtended old mid → IsCopied memory_pages mid new m n memory_pages → i < memory_pages
    → get_or new.entries (n * memory_pages + i) 0 ≡ get_or old.entries (m * memory_pages + i) 0
copied_row old mid new m n i more copied low = copied.copied i low ∙ more.same (m * memory_pages + i)

-- and any other row
pub other_row : (old mid new : Names) (m n k i : ℕ) → IsExtended old mid → IsCopied memory_pages mid new m n memory_pages → k ≢ n → i < memory_pages
    → get_or new.entries (k * memory_pages + i) 0 ≡ get_or old.entries (k * memory_pages + i) 0
other_row old mid new m n k i more copied ne low = elim (row_apart k n i ne low) [
  | inl a ↦ copied.below (k * memory_pages + i) a ∙ more.same (k * memory_pages + i)
  | inr a ↦ copied.above (k * memory_pages + i) a ∙ more.same (k * memory_pages + i)
]

-- The slots.

pub live_now : (slots : List ℕ) (n : ℕ) → 0 < n → 0 < get_or slots n 0 → is_live slots n ≡ true
live_now slots n some owned = both n (get_or slots n 0) some owned
  where
    both : (p q : ℕ) → 0 < p → 0 < q → (nat_lt 0 p && nat_lt 0 q) ≡ true
    both p q h k = grind (arith, nat_tests)

pub taken_live : (slots later : List ℕ) (n : ℕ) → IsTaken slots later n → 0 < n → is_live later n ≡ true
taken_live slots later n taken some = live_now later n some (let one = taken.taken in omega (arith, one))

pub other_live : (slots later : List ℕ) (n k : ℕ) → IsTaken slots later n → k ≢ n → is_live later k ≡ is_live slots k
other_live slots later n k taken ne = ap (λ (q : ℕ). nat_lt 0 k && nat_lt 0 q) (taken.others k ne)

not_both : true ≡ false → ⊥
not_both e = cc

-- every other memory
pub added_others : (slots later : List ℕ) (old new : Names) (bs : List ℕ) (p n k : ℕ) → IsTaken slots later n → k ≢ n
    → ((i : ℕ) → i < memory_pages → get_or new.entries (k * memory_pages + i) 0 ≡ get_or old.entries (k * memory_pages + i) 0)
    → memory (seen later new bs p) k ≡ memory (seen slots old bs p) k
added_others slots later old new bs p n k taken ne same =
    same_memory slots later old new bs bs p p k (other_live slots later n k taken ne) (λ live. copy_seen old.entries new.entries bs k k same)

-- what holds of the fields
pub added_store : (slots later : List ℕ) (old new : Names) (bs : List ℕ) (p n : ℕ) → IsStore slots old bs p → IsTaken slots later n → 0 < n
    → length new.entries < 2 ^ 32 → memory_pages * length later ≤ length new.entries → new.limit ≡ old.limit
    → different new.entries ≡ different old.entries
    → ((k i : ℕ) → k ≢ n → i < memory_pages → get_or new.entries (k * memory_pages + i) 0 ≡ get_or old.entries (k * memory_pages + i) 0)
    → ((i j : ℕ) → i < memory_pages → j < memory_pages → get_or new.entries (n * memory_pages + i) 0 ≢ 0
    → get_or new.entries (n * memory_pages + i) 0 ≡ get_or new.entries (n * memory_pages + j) 0 → i ≡ j)
    → IsStore later new bs p
added_store slots later old new bs p n store taken some few rows limit used same row =
    let pages = store.pages in
    let most = store.most in
    record {
      tables = rows;
      few = few;
      pages = omega (arith, pages, limit);
      room = store.room;
      zero = store.zero;
      dead = λ k i none low. elim (cases_eq k n) [
        | inl e ↦ absurd (not_both (sym (taken_live slots later n taken some) ∙ sym (ap (is_live later) e) ∙ none))
        | inr ne ↦ same k i ne low ∙ store.dead k i (sym (other_live slots later n k taken ne) ∙ none) low
      ];
      once = λ k other. elim (cases_eq k n) [
        | inl e ↦ let at = ap (λ (q : ℕ). get_or later q 0) e in let one = taken.taken in omega (arith, at, one)
        | inr ne ↦ let at = taken.others k ne in let one = store.once k other in omega (arith, at, one)
      ];
      apart = λ k i j low lower full e. elim (cases_eq k n) [
        | inl is ↦
            let at : (q : ℕ) → get_or new.entries (k * memory_pages + q) 0 ≡ get_or new.entries (n * memory_pages + q) 0 =
            (λ q. ap (λ (r : ℕ). get_or new.entries (r * memory_pages + q) 0) is) in
            row i j low lower (λ z. full (at i ∙ z)) (sym (at i) ∙ e ∙ at j)
        | inr ne ↦ store.apart k i j low lower (λ z. full (same k i ne low ∙ z)) (sym (same k i ne low) ∙ e ∙ same k j ne lower)
      ];
      most = omega (arith, most, used);
    }

pub forked_store : (slots later : List ℕ) (old mid new : Names) (bs : List ℕ) (p m n : ℕ) → IsStore slots old bs p → IsTaken slots later n → 0 < n
    → IsExtended old mid → memory_pages * length later ≤ length mid.entries → IsCopied memory_pages mid new m n memory_pages
    → different new.entries ≡ different mid.entries → IsStore later new bs p
forked_store slots later old mid new bs p m n store taken some more rows copied used =
    let few = more.few in
    let long = copied.long in
    let row : (i : ℕ) → i < memory_pages → get_or new.entries (n * memory_pages + i) 0 ≡ get_or old.entries (m * memory_pages + i) 0 =
    (λ i low. copied_row old mid new m n i more copied low) in
    added_store slots later old new bs p n store taken some (omega (arith, few, long)) (omega (arith, rows, long)) (copied.limit ∙ more.limit)
    (used ∙ more.used) (λ k i ne low. other_row old mid new m n k i more copied ne low)
    (λ i j low lower full e. store.apart m i j low lower (λ z. full (row i low ∙ z)) (sym (row i low) ∙ e ∙ row j lower))

pub begun_store : (slots later : List ℕ) (old mid : Names) (bs : List ℕ) (p n : ℕ) → IsStore slots old bs p → IsTaken slots later n → 0 < n
    → get_or slots n 0 ≡ 0 → IsExtended old mid → memory_pages * length later ≤ length mid.entries → IsStore later mid bs p
begun_store slots later old mid bs p n store taken some free more rows =
    added_store slots later old mid bs p n store taken some more.few rows more.limit more.used (λ k i ne low. more.same (k * memory_pages + i))
    (λ i j low lower full e. absurd (full (more.same (n * memory_pages + i) ∙ store.dead n i (not_live slots n free) low)))
