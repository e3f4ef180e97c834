-- Entries and the counts of what they name.
use Rattle.std.proofs.Common.{◌≡◌, ℕ, zero, suc, ◌+◌, ◌-◌, ◌<◌, ◌≤◌, List, [], ◌∷◌, ◌++◌, length, get_or, set, arith, ap, sym, ◌∙◌, refl, ◌≢◌, false, true}
use Rattle.std.proofs.Common.{get_or-set_same, get_or-set_other, length-append, subst, inl, inr}
use Rattle.std.proofs.Math.ListN.{length-set}
use Rattle.std.proofs.lemmas.Bool.{cases_eq, cases_lt}
use Rattle.std.proofs.lemmas.Bool.Decides.{nat_tests}
use Rattle.std.proofs.lemmas.List.{get_or_past, get_or_default}
use Rattle.shared_pages.specs.Counts.{is_one, occurs, different, one_less, one_more, one_if, AreCounted, IsShared, Names}
use Rattle.std.specs.Prelude.{nat_lt, nat_eq, ◌&&◌, ◌==◌}
use Rattle.shared_pages.specs.Store.{own_at}
use Rattle.shared_pages.proofs.Owners.{is_one-same, is_one-other, occurs-set, occurs_at, occurs_push, occurs_cons, occurs-le-length}
use Rattle.shared_pages.proofs.Owners.{occurs-lt-length}

pub below_nonzero : (xs : List ℕ) (p : ℕ) → 0 < get_or xs p 0 → p < length xs
below_nonzero xs p h = elim (cases_lt p (length xs)) [
  | inl k ↦ k
  | inr k ↦ let d = get_or_past xs p 0 k in absurd (omega (arith, d, h))
]

pub entry_below : (es counts : List ℕ) (i : ℕ) → AreCounted es counts → i < length es → get_or es i 0 < length counts
entry_below es counts i a h = elim (cases_eq (get_or es i 0) 0) [
  | inl e ↦ let f = below_nonzero counts 0 a.first in omega (arith, e, f)
  | inr ne ↦
      let some : 0 < get_or es i 0 = omega (arith, ne) in
      let o = occurs_at es i h in
      let c = a.counted (get_or es i 0) some in
      below_nonzero counts (get_or es i 0) (omega (arith, o, c))
]

-- one entry changes, and with it the counts
pub counted_set : (es counts next : List ℕ) (i v : ℕ) → AreCounted es counts → i < length es → 0 < get_or next 0 0
    → ((q : ℕ) → 0 < q → get_or next q 0 + is_one q (get_or es i 0) ≡ get_or counts q 0 + is_one q v) → AreCounted (set es i v) next
counted_set es counts next i v a h first changed = record {
  first = first;
  counted = λ q other. let s = occurs-set q es i v h in let c = a.counted q other in let d = changed q other in omega (arith, s, c, d);
}

pub counts_less : (counts : List ℕ) (p q : ℕ) → (0 < p → 0 < get_or counts p 0) → 0 < q → get_or (one_less counts p) q 0 + is_one q p ≡ get_or counts q 0
counts_less counts zero q owned other = let none = is_one-other q 0 (λ e. absurd (omega (arith, e))) in omega (arith, none)
counts_less counts (suc p) q owned other =
    let some = owned (omega arith) in
    let h = below_nonzero counts (suc p) some in
    elim (cases_eq q (suc p)) [
      | inl e ↦ subst (λ (k : ℕ). get_or (set counts (suc p) (get_or counts (suc p) 0 - 1)) k 0 + is_one k (suc p) ≡ get_or counts k 0) (sym e)
          (let at = get_or-set_same counts (suc p) (get_or counts (suc p) 0 - 1) 0 h in let one = is_one-same (suc p) in omega (arith, at, one, some))
      | inr ne ↦ let at = get_or-set_other counts (suc p) q (get_or counts (suc p) 0 - 1) 0 ne in let none = is_one-other q (suc p) ne in
          omega (arith, at, none)
    ]

pub first_less : (counts : List ℕ) (p : ℕ) → 0 < get_or counts 0 0 → 0 < get_or (one_less counts p) 0 0
first_less counts zero h = h
first_less counts (suc p) h = let at = get_or-set_other counts (suc p) 0 (get_or counts (suc p) 0 - 1) 0 (λ e. absurd (omega (arith, e))) in omega
    (arith, at, h)

one_less-is : (counts : List ℕ) (p : ℕ) → 0 < p → one_less counts p ≡ set counts p (get_or counts p 0 - 1)
one_less-is counts zero h = absurd (omega arith)
one_less-is counts (suc p) h = refl

-- an owner more, or the first
pub counts_more : (counts : List ℕ) (p q : ℕ) → p < length counts → get_or (set counts p (get_or counts p 0 + 1)) q 0 ≡ get_or counts q 0 + is_one q p
counts_more counts p q h = elim (cases_eq q p) [
  | inl e ↦ subst (λ (k : ℕ). get_or (set counts p (get_or counts p 0 + 1)) k 0 ≡ get_or counts k 0 + is_one k p) (sym e)
      (let at = get_or-set_same counts p (get_or counts p 0 + 1) 0 h in let one = is_one-same p in omega (arith, at, one))
  | inr ne ↦ let at = get_or-set_other counts p q (get_or counts p 0 + 1) 0 ne in let none = is_one-other q p ne in omega (arith, at, none)
]

-- an entry that is 0 names a number
-- where an entry is 0, another number has fewer owners than there are entries
pub few_owners : (es counts : List ℕ) (p i : ℕ) → AreCounted es counts → 0 < p → i < length es → get_or es i 0 ≡ 0 → get_or counts p 0 < length es
few_owners es counts p i a other h empty =
    let c = a.counted p other in
    let o = occurs-lt-length p es i h (λ e. absurd (omega (arith, e, empty, other))) in
    omega (arith, c, o)

pub one_more-at : (counts : List ℕ) (p q : ℕ) → (0 < p → p < length counts) → 0 < q → get_or (one_more counts p) q 0 ≡ get_or counts q 0 + is_one q p
one_more-at counts zero q h other = let none = is_one-other q 0 (λ e. absurd (omega (arith, e, other))) in omega (arith, none)
one_more-at counts (suc p) q h other = counts_more counts (suc p) q (h (omega arith))

pub first_more : (counts : List ℕ) (p : ℕ) → 0 < get_or counts 0 0 → 0 < get_or (one_more counts p) 0 0
first_more counts zero h = h
first_more counts (suc p) h = let at = get_or-set_other counts (suc p) 0 (get_or counts (suc p) 0 + 1) 0 (λ e. absurd (omega (arith, e))) in omega
    (arith, at, h)

-- an entry that is 0 names what another names
pub shares : (es counts : List ℕ) (i j : ℕ) → AreCounted es counts → i < length es → j < length es → get_or es j 0 ≡ 0
    → AreCounted (set es j (get_or es i 0)) (one_more counts (get_or es i 0))
shares es counts i j a h k empty =
    let p = get_or es i 0 in
    counted_set es counts (one_more counts p) j p a k
    (first_more counts p a.first)
    (λ q some.
    let m = one_more-at counts p q (λ _. entry_below es counts i a h) some in
    let none : is_one q (get_or es j 0) ≡ 0 = is_one-other q (get_or es j 0) (λ e. absurd (omega (arith, e, empty, some))) in
    omega (arith, m, none))

pub length-one_more : (counts : List ℕ) (p : ℕ) → length (one_more counts p) ≡ length counts
length-one_more counts zero = refl
length-one_more counts (suc p) = length-set counts (suc p) (get_or counts (suc p) 0 + 1)

-- an entry that is 0 or shared names a number that none named
pub renewed : (es counts next : List ℕ) (i p : ℕ) → AreCounted es counts → i < length es → IsShared es i → 0 < p
    → ((q : ℕ) → get_or next q 0 ≡ get_or counts q 0 + is_one q p) → AreCounted (set es i p) (one_less next (get_or es i 0))
renewed es counts next i p a h shared other more =
    let old = get_or es i 0 in
    counted_set es counts (one_less next old) i p a h
    (first_less next old (let m = more 0 in let f = a.first in omega (arith, m, f)))
    (λ q some.
    let m = more q in
    let l = counts_less next old q (λ full. let k = more old in let c = a.counted old full in let o = occurs_at es i h in omega (arith, k, c, o)) some in
    omega (arith, m, l))

-- How many numbers have no owner.

pub free_more : (counts : List ℕ) (p n : ℕ) → p < length counts → get_or counts p 0 ≡ 0 → 0 < n → occurs 0 (set counts p n) + 1 ≡ occurs 0 counts
free_more counts p n h e some =
    let s = occurs-set 0 counts p n h in
    let was : is_one 0 (get_or counts p 0) ≡ 1 = ap (is_one 0) e in
    let now = is_one-other 0 n (λ k. absurd (omega (arith, k, some))) in
    omega (arith, s, was, now)

pub free_less : (counts : List ℕ) (p : ℕ) → p < length counts → 0 < get_or counts p 0
    → occurs 0 (set counts p (get_or counts p 0 - 1)) ≡ occurs 0 counts + is_one 1 (get_or counts p 0)
free_less counts p h some =
    let s = occurs-set 0 counts p (get_or counts p 0 - 1) h in
    let was = is_one-other 0 (get_or counts p 0) (λ k. absurd (omega (arith, k, some))) in
    let now = shifted (get_or counts p 0) some in
    omega (arith, s, was, now)
  where
    shifted : (n : ℕ) → 0 < n → is_one 0 (n - 1) ≡ is_one 1 n
    shifted n k = elim (cases_eq n 1) [
      | inl e ↦ subst (λ (m : ℕ). is_one 0 (m - 1) ≡ is_one 1 m) (sym e) refl
      | inr ne ↦ is_one-other 0 (n - 1) (λ e. ne (omega (arith, e, k))) ∙ sym (is_one-other 1 n (λ e. ne (sym e)))
    ]

pub free_kept : (counts : List ℕ) (p : ℕ) → (0 < p → 2 ≤ get_or counts p 0) → occurs 0 (one_less counts p) ≡ occurs 0 counts
free_kept counts zero many = refl
free_kept counts (suc p) many =
    let two = many (omega arith) in
    let h = below_nonzero counts (suc p) (omega (arith, two)) in
    let l = free_less counts (suc p) h (omega (arith, two)) in
    let none = is_one-other 1 (get_or counts (suc p) 0) (λ e. absurd (omega (arith, e, two))) in
    omega (arith, l, none)

pub length-one_less : (counts : List ℕ) (p : ℕ) → length (one_less counts p) ≡ length counts
length-one_less counts zero = refl
length-one_less counts (suc p) = length-set counts (suc p) (get_or counts (suc p) 0 - 1)

-- How many numbers have an owner.

-- counts that are all 0
all_free : (cs : List ℕ) → ((p : ℕ) → get_or cs p 0 ≡ 0) → occurs 0 cs ≡ length cs
all_free [] h = refl
all_free (c ∷ cs) h =
    let rest = all_free cs (λ p. h (suc p)) in
    let more = occurs_cons 0 c cs in
    let one : is_one 0 c ≡ 1 = ap (is_one 0) (h 0) in
    omega (arith, rest, more, one)

-- where there is no entry, number 0 alone has an owner
none_named : (cs : List ℕ) → AreCounted [] cs → 1 + occurs 0 cs ≡ length cs
none_named [] a = let f = a.first in absurd (omega (arith, f))
none_named (c ∷ cs) a =
    let first : 0 < c = a.first in
    let rest = all_free cs (λ p. a.counted (suc p) (omega arith)) in
    let more = occurs_cons 0 c cs in
    let none = is_one-other 0 c (λ e. absurd (omega (arith, e, first))) in
    omega (arith, rest, more, none)

-- the counts without the first entry
owned_first : (x : ℕ) (es cs : List ℕ) → AreCounted (x ∷ es) cs → 0 < x → get_or cs x 0 ≡ 1 + occurs x es
owned_first x es cs a some =
    let c = a.counted x some in
    let more = occurs_cons x x es in
    let one = is_one-same x in
    omega (arith, c, more, one)

counted_rest : (x : ℕ) (es cs : List ℕ) → AreCounted (x ∷ es) cs → AreCounted es (one_less cs x)
counted_rest x es cs a = record {
  first = first_less cs x a.first;
  counted = λ q other.
      let l = counts_less cs x q (λ some. let o = owned_first x es cs a some in omega (arith, o)) other in
      let c = a.counted q other in
      let more = occurs_cons q x es in
      omega (arith, l, c, more);
}

freed_first : (x : ℕ) (es cs : List ℕ) → AreCounted (x ∷ es) cs
    → occurs 0 (one_less cs x) ≡ occurs 0 cs + one_if (nat_lt 0 x && nat_eq (occurs x es) 0)
freed_first x es cs a = elim (cases_eq x 0) [
  | inl e ↦
      let none = not_last x (occurs x es) e in
      let same = ap (λ (q : ℕ). occurs 0 (one_less cs q)) e in
      omega (arith, none, same)
  | inr ne ↦
      let some : 0 < x = omega (arith, ne) in
      let o = owned_first x es cs a some in
      let owned : 0 < get_or cs x 0 = omega (arith, o) in
      let f = free_less cs x (below_nonzero cs x owned) owned in
      let is = ap (occurs 0) (one_less-is cs x some) in
      let last = is_last x (occurs x es) some in
      let count : is_one 1 (get_or cs x 0) ≡ is_one 1 (1 + occurs x es) = ap (is_one 1) o in
      omega (arith, f, is, last, count)
]
  where
    not_last : (p n : ℕ) → p ≡ 0 → one_if (nat_lt 0 p && nat_eq n 0) ≡ 0
    not_last p n h = grind (arith, nat_tests)

    is_last : (p n : ℕ) → 0 < p → one_if (nat_lt 0 p && nat_eq n 0) ≡ is_one 1 (1 + n)
    is_last p n h = grind (arith, nat_tests)

-- the numbers with an owner are number 0 and the different numbers that entries name
pub used_counted : (es cs : List ℕ) → AreCounted es cs → different es + 1 + occurs 0 cs ≡ length cs
used_counted [] cs a = let n = none_named cs a in omega (arith, n)
used_counted (x ∷ es) cs a =
    let rest = used_counted es (one_less cs x) (counted_rest x es cs a) in
    let long = length-one_less cs x in
    let free = freed_first x es cs a in
    omega (arith, rest, long, free)

-- What is seen of entries and counts.

abbrev pub as_names : List ℕ → ℕ → Names
as_names es l = record { entries = es; limit = l }

abbrev pub names_of : List ℕ → List ℕ → Names
names_of es counts = as_names es (length counts)

-- the number that an entry shares keeps an owner
still_owned : (es counts next : List ℕ) (i p : ℕ) → AreCounted es counts → IsShared es i → ((q : ℕ) → get_or counts q 0 ≤ get_or next q 0)
    → 0 < get_or es i 0 → 2 ≤ get_or next (get_or es i 0) 0
still_owned es counts next i p a shared le some =
    let s = shared (λ e. absurd (omega (arith, e, some))) in
    let c = a.counted (get_or es i 0) some in
    let m = le (get_or es i 0) in
    omega (arith, s, c, m)

pub set_more : (counts : List ℕ) (p : ℕ) → p < length counts → get_or counts p 1 ≡ 0 → (q : ℕ) → get_or (set counts p 1) q 0 ≡ get_or counts q 0 + is_one q p
set_more counts p below e q =
    let z : get_or counts p 0 ≡ 0 = get_or_default counts p 0 1 below ∙ e in
    subst (λ (n : ℕ). get_or (set counts p n) q 0 ≡ get_or counts q 0 + is_one q p) (omega (arith, z)) (counts_more counts p q below)

is_one-suc : (x y : ℕ) → is_one (suc x) (suc y) ≡ is_one x y
is_one-suc x y = elim (cases_eq x y) [
  | inl e ↦ subst (λ (z : ℕ). is_one (suc x) (suc z) ≡ is_one x z) e (is_one-same (suc x) ∙ sym (is_one-same x))
  | inr ne ↦ is_one-other (suc x) (suc y) (λ e. ne (omega (arith, e))) ∙ sym (is_one-other x y ne)
]

pub grown_more : (counts : List ℕ) (q : ℕ) → get_or (counts ++ 1 ∷ []) q 0 ≡ get_or counts q 0 + is_one q (length counts)
grown_more [] zero = refl
grown_more [] (suc q) = let none = is_one-other (suc q) 0 (λ e. absurd (omega (arith, e))) in omega (arith, none)
grown_more (c ∷ counts) zero = let none = is_one-other 0 (suc (length counts)) (λ e. absurd (omega (arith, e))) in omega (arith, none)
grown_more (c ∷ counts) (suc q) = let more = grown_more counts q in let same = is_one-suc q (length counts) in omega (arith, more, same)

pub seen_renewed : (es counts : List ℕ) (i p : ℕ)
    → names_of (set es i p) (one_less (set counts p 1) (get_or es i 0)) ≡ as_names (set es i p) (length counts)
seen_renewed es counts i p =
    ap (as_names (set es i p)) (length-one_less (set counts p 1) (get_or es i 0) ∙ length-set counts p 1)

pub used_renewed : (es counts : List ℕ) (i p : ℕ) → AreCounted es counts → i < length es → IsShared es i → 0 < p → p < length counts
    → get_or counts p 1 ≡ 0 → different (set es i p) ≡ different es + 1
used_renewed es counts i p a h shared other below e =
    let next = set counts p 1 in
    let z : get_or counts p 0 ≡ 0 = get_or_default counts p 0 1 below ∙ e in
    let more = free_more counts p 1 below z (omega arith) in
    let kept = free_kept next (get_or es i 0) (still_owned es counts next i p a shared (λ q. let m = set_more counts p below e q in omega (arith, m))) in
    let long = length-set counts p 1 in
    let same = length-one_less next (get_or es i 0) in
    let was = used_counted es counts a in
    let now = used_counted (set es i p) (one_less next (get_or es i 0)) (renewed es counts next i p a h shared other (set_more counts p below e)) in
    omega (arith, more, kept, long, same, was, now)

pub seen_added : (es counts : List ℕ) (i : ℕ)
    → names_of (set es i (length counts)) (one_less (counts ++ 1 ∷ []) (get_or es i 0)) ≡ as_names (set es i (length counts)) (length counts + 1)
seen_added es counts i =
    ap (as_names (set es i (length counts))) (length-one_less (counts ++ 1 ∷ []) (get_or es i 0) ∙ length-append counts (1 ∷ []))

pub used_added : (es counts : List ℕ) (i : ℕ) → AreCounted es counts → i < length es → IsShared es i
    → different (set es i (length counts)) ≡ different es + 1
used_added es counts i a h shared =
    let next = counts ++ 1 ∷ [] in
    let kept = free_kept next (get_or es i 0) (still_owned es counts next i 0 a shared (λ q. let m = grown_more counts q in omega (arith, m))) in
    let long = length-append counts (1 ∷ []) in
    let push = occurs_push 0 counts 1 in
    let none : is_one 0 1 ≡ 0 = refl in
    let same = length-one_less next (get_or es i 0) in
    let was = used_counted es counts a in
    let now = used_counted (set es i (length counts)) (one_less next (get_or es i 0))
    (renewed es counts next i (length counts) a h shared (below_nonzero counts 0 a.first) (grown_more counts)) in
    omega (arith, kept, long, push, none, same, was, now)

pub seen_shared : (es counts : List ℕ) (i j : ℕ)
    → names_of (set es j (get_or es i 0)) (one_more counts (get_or es i 0)) ≡ as_names (set es j (get_or es i 0)) (length counts)
seen_shared es counts i j = ap (as_names (set es j (get_or es i 0))) (length-one_more counts (get_or es i 0))

-- the limit is named by no entry
pub none_names_limit : (es counts : List ℕ) → AreCounted es counts → occurs (length counts) es ≡ 0
none_names_limit es counts a =
    let some = below_nonzero counts 0 a.first in
    let past = get_or_past counts (length counts) 0 (omega arith) in
    let c = a.counted (length counts) some in
    omega (arith, past, c)

free_cleared : (es counts : List ℕ) (i : ℕ) → AreCounted es counts → i < length es
    → (length (one_less counts (get_or es i 0)) - occurs 0 (one_less counts (get_or es i 0))) + one_if (own_at es i) ≡ length counts - occurs 0 counts
free_cleared es counts i a h = elim (cases_eq (get_or es i 0) 0) [
  | inl e ↦
      let none = not_own (get_or es i 0) (occurs (get_or es i 0) es) e in
      let same : one_less counts (get_or es i 0) ≡ counts = ap (one_less counts) e in
      let long = ap length same in
      let free = ap (occurs 0) same in
      omega (arith, none, long, free)
  | inr ne ↦
      let p = get_or es i 0 in
      let full : 0 < p = omega (arith, ne) in
      let o = occurs_at es i h in
      let c = a.counted p full in
      let some : 0 < get_or counts p 0 = omega (arith, o, c) in
      let f = free_less counts p (below_nonzero counts p some) some in
      let is = one_less-is counts p full in
      let free = ap (occurs 0) is in
      let long = length-one_less counts p in
      let last : is_one 1 (get_or counts p 0) ≡ is_one 1 (occurs p es) = ap (is_one 1) c in
      let own = is_own p (occurs p es) full in
      let most = occurs-le-length 0 (one_less counts p) in
      omega (arith, free, f, long, last, own, most)
]
  where
    not_own : (p n : ℕ) → p ≡ 0 → one_if (nat_lt 0 p && (n == 1)) ≡ 0
    not_own p n h = grind (arith, nat_tests)

    is_own : (p n : ℕ) → 0 < p → one_if (nat_lt 0 p && (n == 1)) ≡ is_one 1 n
    is_own p n h = grind (arith, nat_tests)

-- an entry becomes 0, whatever it was
pub cleared : (es counts : List ℕ) (i : ℕ) → AreCounted es counts → i < length es → AreCounted (set es i 0) (one_less counts (get_or es i 0))
cleared es counts i a h =
    counted_set es counts (one_less counts (get_or es i 0)) i 0 a h (first_less counts (get_or es i 0) a.first)
    (λ q other.
    let l = counts_less counts (get_or es i 0) q (λ full. let o = occurs_at es i h in let c = a.counted (get_or es i 0) full in omega (arith, o, c)) other in
    let none : is_one q 0 ≡ 0 = is_one-other q 0 (λ e. absurd (omega (arith, e, other))) in
    omega (arith, l, none))

pub used_cleared : (es counts : List ℕ) (i : ℕ) → AreCounted es counts → i < length es
    → different (set es i 0) + one_if (own_at es i) ≡ different es
used_cleared es counts i a h =
    let free = free_cleared es counts i a h in
    let was = used_counted es counts a in
    let now = used_counted (set es i 0) (one_less counts (get_or es i 0)) (cleared es counts i a h) in
    omega (arith, free, was, now)

-- an entry that isn't the only one of its number is 0 or shared
pub shared_when : (es : List ℕ) (i : ℕ) → i < length es → own_at es i ≡ false → IsShared es i
shared_when es i h other ne = two (get_or es i 0) (occurs (get_or es i 0) es) ne (occurs_at es i h) other
  where
    two : (p n : ℕ) → p ≢ 0 → 0 < n → (nat_lt 0 p && (n == 1)) ≡ false → 2 ≤ n
    two p n h k other = grind (arith, nat_tests)
