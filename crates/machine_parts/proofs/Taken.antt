-- The numbers that are taken, where one comes or goes.
use Rattle.std.proofs.Common.{◌≡◌, ◌≢◌, ℕ, zero, suc, ◌+◌, ◌<◌, List, [], ◌∷◌, Bool, true, false, Some, ◌++◌, ◌-◌, ◌≤◌, get_or, set, take, length, arith, refl, sym, ap, subst, ◌∙◌, inl, inr, ⊎_elim, ◌⊎◌}
use Rattle.std.specs.List.{Contains, slice_get}
use Rattle.std.specs.List.Sorted.{IsPermutation}
use Rattle.std.proofs.lemmas.Bool.{cases_lt}
use Rattle.std.proofs.lemmas.List.Sorted.{IsPermutation-refl, IsPermutation-sym, IsPermutation-cons, IsPermutation-middle, IsPermutation-trans, Contains-permutation}
use Rattle.std.proofs.lemmas.List.{length-take-le, get_or-take, get_or-set_same, get_or-set_other, get_or_past, get_or_push}
use Rattle.std.proofs.lemmas.Option.{get_or_from_slice_get}
use Rattle.traces.proofs.Lists.{contains_cases}
use Rattle.machine_parts.specs.Taken.{taken_from, taken}

-- whether a number is taken
abbrev pub is_set : List Bool → ℕ → Bool
is_set ms i = get_or ms i false

never : false ≡ true → ⊥
never e = cc

none_taken : (k : ℕ) (ms : List Bool) → ((i : ℕ) → is_set ms i ≡ false) → taken_from k ms ≡ []
none_taken k [] h = refl
none_taken k (false ∷ ms) h = none_taken (k + 1) ms (λ i. h (suc i))
none_taken k (true ∷ ms) h = absurd (never (sym (h zero)))

same_from : (k : ℕ) (ms ns : List Bool) → ((i : ℕ) → is_set ns i ≡ is_set ms i) → taken_from k ns ≡ taken_from k ms
same_from k [] ns h = none_taken k ns h
same_from k (m ∷ ms) [] h = sym (none_taken k (m ∷ ms) (λ i. sym (h i)))
same_from k (false ∷ ms) (false ∷ ns) h = same_from (k + 1) ms ns (λ i. h (suc i))
same_from k (true ∷ ms) (true ∷ ns) h = ap (λ l. k ∷ l) (same_from (k + 1) ms ns (λ i. h (suc i)))
same_from k (false ∷ ms) (true ∷ ns) h = absurd (never (sym (h zero)))
same_from k (true ∷ ms) (false ∷ ns) h = absurd (never (h zero))

-- number n comes, and no other comes or goes
swapped : (k x : ℕ) (xs ys : List ℕ) → IsPermutation (x ∷ xs) ys → IsPermutation (x ∷ k ∷ xs) (k ∷ ys)
swapped k x xs ys p =
    IsPermutation-trans (x ∷ k ∷ xs) (k ∷ x ∷ xs) (k ∷ ys) (IsPermutation-sym (k ∷ x ∷ xs) (x ∷ k ∷ xs) (IsPermutation-middle (k ∷ []) x xs))
    (IsPermutation-cons k (x ∷ xs) ys p)

placed : (k n : ℕ) (xs ys : List ℕ) → IsPermutation ((k + 1 + n) ∷ xs) ys → IsPermutation ((k + suc n) ∷ xs) ys
placed k n xs ys p = let e : k + 1 + n ≡ k + suc n = omega arith in subst (λ (x : ℕ). IsPermutation (x ∷ xs) ys) e p

begun : (k : ℕ) (xs ys : List ℕ) → ys ≡ xs → IsPermutation ((k + 0) ∷ xs) (k ∷ ys)
begun k xs ys e =
    let at : k ≡ k + 0 = omega arith in
    subst (λ (x : ℕ). IsPermutation (x ∷ xs) (k ∷ ys)) at (subst (λ zs. IsPermutation (k ∷ xs) (k ∷ zs)) (sym e) (IsPermutation-refl (k ∷ xs)))

more_from : (k n : ℕ) (ms ns : List Bool) → is_set ms n ≡ false → is_set ns n ≡ true → ((i : ℕ) → i ≢ n → is_set ns i ≡ is_set ms i)
    → IsPermutation ((k + n) ∷ taken_from k ms) (taken_from k ns)
more_from k n ms [] f t h = absurd (never t)
more_from k zero [] (false ∷ ns) f t h = absurd (never t)
more_from k zero [] (true ∷ ns) f t h = begun k [] (taken_from (k + 1) ns) (none_taken (k + 1) ns (λ i. h (suc i) (λ e. absurd (omega (arith, e)))))
more_from k (suc n) [] (false ∷ ns) f t h =
    placed k n [] (taken_from (k + 1) ns) (more_from (k + 1) n [] ns f t (λ i ne. h (suc i) (λ e. ne (omega (arith, e)))))
more_from k (suc n) [] (true ∷ ns) f t h = absurd (never (sym (h zero (λ e. absurd (omega (arith, e))))))
more_from k zero (true ∷ ms) (n ∷ ns) f t h = absurd (never (sym f))
more_from k zero (false ∷ ms) (false ∷ ns) f t h = absurd (never t)
more_from k zero (false ∷ ms) (true ∷ ns) f t h =
    begun k (taken_from (k + 1) ms) (taken_from (k + 1) ns) (same_from (k + 1) ms ns (λ i. h (suc i) (λ e. absurd (omega (arith, e)))))
more_from k (suc n) (false ∷ ms) (false ∷ ns) f t h =
    placed k n (taken_from (k + 1) ms) (taken_from (k + 1) ns) (more_from (k + 1) n ms ns f t (λ i ne. h (suc i) (λ e. ne (omega (arith, e)))))
more_from k (suc n) (true ∷ ms) (true ∷ ns) f t h =
    swapped k (k + suc n) (taken_from (k + 1) ms) (taken_from (k + 1) ns)
    (placed k n (taken_from (k + 1) ms) (taken_from (k + 1) ns) (more_from (k + 1) n ms ns f t (λ i ne. h (suc i) (λ e. ne (omega (arith, e))))))
more_from k (suc n) (false ∷ ms) (true ∷ ns) f t h = absurd (never (sym (h zero (λ e. absurd (omega (arith, e))))))
more_from k (suc n) (true ∷ ms) (false ∷ ns) f t h = absurd (never (h zero (λ e. absurd (omega (arith, e)))))

pub same_taken : (ms ns : List Bool) → ((i : ℕ) → is_set ns i ≡ is_set ms i) → taken ns ≡ taken ms
same_taken ms ns h = same_from 0 ms ns h

pub one_taken : (n : ℕ) (ms ns : List Bool) → is_set ms n ≡ false → is_set ns n ≡ true → ((i : ℕ) → i ≢ n → is_set ns i ≡ is_set ms i)
    → IsPermutation (n ∷ taken ms) (taken ns)
one_taken n ms ns f t h = let at : 0 + n ≡ n = omega arith in subst (λ (x : ℕ). IsPermutation (x ∷ taken ms) (taken ns)) at (more_from 0 n ms ns f t h)

-- what is taken is the number of a mark that is set
contains_set : (k : ℕ) (ms : List Bool) (x : ℕ) → Contains (taken_from k ms) x → (i : ℕ) × (x ≡ k + i) × (is_set ms i ≡ true)
contains_set k [] x h = absurd (let l : h.0 < 0 = h.1 in omega arith)
contains_set k (false ∷ ms) x h = let r = contains_set (k + 1) ms x h in (suc r.0, omega (arith, r.1), r.2)
contains_set k (true ∷ ms) x h = ⊎_elim
    (λ (e : k ≡ x). (zero, omega (arith, e), refl))
    (λ (c : Contains (taken_from (k + 1) ms) x). let r = contains_set (k + 1) ms x c in (suc r.0, omega (arith, r.1), r.2))
    (contains_cases k x (taken_from (k + 1) ms) h)

pub taken_set : (ms : List Bool) (x : ℕ) → Contains (taken ms) x → is_set ms x ≡ true
taken_set ms x h = let r = contains_set 0 ms x h in let e : r.0 ≡ x = omega (arith, r.1) in subst (λ (i : ℕ). is_set ms i ≡ true) e r.2

-- ---- the calls

within : (ms : List Bool) (x : ℕ) → is_set ms x ≡ true → x < length ms
within [] x h = absurd (never h)
within (m ∷ ms) zero h = omega arith
within (m ∷ ms) (suc x) h = let l = within ms x h in omega (arith, l)

pub taken_within : (ms : List Bool) (x : ℕ) → Contains (taken ms) x → x < length ms
taken_within ms x h = within ms x (taken_set ms x h)

-- a mark is put behind the others
pushed : (ms : List Bool) (i : ℕ) → i ≢ length ms → is_set (ms ++ true ∷ []) i ≡ is_set ms i
pushed [] zero ne = absurd (ne refl)
pushed [] (suc i) ne = refl
pushed (m ∷ ms) zero ne = refl
pushed (m ∷ ms) (suc i) ne = pushed ms i (λ e. ne (ap suc e))

pub push_taken : (ms : List Bool) (n : ℕ) → n ≡ length ms → IsPermutation (n ∷ taken ms) (taken (ms ++ true ∷ []))
push_taken ms n e =
    one_taken n ms (ms ++ true ∷ []) (get_or_past ms n false (omega (arith, e))) (get_or_push ms true false n (sym e)) (λ i ne. pushed ms i (λ f. ne (f ∙ sym e)))

-- a mark is taken away
pub unset_taken : (ms : List Bool) (x : ℕ) → Contains (taken ms) x → IsPermutation (taken ms) (x ∷ taken (set ms x false))
unset_taken ms x h =
    let is : is_set ms x ≡ true = taken_set ms x h in
    IsPermutation-sym (x ∷ taken (set ms x false)) (taken ms)
    (one_taken x (set ms x false) ms (get_or-set_same ms x false false (within ms x is)) is (λ i ne. sym (get_or-set_other ms x i false false ne)))

-- the last mark isn't set, and is dropped
past : (ms : List Bool) (i : ℕ) → length ms - 1 ≤ i → is_set ms (length ms - 1) ≡ false → is_set ms i ≡ false
past ms i g h = elim (cases_lt i (length ms)) [
  | inl l ↦ let e : length ms - 1 ≡ i = omega (arith, l, g) in subst (λ (k : ℕ). is_set ms k ≡ false) e h
  | inr m ↦ get_or_past ms i false m
]

pub drop_taken : (ms : List Bool) → is_set ms (length ms - 1) ≡ false → taken (take (length ms - 1) ms) ≡ taken ms
drop_taken ms h = same_taken ms (take (length ms - 1) ms) (λ i. elim (cases_lt i (length ms - 1)) [
  | inl l ↦ get_or-take (length ms - 1) ms i false l
  | inr g ↦ get_or_past (take (length ms - 1) ms) i false (omega (arith, g, length-take-le (length ms - 1) ms (omega arith))) ∙ sym (past ms i g h)
])

pub contains_first : (x : ℕ) (xs ys : List ℕ) → IsPermutation (x ∷ xs) ys → Contains ys x
contains_first x xs ys p = Contains-permutation (x ∷ xs) ys x p (0, omega arith, refl)

-- the last mark is read, isn't set, and is dropped
pub drop_more : (ms ns read : List Bool) (n : ℕ) (last : Bool) → read ≡ ms → n ≡ length ms → slice_get read (length read - 1) ≡ Some last → last ≡ false → ns ≡ take (n - 1) ms
    → taken ns ≡ taken ms
drop_more ms ns read n last is long got unset rest =
    let here = subst (λ (xs : List Bool). slice_get xs (length xs - 1) ≡ Some last) is got in
    ap taken (rest ∙ ap (λ (k : ℕ). take (k - 1) ms) long) ∙ drop_taken ms (get_or_from_slice_get ms (length ms - 1) last false here ∙ unset)
