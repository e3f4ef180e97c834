-- What the words of mutants say of the tests that kill them.
use Rattle.std.proofs.Common.{◌≡◌, ℕ, ◌+◌, ◌*◌, ◌/◌, ◌%◌, ◌<◌, Bool, true, false, ◌==◌, not, cond, List, [], length, get_or, bit_and, sym, ap, subst, ◌∙◌, arith, ⊎_elim, slice_index, eqb-true, eq-eqb, ne_eqb}
use Rattle.std.specs.Int.{bit_at, trailing_zeros, w64}
use Rattle.std.proofs.lemmas.Bool.{both_ways, cases_lt, eqb-false, not-true}
use Rattle.std.proofs.lemmas.List.{get_or_default}
use Rattle.std.proofs.lemmas.List.Sums.{AllPass-from_list_all, list_all-from_AllPass}
use Rattle.std.proofs.lemmas.List.Folds.{list_any_at, list_all_at, Any-from_list_any}
use Rattle.std.proofs.lemmas.Nat.{and_le_l}
use Rattle.std.proofs.lemmas.Nat.Bits.{bit_at-zero, bit_at_and, bit_at-trailing_zeros, same_from_bits_below}
use Rattle.traces.proofs.Bools.{on_bool}
use Rattle.kill_matrix.specs.Score.{Letters}
use Rattle.suite_reduce.specs.Kills.{is_killed_by}
use Rattle.suite_reduce.specs.Subsumers.{IsWithin, IsKilled}
use Rattle.suite_reduce.specs.Planes.{IsWord, AreWords, words_within, words_kill}
use Rattle.suite_reduce.proofs.Letters.{no_test}

-- one plane that tells two mutants apart is enough
pub apart_in : (planes : List (List ℕ)) (at a b : ℕ) (plane : List ℕ) → at < length planes → get_or planes at plane ≡ plane
    → (bit_and (slice_index plane a) (slice_index plane b) == slice_index plane a) ≡ false → words_within planes a b ≡ false
unfolding words_within
apart_in planes at a b plane within here h =
    list_all_at (λ p. bit_and (slice_index p a) (slice_index p b) == slice_index p a) planes at plane within
    (ap (λ p. bit_and (slice_index p a) (slice_index p b) == slice_index p a) here ∙ h)

module _ (grid : Letters) where
  -- the bit of a test is set exactly where it kills the mutant
  set_bit : (m first word i : ℕ) → IsWord grid m first word → i < 64 → is_killed_by grid m (first + i) ≡ true → bit_at word i ≡ 1
  set_bit m first word i w l k = w.bits i l ∙ ap (λ (b : Bool). cond b 1 0) k

  clear_bit : (m first word i : ℕ) → IsWord grid m first word → i < 64 → is_killed_by grid m (first + i) ≡ false → bit_at word i ≡ 0
  clear_bit m first word i w l k = w.bits i l ∙ ap (λ (b : Bool). cond b 1 0) k

  bit_kills : (m first word i : ℕ) → IsWord grid m first word → i < 64 → bit_at word i ≡ 1 → is_killed_by grid m (first + i) ≡ true
  bit_kills m first word i w l one = on_bool (is_killed_by grid m (first + i)) (λ t. t) (λ f. absurd (omega (arith, one, clear_bit m first word i w l f)))

  -- one word within another
  part_within : (a b first x y i : ℕ) → IsWord grid a first x → IsWord grid b first y → bit_and x y ≡ x → i < 64
      → is_killed_by grid a (first + i) ≡ true → is_killed_by grid b (first + i) ≡ true
  part_within a b first x y i wx wy e l k =
      let one = set_bit a first x i wx l k in let both = bit_at_and x y i in let same = ap (λ n. bit_at n i) e in
      on_bool (is_killed_by grid b (first + i)) (λ t. t) (λ f. let none = clear_bit b first y i wy l f in absurd (omega (arith, one, both, same, none)))

  within_part : (a b first x y : ℕ) → IsWord grid a first x → IsWord grid b first y
      → ((i : ℕ) → i < 64 → is_killed_by grid a (first + i) ≡ true → is_killed_by grid b (first + i) ≡ true) → bit_and x y ≡ x
  within_part a b first x y wx wy h =
      let fits = wx.fits in let less = and_le_l x y in
      same_from_bits_below 64 (bit_and x y) x (omega arith) fits (λ i l. let both = bit_at_and x y i in
      on_bool (is_killed_by grid a (first + i))
      (λ k. let one = set_bit a first x i wx l k in let other = set_bit b first y i wy l (h i l k) in omega arith)
      (λ f. let none = clear_bit a first x i wx l f in omega arith))

  module _ (planes : List (List ℕ)) (are : AreWords grid planes) where
    -- the word of a test
    word_is : (m block : ℕ) → m < grid.mutants → block < length planes → (d : List ℕ) → IsWord grid m (64 * block) (slice_index (get_or planes block d) m)
    word_is m block h l d = subst (λ (plane : List ℕ). IsWord grid m (64 * block) (slice_index plane m)) (get_or_default planes block [] d l)
        ((are.each block l).each m h)

    -- a test that kills has a plane
    has_plane : (m t : ℕ) → is_killed_by grid m t ≡ true → t / 64 < length planes
    has_plane m t k = ⊎_elim
        (λ (l : t < length grid.tests). let enough = are.enough in omega arith)
        (λ g. absurd (both_ways (is_killed_by grid m t) (no_test grid m t g) k))
        (cases_lt t (length grid.tests))

    test_is : (t : ℕ) → 64 * (t / 64) + t % 64 ≡ t
    test_is t = omega arith

    pub within_from_words : (a b : ℕ) → a < grid.mutants → b < grid.mutants → words_within planes a b ≡ true → IsWithin grid a b
    unfolding words_within
    within_from_words a b ha hb h t k =
        let l = has_plane a t k in let i : t % 64 < 64 = omega arith in
        let pass = AllPass-from_list_all (λ plane. bit_and (slice_index plane a) (slice_index plane b) == slice_index plane a) planes h (t / 64) [] l in
        let same = eqb-true (bit_and (slice_index (get_or planes (t / 64) []) a) (slice_index (get_or planes (t / 64) []) b)) (slice_index (get_or planes (t / 64) []) a) pass in
        sym (ap (is_killed_by grid b) (test_is t))
        ∙ part_within a b (64 * (t / 64)) (slice_index (get_or planes (t / 64) []) a) (slice_index (get_or planes (t / 64) []) b) (t % 64) (word_is a (t / 64) ha l [])
        (word_is b (t / 64) hb l []) same i (ap (is_killed_by grid a) (test_is t) ∙ k)

    pub words_from_within : (a b : ℕ) → a < grid.mutants → b < grid.mutants → IsWithin grid a b → words_within planes a b ≡ true
    unfolding words_within
    words_from_within a b ha hb h =
        list_all-from_AllPass (λ plane. bit_and (slice_index plane a) (slice_index plane b) == slice_index plane a) planes (λ block d l.
        eq-eqb (bit_and (slice_index (get_or planes block d) a) (slice_index (get_or planes block d) b)) (slice_index (get_or planes block d) a)
        (within_part a b (64 * block) (slice_index (get_or planes block d) a) (slice_index (get_or planes block d) b) (word_is a block ha l d) (word_is b block hb l d)
        (λ i u k. h (64 * block + i) k)))

    pub killed_from_words : (a : ℕ) → a < grid.mutants → words_kill planes a ≡ true → IsKilled grid a
    unfolding words_kill
    killed_from_words a ha h =
        let w = Any-from_list_any (λ (plane : List ℕ). not (slice_index plane a == 0)) planes h in
        let plane = w.1 in let word = slice_index plane a in
        let is = subst (λ (p : List ℕ). IsWord grid a (64 * w.0) (slice_index p a)) w.3 (word_is a w.0 ha w.2 plane) in
        let differs = eqb-false word 0 (not-true (word == 0) w.4) in
        let some : 0 < word = omega (arith, differs) in
        let z = bit_at-trailing_zeros w64 word some is.fits in
        record { test = 64 * w.0 + trailing_zeros w64 word; kills = bit_kills a (64 * w.0) word (trailing_zeros w64 word) is z.0 z.1 }

    pub words_from_killed : (a : ℕ) → a < grid.mutants → IsKilled grid a → words_kill planes a ≡ true
    unfolding words_kill
    words_from_killed a ha k =
        let t = k.test in let l = has_plane a t k.kills in let i : t % 64 < 64 = omega arith in
        let word = slice_index (get_or planes (t / 64) []) a in
        let one = set_bit a (64 * (t / 64)) word (t % 64) (word_is a (t / 64) ha l []) i (ap (is_killed_by grid a) (test_is t) ∙ k.kills) in
        let some : word ≡ 0 → ⊥ = λ e. omega (arith, one, ap (λ n. bit_at n (t % 64)) e, bit_at-zero (t % 64)) in
        list_any_at (λ (plane : List ℕ). not (slice_index plane a == 0)) planes (t / 64) [] l (ap not (ne_eqb word 0 some))
