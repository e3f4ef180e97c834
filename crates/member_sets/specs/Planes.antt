-- Sets of numbers as bits of words.
--     has_bit first words m      bit m % 64 of word m / 64 is set, where these words are those from word `first` on and all others are 0
--     upto first words n         the numbers below n whose bit is set, rising
--     numbers_in first words     all numbers whose bit is set, rising
--     bits_below r w             the places below r of the bits of a word that are set, rising
--     AreSums                    for each word, how many bits the words before it have
--     IsPlane                    what is kept of a set besides its words
use Rattle.std.specs.Prelude.{◌≡◌, ℕ, Bool, ◌+◌, ◌-◌, ◌*◌, ◌/◌, ◌%◌, ◌<◌, ◌≤◌, ◌==◌, ◌&&◌, nat_le, List, length, slice_index}
use Rattle.std.specs.List.{filter}
use Rattle.std.specs.Int.{bit_at}
use Rattle.am_base.specs.declared.limits.TheConstants.{MAX_MUTANTS}
use Rattle.traces.specs.Together.{below}

unfoldable pub has_bit : ℕ → List ℕ → ℕ → Bool
has_bit first words m = nat_le first (m / 64) && (bit_at (slice_index words (m / 64 - first)) (m % 64) == 1)

abbrev pub upto : ℕ → List ℕ → ℕ → List ℕ
upto first words n = filter (has_bit first words) (below n)

unfoldable pub numbers_in : ℕ → List ℕ → List ℕ
numbers_in first words = upto first words (64 * (first + length words))

unfoldable pub bits_below : ℕ → ℕ → List ℕ
bits_below r w = filter (λ k. bit_at w k == 1) (below r)

pub record AreSums (first : ℕ) (words sums : List ℕ) : Type 0 where
  pub as_many : length sums ≡ length words
  pub sum : (j : ℕ) → j < length words → slice_index sums j ≡ length (upto first words (64 * (first + j)))

pub record IsPlane (first : ℕ) (words sums : List ℕ) (least len : ℕ) : Type 0 where
  pub few : 64 * (first + length words) ≤ MAX_MUTANTS
  pub some : 0 < length (numbers_in first words)
  pub least_is : least ≡ slice_index (numbers_in first words) 0
  pub len_is : len ≡ length (numbers_in first words)
  pub sums_are : AreSums first words sums
