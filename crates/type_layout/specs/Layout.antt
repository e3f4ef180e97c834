-- Sizes in bytes and alignments.
use Rattle.std.specs.Prelude.{ℕ, ◌+◌, ◌-◌, ◌%◌}
use Rattle.am_base.specs.declared.word.Width.{Width}
use Rattle.am_base.specs.declared.word.Width.TheVariants.{W1, W8, W16, W32, W64}

-- the least multiple of an alignment that is not below n
abbrev pub round_up : ℕ → ℕ → ℕ
round_up n align = n + (align - n % align) % align

-- how many bytes an integer of a width takes in memory
abbrev pub bytes_of : Width → ℕ
bytes_of W1 = 1
bytes_of W8 = 1
bytes_of W16 = 2
bytes_of W32 = 4
bytes_of W64 = 8
