-- In how many pages the bytes of a change lie.
use Rattle.std.specs.Prelude.{ℕ, ◌/◌, List, map, nat_eq}
use Rattle.std.specs.Set.{distinct_count}
use Rattle.am_base.specs.declared.limits.TheConstants.{PAGE_BYTES}

-- the page of an address, an index from 0
abbrev pub page_of : ℕ → ℕ
page_of address = address / PAGE_BYTES

-- the number of different pages of the addresses of these pairs of an address and a byte
abbrev pub pages_of : List (ℕ × ℕ) → ℕ
pages_of bytes = distinct_count nat_eq (map (λ b. page_of b.0) bytes)
