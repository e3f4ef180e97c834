-- One more class.
use Rattle.std.proofs.Common.{◌≡◌, ◌<◌, ℕ, ◌+◌, ◌++◌, List, flat_map, take, length, get_or}
use Rattle.line_parts.proofs.MoreParts.{flat_more}
use Rattle.flat_analysis.specs.declared.ended.Ended.{Ended}
use Rattle.command_texts.specs.Groups.{group_of, short_of}

pub groups_more : (step : ℕ) (classes : List Ended) (i : ℕ) (class : Ended) → i < length classes → class ≡ get_or classes i class
    → flat_map (group_of step) (take (i + 1) classes) ≡ flat_map (group_of step) (take i classes) ++ group_of step class
groups_more step classes i class h e = flat_more (group_of step) classes i class h e

pub short_more : (step : ℕ) (classes : List Ended) (i : ℕ) (class : Ended) → i < length classes → class ≡ get_or classes i class
    → flat_map (short_of step) (take (i + 1) classes) ≡ flat_map (short_of step) (take i classes) ++ short_of step class
short_more step classes i class h e = flat_more (short_of step) classes i class h e
