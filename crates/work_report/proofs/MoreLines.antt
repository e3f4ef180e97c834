-- One more of the parts of a text.
use Rattle.std.proofs.Common.{◌≡◌, ◌<◌, ℕ, zero, suc, ◌+◌, ◌++◌, ◌∷◌, [], List, flat_map, take, length, get_or, ap, ◌∙◌, arith, add-one}
use Rattle.std.specs.List.{range_with_len}
use Rattle.std.proofs.lemmas.Grind.{flat_map-append, common_steps}
use Rattle.test_suite.specs.declared.suite.Test.{Test}
use Rattle.exec_core.specs.declared.result.Split.{Split}
use Rattle.line_parts.proofs.MoreParts.{flat_more}
use Rattle.work_report.specs.Report.{each_below, split_line}

pub range_more : (a n j : ℕ) → a + n ≡ j → range_with_len a (suc n) ≡ range_with_len a n ++ j ∷ []
range_more a zero j e = let same : a ≡ j = omega (arith, e) in ap (λ k. k ∷ []) same
range_more a (suc n) j e = ap (λ ks. a ∷ ks) (range_more (a + 1) n j (omega (arith, e)))

pub each_more : (f : ℕ → List ℕ) (n : ℕ) → each_below f (n + 1) ≡ each_below f n ++ f n
each_more f n =
    let one = ap (λ ks. flat_map f ks) (range_more 0 n n (omega arith)) in
    let split = flat_map-append f (range_with_len 0 n) (n ∷ []) in
    rw add-one (one ∙ split ∙ grind (arith, common_steps))

pub names_more : (tests : List Test) (i : ℕ) (test : Test) → i < length tests → test ≡ get_or tests i test
    → flat_map (λ t. 44 ∷ t.name) (take (i + 1) tests) ≡ flat_map (λ t. 44 ∷ t.name) (take i tests) ++ 44 ∷ test.name
names_more tests i test h e = flat_more (λ t. 44 ∷ t.name) tests i test h e

pub splits_more : (name : List ℕ) (splits : List Split) (i : ℕ) (split : Split) → i < length splits → split ≡ get_or splits i split
    → flat_map (split_line name) (take (i + 1) splits) ≡ flat_map (split_line name) (take i splits) ++ split_line name split
splits_more name splits i split h e = flat_more (split_line name) splits i split h e
