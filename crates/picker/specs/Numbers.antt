-- The numbers that a listed picker goes by.
--     numbers_left         those that it hasn't used yet, in their order
--     index_from ks n      the index that it picks of n offers where ks are left: the first number modulo n, and 0 where there is none
--     numbers_after ks     those that are left then
use Rattle.std.specs.Prelude.{ℕ, ◌%◌, List, [], ◌∷◌, drop}
use Rattle.picker.specs.declared.listed.Listed.{Listed}

abbrev pub numbers_left : Listed → List ℕ
numbers_left picker = drop picker.next picker.picks.items

abbrev pub index_from : List ℕ → ℕ → ℕ
index_from [] n = 0
index_from (k ∷ ks) n = k % n

abbrev pub numbers_after : List ℕ → List ℕ
numbers_after [] = []
numbers_after (k ∷ ks) = ks
