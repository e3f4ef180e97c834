-- A vector that was written through a slice of all of it.
use Rattle.std.proofs.Common.{◌≡◌, ℕ, List, ◌++◌, length, take, sym, subst}
use Rattle.std.proofs.lemmas.List.{take_at}

pub written_back : {X : Type 0} (xs : List X) (P : List X → Type 0) (n : ℕ) (ys : List X) → length xs ≡ n → P xs → P (take n (xs ++ ys))
written_back xs P n ys long h = subst P (sym (take_at xs ys n long)) h
