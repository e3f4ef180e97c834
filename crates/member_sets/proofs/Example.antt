-- What the definition gives for six members, where the classes by number are 7, 3, 7, 3, 9, 7.
use Rattle.std.proofs.Common.{◌≡◌, [], ◌∷◌, slice_index, refl}
use Rattle.member_sets.specs.Members.{parts_by}

pub parts_of_six : parts_by (slice_index (7 ∷ 3 ∷ 7 ∷ 3 ∷ 9 ∷ 7 ∷ [])) (0 ∷ 1 ∷ 2 ∷ 3 ∷ 4 ∷ 5 ∷ []) ≡ (0 ∷ 2 ∷ 5 ∷ []) ∷ (1 ∷ 3 ∷ []) ∷ (4 ∷ []) ∷ []
parts_of_six = refl
