-- Members filed by class.
--     AreFiled class members i classes lists    these are the classes of the first i members, in order of the least member of each, and these
--                                               are the lists of the members of each
use Rattle.std.specs.Prelude.{◌≡◌, ℕ, ◌==◌, List, map, take}
use Rattle.std.specs.List.{filter}
use Rattle.member_sets.specs.Members.{is_class_leader}

pub record AreFiled (class : ℕ → ℕ) (members : List ℕ) (i : ℕ) (classes : List ℕ) (lists : List (List ℕ)) : Type 0 where
  pub classes_are : classes ≡ map class (filter (is_class_leader class members) (take i members))
  pub lists_are : lists ≡ map (λ c. filter (λ m. c == class m) (take i members)) classes
