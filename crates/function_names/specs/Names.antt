-- The functions of a code by their names.
use Rattle.std.specs.Prelude.{◌≡◌, ℕ, List, [], ◌∷◌, ◌++◌, Option, is_some, if◌then◌else◌}
use Rattle.std.specs.List.{position_from}
use Rattle.std.specs.Map.{lookup}
use Rattle.std.specs.Str.{bytes_eq}
use Rattle.code_form.specs.declared.code.Code.{Code}
use Rattle.code_form.specs.declared.code.Func.{Func}

-- the number of the function with a name: of the first, where several have it
abbrev pub function_named : Code → List ℕ → Option ℕ
function_named code name = position_from (λ (f : Func). bytes_eq name f.name) 0 code.funcs

-- names with their numbers
abbrev pub Numbers : Type 0
Numbers = List (List ℕ × ℕ)

-- the number of a name: the first, where it has several
abbrev pub number_in : Numbers → List ℕ → Option ℕ
number_in numbers name = lookup (bytes_eq name) numbers

-- a name is added behind the others, unless it is among them
abbrev pub Adds : Numbers → List ℕ → ℕ → Numbers → Type 0
Adds old name number new = new ≡ (if is_some (number_in old name) then old else old ++ (name, number) ∷ [])
