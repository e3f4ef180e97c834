-- The ports by their names.
use Rattle.std.specs.Prelude.{ℕ, suc, List, [], ◌∷◌}
use Rattle.code_form.specs.declared.sign.PortSign.{PortSign}
use Rattle.ir_tree.specs.declared.name.Name.{Name}
use Rattle.ir_tree.specs.declared.name.Name.TheVariants.{Text}

-- the names of ports, each with its number; they are numbered from p
abbrev pub numbered : ℕ → List PortSign → List (Name × ℕ)
numbered p [] = []
numbered p (sign ∷ more) = (Text sign.name, p) ∷ numbered (suc p) more
