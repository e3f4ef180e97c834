-- The set that a form keeps, as a rising list.
use Rattle.std.specs.Prelude.{ℕ, List, [], ◌∷◌}
use Rattle.member_sets.specs.declared.form.Form.{Form}
use Rattle.member_sets.specs.declared.form.Form.TheVariants.{Single, Listed, Bits}

abbrev pub seen : Form → List ℕ
seen (Single m) = m ∷ []
seen (Listed list) = list.value
seen (Bits plane) = plane.value
