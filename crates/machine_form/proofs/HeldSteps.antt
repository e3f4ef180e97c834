-- One more element of a list of which a few are kept apart.
use Rattle.std.proofs.Common.{◌≡◌, ℕ, ◌+◌, ◌<◌, Bool, false, List, [], ◌∷◌, ◌++◌, length, sym, ◌∙◌, ap}
use Rattle.std.specs.Prelude.{slice_set}
use Rattle.std.proofs.lemmas.List.{take_more_set}
use Rattle.machine_form.specs.Held.{held}

pub one_more : {X : Type 0} (long : Bool) (all few : List X) (count : ℕ) (x : X) → long ≡ false → count < length few → held long all (count + 1) (slice_set few count x) ≡ held long all count few ++ x ∷ []
one_more long all few count x e h =
    ap (λ b. held b all (count + 1) (slice_set few count x)) e ∙ take_more_set few count x h ∙ ap (λ b. held b all count few ++ x ∷ []) (sym e)
