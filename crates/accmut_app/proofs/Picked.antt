-- Whether a picker of a name is among those handed in, from what the search for it found.
use Rattle.std.proofs.Common.{◌≡◌, List, [], ◌∷◌, map, Bool, true, false, cond, ◌||◌, Option, Some, None, refl}
use Rattle.std.specs.List.{find}
use Rattle.std.specs.Str.{bytes_eq}
use Rattle.command_words.specs.Words.{Text}
use Rattle.accmut_app.specs.Commands.{is_among}

module _ {X : Type 0} where
  there_step : (here later : Bool) (first x : X) (o : Option X) → (o ≡ Some x → later ≡ true) → cond here (Some first) o ≡ Some x → (here || later) ≡ true
  there_step true later first x o h e = refl
  there_step false later first x o h e = h e

  missing_step : (here later : Bool) (first : X) (o : Option X) → (o ≡ None → later ≡ false) → cond here (Some first) o ≡ None → (here || later) ≡ false
  missing_step true later first o h e = absurd (cc e)
  missing_step false later first o h e = h e

  module _ (named : X → Text) (name : Text) where
    pub there : (xs : List X) (x : X) → find (λ q. bytes_eq (named q) name) xs ≡ Some x → is_among (map named xs) name ≡ true
    there [] x e = absurd (cc e)
    there (y ∷ ys) x e = there_step (bytes_eq (named y) name) (is_among (map named ys) name) y x (find (λ q. bytes_eq (named q) name) ys) (there ys x) e

    pub missing : (xs : List X) → find (λ q. bytes_eq (named q) name) xs ≡ None → is_among (map named xs) name ≡ false
    missing [] e = refl
    missing (y ∷ ys) e = missing_step (bytes_eq (named y) name) (is_among (map named ys) name) y (find (λ q. bytes_eq (named q) name) ys) (missing ys) e
