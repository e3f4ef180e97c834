-- What equal options say of what is in them.
use Rattle.std.proofs.Common.{◌≡◌, Option, Some, None}

pub some-same : {A : Type 0} (x y : A) → Some x ≡ Some y → x ≡ y
some-same x y e = cc e

pub some-none : {A : Type 0} (x : A) → None ≡ Some x → ⊥
some-none x e = cc e
