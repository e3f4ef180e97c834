-- The derived equality of shapes is equality.
use Rattle.std.proofs.Common.{◌≡◌, ◌&&◌, nat_eq, Bool, true, false, refl, ap}
use denote.Enum.Bare.{same_true}
use Rattle.std.proofs.lemmas.Bool.{eqb-true}
use Rattle.std.proofs.lemmas.Slice.Eq.{bytes_eq-Decides}
use Rattle.am_base.specs.contracts.word.Width as width
use Rattle.type_table.specs.declared.shape.Shape.{Shape}
use Rattle.type_table.specs.declared.shape.Shape.TheVariants.{Int, Ptr, Array, Struct}
use Rattle.type_table.specs.contracts.shape.ShapePartialEq.TheImpl as shape

-- the derived test of shapes
abbrev pub shape_eq : Shape → Shape → Bool
shape_eq = shape.ghosts.eq

both : {x y : Bool} → (x && y) ≡ true → (x ≡ true) × (y ≡ true)
both {x = true} {y = true} h = (refl, refl)
both {x = true} {y = false} h = cc
both {x = false} h = cc

pub shape_same : (a b : Shape) → shape_eq a b ≡ true → a ≡ b
shape_same (Int v) (Int w) h = ap Int (same_true width.the_type tt v w h)
shape_same Ptr Ptr h = refl
shape_same (Array m i) (Array n j) h = let p : (nat_eq m n ≡ true) × (nat_eq i j ≡ true) = both h in cc (eqb-true m n p.0, eqb-true i j p.1)
shape_same (Struct is) (Struct js) h = ap Struct ((bytes_eq-Decides is js).0 h)
shape_same _ _ h = cc
