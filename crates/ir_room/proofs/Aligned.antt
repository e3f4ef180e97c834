-- The alignment of each type divides 8.
use Rattle.std.proofs.Common.{◌≡◌, ◌⊎◌, inl, inr, ℕ, ◌<◌, ◌≤◌, max, List, [], ◌∷◌, map, refl, sym, subst, arith}
use Rattle.std.specs.List.{fold}
use Rattle.std.proofs.lemmas.Bool.{cases_lt}
use Rattle.am_base.specs.declared.word.Width.{Width}
use Rattle.am_base.specs.declared.word.Width.TheVariants.{W1, W8, W16, W32, W64}
use Rattle.type_layout.specs.Layout.{bytes_of}
use Rattle.type_layout.specs.declared.ty.Ty.{Ty, map-Ty, roll-Ty}
use Rattle.type_layout.specs.declared.ty.Ty.TheOpen.{Ty-F}
use Rattle.type_layout.specs.declared.ty.Ty.TheFolds.{fold-roll-Ty, ind-Ty}
use Rattle.type_layout.specs.Types.{Layout, layout_of, layout_step, align_of}

pub record Divides (a : ℕ) : Type 0 where
  pub is : (a ≡ 1) ⊎ ((a ≡ 2) ⊎ ((a ≡ 4) ⊎ (a ≡ 8)))

one-of : Divides 1
one-of = record { is = inl refl }

larger : (a b : ℕ) → Divides a → Divides b → Divides (max a b)
larger a b p q = by (cases_lt a b)
  where
    by : (a < b) ⊎ (b ≤ a) → Divides (max a b)
    by (inl h) = let same : b ≡ max a b = omega arith in subst Divides same q
    by (inr h) = let same : a ≡ max a b = omega arith in subst Divides same p

abbrev DividesAll : List Layout → Type 0
DividesAll [] = Unit {0}
DividesAll (l ∷ ls) = Divides l.align × DividesAll ls

greatest : (ls : List Layout) (a : ℕ) → DividesAll ls → Divides a → Divides (fold (λ most l. max most l.align) a ls)
greatest [] a s p = p
greatest (l ∷ ls) a s p = greatest ls (max a l.align) s.1 (larger a l.align p s.0)

bytes-divide : (w : Width) → Divides (bytes_of w)
bytes-divide W1 = one-of
bytes-divide W8 = one-of
bytes-divide W16 = record { is = inr (inl refl) }
bytes-divide W32 = record { is = inr (inr (inl refl)) }
bytes-divide W64 = record { is = inr (inr (inr refl)) }

abbrev Aligned : Ty → Type 0
Aligned t = Divides (layout_of t).align

abbrev Part : Type 0
Part = (t : Ty) × Aligned t

parts-divide : (cs : List Part) → DividesAll (map layout_of (map (λ c. c.0) cs))
parts-divide [] = tt
parts-divide (c ∷ cs) = (c.1, parts-divide cs)

levels : (y : Ty-F Part) → Aligned (roll-Ty (map-Ty Part Ty (λ c. c.0) y))
levels (Ty-F.Int w) = subst (λ (l : Layout). Divides l.align) (sym (fold-roll-Ty Layout layout_step (Ty-F.Int w))) (bytes-divide w)
levels Ty-F.Ptr = subst (λ (l : Layout). Divides l.align) (sym (fold-roll-Ty Layout layout_step Ty-F.Ptr)) (record { is = inr (inr (inr refl)) })
levels (Ty-F.Array n c) = subst (λ (l : Layout). Divides l.align) (sym (fold-roll-Ty Layout layout_step (Ty-F.Array n c.0))) c.1
levels (Ty-F.Struct cs) =
    subst (λ (l : Layout). Divides l.align) (sym (fold-roll-Ty Layout layout_step (Ty-F.Struct (map (λ c. c.0) cs))))
    (greatest (map layout_of (map (λ (c : Part). c.0) cs)) 1 (parts-divide cs) one-of)

-- the alignment of each type is 1, 2, 4 or 8
pub aligned : (t : Ty) → Divides (align_of t)
aligned = ind-Ty Aligned (λ x y e. subst (λ (x : Ty-F Ty). Aligned (roll-Ty x)) e (levels y))
