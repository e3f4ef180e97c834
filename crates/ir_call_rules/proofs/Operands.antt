-- Two types or operands are written alike exactly where they are equal.
use Rattle.std.proofs.Common.{◌≡◌, ℕ, Bool, true, false, ◌&&◌, List, [], ◌∷◌, map, nat_eq, ℤ, pos, negsuc, refl, sym, ap, subst, ◌∙◌}
use Rattle.std.proofs.lemmas.Bool.Decides.{Decides-eqb}
use Rattle.am_base.specs.declared.word.Width.{Width}
use Rattle.am_base.specs.declared.word.Width.TheVariants.{W1, W8, W16, W32, W64}
use Rattle.ir_tree.specs.declared.type_text.TyText.{TyText}
use Rattle.ir_tree.specs.declared.type_text.TyText.{map-TyText, roll-TyText, out-TyText, out-roll-TyText, roll-out-TyText}
use Rattle.ir_tree.specs.declared.type_text.TyText.TheOpen.{TyText-F}
use Rattle.ir_tree.specs.declared.type_text.TyText.TheFolds.{fold-roll-TyText, ind-TyText}
use Rattle.ir_tree.specs.declared.operand.Opd.{Opd}
use Rattle.ir_tree.specs.declared.operand.Opd.TheVariants as opd
use Rattle.ir_names.specs.Names.{same_name}
use Rattle.ir_names.proofs.Defined.{same-eq, same-self}
use Rattle.ir_rules.specs.Types.{same_width, all_agree}
use Rattle.ir_rules.specs.Blocks.{same_text, same_text_step, same_integer, same_indices, same_operand}

both : (a b : Bool) → (a && b) ≡ true → (a ≡ true) × (b ≡ true)
both true b h = (refl, h)
both false b h = cc

width-eq : (v w : Width) → same_width v w ≡ true → v ≡ w
width-eq W1 W1 h = refl
width-eq W8 W8 h = refl
width-eq W16 W16 h = refl
width-eq W32 W32 h = refl
width-eq W64 W64 h = refl
width-eq _ _ h = cc

width-self : (w : Width) → same_width w w ≡ true
width-self W1 = refl
width-self W8 = refl
width-self W16 = refl
width-self W32 = refl
width-self W64 = refl

-- ---- types

abbrev Alike : TyText → Type 0
Alike t = ((u : TyText) → same_text t u ≡ true → t ≡ u) × (same_text t t ≡ true)

abbrev Child : Type 0
Child = (t : TyText) × Alike t

abbrev text_of : TyText-F Child → TyText-F TyText
text_of y = map-TyText Child TyText (λ c. c.0) y

-- one level of the test
step : (x : TyText-F TyText) (u : TyText) → same_text (roll-TyText x) u ≡ same_text_step (map-TyText TyText (TyText → Bool) same_text x) (out-TyText u)
unfolding same_text
step x u = ap (λ (f : TyText → Bool). f u) (fold-roll-TyText (TyText → Bool) (λ x u. same_text_step x (out-TyText u)) x)

fields-eq : (cs : List Child) (us : List TyText) → all_agree (map same_text (map (λ c. c.0) cs)) us ≡ true → map (λ c. c.0) cs ≡ us
fields-eq [] [] h = refl
fields-eq [] (u ∷ us) h = cc
fields-eq (c ∷ cs) [] h = cc
fields-eq (c ∷ cs) (u ∷ us) h =
    let parts = both (same_text c.0 u) (all_agree (map same_text (map (λ c. c.0) cs)) us) h in
    let first = c.1.0 u parts.0 in
    let rest = fields-eq cs us parts.1 in
    cc

fields-self : (cs : List Child) → all_agree (map same_text (map (λ c. c.0) cs)) (map (λ c. c.0) cs) ≡ true
fields-self [] = refl
fields-self (c ∷ cs) = ap (λ b. b && all_agree (map same_text (map (λ c. c.0) cs)) (map (λ c. c.0) cs)) c.1.1 ∙ fields-self cs

level-eq : (y : TyText-F Child) (z : TyText-F TyText) → same_text_step (map-TyText TyText (TyText → Bool) same_text (text_of y)) z ≡ true → text_of y ≡ z
level-eq (TyText-F.Int v) (TyText-F.Int w) h = ap TyText-F.Int (width-eq v w h)
level-eq TyText-F.Ptr TyText-F.Ptr h = refl
level-eq TyText-F.Void TyText-F.Void h = refl
level-eq (TyText-F.Array m c) (TyText-F.Array n t) h =
    let parts = both (nat_eq m n) (same_text c.0 t) h in
    let count : m ≡ n = (Decides-eqb m n).0 parts.0 in
    let of = c.1.0 t parts.1 in
    cc
level-eq (TyText-F.Struct cs) (TyText-F.Struct ts) h = ap TyText-F.Struct (fields-eq cs ts h)
level-eq (TyText-F.Named a) (TyText-F.Named b) h = ap TyText-F.Named (same-eq a b h)
level-eq _ _ h = cc

level-self : (y : TyText-F Child) → same_text_step (map-TyText TyText (TyText → Bool) same_text (text_of y)) (text_of y) ≡ true
level-self (TyText-F.Int w) = width-self w
level-self TyText-F.Ptr = refl
level-self TyText-F.Void = refl
level-self (TyText-F.Array n c) = ap (λ b. b && same_text c.0 c.0) ((Decides-eqb n n).1 refl) ∙ c.1.1
level-self (TyText-F.Struct cs) = fields-self cs
level-self (TyText-F.Named n) = same-self n

levels : (y : TyText-F Child) → Alike (roll-TyText (text_of y))
levels y = (
  λ u h. ap roll-TyText (level-eq y (out-TyText u) (sym (step (text_of y) u) ∙ h)) ∙ roll-out-TyText u,
  step (text_of y) (roll-TyText (text_of y))
      ∙ ap (same_text_step (map-TyText TyText (TyText → Bool) same_text (text_of y))) (out-roll-TyText (text_of y))
      ∙ level-self y,
)

alike : (t : TyText) → Alike t
alike = ind-TyText Alike (λ x y e. subst (λ (x : TyText-F TyText). Alike (roll-TyText x)) e (levels y))

-- ---- operands

integer-eq : (y z : ℤ) → same_integer y z ≡ true → y ≡ z
integer-eq (pos m) (pos n) h = ap pos ((Decides-eqb m n).0 h)
integer-eq (negsuc m) (negsuc n) h = ap negsuc ((Decides-eqb m n).0 h)
integer-eq (pos m) (negsuc n) h = cc
integer-eq (negsuc m) (pos n) h = cc

integer-self : (z : ℤ) → same_integer z z ≡ true
integer-self (pos n) = (Decides-eqb n n).1 refl
integer-self (negsuc n) = (Decides-eqb n n).1 refl

indices-eq : (is js : List (TyText × ℤ)) → same_indices is js ≡ true → is ≡ js
indices-eq [] [] h = refl
indices-eq [] (j ∷ js) h = cc
indices-eq (i ∷ is) [] h = cc
indices-eq (i ∷ is) (j ∷ js) h =
    let parts = both (same_text i.0 j.0 && same_integer i.1 j.1) (same_indices is js) h in
    let heads = both (same_text i.0 j.0) (same_integer i.1 j.1) parts.0 in
    λ k. ((alike i.0).0 j.0 heads.0 k, integer-eq i.1 j.1 heads.1 k) ∷ indices-eq is js parts.1 k

indices-self : (is : List (TyText × ℤ)) → same_indices is is ≡ true
indices-self [] = refl
indices-self (i ∷ is) =
    ap (λ b. b && same_integer i.1 i.1 && same_indices is is) (alike i.0).1
    ∙ ap (λ b. b && same_indices is is) (integer-self i.1)
    ∙ indices-self is

pub operand-eq : (a b : Opd) → same_operand a b ≡ true → a ≡ b
operand-eq (opd.Local a) (opd.Local b) h = ap opd.Local (same-eq a b h)
operand-eq (opd.Global a) (opd.Global b) h = ap opd.Global (same-eq a b h)
operand-eq (opd.Number y) (opd.Number z) h = ap opd.Number (integer-eq y z h)
operand-eq opd.True opd.True h = refl
operand-eq opd.False opd.False h = refl
operand-eq opd.Null opd.Null h = refl
operand-eq opd.Undef opd.Undef h = refl
operand-eq opd.Poison opd.Poison h = refl
operand-eq opd.Zero opd.Zero h = refl
operand-eq (opd.Get g) (opd.Get h) e =
    let parts = both (same_text g.0 h.0 && same_text g.1 h.1 && same_name g.2 h.2) (same_indices g.3 h.3) e in
    let three = both (same_text g.0 h.0 && same_text g.1 h.1) (same_name g.2 h.2) parts.0 in
    let two = both (same_text g.0 h.0) (same_text g.1 h.1) three.0 in
    λ k. opd.Get ((alike g.0).0 h.0 two.0 k, (alike g.1).0 h.1 two.1 k, same-eq g.2 h.2 three.1 k, indices-eq g.3 h.3 parts.1 k)
operand-eq _ _ h = cc

pub operand-self : (a : Opd) → same_operand a a ≡ true
operand-self (opd.Local n) = same-self n
operand-self (opd.Global n) = same-self n
operand-self (opd.Number z) = integer-self z
operand-self opd.True = refl
operand-self opd.False = refl
operand-self opd.Null = refl
operand-self opd.Undef = refl
operand-self opd.Poison = refl
operand-self opd.Zero = refl
operand-self (opd.Get g) =
    ap (λ b. b && same_text g.1 g.1 && same_name g.2 g.2 && same_indices g.3 g.3) (alike g.0).1
    ∙ ap (λ b. b && same_name g.2 g.2 && same_indices g.3 g.3) (alike g.1).1
    ∙ ap (λ b. b && same_indices g.3 g.3) (same-self g.2)
    ∙ indices-self g.3

-- what tells that two operands are equal tells that they are written alike
pub operand-same : (a b : Opd) (r : Bool) → (r ≡ true → a ≡ b) → (a ≡ b → r ≡ true) → r ≡ same_operand a b
operand-same a b r h k = by r h k (same_operand a b) refl
  where
    by : (r : Bool) → (r ≡ true → a ≡ b) → (a ≡ b → r ≡ true) → (q : Bool) → same_operand a b ≡ q → r ≡ q
    by true h k true e = refl
    by false h k false e = refl
    by true h k false e = sym (subst (λ (c : Opd). same_operand a c ≡ true) (h refl) (operand-self a)) ∙ e
    by false h k true e = k (operand-eq a b e)
