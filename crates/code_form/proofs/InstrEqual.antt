-- The derived equality of instructions is equality.
use Rattle.std.proofs.Common.{◌≡◌, ◌&&◌, ◌==◌, ℕ, Bool, true, false, List, [], ◌∷◌, Some, None, refl, ap, subst}
use denote.Enum.Bare.{same_true}
use Rattle.std.specs.Cmp.Lexicographic.{pointwise}
use Rattle.std.proofs.lemmas.Bool.{eqb-true}
use Rattle.am_base.specs.contracts.word.BinOp as bin
use Rattle.am_base.specs.contracts.word.Pred as pred
use Rattle.am_base.specs.contracts.word.Cast as cast
use Rattle.am_base.specs.contracts.word.Width as width
use Rattle.am_base.specs.contracts.word.WidthPartialEq.TheImpl as width_eq
use Rattle.am_base.specs.declared.word.Width.{Width}
use Rattle.code_form.specs.declared.instr.Instr.{Instr}
use Rattle.code_form.specs.declared.instr.Instr.TheVariants as i
use Rattle.code_form.specs.declared.instr.Operand.{Operand}
use Rattle.code_form.specs.declared.instr.Operand.TheVariants.{Reg, Word}
use Rattle.code_form.specs.declared.instr.Callee.{Callee}
use Rattle.code_form.specs.declared.instr.Callee.TheVariants.{Func, Port, PutChar, GetChar, Exit, Abort}
use Rattle.code_form.specs.contracts.instr.InstrPartialEq.TheImpl as instr
use Rattle.code_form.specs.contracts.instr.InstrEq.TheImpl.Laws as instr_laws
use Rattle.code_form.specs.contracts.instr.OperandPartialEq.TheImpl as operand
use Rattle.code_form.specs.contracts.instr.CalleePartialEq.TheImpl as callee

-- the derived test of instructions
abbrev pub instr_eq : Instr → Instr → Bool
instr_eq = instr.ghosts.eq

both : {x y : Bool} → (x && y) ≡ true → (x ≡ true) × (y ≡ true)
both {x = true} {y = true} h = (refl, refl)
both {x = true} {y = false} h = cc
both {x = false} h = cc

list_same : {A : Type 0} {E : A → A → Bool} → ((a b : A) → E a b ≡ true → a ≡ b) → (us vs : List A) → pointwise E us vs ≡ true → us ≡ vs
list_same each [] [] h = refl
list_same each [] (b ∷ vs) h = cc
list_same each (a ∷ us) [] h = cc
list_same each (a ∷ us) (b ∷ vs) h = let p = both h in cc (each a b p.0, list_same each us vs p.1)

width_same : (v w : Width) → width_eq.ghosts.eq v w ≡ true → v ≡ w
width_same v w h = same_true width.the_type tt v w h

operand_same : (a b : Operand) → operand.ghosts.eq a b ≡ true → a ≡ b
operand_same (Reg r) (Reg s) h = ap Reg (eqb-true r s h)
operand_same (Word r) (Word s) h = ap Word (eqb-true r s h)
operand_same (Reg r) (Word s) h = cc
operand_same (Word r) (Reg s) h = cc

callee_same : (f g : Callee) → callee.ghosts.eq f g ≡ true → f ≡ g
callee_same (Func a) (Func b) h = ap Func (eqb-true a b h)
callee_same (Port a) (Port b) h = ap Port (eqb-true a b h)
callee_same PutChar PutChar h = refl
callee_same GetChar GetChar h = refl
callee_same Exit Exit h = refl
callee_same Abort Abort h = refl
callee_same _ _ h = cc

index_same : (a b : ℕ × Width × Operand) → ((a.0 == b.0) && width_eq.ghosts.eq a.1 b.1 && operand.ghosts.eq a.2 b.2) ≡ true → a ≡ b
index_same (n, w, x) (m, v, s) h = let h1 = both h in let h2 = both h1.0 in cc (eqb-true n m h2.0, width_same w v h2.1, operand_same x s h1.1)

entry_same : (a b : ℕ × Operand) → ((a.0 == b.0) && operand.ghosts.eq a.1 b.1) ≡ true → a ≡ b
entry_same (n, x) (m, s) h = let h1 = both h in cc (eqb-true n m h1.0, operand_same x s h1.1)

case_same : (a b : ℕ × ℕ) → ((a.0 == b.0) && (a.1 == b.1)) ≡ true → a ≡ b
case_same (n, t) (m, u) h = let h1 = both h in cc (eqb-true n m h1.0, eqb-true t u h1.1)

pub instr_same : (a b : Instr) → instr_eq a b ≡ true → a ≡ b
instr_same (i.Bin o w x y) (i.Bin p v s t) h =
    let h1 = both h in let h2 = both h1.1 in let h3 = both h2.1 in
    cc (same_true bin.the_type tt o p h1.0, width_same w v h2.0, operand_same x s h3.0, operand_same y t h3.1)
instr_same (i.Cmp o w x y) (i.Cmp p v s t) h =
    let h1 = both h in let h2 = both h1.1 in let h3 = both h2.1 in
    cc (same_true pred.the_type tt o p h1.0, width_same w v h2.0, operand_same x s h3.0, operand_same y t h3.1)
instr_same (i.Select c x y) (i.Select d s t) h =
    let h1 = both h in let h2 = both h1.1 in cc (operand_same c d h1.0, operand_same x s h2.0, operand_same y t h2.1)
instr_same (i.Cast o w x y) (i.Cast p v s t) h =
    let h1 = both h in let h2 = both h1.1 in let h3 = both h2.1 in
    cc (same_true cast.the_type tt o p h1.0, width_same w v h2.0, width_same x s h3.0, operand_same y t h3.1)
instr_same (i.Freeze x) (i.Freeze s) h = ap i.Freeze (operand_same x s h)
instr_same (i.Alloca n a x) (i.Alloca m b s) h =
    let h1 = both h in let h2 = both h1.1 in cc (eqb-true n m h1.0, eqb-true a b h2.0, operand_same x s h2.1)
instr_same (i.Load w x) (i.Load v s) h = let h1 = both h in cc (width_same w v h1.0, operand_same x s h1.1)
instr_same (i.Store w x y) (i.Store v s t) h =
    let h1 = both h in let h2 = both h1.1 in cc (width_same w v h1.0, operand_same x s h2.0, operand_same y t h2.1)
instr_same (i.Get x n us) (i.Get s m vs) h =
    let h1 = both h in let h2 = both h1.1 in
    cc (operand_same x s h1.0, eqb-true n m h2.0, list_same index_same us vs h2.1)
instr_same (i.Phi us) (i.Phi vs) h = ap i.Phi (list_same entry_same us vs h)
instr_same (i.Call f us) (i.Call g vs) h = let h1 = both h in cc (callee_same f g h1.0, list_same operand_same us vs h1.1)
instr_same (i.Jump n) (i.Jump m) h = ap i.Jump (eqb-true n m h)
instr_same (i.Branch x a b) (i.Branch s c d) h =
    let h1 = both h in let h2 = both h1.1 in cc (operand_same x s h1.0, eqb-true a c h2.0, eqb-true b d h2.1)
instr_same (i.Switch w x n us) (i.Switch v s m vs) h =
    let h1 = both h in let h2 = both h1.1 in let h3 = both h2.1 in
    cc (width_same w v h1.0, operand_same x s h2.0, eqb-true n m h3.0, list_same case_same us vs h3.1)
instr_same (i.Ret (Some x)) (i.Ret (Some s)) h = ap (λ o. i.Ret (Some o)) (operand_same x s h)
instr_same (i.Ret None) (i.Ret None) h = refl
instr_same i.Unreachable i.Unreachable h = refl
instr_same _ _ h = cc

pub equal_instrs : (a b : Instr) → a ≡ b → instr_eq a b ≡ true
equal_instrs a b e = subst (λ i. instr_eq a i ≡ true) e (instr_laws.laws-law.refl a)
