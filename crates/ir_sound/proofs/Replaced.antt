-- The code with another instruction in a place stays sound where that instruction fits the place.
use Rattle.std.proofs.Common.{◌≡◌, ◌⊎◌, inl, inr, ℕ, zero, suc, ◌+◌, ◌-◌, ◌<◌, Bool, true, false, nat_eq, List, [], ◌∷◌, length}
use Rattle.std.proofs.Common.{slice_get, Option, Some, None, unwrap_or, refl, sym, ap, ◌∙◌, subst, arith}
use Rattle.std.specs.List.{slice_set, flat_map, Contains}
use Rattle.std.proofs.lemmas.List.{length-set}
use Rattle.std.proofs.lemmas.Bool.Decides.{Decides-eqb}
use Rattle.code_form.specs.declared.code.Block.{Block as CodeBlock}
use Rattle.code_form.specs.declared.code.Func.{Func}
use Rattle.code_form.specs.declared.code.Code.{Code}
use Rattle.code_form.specs.declared.instr.Callee.TheVariants.{Func as CallFunc, Port, PutChar, GetChar, Exit, Abort}
use Rattle.code_form.specs.declared.instr.Instr.{Instr}
use Rattle.code_form.specs.declared.instr.Instr.TheVariants.{Bin, Cmp, Select, Cast, Freeze, Alloca, Load, Store, Get, Phi, Call, Jump, Branch, Switch, Ret}
use Rattle.code_form.specs.declared.instr.Instr.TheVariants.{Unreachable}
use Rattle.code_form.specs.Places.{instr_at, result_at, is_phi, is_terminator, labels_of}
use Rattle.code_form.specs.Sound.{InstrFits, HasEntryFor, IsSoundBlock, IsPlaceOf, IsSoundFunc, IsSound, AreLaid}
use Rattle.code_form.specs.Fit.{with_instr}

-- what an instruction fits doesn't depend on the instructions of the code
fits-on : (code : Code) (is : List Instr) (f : Func) (r : Option ℕ) (i : Instr) → InstrFits code f r i → InstrFits (record code { instrs = is }) f r i
fits-on code is f r (Bin o w a b) h = h
fits-on code is f r (Cmp p w a b) h = h
fits-on code is f r (Select c a b) h = h
fits-on code is f r (Cast c v w a) h = h
fits-on code is f r (Freeze a) h = h
fits-on code is f r (Alloca s a n) h = h
fits-on code is f r (Load w a) h = h
fits-on code is f r (Store w a b) h = h
fits-on code is f r (Get a l js) h = h
fits-on code is f r (Phi es) h = h
fits-on code is f r (Call (CallFunc g) xs) h = h
fits-on code is f r (Call (Port p) xs) h = h
fits-on code is f r (Call PutChar xs) h = h
fits-on code is f r (Call GetChar xs) h = h
fits-on code is f r (Call Exit xs) h = h
fits-on code is f r (Call Abort xs) h = h
fits-on code is f r (Jump b) h = h
fits-on code is f r (Branch c b d) h = h
fits-on code is f r (Switch w a o cs) h = h
fits-on code is f r (Ret None) h = h
fits-on code is f r (Ret (Some a)) h = h
fits-on code is f r Unreachable h = h

no-entry : (k : ℕ) (i : Instr) → is_phi i ≡ false → HasEntryFor k i
no-entry k (Phi es) h = cc
no-entry k (Bin o w a b) h = tt
no-entry k (Cmp p w a b) h = tt
no-entry k (Select c a b) h = tt
no-entry k (Cast c v w a) h = tt
no-entry k (Freeze a) h = tt
no-entry k (Alloca s a n) h = tt
no-entry k (Load w a) h = tt
no-entry k (Store w a b) h = tt
no-entry k (Get a l js) h = tt
no-entry k (Call c xs) h = tt
no-entry k (Jump b) h = tt
no-entry k (Branch c b d) h = tt
no-entry k (Switch w a o cs) h = tt
no-entry k (Ret a) h = tt
no-entry k Unreachable h = tt

set-at : (is : List Instr) (at : ℕ) (i : Instr) → at < length is → unwrap_or (slice_get (slice_set is at i) at) Unreachable ≡ i
set-at [] at i h = absurd (omega arith)
set-at (j ∷ is) zero i h = refl
set-at (j ∷ is) (suc at) i h = set-at is at i (omega arith)

set-other : (is : List Instr) (at q : ℕ) (i : Instr) → (at ≡ q → ⊥) → unwrap_or (slice_get (slice_set is at i) q) Unreachable ≡ unwrap_or
    (slice_get is q) Unreachable
set-other [] at q i h = refl
set-other (j ∷ is) zero zero i h = absurd (h refl)
set-other (j ∷ is) zero (suc q) i h = refl
set-other (j ∷ is) (suc at) zero i h = refl
set-other (j ∷ is) (suc at) (suc q) i h = set-other is at q i (λ e. h (ap suc e))

module _ (code : Code) (at : ℕ) (i : Instr) (within : at < length code.instrs) (no-phi : is_phi i ≡ false) (old-no-phi : is_phi (instr_at code at) ≡ false)
    (ends-so : is_terminator i ≡ is_terminator (instr_at code at)) (goes : (b : ℕ) → Contains (labels_of i) b → Contains (labels_of (instr_at code at)) b)
    (fits-there : (g : ℕ) (f : Func) → slice_get code.funcs g ≡ Some f → IsPlaceOf f at → InstrFits code f (result_at code at) i) where
  abbrev new : Code
  new = with_instr code at i

  same-or-other : (q : ℕ) → (at ≡ q) ⊎ (instr_at new q ≡ instr_at code q)
  same-or-other q = by (nat_eq at q) refl
    where
      by : (b : Bool) → nat_eq at q ≡ b → (at ≡ q) ⊎ (instr_at new q ≡ instr_at code q)
      by true e = inl ((Decides-eqb at q).0 e)
      by false e = inr (set-other code.instrs at q i (λ s. (let t : nat_eq at q ≡ true = (Decides-eqb at q).1 s in let no : true ≡ false = sym t ∙ e in cc)))

  here : instr_at new at ≡ i
  here = set-at code.instrs at i within

  new-at : (q : ℕ) → at ≡ q → instr_at new q ≡ i
  new-at q e = ap (instr_at new) (sym e) ∙ here

  phi-same : (q : ℕ) → is_phi (instr_at new q) ≡ is_phi (instr_at code q)
  phi-same q = elim (same-or-other q) [
    | inl e ↦ ap is_phi (new-at q e) ∙ no-phi ∙ sym old-no-phi ∙ ap (λ q. is_phi (instr_at code q)) e
    | inr e ↦ ap is_phi e
  ]

  ends-same : (q : ℕ) → is_terminator (instr_at new q) ≡ is_terminator (instr_at code q)
  ends-same q = elim (same-or-other q) [
    | inl e ↦ ap is_terminator (new-at q e) ∙ ends-so ∙ ap (λ q. is_terminator (instr_at code q)) e
    | inr e ↦ ap is_terminator e
  ]

  goes-same : (q b : ℕ) → Contains (labels_of (instr_at new q)) b → Contains (labels_of (instr_at code q)) b
  goes-same q b h = elim (same-or-other q) [
    | inl e ↦ (
        let P : Instr → Type 0 = λ i. Contains (labels_of i) b in
        let Q : ℕ → Type 0 = λ q. Contains (labels_of (instr_at code q)) b in
        subst Q e (goes b (subst P (new-at q e) h)))
    | inr e ↦ (let P : Instr → Type 0 = λ i. Contains (labels_of i) b in subst P e h)
  ]

  entry-same : (k q : ℕ) → HasEntryFor k (instr_at code q) → HasEntryFor k (instr_at new q)
  entry-same k q h = elim (same-or-other q) [
    | inl e ↦ (let P : Instr → Type 0 = HasEntryFor k in subst P (sym (new-at q e)) (no-entry k i no-phi))
    | inr e ↦ (let P : Instr → Type 0 = HasEntryFor k in subst P (sym e) h)
  ]

  fits-new : (g q : ℕ) (f : Func) → slice_get code.funcs g ≡ Some f → IsPlaceOf f q → InstrFits code f (result_at code q) (instr_at code q)
      → InstrFits new f (result_at new q) (instr_at new q)
  fits-new g q f is place h = fits-on code (slice_set code.instrs at i) f (result_at code q) (instr_at new q) (elim (same-or-other q) [
    | inl e ↦ (
        let P : Instr → Type 0 = λ j. InstrFits code f (result_at code q) j in
        let Q : ℕ → Type 0 = λ q. InstrFits code f (result_at code q) i in
        let R : ℕ → Type 0 = IsPlaceOf f in
        subst P (sym (new-at q e)) (subst Q e (fits-there g f is (subst R (sym e) place))))
    | inr e ↦ (let P : Instr → Type 0 = λ j. InstrFits code f (result_at code q) j in subst P (sym e) h)
  ])

  block-new : (g b : ℕ) (f : Func) (block : CodeBlock) → slice_get code.funcs g ≡ Some f → slice_get f.blocks b ≡ Some block → IsSoundBlock code f b block
      → IsSoundBlock new f b block
  block-new g b f block is in' s = record {
    some = s.some;
    ends = λ j m. ((λ e. (s.ends j m).0 (sym (ends-same (block.first + j)) ∙ e)), (λ e. ends-same (block.first + j) ∙ (s.ends j m).1 e));
    phis_first = λ j m e. phi-same (block.first + j) ∙ s.phis_first j m (sym (phi-same (block.first + j + 1)) ∙ e);
    no_entry_phi = λ e. phi-same block.first ∙ s.no_entry_phi e;
    fits = λ j m. fits-new g (block.first + j) f is (record { block = block; number = b; is = in'; from = omega arith; below = omega arith }) (s.fits j m);
    entries = λ k from j e c m. entry-same k (block.first + j) (s.entries k from j e (goes-same (from.first + from.len - 1) b c) m);
  }

  func-new : (g : ℕ) (f : Func) → slice_get code.funcs g ≡ Some f → IsSoundFunc code f → IsSoundFunc new f
  func-new g f is s = record {
    some = s.some;
    few = s.few;
    typed = s.typed;
    params = s.params;
    blocks = λ b block e. block-new g b f block is e (s.blocks b block e);
    beyond_params = s.beyond_params;
    once = s.once;
  }

  -- where the instruction fits its function, and ends, goes on and begins blocks as the old one, the code stays sound
  pub sound-new : IsSound code → IsSound new
  sound-new s =
      let long = length-set code.instrs at i in
      let P : ℕ → Type 0 = λ n. AreLaid 0 (flat_map (λ (f : Func). f.blocks) code.funcs) n in
      let few = s.few_instrs in
      record {
        few_funcs = s.few_funcs;
        few_instrs = omega arith;
        results = s.results ∙ sym long;
        memory = s.memory;
        base = s.base;
        constants_from = s.constants_from;
        constants_to = s.constants_to;
        names = s.names;
        laid = subst P (sym long) s.laid;
        funcs = λ g f e. func-new g f e (s.funcs g f e);
      }
