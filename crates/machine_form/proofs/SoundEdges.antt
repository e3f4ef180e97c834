-- What the terminators keep that go to a block: the state after the edge is sound.
use Rattle.std.proofs.Common.{◌≡◌, ℕ, suc, ◌+◌, ◌-◌, ◌<◌, ◌≤◌, Bool, true, false, cond, List, [], ◌∷◌, length, set, Option, Some, None, slice_get, arith, sym}
use Rattle.std.proofs.Common.{◌∙◌, ap, refl, subst}
use Rattle.std.specs.Prelude.{◌==◌, unwrap_or, All}
use Rattle.std.proofs.lemmas.List.Elements.{All-nil, All-head, All-tail}
use Rattle.std.proofs.lemmas.Option.{slice_get_within}
use Rattle.am_base.specs.declared.word.Width.{Width}
use Rattle.am_base.specs.Word.{IsWord}
use Rattle.code_form.specs.declared.instr.Operand.{Operand}
use Rattle.code_form.specs.declared.instr.Instr.{Instr}
use Rattle.code_form.specs.declared.instr.Instr.TheVariants.{Phi, Unreachable}
use Rattle.code_form.specs.declared.code.TyScalar.{TyScalar}
use Rattle.code_form.specs.declared.code.Block.{Block}
use Rattle.code_form.specs.declared.code.Func.{Func}
use Rattle.code_form.specs.declared.code.Code.{Code}
use Rattle.code_form.specs.Places.{instr_at, result_at, block_of, instrs_of, results_of, is_phi}
use Rattle.code_form.specs.Sound.{IsSound, IsPlaceOf, IsTarget, InstrFits, HasType, width_of}
use Rattle.machine_form.specs.State.{State, with_writes}
use Rattle.machine_form.specs.Edge.{entry_of, value_of_entry, numbered_by, phi_writes, block_now, jump_change, case_of}
use Rattle.machine_form.specs.Straight.{joined}
use Rattle.machine_form.specs.After.{after_change, phis_in, entry_place}
use Rattle.machine_form.specs.SoundState.{AreTyped, IsFrameOf, IsSoundState}
use Rattle.machine_form.proofs.Fits.{place_within}
use Rattle.machine_form.proofs.FoundPlaces.{some_at, block_found, part_at, length-instrs_of, entry_stands, entry_is_no_phi}
use Rattle.machine_form.proofs.SoundStates.{write_keeps_types, one_type, operand_word, moved_sound}
use Rattle.machine_form.proofs.SoundSteps.{value_sound}

-- ---- the `phi` of an edge

module _ (code : Code) (s : State) (g : ℕ) (f : Func) (frame : IsFrameOf code g f s.running) (from : ℕ) where
  abbrev EntryFits : TyScalar → ℕ × Operand → Type 0
  EntryFits t e = (e.0 < length f.blocks) × HasType f.types t e.1

  entry_word : (t : TyScalar) (entries : List (ℕ × Operand)) (x : ℕ) → All (EntryFits t) entries → value_of_entry s (entry_of entries from) ≡ Some x
      → IsWord (width_of t) x
  entry_word t [] x h e = cc
  entry_word t (y ∷ entries) x h e = by (y.0 == from) (entry_word t entries x (All-tail (EntryFits t) y entries h)) e
    where
      by : (b : Bool) → (value_of_entry s (entry_of entries from) ≡ Some x → IsWord (width_of t) x)
          → value_of_entry s (cond b (Some y.1) (entry_of entries from)) ≡ Some x → IsWord (width_of t) x
      by true rest e = operand_word code s g f frame t y.1 (All-head (EntryFits t) y entries h).1 x e
      by false rest e = rest e

  -- the `phi` of a list of instructions write words of the types of their registers
  phis_typed : (is : List Instr) (rs : List (Option ℕ)) (ws : List (ℕ × ℕ)) (registers : List (Option ℕ))
      → ((i : ℕ) (x : Instr) (r : Option ℕ) → slice_get is i ≡ Some x → slice_get rs i ≡ Some r → InstrFits code f r x) → AreTyped f.types registers
      → phi_writes s from is rs ≡ Some ws → AreTyped f.types (with_writes registers ws)
  phis_typed (Phi entries ∷ is) (Some r ∷ rs) ws registers fits typed e =
      by (value_of_entry s (entry_of entries from)) refl (phi_writes s from is rs)
      (λ more x word p. phis_typed is rs more (set registers r (Some x)) (λ i. fits (suc i)) (write_keeps_types f.types registers r x typed word) p) e
    where
      by : (o : Option ℕ) → value_of_entry s (entry_of entries from) ≡ o → (p : Option (List (ℕ × ℕ)))
          → ((more : List (ℕ × ℕ)) (x : ℕ) → ((t : TyScalar) → slice_get f.types r ≡ Some t → IsWord (width_of t) x) → p ≡ Some more
          → AreTyped f.types (with_writes (set registers r (Some x)) more))
          → joined (numbered_by r o) p ≡ Some ws → AreTyped f.types (with_writes registers ws)
      by None a p rest d = cc
      by (Some x) a None rest d = cc
      by (Some x) a (Some more) rest d =
          let fit = fits 0 (Phi entries) (Some r) refl refl in
          let word : IsWord (width_of fit.0) x = entry_word fit.0 entries x fit.1 a in
          let same : (r, x) ∷ more ≡ ws = cc in
          let P : List (ℕ × ℕ) → Type 0 = λ us. AreTyped f.types (with_writes registers us) in
          subst P same (rest more x (λ u b. one_type (slice_get f.types r) fit.0 u x fit.3 word b) refl)
  phis_typed _ _ ws registers fits typed e =
      let same : [] ≡ ws = cc in
      let P : List (ℕ × ℕ) → Type 0 = λ us. AreTyped f.types (with_writes registers us) in
      subst P same typed

-- ---- the edge

module _ (code : Code) (s : State) (code_sound : IsSound code) (sound : IsSoundState code s) where
  -- an edge to a block
  edge_sound : (b : ℕ) (block : Block) → slice_get sound.function.blocks b ≡ Some block → block_of code s.running.place b ≡ block
      → IsSoundState code (after_change code s (jump_change code s b))
  edge_sound b block is found =
      value_sound code s sound (phi_writes s (block_now code s) (instrs_of code (block_of code s.running.place b))
      (results_of code (block_of code s.running.place b))) _ (λ ws e.
      moved_sound code s sound ws [] (entry_place code s.running.place b) s.top (s.position + 0) s.output s.ending (typed ws e) stands no_phi
      (All-nil (λ w. w.1 < 256)) sound.restores sound.top sound.output
      (omega (arith, sound.position)))
    where
      inside : block.first + block.len ≤ length code.instrs
      inside =
          let some = ((code_sound.funcs sound.number sound.function sound.running.is).blocks b block is).some in
          let last : IsPlaceOf sound.function (block.first + block.len - 1) =
          record { block = block; number = b; is = is; from = omega (arith, some); below = omega (arith, some) } in
          let within = place_within code sound.number sound.function (block.first + block.len - 1) code_sound sound.running.is last in
          omega (arith, within, some)

      stands : IsPlaceOf sound.function (entry_place code s.running.place b)
      stands =
          let P : Block → Type 0 = λ c. IsPlaceOf sound.function (c.first + phis_in (instrs_of code c)) in
          subst P (sym found) (entry_stands code sound.function b block inside
          ((code_sound.funcs sound.number sound.function sound.running.is).blocks b block is) is)

      no_phi : is_phi (instr_at code (entry_place code s.running.place b)) ≡ false
      no_phi =
          let P : Block → Type 0 = λ c. is_phi (instr_at code (c.first + phis_in (instrs_of code c))) ≡ false in
          subst P (sym found) (entry_is_no_phi code sound.function b block inside
          ((code_sound.funcs sound.number sound.function sound.running.is).blocks b block is))

      fits : (i : ℕ) (x : Instr) (r : Option ℕ) → slice_get (instrs_of code block) i ≡ Some x → slice_get (results_of code block) i ≡ Some r
          → InstrFits code sound.function r x
      fits i x r e d =
          let long = length-instrs_of code sound.function b block inside ((code_sound.funcs sound.number sound.function sound.running.is).blocks b block is) in
          let within : i < block.len = omega (arith, slice_get_within (instrs_of code block) i x e) in
          let instr : instr_at code (block.first + i) ≡ x = ap (λ o. unwrap_or o Unreachable) (sym (part_at block.first block.len code.instrs i within) ∙ e) in
          let result : result_at code (block.first + i) ≡ r = ap (λ (o : Option (Option ℕ)). unwrap_or o None)
          (sym (part_at block.first block.len code.results i within) ∙ d) in
          let P : Instr → Type 0 = λ y. InstrFits code sound.function (result_at code (block.first + i)) y in
          let Q : Option ℕ → Type 0 = λ q. InstrFits code sound.function q x in
          subst Q result (subst P instr (((code_sound.funcs sound.number sound.function sound.running.is).blocks b block is).fits i within))

      typed : (ws : List (ℕ × ℕ)) → phi_writes s (block_now code s) (instrs_of code (block_of code s.running.place b))
          (results_of code (block_of code s.running.place b)) ≡ Some ws
          → AreTyped sound.function.types (with_writes s.running.registers ws)
      typed ws e =
          let P : Block → Type 0 = λ c. phi_writes s (block_now code s) (instrs_of code c) (results_of code c) ≡ Some ws in
          phis_typed code s sound.number sound.function sound.running (block_now code s) (instrs_of code block)
          (results_of code block) ws s.running.registers fits sound.running.words (subst P found e)

  pub jump_sound : (b : ℕ) → IsTarget sound.function b → IsSoundState code (after_change code s (jump_change code s b))
  jump_sound b target =
      let block = some_at sound.function.blocks b target.1 in
      edge_sound b block.0 block.1 (block_found code sound.number sound.function s.running.place b block.0 code_sound sound.running.is sound.running.stands
      block.1)

pub branch_target : (f : Func) (c : Bool) (b d : ℕ) → IsTarget f b → IsTarget f d → IsTarget f (cond c b d)
branch_target f true b d h g = h
branch_target f false b d h g = g

pub case_target : (f : Func) (w : Width) (cases : List (ℕ × ℕ)) (word other : ℕ) → IsTarget f other → All (λ c. IsWord w c.0 × IsTarget f c.1) cases
    → IsTarget f (case_of cases word other)
case_target f w [] word other h all = h
case_target f w (c ∷ cases) word other h all =
    let P : ℕ × ℕ → Type 0 = λ d. IsWord w d.0 × IsTarget f d.1 in
    branch_target f (c.0 == word) c.1 (case_of cases word other) (All-head P c cases all).1 (case_target f w cases word other h (All-tail P c cases all))
