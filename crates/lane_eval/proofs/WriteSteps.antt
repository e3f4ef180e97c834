-- Edges: the writes of some `phi` before those of the rest, the change of an edge, and the block of a `switch`.
use Rattle.std.proofs.Common.{◌≡◌, ℕ, ◌+◌, ◌-◌, Bool, true, false, cond, List, [], ◌∷◌, ◌++◌, take, drop, Option, Some, None, arith, ◌∙◌, ap}
use Rattle.std.specs.Prelude.{◌==◌, All, unwrap_or}
use Rattle.std.proofs.lemmas.List.Elements.{All-head, All-tail}
use Rattle.code_form.specs.declared.instr.Instr.{Instr}
use Rattle.code_form.specs.declared.code.Block.{Block}
use Rattle.code_form.specs.declared.code.Code.{Code}
use Rattle.code_form.specs.Places.{block_in, function_of, block_of, instrs_of, results_of}
use Rattle.machine_form.specs.declared.change.Change.{Change}
use Rattle.machine_form.specs.declared.change.Control.TheVariants.{Jump as Go}
use Rattle.machine_form.specs.State.{State}
use Rattle.machine_form.specs.Straight.{with_value}
use Rattle.machine_form.specs.Edge.{phi_writes, block_now, jump_change, case_of}
use Rattle.lane_eval.specs.Operands.{CanGo}

abbrev pub after_front : {X : Type 0} → List X → Option (List X) → Option (List X)
after_front front None = None
after_front front (Some ws) = Some (front ++ ws)

either_goes : (code : Code) (s : State) (c : Bool) (b d : ℕ) → CanGo code s b → CanGo code s d → CanGo code s (cond c b d)
either_goes code s true b d h g = h
either_goes code s false b d h g = g

pub case_goes : (code : Code) (s : State) (cases : List (ℕ × ℕ)) (word other : ℕ) → CanGo code s other → All (λ c. CanGo code s c.1) cases → CanGo code s (case_of cases word other)
case_goes code s [] word other h all = h
case_goes code s (c ∷ cases) word other h all =
    let P : ℕ × ℕ → Type 0 = λ c. CanGo code s c.1 in
    either_goes code s (c.0 == word) c.1 (case_of cases word other) (All-head P c cases all) (case_goes code s cases word other h (All-tail P c cases all))

-- the change of an edge, by the writes of the block's `phi`
abbrev pub go_with : State → ℕ → Option (List (ℕ × ℕ)) → Change
go_with s b o = with_value s o (λ ws. record { writes = ws; bytes = []; top = s.top; put = None; took = false; control = Go b })

-- the writes that are read from a block by its index are those of the edge
pub jumped : (code : Code) (s : State) (b at from : ℕ) (block : Block) (is : List Instr) (rs : List (Option ℕ)) (o : Option (List (ℕ × ℕ))) → at ≡ s.running.place
    → from ≡ unwrap_or (block_in (function_of code at).blocks at) 0 → block ≡ block_of code at b → is ≡ code.instrs → rs ≡ code.results
    → o ≡ phi_writes s from (take (block.first + block.len - block.first) (drop block.first is)) (take (block.first + block.len - block.first) (drop block.first rs))
    → go_with s b o ≡ jump_change code s b
jumped code s b at from block is rs o place here block_is instrs results e =
    let len : block.first + block.len - block.first ≡ block.len = omega arith in
    let there : block ≡ block_of code s.running.place b = block_is ∙ ap (λ (n : ℕ). block_of code n b) place in
    ap (go_with s b)
    (e ∙ ap (λ (n : ℕ). phi_writes s from (take n (drop block.first is)) (take n (drop block.first rs))) len
    ∙ ap (λ (js : List Instr). phi_writes s from (take block.len (drop block.first js)) (take block.len (drop block.first rs))) instrs
    ∙ ap (λ (qs : List (Option ℕ)). phi_writes s from (instrs_of code block) (take block.len (drop block.first qs))) results
    ∙ ap (λ (n : ℕ). phi_writes s n (instrs_of code block) (results_of code block)) (here ∙ ap (λ (n : ℕ). unwrap_or (block_in (function_of code n).blocks n) 0) place)
    ∙ ap (λ (x : Block). phi_writes s (block_now code s) (instrs_of code x) (results_of code x)) there)
