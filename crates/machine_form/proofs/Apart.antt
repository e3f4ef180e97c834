-- What is apart: blocks of one function, functions, and the words of arguments in their registers.
use Rattle.std.proofs.Common.{◌≡◌, ◌≢◌, ℕ, zero, suc, ◌+◌, ◌<◌, ◌≤◌, List, [], ◌∷◌, length, set, get_or, Option, Some, None, slice_get, arith, sym, ◌∙◌, ap}
use Rattle.std.proofs.Common.{refl, subst, get_or-set_same, get_or-set_other}
use Rattle.std.specs.Prelude.{flat_map}
use Rattle.std.proofs.Math.ListN.{length-set}
use Rattle.code_form.specs.declared.instr.Operand.{Operand}
use Rattle.code_form.specs.declared.code.TyScalar.{TyScalar}
use Rattle.code_form.specs.declared.code.Block.{Block}
use Rattle.code_form.specs.declared.code.Func.{Func}
use Rattle.code_form.specs.declared.code.Code.{Code}
use Rattle.code_form.specs.Places.{function_of}
use Rattle.code_form.specs.Sound.{IsSound, IsSoundFunc, IsPlaceOf, HaveTypes, AreLaid}
use Rattle.machine_form.specs.State.{State, with_writes}
use Rattle.machine_form.specs.Straight.{value_of, values_of, joined}
use Rattle.machine_form.specs.Calls.{numbered}
use Rattle.machine_form.proofs.Fits.{laid_front}
use Rattle.machine_form.proofs.FoundPlaces.{block_from, function_found}
use Rattle.machine_form.proofs.StartStates.{length-front}

-- ---- blocks

one_block : (from : ℕ) (blocks : List Block) (to i j at : ℕ) (x y : Block) → AreLaid from blocks to → slice_get blocks i ≡ Some x → slice_get blocks j ≡ Some y
    → x.first ≤ at → at < x.first + x.len → y.first ≤ at → at < y.first + y.len → i ≡ j
one_block from [] to i j at x y h e d xf xb yf yb = cc
one_block from (b ∷ blocks) to zero zero at x y h e d xf xb yf yb = refl
one_block from (b ∷ blocks) to zero (suc j) at x y h e d xf xb yf yb =
    let same : b ≡ x = cc in
    let first : b.first ≡ x.first = ap (λ (c : Block). c.first) same in
    let len : b.len ≡ x.len = ap (λ (c : Block). c.len) same in
    absurd (omega (arith, h.0, block_from (from + b.len) blocks to j y h.1 d))
one_block from (b ∷ blocks) to (suc i) zero at x y h e d xf xb yf yb =
    let same : b ≡ y = cc in
    let first : b.first ≡ y.first = ap (λ (c : Block). c.first) same in
    let len : b.len ≡ y.len = ap (λ (c : Block). c.len) same in
    absurd (omega (arith, h.0, block_from (from + b.len) blocks to i x h.1 e))
one_block from (b ∷ blocks) to (suc i) (suc j) at x y h e d xf xb yf yb = ap suc (one_block (from + b.len) blocks to i j at x y h.1 e d xf xb yf yb)

record IsLaid (blocks : List Block) : Type 0 where
  from : ℕ
  to : ℕ
  laid : AreLaid from blocks to

function_laid : (from : ℕ) (funcs : List Func) (to g : ℕ) (f : Func) → AreLaid from (flat_map (λ (f : Func). f.blocks) funcs) to → slice_get funcs g ≡ Some f
    → IsLaid f.blocks
function_laid from [] to g f h e = cc
function_laid from (k ∷ funcs) to zero f h e =
    let same : k ≡ f = cc in
    let front = laid_front from k.blocks (flat_map (λ (f : Func). f.blocks) funcs) to h in
    let here : IsLaid k.blocks = record { from = from; to = front.0; laid = front.1 } in
    subst (λ (j : Func). IsLaid j.blocks) same here
function_laid from (k ∷ funcs) to (suc g) f h e =
    let front = laid_front from k.blocks (flat_map (λ (f : Func). f.blocks) funcs) to h in
    function_laid front.0 funcs to g f front.2 e

-- a place of a function lies in one of its blocks alone
pub blocks_apart : (code : Code) (g : ℕ) (f : Func) (i j at : ℕ) (x y : Block) → IsSound code → slice_get code.funcs g ≡ Some f → slice_get f.blocks i ≡ Some x
    → slice_get f.blocks j ≡ Some y
    → x.first ≤ at → at < x.first + x.len → y.first ≤ at → at < y.first + y.len → i ≡ j
blocks_apart code g f i j at x y sound is e d xf xb yf yb =
    let laid = function_laid 0 code.funcs (length code.instrs) g f sound.laid is in
    one_block laid.from f.blocks laid.to i j at x y laid.laid e d xf xb yf yb

-- ---- functions

-- functions that have a place in common are one
pub functions_apart : (code : Code) (g h at bt : ℕ) (e f : Func) → IsSound code → slice_get code.funcs g ≡ Some e → slice_get code.funcs h ≡ Some f
    → IsPlaceOf e at → IsPlaceOf f bt → at ≡ bt → g ≡ h
functions_apart code g h at bt e f sound ge hf p q same =
    let first : function_of code at ≡ e = function_found code g e at sound ge p in
    let second : function_of code bt ≡ f = function_found code h f bt sound hf q in
    let one : e ≡ f = sym first ∙ ap (function_of code) same ∙ second in
    sound.names g h e f ge hf (ap (λ (k : Func). k.name) one)

-- ---- arguments

pub params_fit : (code : Code) (f : Func) → IsSoundFunc code f → length f.params ≤ f.registers
params_fit code f sound = omega (arith, length-front (length f.params) f.types, ap length sound.params, sound.typed)

pub length-types : (types params : List TyScalar) (args : List Operand) → HaveTypes types params args → length args ≡ length params
length-types types [] [] h = refl
length-types types [] (a ∷ args) h = absurd h
length-types types (t ∷ params) [] h = absurd h
length-types types (t ∷ params) (a ∷ args) h = ap suc (length-types types params args h.1)

pub length-values : (s : State) (args : List Operand) (xs : List ℕ) → values_of s args ≡ Some xs → length xs ≡ length args
length-values s [] xs e = let same : [] ≡ xs = cc in sym (ap length same)
length-values s (a ∷ args) xs e = by (value_of s a) (values_of s args) (length-values s args) e
  where
    by : (o : Option ℕ) (p : Option (List ℕ)) → ((ys : List ℕ) → p ≡ Some ys → length ys ≡ length args) → joined o p ≡ Some xs → length xs ≡ suc (length args)
    by None p rest d = cc
    by (Some x) None rest d = cc
    by (Some x) (Some ys) rest d = let same : x ∷ ys ≡ xs = cc in sym (ap length same) ∙ ap suc (rest ys refl)

-- writes of later registers leave a register
kept : (registers : List (Option ℕ)) (r q : ℕ) (xs : List ℕ) → q < r → get_or (with_writes registers (numbered r xs)) q None ≡ get_or registers q None
kept registers r q [] l = refl
kept registers r q (x ∷ xs) l =
    let ne : q ≢ r = omega arith in
    kept (set registers r (Some x)) (r + 1) q xs (omega arith) ∙ get_or-set_other registers r q (Some x) None ne

first_word : (registers : List (Option ℕ)) (r x : ℕ) (xs : List ℕ) → r < length registers → get_or (with_writes registers (numbered r (x ∷ xs))) r None ≡ Some x
first_word registers r x xs l = kept (set registers r (Some x)) (r + 1) r xs (omega arith) ∙ get_or-set_same registers r (Some x) None l

-- the words that were written into registers from r on are known from the registers
pub words_known : (registers : List (Option ℕ)) (r : ℕ) (xs ys : List ℕ) → length xs ≡ length ys → r + length xs ≤ length registers
    → with_writes registers (numbered r xs) ≡ with_writes registers (numbered r ys) → xs ≡ ys
words_known registers r [] [] l h e = refl
words_known registers r [] (y ∷ ys) l h e = absurd (omega arith)
words_known registers r (x ∷ xs) [] l h e = absurd (omega arith)
words_known registers r (x ∷ xs) (y ∷ ys) l h e =
    let some : Some x ≡ Some y = sym (first_word registers r x xs (omega arith)) ∙ ap (λ rs. get_or rs r None) e ∙ first_word registers r y ys (omega arith) in
    let same : x ≡ y = cc in
    let P : ℕ → Type 0 = λ z. with_writes (set registers r (Some x)) (numbered (r + 1) xs) ≡ with_writes (set registers r (Some z)) (numbered (r + 1) ys) in
    let long : length (set registers r (Some x)) ≡ length registers = length-set registers r (Some x) in
    let rest : xs ≡ ys = words_known (set registers r (Some x)) (r + 1) xs ys (omega arith) (omega arith) (subst P (sym same) e) in
    λ i. same i ∷ rest i
