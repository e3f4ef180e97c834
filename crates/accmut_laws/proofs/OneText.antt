-- A plan that has one text, wherever its files are accepted, ends with one text over the same files.
use Rattle.std.proofs.Common.{◌≡◌, ℕ, List, Bool, true, false, Option, Some, None, subst, sym, inl, inr}
use Rattle.command_plan.specs.declared.status.Input.{Input}
use Rattle.command_plan.specs.Plan.{Counts, Plan, Read, Want, Bound, Over, Write}
use Rattle.command_plan.specs.Ends.{Ends, Text}
use Rattle.command_plan.specs.Sharp.{IsSharp}
use Rattle.command_plan.proofs.OneEnd.{read_held}

-- whatever the files are accepted as, one text is due, and the counts rise by one number each
abbrev pub IsSingle : Plan → Type 0
IsSingle (Read name input refuses A accepts next) = (x : A) → IsSingle (next x)
IsSingle (Want input line A None next) = Unit {0}
IsSingle (Want input line A (Some x) next) = IsSingle (next x)
IsSingle (Bound false next) = Unit {0}
IsSingle (Bound true next) = IsSingle next
IsSingle (Over own next) = IsSingle next
IsSingle (Write due rise) = ((t u : List ℕ) → due t → due u → t ≡ u) × ((c d : Counts) → rise c → rise d → c ≡ d)

pub single_want : (input : Input) (line : List ℕ) (A : Type 0) (o : Option A) (next : A → Plan) → ((x : A) → IsSingle (next x))
    → IsSingle (Want input line A o next)
single_want input line A None next h = tt
single_want input line A (Some x) next h = h x

pub bound_single : (within : Bool) (next : Plan) → IsSingle next → IsSingle (Bound within next)
bound_single false next h = tt
bound_single true next h = h

pub one_whole : (held : List ℕ → Option (List ℕ)) (Faulty Also : List ℕ → Type 0) (plan : Plan) → IsSharp plan → IsSingle plan → (t u : List ℕ) (c d : Counts)
    → Ends (Some held) Faulty plan (Text t c) → Ends (Some held) Also plan (Text u d) → (t ≡ u) × (c ≡ d)
one_whole held Faulty Also (Read name input refuses A accepts next) sharp single t u c d (inl h) k = absurd h
one_whole held Faulty Also (Read name input refuses A accepts next) sharp single t u c d (inr h) (inl k) = absurd k
one_whole held Faulty Also (Read name input refuses A accepts next) sharp single t u c d (inr h) (inr k) =
    let found = read_held held name (λ file. accepts file h.0) h.1 in
    let also = k.1.read found.0 found.1 in
    let equal = sharp.2 found.0 h.0 k.0 found.3 also in
    let rest = subst (λ x. Ends (Some held) Also (next x) (Text u d)) (sym equal) k.2 in
    one_whole held Faulty Also (next h.0) (sharp.3 found.0 h.0 found.3) (single h.0) t u c d h.2 rest
one_whole held Faulty Also (Want input line A None next) sharp single t u c d h k = absurd (cc h)
one_whole held Faulty Also (Want input line A (Some x) next) sharp single t u c d h k =
    one_whole held Faulty Also (next x) sharp single t u c d h k
one_whole held Faulty Also (Bound false next) sharp single t u c d h k = absurd (cc h)
one_whole held Faulty Also (Bound true next) sharp single t u c d h k = one_whole held Faulty Also next sharp single t u c d h k
one_whole held Faulty Also (Over own next) sharp single t u c d h k = one_whole own (λ name. ⊥) (λ name. ⊥) next sharp single t u c d h k
one_whole held Faulty Also (Write due rise) sharp single t u c d h k = (single.0 t u h.0 k.0, single.1 c d h.1 k.1)
