-- A plan ends in one way over the same files.
use Rattle.std.proofs.Common.{◌≡◌, ℕ, ◌≤◌, List, length, true, false, Option, Some, None, IsSome, refl, subst, sym, ◌∙◌, inl, inr, arith}
use Rattle.am_base.specs.declared.limits.TheConstants.{MAX_FILE_BYTES}
use Rattle.command_plan.specs.declared.status.Input.{Input}
use Rattle.command_plan.specs.Plan.{Counts, Plan, Read, Want, Bound, Over, Write, Reads, IsTooLong}
use Rattle.command_plan.specs.Ends.{End, Ends, StopsAt, Comes, Accepted, Text, Refused, Long, Fault, Many}
use Rattle.command_plan.specs.Sharp.{IsSharp, IsSameEnd}

abbrev Held : Type 0
Held = List ℕ → Option (List ℕ)

-- a file that reads is held, and is what it reads as
pub read_held : (held : Held) (name : List ℕ) (Is : List ℕ → Type 0) → Reads (Some held) name Is
    → (file : List ℕ) × (held name ≡ Some file) × (length file ≤ MAX_FILE_BYTES) × Is file
read_held held name Is r = by (held name) refl r.held
  where
    by : (o : Option (List ℕ)) → held name ≡ o → IsSome o → (file : List ℕ) × (held name ≡ Some file) × (length file ≤ MAX_FILE_BYTES) × Is file
    by None e h = absurd (cc h)
    by (Some file) e h = (file, e, r.short file e, r.read file e)

not_missing : (held : Held) (name : List ℕ) → IsSome (held name) → held name ≡ None → ⊥
not_missing held name h e = cc (h, e)

not_both : (held : Held) (name : List ℕ) (Is : List ℕ → Type 0) → Reads (Some held) name Is → IsTooLong (Some held) name → ⊥
not_both held name Is r long =
    let found = read_held held name Is r in
    let small = found.2 in
    let large = long.long found.0 found.1 in
    omega (arith, small, large)

-- two things that hold of a file hold of one file
both : (held : Held) (name : List ℕ) (Is Also : List ℕ → Type 0) → Reads (Some held) name Is → Reads (Some held) name Also
    → (file : List ℕ) × Is file × Also file
both held name Is Also r s = let found = read_held held name Is r in (found.0, found.3, s.read found.0 found.1)

module _ (held : Held) (Faulty Also : List ℕ → Type 0) (missing : (name : List ℕ) → Faulty name → held name ≡ None)
    (also_missing : (name : List ℕ) → Also name → held name ≡ None) where
  one_stop : (name : List ℕ) (input : Input) (refuses : List ℕ → List ℕ → Type 0)
      → ((file line other : List ℕ) → refuses file line → refuses file other → line ≡ other)
      → (end other : End) → StopsAt (Some held) Faulty name input refuses end → StopsAt (Some held) Also name input refuses other → IsSameEnd end other
  one_stop name input refuses one (Accepted counts) other h k = absurd h
  one_stop name input refuses one (Text text counts) other h k = absurd h
  one_stop name input refuses one (Refused i line) (Accepted counts) h k = absurd k
  one_stop name input refuses one (Refused i line) (Text text counts) h k = absurd k
  one_stop name input refuses one (Refused i line) (Refused j words) h k =
      let same = both held name (λ file. refuses file line) (λ file. refuses file words) h.1 k.1 in
      (h.0 ∙ sym k.0, one same.0 line words same.1 same.2)
  one_stop name input refuses one (Refused i line) Long h k = absurd (not_both held name (λ file. refuses file line) h.1 k)
  one_stop name input refuses one (Refused i line) Many h k = absurd k
  one_stop name input refuses one (Refused i line) Fault h k = absurd (not_missing held name h.1.held (also_missing name k))
  one_stop name input refuses one Long (Accepted counts) h k = absurd k
  one_stop name input refuses one Long (Text text counts) h k = absurd k
  one_stop name input refuses one Long (Refused j words) h k = absurd (not_both held name (λ file. refuses file words) k.1 h)
  one_stop name input refuses one Long Long h k = tt
  one_stop name input refuses one Long Many h k = absurd k
  one_stop name input refuses one Long Fault h k = absurd (not_missing held name h.held (also_missing name k))
  one_stop name input refuses one Fault (Accepted counts) h k = absurd k
  one_stop name input refuses one Fault (Text text counts) h k = absurd k
  one_stop name input refuses one Fault (Refused j words) h k = absurd (not_missing held name k.1.held (missing name h))
  one_stop name input refuses one Fault Long h k = absurd (not_missing held name k.held (missing name h))
  one_stop name input refuses one Fault Fault h k = tt
  one_stop name input refuses one Fault Many h k = absurd k
  one_stop name input refuses one Many other h k = absurd h

  one_coming : (due : List ℕ → Type 0) (rise : Counts → Type 0) (end other : End) → Comes due rise end → Comes due rise other → IsSameEnd end other
  one_coming due rise (Accepted c) (Accepted d) h k = tt
  one_coming due rise (Accepted c) (Text u d) h k = tt
  one_coming due rise (Text t c) (Accepted d) h k = tt
  one_coming due rise (Text t c) (Text u d) h k = tt
  one_coming due rise (Refused i line) other h k = absurd h
  one_coming due rise Long other h k = absurd h
  one_coming due rise Fault other h k = absurd h
  one_coming due rise Many other h k = absurd h
  one_coming due rise (Accepted c) (Refused i line) h k = absurd k
  one_coming due rise (Accepted c) Long h k = absurd k
  one_coming due rise (Accepted c) Fault h k = absurd k
  one_coming due rise (Accepted c) Many h k = absurd k
  one_coming due rise (Text t c) (Refused i line) h k = absurd k
  one_coming due rise (Text t c) Long h k = absurd k
  one_coming due rise (Text t c) Fault h k = absurd k
  one_coming due rise (Text t c) Many h k = absurd k

-- a file that is accepted stops no plan
no_stop : (held : Held) (Faulty : List ℕ → Type 0) (missing : (name : List ℕ) → Faulty name → held name ≡ None)
    (name : List ℕ) (input : Input) (refuses : List ℕ → List ℕ → Type 0) (A : Type 0) (accepts : List ℕ → A → Type 0)
    → ((file line : List ℕ) (x : A) → refuses file line → accepts file x → ⊥)
    → (end : End) (x : A) → StopsAt (Some held) Faulty name input refuses end → Reads (Some held) name (λ file. accepts file x) → ⊥
no_stop held Faulty missing name input refuses A accepts apart (Accepted counts) x h reads = absurd h
no_stop held Faulty missing name input refuses A accepts apart (Text text counts) x h reads = absurd h
no_stop held Faulty missing name input refuses A accepts apart (Refused i line) x h reads =
    let same = both held name (λ file. refuses file line) (λ file. accepts file x) h.1 reads in
    apart same.0 line x same.1 same.2
no_stop held Faulty missing name input refuses A accepts apart Long x h reads = not_both held name (λ file. accepts file x) reads h
no_stop held Faulty missing name input refuses A accepts apart Many x h reads = absurd h
no_stop held Faulty missing name input refuses A accepts apart Fault x h reads = not_missing held name reads.held (missing name h)

same_end_refl : (input : Input) (line : List ℕ) (end other : End) → end ≡ Refused input line → other ≡ Refused input line → IsSameEnd end other
same_end_refl input line end other h k =
    let first : IsSameEnd (Refused input line) (Refused input line) = (refl, refl) in
    let second : IsSameEnd end (Refused input line) = subst (λ e. IsSameEnd e (Refused input line)) (sym h) first in
    subst (λ e. IsSameEnd end e) (sym k) second

same_many : (end other : End) → end ≡ Many → other ≡ Many → IsSameEnd end other
same_many end other h k =
    let first : IsSameEnd Many Many = tt in
    let second : IsSameEnd end Many = subst (λ e. IsSameEnd e Many) (sym h) first in
    subst (λ e. IsSameEnd end e) (sym k) second

pub one_end : (held : Held) (Faulty Also : List ℕ → Type 0) → ((name : List ℕ) → Faulty name → held name ≡ None)
    → ((name : List ℕ) → Also name → held name ≡ None) → (plan : Plan) → IsSharp plan → (end other : End)
    → Ends (Some held) Faulty plan end → Ends (Some held) Also plan other → IsSameEnd end other
one_end held Faulty Also missing also (Read name input refuses A accepts next) sharp end other (inl h) (inl k) =
    one_stop held Faulty Also missing also name input refuses sharp.0 end other h k
one_end held Faulty Also missing also (Read name input refuses A accepts next) sharp end other (inl h) (inr k) =
    absurd (no_stop held Faulty missing name input refuses A accepts sharp.1 end k.0 h k.1)
one_end held Faulty Also missing also (Read name input refuses A accepts next) sharp end other (inr h) (inl k) =
    absurd (no_stop held Also also name input refuses A accepts sharp.1 other h.0 k h.1)
one_end held Faulty Also missing also (Read name input refuses A accepts next) sharp end other (inr h) (inr k) =
    let same = both held name (λ file. accepts file h.0) (λ file. accepts file k.0) h.1 k.1 in
    let equal = sharp.2 same.0 h.0 k.0 same.1 same.2 in
    let rest = subst (λ x. Ends (Some held) Also (next x) other) (sym equal) k.2 in
    one_end held Faulty Also missing also (next h.0) (sharp.3 same.0 h.0 same.1) end other h.2 rest
one_end held Faulty Also missing also (Want input line A None next) sharp end other h k = same_end_refl input line end other h k
one_end held Faulty Also missing also (Want input line A (Some x) next) sharp end other h k =
    one_end held Faulty Also missing also (next x) sharp end other h k
one_end held Faulty Also missing also (Bound false next) sharp end other h k = same_many end other h k
one_end held Faulty Also missing also (Bound true next) sharp end other h k =
    one_end held Faulty Also missing also next sharp end other h k
one_end held Faulty Also missing also (Over own next) sharp end other h k =
    one_end own (λ name. ⊥) (λ name. ⊥) (λ name f. absurd f) (λ name f. absurd f) next sharp end other h k
one_end held Faulty Also missing also (Write due rise) sharp end other h k = one_coming held Faulty Also missing also due rise end other h k
