use Rattle.std.proofs.Common.{◌≡◌, ℕ, ◌+◌, ◌<◌, ◌^◌, List, Option, length, get_or, map, sym, ap, subst, ◌∙◌}
use Rattle.std.proofs.Math.ListN.{set}
use Rattle.std.proofs.Math.Seq.{map-set_same}
use Rattle.std.proofs.lemmas.List.{get_or-map, map-set}
use Rattle.ports.proofs.list.ask_port.Goals as goal

-- the count of the element that was replaced is one more
asked_once : {A : Type 0} (count : A → ℕ) (all : List A) (at : ℕ) (one none : A) → at < length all → count one ≡ count (get_or all at none) + 1
    → map count (set all at one) ≡ set (map count all) at (get_or (map count all) at 0 + 1)
asked_once count all at one none within more =
    map-set count all at one ∙ ap (λ (n : ℕ). set (map count all) at n) (more ∙ ap (λ n. n + 1) (sym (get_or-map count all at none 0 within)))

pub ask_one-requires-clause-few : goal.ask_one-requires-clause-few
ask_one-requires-clause-few g c = subst (λ n. n < 2 ^ 63) (get_or-map _ c.args.ports.now c.args.at _ 0 c.requires.within) c.requires.few

pub returns-clause-signs : goal.returns-clause-signs
returns-clause-signs g c = map-set_same _ c.args.ports.now c.args.at c.ask_one.new.port _ c.ask_one.ensures.sign

pub returns-clause-answers : goal.returns-clause-answers
returns-clause-answers g c = map-set_same _ c.args.ports.now c.args.at c.ask_one.new.port _ c.ask_one.ensures.answers

pub returns-clause-answer : goal.returns-clause-answer
returns-clause-answer g c =
    c.ask_one.ensures.answer ∙ ap (λ (h : List ℕ → Option ℕ). h c.args.args.now) (sym (get_or-map _ c.args.ports.now c.args.at _ _ c.requires.within))

pub returns-clause-asked : goal.returns-clause-asked
returns-clause-asked g c = asked_once _ c.args.ports.now c.args.at c.ask_one.new.port _ c.requires.within c.ask_one.ensures.asked
