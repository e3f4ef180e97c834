use Rattle.member_sets.proofs.members.place_of.Goals as goal

pub returns-then-least-m-clause-low : goal.returns-then-least-m-clause-low
returns-then-least-m-clause-low c = c.loop-at.invariant
