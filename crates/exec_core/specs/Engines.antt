-- The engine's lists.
--     IsIdle                  the room for a turn is empty
--     KeepsExecutions         the executions and the children are as they were, and no room was lost
--     HasRoomFor n            each list has room for that many more
--     split_seen              what contracts see of a division
use Rattle.std.specs.Prelude.{◌≡◌, ℕ, ◌+◌, ◌≤◌, List, [], vec_len, vec_capacity}
use Rattle.exec_core.specs.declared.engine.Engine.{Engine}
use Rattle.exec_core.specs.declared.result.Split.{Split}

abbrev pub split_seen : Split → ℕ × List ℕ
split_seen s = (s.step, s.parts)

module _ {S C : Type 0} where
  pub record IsIdle (engine : Engine S C) : Type 0 where
    pub children : engine.children.items ≡ []
    pub readied : engine.readied.items ≡ []
    pub made : engine.made.items ≡ []

  pub record KeepsExecutions (old new : Engine S C) : Type 0 where
    pub lives : new.lives.items ≡ old.lives.items
    pub ended : new.ended.items ≡ old.ended.items
    pub children : new.children.items ≡ old.children.items
    pub readied : new.readied.items ≡ old.readied.items
    pub made : new.made.items ≡ old.made.items
    pub capacity : vec_capacity old.lives ≤ vec_capacity new.lives

  pub record HasRoomFor (n : ℕ) (engine : Engine S C) : Type 0 where
    pub lives : n + vec_len engine.lives ≤ vec_capacity engine.lives
    pub ended : n + vec_len engine.ended ≤ vec_capacity engine.ended
    pub children : n + vec_len engine.children ≤ vec_capacity engine.children
    pub readied : n + vec_len engine.readied ≤ vec_capacity engine.readied
    pub made : n + vec_len engine.made ≤ vec_capacity engine.made
