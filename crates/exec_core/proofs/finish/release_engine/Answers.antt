use Rattle.exec_core.proofs.EndingLemmas.{lives_out, lives_distinct, ended_out, ended_distinct, both_released, both_keep}
use Rattle.exec_core.proofs.Holding.{same_counts_more}
use Rattle.exec_core.proofs.finish.release_engine.Goals as goal

pub release_executions-requires-clause-out : goal.release_executions-requires-clause-out
release_executions-requires-clause-out g c = lives_out _ g.met.M.Machine.lawful _ _ _ c.requires.out c.requires.distinct

pub release_executions-requires-clause-distinct : goal.release_executions-requires-clause-distinct
release_executions-requires-clause-distinct g c = lives_distinct _ g.met.M.Machine.lawful _ _ _ c.requires.out c.requires.distinct

pub release_executions-requires-2-clause-out : goal.release_executions-requires-2-clause-out
release_executions-requires-2-clause-out g c = ended_out _ g.met.M.Machine.lawful _ _ _ c.requires.out c.requires.distinct _ c.release_executions.ensures.keeps

pub release_executions-requires-2-clause-distinct : goal.release_executions-requires-2-clause-distinct
release_executions-requires-2-clause-distinct g c = ended_distinct _ g.met.M.Machine.lawful _ _ _ c.requires.out c.requires.distinct

pub returns-clause-out_numbers : goal.returns-clause-out_numbers
returns-clause-out_numbers g c = both_released _ g.met.M.Machine.lawful _ _ _ c.requires.out c.requires.distinct
    _ c.release_executions.ensures.keeps _ c.release_executions.ensures.out_numbers
    c.release_executions-2.ensures.out_numbers c.release_executions-2.ensures.keeps

pub returns-clause-keeps : goal.returns-clause-keeps
returns-clause-keeps g c = both_keep _ g.met.M.Machine.lawful _ _ _ c.requires.out c.requires.distinct
    _ c.release_executions.ensures.keeps _ c.release_executions.ensures.out_numbers
    c.release_executions-2.ensures.out_numbers c.release_executions-2.ensures.keeps

pub returns-clause-counts : goal.returns-clause-counts
returns-clause-counts g c = same_counts_more _ _ _ c.release_executions.ensures.counts c.release_executions-2.ensures.counts
