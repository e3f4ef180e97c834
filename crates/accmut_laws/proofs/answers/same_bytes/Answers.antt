use Rattle.accmut_laws.proofs.Again.{same_text, same_rise}
use Rattle.accmut_laws.proofs.answers.same_bytes.Goals as goal

pub returns-clause-text : goal.returns-clause-text
returns-clause-text p c d before after again later held other alike told also agreed signs answers first second =
    same_text c d before after again later held other alike told also agreed signs answers first second

pub returns-clause-rise : goal.returns-clause-rise
returns-clause-rise p c d before after again later held other alike told also agreed signs answers first second =
    same_rise c d before after again later held other alike told also agreed signs answers first second
