use Rattle.command_words.proofs.Numbers.{read, printed}
use Rattle.command_words.proofs.laws.numbers_are_printed.Goals as goal

pub returns-clause-read : goal.returns-clause-read
returns-clause-read c word n e = (read word n e).spelled

pub returns-clause-few : goal.returns-clause-few
returns-clause-few c word n e = (read word n e).few

pub returns-clause-printed : goal.returns-clause-printed
returns-clause-printed c n h = printed n h
