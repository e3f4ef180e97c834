use Rattle.ir_tokens.proofs.Spelled.{is_digits-IsDigits, IsDigits-is_digits, is_small_number-IsSmallNumber, IsSmallNumber-is_small_number}
use Rattle.ir_tokens.proofs.laws.decided_numbers.Goals as goal

pub returns-clause-digits : goal.returns-clause-digits
returns-clause-digits c = λ s. (is_digits-IsDigits s, IsDigits-is_digits s)

pub returns-clause-small : goal.returns-clause-small
returns-clause-small c = λ s. (is_small_number-IsSmallNumber s, IsSmallNumber-is_small_number s)
