use Rattle.std.proofs.Common.{◌≡◌, ◌++◌, drop}
use Rattle.html_page.specs.Numbers.{grouped}
use Rattle.html_page.proofs.numbers.put_grouped.Given as goal

-- with what is left it's all digits
abbrev pub invariant-each : goal.invariant-each
invariant-each l = l.out ++ grouped (drop l.k l.digits) ≡ l.initial.out ++ grouped l.digits
