use Rattle.std.proofs.Common.{◌≡◌, ◌++◌, take}
use Rattle.html_page.specs.Escaped.{escaped}
use Rattle.html_page.proofs.escape.put_text.Given as goal

abbrev pub invariant-bytes : goal.invariant-bytes
invariant-bytes l = l.out ≡ l.initial.out ++ escaped (take l.b-index l.text)
