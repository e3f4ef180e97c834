use Rattle.std.proofs.Common.{◌≡◌, ◌++◌, flat_map, take}
use Rattle.html_page.specs.Instructions.{asked_one}
use Rattle.html_page.proofs.lines_part.put_at.Given as goal

abbrev pub invariant-each : goal.invariant-each
invariant-each l = l.out ≡ l.initial.out ++ flat_map (asked_one l.matrix l.place l.killed) (take l.listed-index l.all)
