use Rattle.std.proofs.Common.{◌≡◌, ◌++◌, flat_map, take}
use Rattle.html_page.specs.Survivors.{survivor_of}
use Rattle.html_page.proofs.survivors_part.put_rows.Given as goal

abbrev pub invariant-each : goal.invariant-each
invariant-each l = l.out ≡ l.initial.out ++ flat_map (survivor_of l.matrix l.lines) (take l.listed-index l.all)
