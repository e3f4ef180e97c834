use Rattle.std.proofs.Common.{◌≡◌, ◌++◌, drop}
use Rattle.commands.specs.Page.{listed_from}
use Rattle.commands.proofs.page_files.listed_of.Given as goal

-- with what is left it's all of them
abbrev pub invariant-each : goal.invariant-each
invariant-each l = l.all ++ listed_from (drop l.k l.rows) l.texts l.k ≡ listed_from l.rows l.texts 0
