use Rattle.std.proofs.Common.{take}
use Rattle.function_names.proofs.Numbered.{AreNumbered}
use Rattle.function_names.proofs.names.FunctionNames.new.Given as goal

abbrev pub invariant-each : goal.invariant-each
invariant-each l = AreNumbered (take l.number l.code.funcs) l.map.entries
