-- A code without ports.
use Rattle.std.specs.Prelude.{None}
use Rattle.machine_form.specs.Calls.{Answers}

-- no port answers
abbrev pub no_answers : Answers
no_answers p args = None
