-- What holds after a refusal, or of nothing.
use Rattle.std.specs.Prelude.{Option, Some, None, Result, Ok, Err, IfNone, OnErr}

pub on_err : {A E P : Type 0} (r : Result A E) → P → OnErr r P
on_err (Ok x) p = tt
on_err (Err e) p = p

-- or where there is nothing
pub if_none : {A P : Type 0} (r : Option A) → P → IfNone r P
if_none None p = p
if_none (Some x) p = tt
