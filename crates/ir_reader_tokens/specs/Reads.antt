-- The contract of a function that reads a part of an item.
use Rattle.std.specs.Prelude.{◌≡◌, Option, Some, None, Result, Ok, Err}
use Rattle.ir_reader_tokens.specs.declared.error.PartError.{PartError}
use Rattle.ir_reader_tokens.specs.declared.error.PartError.TheVariants.{NotHere, OutOfMemory}
use Rattle.ir_grammar.specs.Lexeme.{Lexemes}

-- The result is what the rule reads, unless memory runs out. After a refusal nothing is said of what is left.
abbrev pub Reads : {A : Type 0} → Option (A × Lexemes) → Result A PartError → Lexemes → Type 0
Reads read (Ok x) new = read ≡ Some (x, new)
Reads read (Err NotHere) new = read ≡ None
Reads read (Err OutOfMemory) new = Unit {0}

-- The same of a function that takes no memory.
abbrev pub Takes : {A : Type 0} → Option (A × Lexemes) → Result A PartError → Lexemes → Type 0
Takes read (Ok x) new = read ≡ Some (x, new)
Takes read (Err NotHere) new = read ≡ None
Takes read (Err OutOfMemory) new = ⊥

-- The value is answered, unless there is none or memory runs out.
abbrev pub Gives : {A : Type 0} → Option A → Result A PartError → Type 0
Gives value (Ok x) = value ≡ Some x
Gives value (Err NotHere) = value ≡ None
Gives value (Err OutOfMemory) = Unit {0}
