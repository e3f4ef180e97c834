-- How a part that isn't read ends the reading of the whole.
use Rattle.std.proofs.Common.{◌≡◌, Option, None, Err}
use Rattle.ir_grammar.specs.Lexeme.{Lexemes}
use Rattle.ir_reader_tokens.specs.Reads.{Reads}
use Rattle.ir_reader_tokens.specs.declared.error.PartError.{PartError}
use Rattle.ir_reader_tokens.specs.declared.error.PartError.TheVariants.{NotHere, OutOfMemory}

pub exit : {A B : Type 0} (part : Option (A × Lexemes)) (whole : Option (B × Lexemes)) (e : PartError) (at at' : Lexemes) → Reads part (Err e) at
    → (part ≡ None → whole ≡ None) → Reads whole (Err e) at'
exit part whole NotHere at at' h f = f h
exit part whole OutOfMemory at at' h f = tt
