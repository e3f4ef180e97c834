-- A function that takes no memory reads as one that may.
use Rattle.std.proofs.Common.{Option, Result, Ok, Err}
use Rattle.ir_grammar.specs.Lexeme.{Lexemes}
use Rattle.ir_reader_tokens.specs.declared.error.PartError.{PartError}
use Rattle.ir_reader_tokens.specs.declared.error.PartError.TheVariants.{NotHere, OutOfMemory}
use Rattle.ir_reader_tokens.specs.Reads.{Reads, Takes}

pub taken_read : {A : Type 0} (read : Option (A × Lexemes)) (r : Result A PartError) (new : Lexemes) → Takes read r new → Reads read r new
taken_read read (Ok x) new h = h
taken_read read (Err NotHere) new h = h
taken_read read (Err OutOfMemory) new h = tt
