-- A text that grows token by token.
use Rattle.std.specs.Prelude.{[], ◌∷◌, ◌++◌, Option, Some, None}
use Rattle.ir_tokens.specs.Bytes.{Text}
use Rattle.ir_tokens.specs.declared.token.TokenKind.{TokenKind}
use Rattle.ir_grammar.specs.Lexeme.{Lexeme, Lexemes}
use Rattle.ir_text.specs.Lines.{gap}
use Rattle.ir_text.specs.declared.sheet.Sheet.{Sheet}

-- the gap before the next token, after one of a kind or after none on its line
abbrev pub gap_after : Option TokenKind → TokenKind → Text
gap_after None next = []
gap_after (Some before) next = gap before next

abbrev pub with_token : Sheet → Lexeme → Sheet
with_token sheet l = record { text = sheet.text ++ (gap_after sheet.last l.0 ++ l.1); last = Some l.0 }

-- the sheet with these tokens added
unfoldable pub with_tokens : Sheet → Lexemes → Sheet
with_tokens sheet [] = sheet
with_tokens sheet (l ∷ ls) = with_tokens (with_token sheet l) ls
