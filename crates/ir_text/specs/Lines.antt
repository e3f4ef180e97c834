-- Lexemes as a line of text, and the canonical text of a module.
use Rattle.std.specs.Prelude.{Bool, true, false, ◌&&◌, ◌||◌, ◌==◌, if◌then◌else◌, List, [], ◌∷◌, ◌++◌, flat_map, codes, Option, Some, None}
use Rattle.ir_tokens.specs.Bytes.{Text}
use Rattle.ir_tokens.specs.declared.token.TokenKind.{TokenKind}
use Rattle.ir_tokens.specs.declared.token.TokenKind.TheVariants as kind
use Rattle.ir_tree.specs.declared.name.Name.{Name}
use Rattle.ir_tree.specs.declared.op.Op.{Op}
use Rattle.ir_tree.specs.declared.item.Item.{Item}
use Rattle.ir_tree.specs.declared.item.Item.TheVariants as tree
use Rattle.ir_grammar.specs.Lexeme.{Lexemes}
use Rattle.ir_text.specs.Parts.{op_lexemes, item_lexemes}
use Rattle.ir_text.specs.Spelling.{local}

abbrev pub is_open : TokenKind → Bool
is_open (kind.Sign b) = b == 40
is_open _ = false

abbrev pub is_closing : TokenKind → Bool
is_closing (kind.Sign b) = b == 44 || b == 41
is_closing _ = false

abbrev pub is_global : TokenKind → Bool
is_global kind.Global = true
is_global _ = false

-- There is no blank before `,` or `)`, after `(`, or between a function's name and `(`.
abbrev pub is_tight : TokenKind → TokenKind → Bool
is_tight before next = is_open before || is_closing next || (is_global before && is_open next)

-- the gap between two tokens: one blank, or nothing
abbrev pub gap : TokenKind → TokenKind → Text
gap before next = if is_tight before next then [] else 32 ∷ []

-- the tokens after one of the kind
abbrev pub spaced_behind : TokenKind → Lexemes → Text
spaced_behind before [] = []
spaced_behind before (l ∷ ls) = gap before l.0 ++ (l.1 ++ spaced_behind l.0 ls)

-- the tokens in a line
abbrev pub spaced : Lexemes → Text
spaced [] = []
spaced (l ∷ ls) = l.1 ++ spaced_behind l.0 ls

-- an instruction has two blanks before it
abbrev pub indent : Item → Text
indent (tree.Instr n o) = codes "  "
indent _ = []

-- each item is one line that ends with byte 10
abbrev pub line : Item → Text
line i = indent i ++ (spaced (item_lexemes i) ++ 10 ∷ [])

-- the canonical text of a module with these items
abbrev pub canon : List Item → Text
canon items = flat_map line items

-- that of an instruction, without its result
abbrev pub instruction_text : Op → Text
instruction_text o = spaced (op_lexemes o)

-- the result of an instruction and ` = `, where it has one
abbrev pub result_text : Option Name → Text
result_text None = []
result_text (Some n) = (local n).1 ++ codes " = "
