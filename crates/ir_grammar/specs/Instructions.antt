-- Texts that are one instruction.
use Rattle.std.specs.Prelude.{List, [], Some, None}
use Rattle.ir_tokens.specs.Bytes.{Text}
use Rattle.ir_tokens.specs.Tokens.{HasTokens}
use Rattle.ir_tokens.specs.declared.token.Token.{Token}
use Rattle.ir_tree.specs.declared.op.Op.{Op}
use Rattle.ir_tree.specs.declared.item.Item.TheVariants as tree
use Rattle.ir_grammar.specs.Lexeme.{Lexemes, lexemes}
use Rattle.ir_grammar.specs.Items.{item}

-- all lexemes are this instruction, without a written result
abbrev pub AreInstruction : Lexemes → Op → Type 0
AreInstruction ts o = item.reads ts (Some (tree.Instr None o)) []

-- the text is cut into tokens, and they are this instruction, without a written result
pub record IsInstruction (text : Text) (o : Op) : Type 0 where
  pub tokens : List Token
  pub cut : HasTokens text tokens
  pub whole : AreInstruction (lexemes text tokens) o
