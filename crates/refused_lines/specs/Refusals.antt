-- The lines by which a command says that a file is refused, or that a wanted mutant or test isn't there. Each ends with byte 10:
--
--     refused,module,LINE,CODE     LINE is that of the byte that begins no token, of the first byte of an item, or of the end of the text
--     refused,mutants,ROW,CODE     ROW is the number of a record, the header being record 0; with the code NoRecord it is the wanted mutant
--     refused,tests,ROW,CODE       likewise; with the code NoRecord it is the wanted test
use Rattle.std.specs.Prelude.{ℕ, ◌+◌, ◌==◌, List, [], ◌∷◌, ◌++◌, Option, None, Some, codes, count_by, decimal, length, take, slice_get, unwrap_or}
use Rattle.ir_tokens.specs.Bytes.{Text}
use Rattle.ir_tokens.specs.declared.token.Token.{Token}
use Rattle.ir_lexer.specs.declared.error.LexError.{LexError}
use Rattle.ir_lexer.specs.declared.error.LexError.TheVariants as lex
use Rattle.ir_reader.specs.declared.error.ReadError.{ReadError}
use Rattle.ir_reader.specs.declared.error.ReadError.TheVariants as read
use Rattle.ir_rules.specs.declared.rule.Fault.{Fault}
use Rattle.ir_rules.specs.declared.rule.Rule.{Rule}
use Rattle.ir_rules.specs.declared.rule.Rule.TheVariants as rule
use Rattle.mutant_records.specs.declared.error.MutantError.{MutantError}
use Rattle.mutant_records.specs.declared.error.MutantError.TheVariants as mutant
use Rattle.test_suite.specs.declared.error.TestError.{TestError}
use Rattle.test_suite.specs.declared.error.TestError.TheVariants as test

abbrev pub refused_line : Text → ℕ → Text → Text
refused_line file number code = codes "refused," ++ file ++ 44 ∷ decimal number ++ 44 ∷ code ++ 10 ∷ []

-- ---- the module

-- the number of the line in which an offset lies: 1 and the number of bytes 10 before it
abbrev pub line_of : Text → ℕ → ℕ
line_of text at = 1 + count_by (λ b. b == 10) (take at text)

abbrev pub module_line : Text → ℕ → Text → Text
module_line text at code = refused_line (codes "module") (line_of text at) code

-- the byte at which no token begins
abbrev pub unlexed_line : Text → LexError → Option Text
unlexed_line text (lex.BadByte at) = Some (module_line text at (codes "BadByte"))
unlexed_line text (lex.OpenQuote at) = Some (module_line text at (codes "OpenQuote"))
unlexed_line text lex.OutOfMemory = None

-- where the token with an index begins; past the last one the end of the text
abbrev pub offset_by : Text → Option Token → ℕ
offset_by text (Some token) = token.from
offset_by text None = length text

abbrev pub offset_of : Text → List Token → ℕ → ℕ
offset_of text tokens index = offset_by text (slice_get tokens index)

-- the token at which no item begins that is allowed there
abbrev pub unread_line : Text → List Token → ReadError → Option Text
unread_line text tokens (read.NotAnItem token) = Some (module_line text (offset_of text tokens token) (codes "NotAnItem"))
unread_line text tokens read.OutOfMemory = None

abbrev pub rule_code : Rule → Text
rule_code rule.DoubleName = codes "DoubleName"
rule_code rule.NumberOrder = codes "NumberOrder"
rule_code rule.UnknownType = codes "UnknownType"
rule_code rule.RecursiveType = codes "RecursiveType"
rule_code rule.TypeTooLarge = codes "TypeTooLarge"
rule_code rule.ScalarWanted = codes "ScalarWanted"
rule_code rule.UnknownName = codes "UnknownName"
rule_code rule.TypeDiffers = codes "TypeDiffers"
rule_code rule.LiteralRange = codes "LiteralRange"
rule_code rule.UnknownLabel = codes "UnknownLabel"
rule_code rule.PhiPlace = codes "PhiPlace"
rule_code rule.PhiEntries = codes "PhiEntries"
rule_code rule.BlockOpen = codes "BlockOpen"
rule_code rule.UnknownCallee = codes "UnknownCallee"
rule_code rule.CallDiffers = codes "CallDiffers"
rule_code rule.ReturnDiffers = codes "ReturnDiffers"
rule_code rule.SwitchCase = codes "SwitchCase"
rule_code rule.GetPath = codes "GetPath"
rule_code rule.ResultName = codes "ResultName"
rule_code rule.InitDiffers = codes "InitDiffers"
rule_code rule.EntryTarget = codes "EntryTarget"
rule_code rule.CastWidth = codes "CastWidth"
rule_code rule.DeclareDiffers = codes "DeclareDiffers"
rule_code rule.Limit = codes "Limit"

-- the first token of the item that breaks a rule; `starts` has the index of each item's first token
abbrev pub broken_line : Text → List Token → List ℕ → Fault → Text
broken_line text tokens starts fault = module_line text (offset_of text tokens (unwrap_or (slice_get starts fault.item) 0)) (rule_code fault.rule)

-- ---- the lists

abbrev pub mutants_line : MutantError → Option Text
mutants_line (mutant.Lengths row) = Some (refused_line (codes "mutants") row (codes "Lengths"))
mutants_line (mutant.Header row) = Some (refused_line (codes "mutants") row (codes "Header"))
mutants_line (mutant.Numbering row) = Some (refused_line (codes "mutants") row (codes "Numbering"))
mutants_line (mutant.UnknownFunction row) = Some (refused_line (codes "mutants") row (codes "UnknownFunction"))
mutants_line (mutant.NoPlace row) = Some (refused_line (codes "mutants") row (codes "NoPlace"))
mutants_line (mutant.SamePlace row) = Some (refused_line (codes "mutants") row (codes "SamePlace"))
mutants_line (mutant.NotAnInstruction row) = Some (refused_line (codes "mutants") row (codes "NotAnInstruction"))
mutants_line (mutant.NotOfItsType row) = Some (refused_line (codes "mutants") row (codes "NotOfItsType"))
mutants_line (mutant.Limit row) = Some (refused_line (codes "mutants") row (codes "Limit"))
mutants_line mutant.OutOfMemory = None

abbrev pub tests_line : TestError → Option Text
tests_line (test.Lengths row) = Some (refused_line (codes "tests") row (codes "Lengths"))
tests_line (test.Header row) = Some (refused_line (codes "tests") row (codes "Header"))
tests_line (test.Name row) = Some (refused_line (codes "tests") row (codes "Name"))
tests_line (test.DoubleName row) = Some (refused_line (codes "tests") row (codes "DoubleName"))
tests_line (test.UnknownFunction row) = Some (refused_line (codes "tests") row (codes "UnknownFunction"))
tests_line (test.Arguments row) = Some (refused_line (codes "tests") row (codes "Arguments"))
tests_line (test.Budget row) = Some (refused_line (codes "tests") row (codes "Budget"))
tests_line (test.Expect row) = Some (refused_line (codes "tests") row (codes "Expect"))
tests_line (test.Limit row) = Some (refused_line (codes "tests") row (codes "Limit"))
tests_line test.OutOfMemory = None

-- the wanted mutant or test isn't there
abbrev pub no_mutant_line : ℕ → Text
no_mutant_line m = refused_line (codes "mutants") m (codes "NoRecord")

abbrev pub no_test_line : ℕ → Text
no_test_line t = refused_line (codes "tests") t (codes "NoRecord")
