-- Words, groups and tails that are read without effect.
use Rattle.std.specs.Prelude.{Bool, ◌&&◌, List}
use Rattle.ir_tokens.specs.Bytes.{Text}
use Rattle.ir_grammar.specs.declared.starts.SkipStart.{SkipStart}
use Rattle.ir_grammar.specs.declared.starts.SkipStart.TheVariants as skips
use Rattle.ir_grammar.specs.declared.starts.FlagStart.{FlagStart}
use Rattle.ir_grammar.specs.declared.starts.FlagStart.TheVariants as flags
use Rattle.ir_grammar.specs.declared.starts.TailStart.{TailStart}
use Rattle.ir_grammar.specs.declared.starts.TailStart.TheVariants as tails
use Rattle.ir_grammar.specs.Lexeme.{Lexemes, first_kind, first_text, is_word, sees_sign, sees_word}
use Rattle.ir_grammar.specs.Rule.{Rule, ◌>>◌, pure, refuse, next, look, where_it, skip_many}
use Rattle.ir_grammar.specs.Words.{integer, quoted, meta, is_one_of_words}
use Rattle.ir_grammar.specs.Groups.{round}
use Rattle.ir_grammar.specs.Starts.{skip_start, sees_skip, sees_head_skip, flag_start, sees_flag, tail_start, sees_tail, sees_global_tail}

-- a number, as one that is read without effect
abbrev pub some_integer : Rule (Unit {0})
some_integer = integer >> pure tt

-- attribute word | attribute word ( .. ) | align Number | align ( .. ) | Quoted | Quoted = Quoted | Hash, and Meta Meta in the head of a function
abbrev pub skip_by : SkipStart → Rule (Unit {0})
skip_by skips.Attribute = next >> where_it (sees_sign 40) round (pure tt)
skip_by skips.Align = next >> where_it (sees_sign 40) round some_integer
skip_by skips.Quoted = next >> where_it (sees_sign 61) (next >> quoted) (pure tt)
skip_by skips.Hash = next
skip_by skips.Meta = next >> meta
skip_by skips.Nothing = refuse

abbrev pub skip : Rule (Unit {0})
skip = look skip_start skip_by

-- skip*
unfoldable pub skipped : Rule (Unit {0})
skipped = skip_many sees_skip skip

-- (skip | Meta Meta)*
unfoldable pub head_skipped : Rule (Unit {0})
head_skipped = skip_many sees_head_skip skip

-- gflag = inbounds | nusw | nuw | inrange ( .. )
abbrev pub flag_by : FlagStart → Rule (Unit {0})
flag_by flags.Plain = next
flag_by flags.InRange = next >> round
flag_by flags.Nothing = refuse

abbrev pub flag : Rule (Unit {0})
flag = look flag_start flag_by

-- gflag*
unfoldable pub flagged : Rule (Unit {0})
flagged = skip_many sees_flag flag

-- one of these words comes next
abbrev pub sees_one_of : List Text → Lexemes → Bool
sees_one_of words ts = is_word (first_kind ts) && is_one_of_words words (first_text ts)

-- any number of these words
unfoldable pub word_flags : List Text → Rule (Unit {0})
word_flags words = skip_many (sees_one_of words) next

-- the word, or nothing
abbrev pub optional : Text → Rule (Unit {0})
optional w = where_it (sees_word w) next (pure tt)

-- , align Number | , section Quoted | , Meta Meta | Hash
abbrev pub tail_by : TailStart → Rule (Unit {0})
tail_by tails.Align = next >> (next >> some_integer)
tail_by tails.Section = next >> (next >> quoted)
tail_by tails.Meta = next >> (next >> meta)
tail_by tails.Hash = next
tail_by tails.Nothing = refuse

abbrev pub tail : Rule (Unit {0})
tail = look tail_start tail_by

-- tail*
unfoldable pub tailed : Rule (Unit {0})
tailed = skip_many sees_tail tail

-- gtail*
unfoldable pub global_tailed : Rule (Unit {0})
global_tailed = skip_many sees_global_tail tail
