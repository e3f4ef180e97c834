-- Of what is read without effect nothing is written, and nothing is read again.
use Rattle.std.proofs.Common.{◌≡◌, Bool, false, List, [], ◌++◌, codes, refl, sym, subst}
use Rattle.am_base.specs.declared.word.Width.TheVariants as width
use Rattle.ir_tokens.specs.Bytes.{Text}
use Rattle.ir_grammar.specs.declared.starts.SkipStart.{SkipStart}
use Rattle.ir_grammar.specs.declared.starts.SkipStart.TheVariants as skips
use Rattle.ir_grammar.specs.declared.starts.FlagStart.{FlagStart}
use Rattle.ir_grammar.specs.declared.starts.FlagStart.TheVariants as flags
use Rattle.ir_grammar.specs.declared.starts.TailStart.{TailStart}
use Rattle.ir_grammar.specs.declared.starts.TailStart.TheVariants as tails
use Rattle.ir_grammar.specs.Lexeme.{Lexemes, sees_word}
use Rattle.ir_grammar.specs.Rule.{Rule, ◌>>=◌, skip_many}
use Rattle.ir_grammar.specs.Rule as rule
use Rattle.ir_grammar.specs.Starts.{sees_skip, sees_head_skip, sees_flag, sees_tail, sees_global_tail, skip_start, skip_word, is_stop_word, op_word, flag_start}
use Rattle.ir_grammar.specs.Starts.{flag_word}
use Rattle.ir_grammar.specs.Ops.{arithmetic_flags, cast_flags}
use Rattle.ir_grammar.specs.Skips.{some_integer, skip_by, skip, skipped, head_skipped, flag_by, flag, flagged, sees_one_of, word_flags, optional, tail_by, tail}
use Rattle.ir_grammar.specs.Skips.{tailed, global_tailed}
use Rattle.ir_text.proofs.Gives.{Gives, Any, gives-refuse, gives-look, any-one, any-bind, any-pure, any-where_it, any-skip_many, any-group}
use Rattle.ir_text.proofs.Back.{Back, back-none}
use Rattle.ir_text.proofs.TypesBack.{TypeHead, int, pointer, square, curly, named}

-- ---- bytes are left of it

some_integer-any : Gives some_integer Any
some_integer-any = any-bind _ _ (any-one _) (λ _. any-pure _)

skip_by-any : (s : SkipStart) → Gives (skip_by s) Any
skip_by-any skips.Attribute = any-bind _ _ (any-one _) (λ _. any-where_it _ _ _ (any-group _) (any-pure _))
skip_by-any skips.Align = any-bind _ _ (any-one _) (λ _. any-where_it _ _ _ (any-group _) some_integer-any)
skip_by-any skips.Quoted = any-bind _ _ (any-one _) (λ _. any-where_it _ _ _ (any-bind _ _ (any-one _) (λ _. any-one _)) (any-pure _))
skip_by-any skips.Hash = any-one _
skip_by-any skips.Meta = any-bind _ _ (any-one _) (λ _. any-one _)
skip_by-any skips.Nothing = gives-refuse Any

skip-any : Gives skip Any
skip-any = gives-look _ skip_by Any skip_by-any

pub skipped-any : Gives skipped Any
unfolding skipped
skipped-any = any-skip_many _ _ skip-any

pub head_skipped-any : Gives head_skipped Any
unfolding head_skipped
head_skipped-any = any-skip_many _ _ skip-any

flag_by-any : (s : FlagStart) → Gives (flag_by s) Any
flag_by-any flags.Plain = any-one _
flag_by-any flags.InRange = any-bind _ _ (any-one _) (λ _. any-group _)
flag_by-any flags.Nothing = gives-refuse Any

pub flagged-any : Gives flagged Any
unfolding flagged
flagged-any = any-skip_many _ _ (gives-look _ flag_by Any flag_by-any)

pub word_flags-any : (words : List Text) → Gives (word_flags words) Any
unfolding word_flags
word_flags-any words = any-skip_many _ _ (any-one _)

pub optional-any : (w : Text) → Gives (optional w) Any
optional-any w = any-where_it _ _ _ (any-one _) (any-pure _)

tail_by-any : (s : TailStart) → Gives (tail_by s) Any
tail_by-any tails.Align = any-bind _ _ (any-one _) (λ _. any-bind _ _ (any-one _) (λ _. some_integer-any))
tail_by-any tails.Section = any-bind _ _ (any-one _) (λ _. any-bind _ _ (any-one _) (λ _. any-one _))
tail_by-any tails.Meta = any-bind _ _ (any-one _) (λ _. any-bind _ _ (any-one _) (λ _. any-one _))
tail_by-any tails.Hash = any-one _
tail_by-any tails.Nothing = gives-refuse Any

tail-any : Gives tail Any
tail-any = gives-look _ tail_by Any tail_by-any

pub tailed-any : Gives tailed Any
unfolding tailed
tailed-any = any-skip_many _ _ tail-any

pub global_tailed-any : Gives global_tailed Any
unfolding global_tailed
global_tailed-any = any-skip_many _ _ tail-any

-- ---- nothing is read where nothing begins

none : (begins : Lexemes → Bool) (p : Rule (Unit {0})) (z : Lexemes) → begins z ≡ false → (skip_many begins p).reads z tt z
none begins p z e = ([], z, (e, refl), (refl, refl))

pub skipped-none : (z : Lexemes) → sees_skip z ≡ false → skipped.reads z tt z
unfolding skipped
skipped-none z e = none sees_skip skip z e

pub head_skipped-none : (z : Lexemes) → sees_head_skip z ≡ false → head_skipped.reads z tt z
unfolding head_skipped
head_skipped-none z e = none sees_head_skip skip z e

pub flagged-none : (z : Lexemes) → sees_flag z ≡ false → flagged.reads z tt z
unfolding flagged
flagged-none z e = none sees_flag flag z e

pub word_flags-none : (words : List Text) (z : Lexemes) → sees_one_of words z ≡ false → (word_flags words).reads z tt z
unfolding word_flags
word_flags-none words z e = none (sees_one_of words) rule.next z e

optional-none : (w : Text) (z : Lexemes) → sees_word w z ≡ false → (optional w).reads z tt z
optional-none w z e = subst (λ b. (rule.either rule.next (rule.pure tt) b).reads z tt z) (sym e) (refl, refl)

-- a word that isn't written, and then more
pub back-optional : {B : Type 0} (w : Text) (f : Unit {0} → Rule B) (b : Lexemes) (y : B) (F : Lexemes → Type 0)
    → ((after : Lexemes) → F after → sees_word w (b ++ after) ≡ false) → Back (f tt) b y F → Back (optional w >>= f) b y F
back-optional w f b y F e k = back-none (optional w) f b y F (λ after h. optional-none w (b ++ after) (e after h)) k

pub tailed-none : (z : Lexemes) → sees_tail z ≡ false → tailed.reads z tt z
unfolding tailed
tailed-none z e = none sees_tail tail z e

pub global_tailed-none : (z : Lexemes) → sees_global_tail z ≡ false → global_tailed.reads z tt z
unfolding global_tailed
global_tailed-none z e = none sees_global_tail tail z e

-- ---- a type begins none of it

pub head-no_skip : (ts : Lexemes) → TypeHead ts → sees_skip ts ≡ false
unfolding sees_skip skip_start skip_word is_stop_word op_word
head-no_skip _ (int width.W1 ts) = refl
head-no_skip _ (int width.W8 ts) = refl
head-no_skip _ (int width.W16 ts) = refl
head-no_skip _ (int width.W32 ts) = refl
head-no_skip _ (int width.W64 ts) = refl
head-no_skip _ (pointer ts) = refl
head-no_skip _ (square ts) = refl
head-no_skip _ (curly ts) = refl
head-no_skip _ (named s ts) = refl

pub head-no_flag : (ts : Lexemes) → TypeHead ts → sees_flag ts ≡ false
unfolding sees_flag flag_start flag_word
head-no_flag _ (int width.W1 ts) = refl
head-no_flag _ (int width.W8 ts) = refl
head-no_flag _ (int width.W16 ts) = refl
head-no_flag _ (int width.W32 ts) = refl
head-no_flag _ (int width.W64 ts) = refl
head-no_flag _ (pointer ts) = refl
head-no_flag _ (square ts) = refl
head-no_flag _ (curly ts) = refl
head-no_flag _ (named s ts) = refl

pub head-no_word : (ts : Lexemes) → TypeHead ts → (sees_word (codes "void") ts ≡ false) × (sees_word (codes "label") ts ≡ false)
    × (sees_word (codes "volatile") ts ≡ false) × (sees_one_of arithmetic_flags ts ≡ false) × (sees_one_of cast_flags ts ≡ false)
head-no_word _ (int width.W1 ts) = (refl, refl, refl, refl, refl)
head-no_word _ (int width.W8 ts) = (refl, refl, refl, refl, refl)
head-no_word _ (int width.W16 ts) = (refl, refl, refl, refl, refl)
head-no_word _ (int width.W32 ts) = (refl, refl, refl, refl, refl)
head-no_word _ (int width.W64 ts) = (refl, refl, refl, refl, refl)
head-no_word _ (pointer ts) = (refl, refl, refl, refl, refl)
head-no_word _ (square ts) = (refl, refl, refl, refl, refl)
head-no_word _ (curly ts) = (refl, refl, refl, refl, refl)
head-no_word _ (named s ts) = (refl, refl, refl, refl, refl)
