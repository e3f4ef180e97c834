-- What a turn of the loop over a repeated part does to the reading of the whole.
use Rattle.std.proofs.Common.{◌≡◌, ◌<◌, true, false, length, Some, None, refl, sym, ◌∙◌}
use Rattle.ir_grammar.specs.Lexeme.{Lexemes}
use Rattle.ir_grammar.specs.Rule.{skip_many}
use Rattle.ir_grammar.specs.Skips.{flagged, skipped, head_skipped, tailed, global_tailed, word_flags}
use Rattle.ir_grammar.proofs.Exact.{Firm, firm-one}
use Rattle.ir_grammar.proofs.Loops.{skip_many-goes, skip_many-fails, skip_many-ends}
use Rattle.ir_grammar.proofs.Productions.{flag-firm, skip-firm, tail-firm}
use Rattle.ir_reader_parts.specs.declared.skips.Ignored.{Ignored}
use Rattle.ir_reader_parts.specs.declared.skips.Ignored.TheVariants as part
use Rattle.ir_reader_parts.specs.Ignored.{begins, once, repeated}

once-firm : (p : Ignored) → Firm (once p)
once-firm part.Flags = flag-firm
once-firm part.ArithmeticFlags = firm-one _
once-firm part.CastFlags = firm-one _
once-firm part.Skips = skip-firm
once-firm part.HeadSkips = skip-firm
once-firm part.Tails = tail-firm
once-firm part.GlobalTails = tail-firm

many : (p : Ignored) (ts : Lexemes) → (repeated p).parse ts ≡ (skip_many (begins p) (once p)).parse ts
unfolding flagged skipped head_skipped tailed global_tailed word_flags
many part.Flags ts = refl
many part.ArithmeticFlags ts = refl
many part.CastFlags ts = refl
many part.Skips ts = refl
many part.HeadSkips ts = refl
many part.Tails ts = refl
many part.GlobalTails ts = refl

pub repeated-goes : (p : Ignored) (ts : Lexemes) → begins p ts ≡ true → (x : Unit {0}) (mid : Lexemes) → (once p).parse ts ≡ Some (x, mid)
    → (repeated p).parse ts ≡ (repeated p).parse mid
repeated-goes p ts b x mid h = many p ts ∙ skip_many-goes (begins p) (once p) (once-firm p) ts b x mid h ∙ sym (many p mid)

pub repeated-fails : (p : Ignored) (ts : Lexemes) → begins p ts ≡ true → (once p).parse ts ≡ None → (repeated p).parse ts ≡ None
repeated-fails p ts b h = many p ts ∙ skip_many-fails (begins p) (once p) (once-firm p) ts b h

pub repeated-ends : (p : Ignored) (ts : Lexemes) → begins p ts ≡ false → (repeated p).parse ts ≡ Some (tt, ts)
repeated-ends p ts b = many p ts ∙ skip_many-ends (begins p) (once p) (once-firm p) ts b

pub once-shorter : (p : Ignored) (ts : Lexemes) (x : Unit {0}) (mid : Lexemes) → (once p).parse ts ≡ Some (x, mid) → length mid < length ts
once-shorter p ts x mid h = (once-firm p).strict ts x mid ((once-firm p).exact.sound ts x mid h)
