-- Groups in brackets.
use Rattle.std.specs.Prelude.{◌≡◌, ℕ, Bool, true, ◌||◌, ◌==◌, if◌then◌else◌, List, [], ◌∷◌, ◌++◌, Option, Some, None}
use Rattle.ir_tokens.specs.declared.token.TokenKind.{TokenKind}
use Rattle.ir_tokens.specs.declared.token.TokenKind.TheVariants as kind
use Rattle.ir_grammar.specs.declared.starts.Bracket.{Bracket}
use Rattle.ir_grammar.specs.declared.starts.Bracket.TheVariants as bracket
use Rattle.ir_grammar.specs.Lexeme.{Lexeme, Lexemes}
use Rattle.ir_grammar.specs.Rule.{Rule}

abbrev pub sign_bracket : ℕ → Bracket
sign_bracket b =
    if b == 40 then bracket.Opens 41 else (if b == 91 then bracket.Opens 93 else (if b == 123 then bracket.Opens 125
    else (if b == 41 || b == 93 || b == 125 then bracket.Closes b else bracket.Other)))

abbrev pub kind_bracket : TokenKind → Bracket
kind_bracket (kind.Sign b) = sign_bracket b
kind_bracket _ = bracket.Other

-- any lexemes in which `( )`, `[ ]` and `{ }` are matched
pub data Balanced : Lexemes → Type 0 where
  nothing : Balanced []
  other : (l : Lexeme) (ts : Lexemes) → kind_bracket l.0 ≡ bracket.Other → Balanced ts → Balanced (l ∷ ts)
  nested : (o c : Lexeme) (b : ℕ) (inner ts : Lexemes) → kind_bracket o.0 ≡ bracket.Opens b → kind_bracket c.0 ≡ bracket.Closes b → Balanced inner
      → Balanced ts → Balanced (o ∷ (inner ++ (c ∷ ts)))

-- a group that is closed by a sign of the class, with rest after it
pub record IsGroup (class : ℕ → Bool) (ts rest : Lexemes) : Type 0 where
  pub first : Lexeme
  pub last : Lexeme
  pub closer : ℕ
  pub body : Lexemes
  pub whole : ts ≡ first ∷ (body ++ (last ∷ rest))
  pub opens : kind_bracket first.0 ≡ bracket.Opens closer
  pub fits : class closer ≡ true
  pub closes : kind_bracket last.0 ≡ bracket.Closes closer
  pub balanced : Balanced body

-- ---- the way to read one: the signs that are still to come, the next first

abbrev pub scan_step : Bracket → ℕ → List ℕ → (List ℕ → Option Lexemes) → Option Lexemes
scan_step (bracket.Opens d) b st go = go (d ∷ b ∷ st)
scan_step (bracket.Closes d) b st go = if d == b then go st else None
scan_step bracket.Other b st go = go (b ∷ st)

unfoldable pub scan : List ℕ → Lexemes → Option Lexemes
scan [] ts = Some ts
scan (b ∷ st) [] = None
scan (b ∷ st) (l ∷ ts) = scan_step (kind_bracket l.0) b st (λ more. scan more ts)

abbrev pub begin_scan : (ℕ → Bool) → Bracket → Lexemes → Option Lexemes
begin_scan class (bracket.Opens b) ts = if class b then scan (b ∷ []) ts else None
begin_scan class _ ts = None

abbrev pub with_unit : Option Lexemes → Option (Unit {0} × Lexemes)
with_unit None = None
with_unit (Some ts) = Some (tt, ts)

abbrev pub scan_group : (ℕ → Bool) → Lexemes → Option Lexemes
scan_group class [] = None
scan_group class (l ∷ ts) = begin_scan class (kind_bracket l.0) ts

abbrev pub group_closed_by : (ℕ → Bool) → Rule (Unit {0})
group_closed_by class = record { reads = λ ts u rest. IsGroup class ts rest; parse = λ ts. with_unit (scan_group class ts) }

-- ( .. )
abbrev pub round : Rule (Unit {0})
round = group_closed_by (λ b. b == 41)

-- { .. }
abbrev pub curly : Rule (Unit {0})
curly = group_closed_by (λ b. b == 125)

-- ( .. ) or { .. }
abbrev pub group : Rule (Unit {0})
group = group_closed_by (λ b. b == 41 || b == 125)
