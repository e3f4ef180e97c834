-- A group is read as it is defined.
use Rattle.std.proofs.Common.{◌≡◌, ℕ, zero, suc, ◌<◌, ◌≤◌, Bool, true, false, ◌==◌, cond, List, [], ◌∷◌, ◌++◌, length, Option, Some, None, refl, sym, ap, ◌∙◌}
use Rattle.std.proofs.Common.{arith, eq-eqb}
use Rattle.std.proofs.lemmas.Bool.{eqb-true}
use Rattle.std.proofs.lemmas.List.{append_assoc, length-append}
use Rattle.std.proofs.lemmas.Option.{same_Some}
use Rattle.ir_grammar.specs.declared.starts.Bracket.{Bracket}
use Rattle.ir_grammar.specs.declared.starts.Bracket.TheVariants as bracket
use Rattle.ir_grammar.specs.Lexeme.{Lexeme, Lexemes}
use Rattle.ir_grammar.specs.Groups.{kind_bracket, Balanced, nothing, other, nested, IsGroup, scan_step, scan, begin_scan, with_unit, scan_group}
use Rattle.ir_grammar.specs.Groups.{group_closed_by}
use Rattle.ir_grammar.proofs.Exact.{Firm, parts}

same : (b : ℕ) → (b == b) ≡ true
same b = eq-eqb b b refl

pub scan-balanced : (body : Lexemes) → Balanced body → (b : ℕ) (st : List ℕ) (ts : Lexemes) → scan (b ∷ st) (body ++ ts) ≡ scan (b ∷ st) ts
unfolding scan
scan-balanced _ nothing b st ts = refl
scan-balanced _ (other l body e h) b st ts = ap (λ v. scan_step v b st (λ more. scan more (body ++ ts))) e ∙ scan-balanced body h b st ts
scan-balanced _ (nested o c d inner body eo ec hi hb) b st ts =
    ap (λ v. scan_step v b st (λ more. scan more ((inner ++ (c ∷ body)) ++ ts))) eo
    ∙ ap (scan (d ∷ b ∷ st)) (append_assoc inner (c ∷ body) ts)
    ∙ scan-balanced inner hi d (b ∷ st) (c ∷ (body ++ ts))
    ∙ ap (λ v. scan_step v d (b ∷ st) (λ more. scan more (body ++ ts))) ec
    ∙ ap (λ v. cond v (scan (b ∷ st) (body ++ ts)) None) (same d)
    ∙ scan-balanced body hb b st ts

-- what a scan that succeeds went through
pub record Closed (b : ℕ) (st : List ℕ) (ts rest : Lexemes) : Type 0 where
  pub body : Lexemes
  pub last : Lexeme
  pub after : Lexemes
  pub whole : ts ≡ body ++ (last ∷ after)
  pub closes : kind_bracket last.0 ≡ bracket.Closes b
  pub balanced : Balanced body
  pub goes : scan st after ≡ Some rest

Closed-shorter : (b : ℕ) (st : List ℕ) (ts rest : Lexemes) → (c : Closed b st ts rest) → length c.after < length ts
Closed-shorter b st ts rest c = let e = ap length c.whole in let l = length-append c.body (c.last ∷ c.after) in omega arith

closing : (l : Lexeme) (ts : Lexemes) (b d : ℕ) (st : List ℕ) (rest : Lexemes) → kind_bracket l.0 ≡ bracket.Closes d → (v : Bool) → (d == b) ≡ v
    → cond (d == b) (scan st ts) None ≡ Some rest → Closed b st (l ∷ ts) rest
closing l ts b d st rest e true s g = record {
  body = [];
  last = l;
  after = ts;
  whole = refl;
  closes = e ∙ ap bracket.Closes (eqb-true d b s);
  balanced =
      nothing;
  goes = ap (λ v. cond v (scan st ts) None) (sym s) ∙ g;
}
closing l ts b d st rest e false s g = let f : ◌≡◌ {A = Option Lexemes} None (Some rest) = ap (λ v. cond v (scan st ts) None) (sym s) ∙ g in cc

module _ (n : ℕ) (l : Lexeme) (ts rest : Lexemes) (small : length ts ≤ n) (ih : (z : Lexemes) → length z ≤ n → (b : ℕ) (st : List ℕ)
    → scan (b ∷ st) z ≡ Some rest → Closed b st z rest) where
  go : (b : ℕ) (st : List ℕ) (v : Bracket) → kind_bracket l.0 ≡ v → scan_step v b st (λ more. scan more ts) ≡ Some rest → Closed b st (l ∷ ts) rest
  go b st bracket.Other e g =
      let c = ih ts small b st g in
      record {
        body = l ∷ c.body;
        last = c.last;
        after = c.after;
        whole = ap (λ x. l ∷ x) c.whole;
        closes = c.closes;
        balanced = other l c.body e c.balanced;
        goes = c.goes;
      }
  go b st (bracket.Closes d) e g = closing l ts b d st rest e (d == b) refl g
  go b st (bracket.Opens d) e g =
      let c = ih ts small d (b ∷ st) g in
      let short = Closed-shorter d (b ∷ st) ts rest c in
      let k = ih c.after (omega arith) b st c.goes in
      record {
        body = l ∷ (c.body ++ (c.last ∷ k.body));
        last = k.last;
        after = k.after;
        whole = ap (λ x. l ∷ x) (c.whole ∙ ap (λ x. c.body ++ (c.last ∷ x)) k.whole ∙ sym (append_assoc c.body (c.last ∷ k.body) (k.last ∷ k.after)));
        closes = k.closes;
        balanced = nested l c.last d c.body k.body e c.closes c.balanced k.balanced;
        goes = k.goes;
      }

scan-closed : (n : ℕ) (ts : Lexemes) → length ts ≤ n → (b : ℕ) (st : List ℕ) (rest : Lexemes) → scan (b ∷ st) ts ≡ Some rest → Closed b st ts rest
unfolding scan
scan-closed n [] small b st rest h = cc
scan-closed zero (l ∷ ts) small b st rest h = absurd (omega arith)
scan-closed (suc n) (l ∷ ts) small b st rest h = go n l ts rest (omega arith) (λ z s c more g. scan-closed n z s c more rest g) b st (kind_bracket l.0) refl h

-- ---- groups

with_unit-some : (o : Option Lexemes) (u : Unit {0}) (rest : Lexemes) → with_unit o ≡ Some (u, rest) → o ≡ Some rest
with_unit-some None u rest h = cc
with_unit-some (Some ts) u rest h = ap (λ v. Some v) (parts tt u ts rest h).1

module _ (class : ℕ → Bool) where
  fits-sound : (l : Lexeme) (ts rest : Lexemes) (d : ℕ) → kind_bracket l.0 ≡ bracket.Opens d → (v : Bool) → class d ≡ v
      → cond (class d) (scan (d ∷ []) ts) None ≡ Some rest → IsGroup class (l ∷ ts) rest
  unfolding scan
  fits-sound l ts rest d e false r g = let f : ◌≡◌ {A = Option Lexemes} None (Some rest) = ap (λ v. cond v (scan (d ∷ []) ts) None) (sym r) ∙ g in cc
  fits-sound l ts rest d e true r g =
      let c = scan-closed (length ts) ts (omega arith) d [] rest (ap (λ v. cond v (scan (d ∷ []) ts) None) (sym r) ∙ g) in
      record {
        first = l;
        last = c.last;
        closer = d;
        body = c.body;
        whole =
            ap (λ x. l ∷ x) (c.whole ∙ ap (λ x. c.body ++ (c.last ∷ x)) (same_Some c.after rest c.goes));
        opens = e;
        fits = r;
        closes = c.closes;
        balanced =
            c.balanced;
      }

  begin-sound : (l : Lexeme) (ts rest : Lexemes) (v : Bracket) → kind_bracket l.0 ≡ v → begin_scan class v ts ≡ Some rest → IsGroup class (l ∷ ts) rest
  begin-sound l ts rest bracket.Other e g = cc
  begin-sound l ts rest (bracket.Closes d) e g = cc
  begin-sound l ts rest (bracket.Opens d) e g = fits-sound l ts rest d e (class d) refl g

  group-sound : (ts rest : Lexemes) → scan_group class ts ≡ Some rest → IsGroup class ts rest
  group-sound [] rest h = cc
  group-sound (l ∷ ts) rest h = begin-sound l ts rest (kind_bracket l.0) refl h

  group-only : (ts rest : Lexemes) → IsGroup class ts rest → scan_group class ts ≡ Some rest
  unfolding scan
  group-only ts rest g =
      ap (scan_group class) g.whole
      ∙ ap (λ v. begin_scan class v (g.body ++ (g.last ∷ rest))) g.opens
      ∙ ap (λ v. cond v (scan (g.closer ∷ []) (g.body ++ (g.last ∷ rest))) None) g.fits
      ∙ scan-balanced g.body g.balanced g.closer [] (g.last ∷ rest)
      ∙ ap (λ v. scan_step v g.closer [] (λ more. scan more rest)) g.closes
      ∙ ap (λ v. cond v (Some rest) None) (same g.closer)

  -- a group has its two brackets
  group-strict : (ts rest : Lexemes) → IsGroup class ts rest → length rest < length ts
  group-strict ts rest g = let e = ap length g.whole in let l = length-append g.body (g.last ∷ rest) in omega arith

  pub group-firm : Firm (group_closed_by class)
  group-firm = record {
    exact = record {
      sound = λ ts u rest h. group-sound ts rest (with_unit-some (scan_group class ts) u rest h);
      only = λ ts u rest g. ap with_unit (group-only ts rest g);
      shorter = λ ts u rest g. let s = group-strict ts rest g in omega arith;
    };
    strict = λ ts u rest g. group-strict ts rest g;
  }
