-- `token` finds exactly the longest token at the front.
use Rattle.std.proofs.Common.{◌≡◌, ℕ, ◌<◌, ◌≤◌, inl, inr, [], ◌++◌, length, take, drop, Some, None, refl, sym, ap, ◌∙◌, subst, arith}
use Rattle.std.proofs.Math.Seq.{take-append_seam, drop-append_seam}
use Rattle.ir_tokens.specs.declared.token.TokenKind.{TokenKind}
use Rattle.ir_tokens.specs.Bytes.{Text}
use Rattle.ir_tokens.specs.Tokens.{IsToken, NoToken}
use Rattle.ir_tokens.specs.Front.{Found, token}
use Rattle.ir_tokens.proofs.Classes.{Front}
use Rattle.ir_tokens.proofs.Spelled.{Piece, Fits, token-fits}
use Rattle.ir_tokens.proofs.Reached.{Reaches, reaches}

-- the token at the front, n bytes long
pub record First (text : Text) (k : TokenKind) (n : ℕ) : Type 0 where
  pub some : 0 < n
  pub front : Front (IsToken k) text n

Reaches-le : (k k' : TokenKind) (n n' : ℕ) → Reaches k' n' (Some (k, n)) → n' ≤ n
Reaches-le k k' n n' (inl h) = omega (arith, h.1)
Reaches-le k k' n n' (inr h) = omega arith

pub token-First : (text : Text) (k : TokenKind) (n : ℕ) → token text ≡ Some (k, n) → First text k n
token-First text k n e =
    let p : Piece text k n = subst (Fits text) e (token-fits text) in
    let f = p.front in
    record {
      some = p.some;
      front = record {
        s = f.s;
        rest = f.rest;
        whole = f.whole;
        counts = f.counts;
        has = record {
          spelled = f.has;
          longest = λ k' s' rest' spells same.
              let r : Reaches k' (length s') (Some (k, n)) = subst (Reaches k' (length s')) (ap token (same ∙ sym f.whole) ∙ e) (reaches k' s' rest' spells) in
              let le = Reaches-le k k' n (length s') r in
              let c = f.counts in omega arith;
        };
      };
    }

pub token-NoToken : (text : Text) → token text ≡ None → NoToken text
token-NoToken text e k s rest spells same = subst (Reaches k (length s)) (ap token same ∙ e) (reaches k s rest spells)

found_only : (k : TokenKind) (s rest : Text) (f : Found) → token (s ++ rest) ≡ f → Reaches k (length s) f → IsToken k s rest → f ≡ Some (k, length s)
found_only k s rest None e r t = absurd r
found_only k s rest (Some (k', n)) e (inl h) t = ap (λ c. Some (c, n)) h.0 ∙ ap (λ m. Some (k, m)) h.1
found_only k s rest (Some (k', n)) e (inr h) t =
    let f = (subst (Fits (s ++ rest)) e (token-fits (s ++ rest))).front in
    let le = t.longest k' f.s f.rest f.has (sym f.whole) in
    let c = f.counts in absurd (omega arith)

pub token-IsToken : (k : TokenKind) (s rest : Text) → IsToken k s rest → token (s ++ rest) ≡ Some (k, length s)
token-IsToken k s rest t = found_only k s rest (token (s ++ rest)) refl (reaches k s rest t.spelled) t

-- a spelling that is found is a token
pub IsToken-token : (k : TokenKind) (s rest : Text) → token (s ++ rest) ≡ Some (k, length s) → IsToken k s rest
IsToken-token k s rest e =
    let f = (token-First (s ++ rest) k (length s) e).front in
    let front : s ≡ f.s = sym (take-append_seam s rest) ∙ ap (λ n. take n (s ++ rest)) (sym f.counts) ∙ ap (λ t. take (length f.s) t) f.whole
    ∙ take-append_seam f.s f.rest in
    let behind : rest ≡ f.rest = sym (drop-append_seam s rest) ∙ ap (λ n. drop n (s ++ rest)) (sym f.counts) ∙ ap (λ t. drop (length f.s) t) f.whole
    ∙ drop-append_seam f.s f.rest in
    subst (λ t. IsToken k s t) (sym behind) (subst (λ t. IsToken k t f.rest) (sym front) f.has)

abbrev found_or : TokenKind × ℕ → Found → TokenKind × ℕ
found_or d None = d
found_or d (Some t) = t

-- two tokens at one front are of one kind, and the same follows them
pub record SameFront (k k' : TokenKind) (after after' : Text) : Type 0 where
  pub kind : k ≡ k'
  pub rest : after ≡ after'

pub IsToken-same : (k k' : TokenKind) (s s' rest rest' : Text) → IsToken k s rest → IsToken k' s' rest' → s ++ rest ≡ s' ++ rest' → SameFront k k' rest rest'
IsToken-same k k' s s' rest rest' t t' e =
    let found : ◌≡◌ {A = Found} (Some (k, length s)) (Some (k', length s')) = sym (token-IsToken k s rest t) ∙ ap token e ∙ token-IsToken k' s' rest' t' in
    let len : length s ≡ length s' = ap (λ (f : Found). (found_or (k, length s) f).1) found in
    record {
      kind = ap (λ (f : Found). (found_or (k, length s) f).0) found;
      rest = sym (drop-append_seam s rest) ∙ ap (λ t. drop (length s) t) e ∙ ap (λ n. drop n (s' ++ rest')) len ∙ drop-append_seam s' rest';
    }

pub IsToken-some : (k : TokenKind) (s rest : Text) → IsToken k s rest → 0 < length s
IsToken-some k s rest t = (token-First (s ++ rest) k (length s) (token-IsToken k s rest t)).some

pub NoToken-nil : NoToken []
unfolding token
NoToken-nil = token-NoToken [] refl
