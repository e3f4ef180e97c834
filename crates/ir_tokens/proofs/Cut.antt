-- A text is cut in one way, up to its end or its first fault.
use Rattle.std.proofs.Common.{◌≡◌, ℕ, zero, suc, ◌+◌, ◌-◌, ◌<◌, ◌≤◌, ◌⊎◌, inl, inr, List, [], ◌∷◌, ◌++◌, length, Some, None, refl, sym, ap, ◌∙◌, subst, arith}
use Rattle.std.proofs.lemmas.List.{length-append}
use Rattle.std.proofs.lemmas.Bool.{cases_eq}
use Rattle.ir_tokens.specs.declared.token.TokenKind.{TokenKind}
use Rattle.ir_tokens.specs.declared.token.Token.{Token}
use Rattle.ir_tokens.specs.Bytes.{Text, NotFirst}
use Rattle.ir_tokens.specs.Tokens.{begins_gap, Skips, IsToken, NoToken, Begins, HasTokens, Fault, BadByte, OpenQuote, FaultAt, HasFault}
use Rattle.ir_tokens.specs.Front.{Found, token, skip}
use Rattle.ir_tokens.proofs.Longest.{First, token-First, token-NoToken, IsToken-same, NoToken-nil}
use Rattle.ir_tokens.proofs.Gaps.{skip-Skipped, Skips-same, Spells-stops}

-- ---- the front of a text, and then nothing that could be a token

pub record Ends (n : ℕ) (text : Text) (ts : List Token) (left : Text) : Type 0 where
  pub rest : Text
  pub begins : Begins n text ts rest
  pub skips : Skips left rest
  pub stops : NotFirst begins_gap left
  pub none : NoToken left

pub HasTokens-Ends : (text : Text) (ts : List Token) → HasTokens text ts → Ends (length text) text ts []
HasTokens-Ends text ts (rest, b, s) = record { rest = rest; begins = b; skips = s; stops = tt; none = NoToken-nil }

pub HasFault-Ends : (text : Text) (at : ℕ) (f : Fault) → (h : HasFault text at f) → Ends (length text) text h.before h.left
HasFault-Ends text at f h = record { rest = h.rest; begins = h.begins; skips = h.skips; stops = h.stops; none = h.none }

-- ---- one more token

pub Begins-push : (n : ℕ) (text : Text) (ts : List Token) (rest s after : Text) (t : Token) → Begins n text ts rest → Skips (s ++ after) rest
    → IsToken t.kind s after
    → t.from + length (s ++ after) ≡ n → t.to + length after ≡ n → Begins n text (ts ++ (t ∷ [])) after
Begins-push n text [] rest s after t b skips is from to = (s, after, subst (Skips (s ++ after)) (sym b) skips, is, from, to, refl)
Begins-push n text (u ∷ us) rest s after t (s', after', k, is', f, g, more) skips is from to =
    (s', after', k, is', f, g, Begins-push n after' us rest s after t more skips is from to)

-- ---- one way

place_same : (n x y : ℕ) (a b : Text) → x + length a ≡ n → y + length b ≡ n → a ≡ b → x ≡ y
place_same n x y a b p q e = let l : length a ≡ length b = ap length e in omega arith

Token-same : (t u : Token) → t.kind ≡ u.kind → t.from ≡ u.from → t.to ≡ u.to → t ≡ u
Token-same t u k f g = ap (λ c. record t { kind = c }) k ∙ ap (λ c. record u { from = c; to = t.to }) f ∙ ap (λ c. record u { to = c }) g

-- one way to cut goes on where the other has stopped
clash : (n : ℕ) (text rest rest' left : Text) (u : Token) (us : List Token) → text ≡ rest → Skips left rest → NotFirst begins_gap left → NoToken left
    → Begins n text (u ∷ us) rest' → ⊥
clash n text rest rest' left u us e skips stops none (s, after, k, is, f, g, more) =
    none u.kind s after is.spelled (Skips-same text (s ++ after) left k (Spells-stops u.kind s after is.spelled) (subst (Skips left) (sym e) skips) stops)

Begins-same : (n : ℕ) (text : Text) (ts us : List Token) (r r' x y : Text) → Begins n text ts r → Skips x r → NotFirst begins_gap x → NoToken x
    → Begins n text us r' → Skips y r' → NotFirst begins_gap y → NoToken y → (ts ≡ us) × (x ≡ y)
Begins-same n text [] [] r r' x y a sx px nx b sy py ny = (refl, Skips-same text x y (subst (Skips x) (sym a) sx) px (subst (Skips y) (sym b) sy) py)
Begins-same n text [] (u ∷ us) r r' x y a sx px nx b sy py ny = absurd (clash n text r r' x u us a sx px nx b)
Begins-same n text (t ∷ ts) [] r r' x y a sx px nx b sy py ny = absurd (clash n text r' r y t ts b sy py ny a)
Begins-same n text (t ∷ ts) (u ∷ us) r r' x y (s, after, k, is, f, g, more) sx px nx (s', after', k', is', f', g', more') sy py ny =
    let e : s ++ after ≡ s' ++ after' = Skips-same text _ _ k (Spells-stops t.kind s after is.spelled) k' (Spells-stops u.kind s' after' is'.spelled) in
    let q = IsToken-same t.kind u.kind s s' after after' is is' e in
    let same : t ≡ u = Token-same t u q.kind (place_same n t.from u.from _ _ f f' e) (place_same n t.to u.to _ _ g g' q.rest) in
    let others = Begins-same n after ts us r r' x y more sx px nx (subst (λ w. Begins n w us r') (sym q.rest) more') sy py ny in
    (ap (λ c. c ∷ ts) same ∙ ap (λ c. u ∷ c) others.0, others.1)

Ends-same : (n : ℕ) (text : Text) (ts us : List Token) (x y : Text) → Ends n text ts x → Ends n text us y → (ts ≡ us) × (x ≡ y)
Ends-same n text ts us x y a b = Begins-same n text ts us a.rest b.rest x y a.begins a.skips a.stops a.none b.begins b.skips b.stops b.none

FaultAt-same : (left : Text) (f g : Fault) → FaultAt left f → FaultAt left g → f ≡ g
FaultAt-same [] f g a b = absurd a
FaultAt-same (b ∷ text) BadByte BadByte p q = refl
FaultAt-same (b ∷ text) BadByte OpenQuote p q = absurd (p q)
FaultAt-same (b ∷ text) OpenQuote BadByte p q = absurd (q p)
FaultAt-same (b ∷ text) OpenQuote OpenQuote p q = refl

FaultAt-some : (left : Text) (f : Fault) → FaultAt left f → left ≡ [] → ⊥
FaultAt-some left f h e = let P : Text → Type 0 = λ c. FaultAt c f in subst P e h

pub HasTokens-same : (text : Text) (ts us : List Token) → HasTokens text ts → HasTokens text us → ts ≡ us
HasTokens-same text ts us a b = (Ends-same (length text) text ts us [] [] (HasTokens-Ends text ts a) (HasTokens-Ends text us b)).0

pub HasTokens-HasFault : (text : Text) (ts : List Token) (at : ℕ) (f : Fault) → HasTokens text ts → HasFault text at f → ⊥
HasTokens-HasFault text ts at f a b = FaultAt-some b.left f b.cause
    (sym (Ends-same (length text) text ts b.before [] b.left (HasTokens-Ends text ts a) (HasFault-Ends text at f b)).1)

pub HasFault-same : (text : Text) (at at' : ℕ) (f f' : Fault) → HasFault text at f → HasFault text at' f' → (at ≡ at') × (f ≡ f')
HasFault-same text at at' f f' a b =
    let e = (Ends-same (length text) text a.before b.before a.left b.left (HasFault-Ends text at f a) (HasFault-Ends text at' f' b)).1 in (
      place_same (length text) at at' a.left b.left a.place b.place e,
      let P : Text → Type 0 = λ c. FaultAt c f' in FaultAt-same a.left f f' a.cause
          (subst P (sym e) b.cause),
    )

-- ---- some way

-- the places count from the front of a text of n bytes
abbrev Stops : ℕ → Text → Type 0
Stops n text = (ts : List Token) × (left : Text) × Ends n text ts left × (length left ≤ length text)

stops_here : (n : ℕ) (text : Text) → token (skip text) ≡ None → Stops n text
stops_here n text e = let s = skip-Skipped text in (
  [],
  skip text,
  record {
    rest = text;
    begins = refl;
    skips = s.skips;
    stops = s.stops;
    none =
        token-NoToken (skip text) e;
  },
  s.shorter,
)

First-shorter : (text : Text) (k : TokenKind) (m : ℕ) → (f : First text k m) → (length f.front.rest < length text) × (length text ≡ m + length f.front.rest)
First-shorter text k m f =
    let c = f.front.counts in let some = f.some in
    let len : length text ≡ length f.front.s + length f.front.rest = ap length f.front.whole ∙ length-append f.front.s f.front.rest in
    (omega arith, omega arith)

stops_behind : (n : ℕ) (text : Text) (k : TokenKind) (m : ℕ) → length text ≤ n → (f : First (skip text) k m) → Stops n f.front.rest → Stops n text
stops_behind n text k m le f (ts, left, ends, shorter) =
    let s = skip-Skipped text in
    let behind = f.front.rest in
    let less = First-shorter (skip text) k m f in
    let within = s.shorter in
    let t : Token = record { kind = k; from = n - length (skip text); to = n - length behind } in
    let from : t.from + length (skip text) ≡ n = omega (arith, less.0) in
    let to : t.to + length behind ≡ n = omega (arith, less.0) in (
      t ∷ ts,
      left,
      record {
        rest = ends.rest;
        begins = (
          f.front.s,
          behind,
          subst (λ c. Skips c text) f.front.whole s.skips,
          f.front.has,
          subst (λ c. t.from + length c ≡ n) f.front.whole from,
          to,
          ends.begins,
        );
        skips = ends.skips;
        stops = ends.stops;
        none = ends.none;
      },
      omega (arith, less.0),
    )

-- by the number of bytes left
stops_within : (fuel n : ℕ) (text : Text) → length text ≤ fuel → length text ≤ n → (f : Found) → token (skip text) ≡ f → Stops n text
stops_within fuel n text h le None e = stops_here n text e
stops_within zero n text h le (Some (k, m)) e =
    let f = token-First (skip text) k m e in let less = First-shorter (skip text) k m f in let s = (skip-Skipped text).shorter in absurd (omega (arith, less.0))
stops_within (suc fuel) n text h le (Some (k, m)) e =
    let f = token-First (skip text) k m e in
    let less = First-shorter (skip text) k m f in
    let s = (skip-Skipped text).shorter in
    stops_behind n text k m le f (stops_within fuel n f.front.rest (omega (arith, less.0)) (omega (arith, less.0)) (token (skip f.front.rest)) refl)

ends_well : (text : Text) (ts : List Token) (left : Text) → Ends (length text) text ts left → length left ≤ length text
    → ((us : List Token) × HasTokens text us) ⊎ ((at : ℕ) × (f : Fault) × HasFault text at f)
ends_well text ts [] e le = inl (ts, (e.rest, e.begins, e.skips))
ends_well text ts (b ∷ left) e le = elim (cases_eq b 34) [
  | inl quote ↦ inr (
    length text - length (b ∷ left),
    OpenQuote,
    record {
      before = ts;
      rest = e.rest;
      left = b ∷ left;
      begins = e.begins;
      skips = e.skips;
      stops = e.stops;
      none = e.none;
      cause = quote;
      place = omega arith;
    },
  )
  | inr other ↦ inr (
    length text - length (b ∷ left),
    BadByte,
    record {
      before = ts;
      rest = e.rest;
      left = b ∷ left;
      begins = e.begins;
      skips = e.skips;
      stops = e.stops;
      none = e.none;
      cause = other;
      place = omega arith;
    },
  )
]

pub HasTokens-or-HasFault : (text : Text) → ((ts : List Token) × HasTokens text ts) ⊎ ((at : ℕ) × (f : Fault) × HasFault text at f)
HasTokens-or-HasFault text = let s = stops_within (length text) (length text) text (omega arith) (omega arith) (token (skip text)) refl in
    ends_well text s.0 s.1 s.2 s.3
