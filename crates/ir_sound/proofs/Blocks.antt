-- The blocks of a function, each with its `phi` first and its only terminator last, as one pass over the items finds them.
use Rattle.std.proofs.Common.{◌≡◌, inl, inr, ℕ, suc, ◌+◌, ◌-◌, ◌<◌, ◌≤◌, Bool, true, false, not, ◌&&◌, ◌||◌, List, [], ◌∷◌, ◌++◌, length, slice_get}
use Rattle.std.proofs.Common.{Option, Some, None, nat_lt, if◌then◌else◌, refl, sym, ap, ◌∙◌, subst, arith, append_assoc, append-nil}
use Rattle.std.specs.List.{fold}
use Rattle.std.proofs.lemmas.List.{length-append}
use Rattle.std.proofs.lemmas.Option.{slice_get_within}
use Rattle.std.proofs.lemmas.Bool.Decides.{nat_tests}
use Rattle.ir_tree.specs.declared.name.Name.{Name}
use Rattle.ir_tree.specs.declared.type_text.TyText.{TyText}
use Rattle.ir_tree.specs.declared.op.Op.{Op}
use Rattle.ir_tree.specs.declared.item.Item.{Item}
use Rattle.ir_tree.specs.declared.item.Item.TheVariants as item
use Rattle.ir_rules.specs.declared.local.Local.TheVariants.{Value, Block}
use Rattle.ir_rules.specs.declared.rule.Rule.TheVariants.{BlockOpen, PhiPlace}
use Rattle.ir_rules.specs.declared.scope.Scope.{Scope}
use Rattle.ir_rules.specs.Types.{Kinds}
use Rattle.ir_rules.specs.Scopes.{is_phi, is_terminator, empty_scope, with_parameter, with_block, with_name_or_number, with_first_block, value_kind, is_call}
use Rattle.ir_rules.specs.Scopes.{with_result, with_item, value_register}
use Rattle.ir_rules.specs.Settings.{Setting, last_block}
use Rattle.ir_rules.specs.Blocks.{phi_place, in_first_block, block_open}
use Rattle.ir_sound.proofs.Lists.{no, neither, get-cases}
use Rattle.ir_sound.proofs.Scopes.{name-parts}
use Rattle.ir_sound.proofs.Places.{Place, places_in, placed, KeepsIn, KeptFrom, IsBody, result-parts}

-- the places from one to another end with their only terminator
pub record Ended (start next : ℕ) (l : List Place) : Type 0 where
  pub some : start < next
  pub ends : (i : ℕ) (p : Place) → start ≤ i → i < next → slice_get l i ≡ Some p → is_terminator p.op ≡ true → i + 1 ≡ next
  pub ending : (i : ℕ) (p : Place) → i + 1 ≡ next → slice_get l i ≡ Some p → is_terminator p.op ≡ true

-- they belong to a block, and begin with its `phi`
pub record Spans (b start next : ℕ) (l : List Place) : Type 0 where
  pub within : next ≤ length l
  pub phis : (i : ℕ) (p q : Place) → start ≤ i → i + 1 < next → slice_get l i ≡ Some p → slice_get l (i + 1) ≡ Some q → is_phi q.op ≡ true → is_phi p.op ≡ true
  pub owned : (i : ℕ) (p : Place) → start ≤ i → i < next → slice_get l i ≡ Some p → last_block p.before ≡ b

-- the last block so far
pub record Opened (b start : ℕ) (terminated mixed : Bool) (l : List Place) : Type 0 where
  pub from : start ≤ length l
  pub spans : Spans b start (length l) l
  pub going : terminated ≡ false → (i : ℕ) (p : Place) → start ≤ i → slice_get l i ≡ Some p → is_terminator p.op ≡ false
  pub ended : terminated ≡ true → Ended start (length l) l
  pub unmixed : mixed ≡ false → (i : ℕ) (p : Place) → start ≤ i → slice_get l i ≡ Some p → is_phi p.op ≡ true

-- what a scope says of the instructions so far
pub record Blocked (starts : List ℕ) (count : ℕ) (terminated mixed : Bool) (l : List Place) : Type 0 where
  pub counted : count ≡ length l
  pub first : (start : ℕ) → slice_get starts 0 ≡ Some start → start ≡ 0
  pub none : length starts ≡ 0 → length l ≡ 0
  pub closed : (b start next : ℕ) → slice_get starts b ≡ Some start → slice_get starts (suc b) ≡ Some next → Spans b start next l × Ended start next l
  pub last : (b start : ℕ) → slice_get starts b ≡ Some start → suc b ≡ length starts → Opened b start terminated mixed l

abbrev pub BlockedIn : Scope → List Place → Type 0
BlockedIn s l = Blocked s.starts (length s.results) s.terminated s.mixed l

blocked-along : (ss ts : List ℕ) (m n : ℕ) (a b c d : Bool) (l : List Place) → ts ≡ ss → n ≡ m → b ≡ a → d ≡ c → Blocked ss m a c l → Blocked ts n b d l
blocked-along ss ts m n a b c d l e f g h x =
    let P : List ℕ → Type 0 = λ v. Blocked v m a c l in
    let Q : ℕ → Type 0 = λ v. Blocked ts v a c l in
    let R : Bool → Type 0 = λ v. Blocked ts n v c l in
    let S : Bool → Type 0 = λ v. Blocked ts n b v l in
    subst S (sym h) (subst R (sym g) (subst Q (sym f) (subst P (sym e) x)))

-- ---- one instruction more

get-back : (l : List Place) (p : Place) (i : ℕ) (q : Place) → i < length l → slice_get (l ++ p ∷ []) i ≡ Some q → slice_get l i ≡ Some q
get-back l p i q w h = elim (get-cases l p i q h) [ inl e ↦ e | inr e ↦ (let same = e.0 in absurd (omega arith)) ]

spans-on : (b start next : ℕ) (l : List Place) (p : Place) → Spans b start next l → Spans b start next (l ++ p ∷ [])
spans-on b start next l p s =
    let w = s.within in
    record {
      within = omega (arith, length-append l (p ∷ []));
      phis = λ i x y m n g h. s.phis i x y m n (get-back l p i x (omega arith) g) (get-back l p (i + 1) y (omega arith) h);
      owned = λ i x m n g. s.owned i x m n (get-back l p i x (omega arith) g);
    }

ended-on : (start next : ℕ) (l : List Place) (p : Place) → next ≤ length l → Ended start next l → Ended start next (l ++ p ∷ [])
ended-on start next l p w e = record {
  some = e.some;
  ends = λ i x m n g. e.ends i x m n (get-back l p i x (omega arith) g);
  ending = λ i x m g. e.ending i x m (get-back l p i x (omega arith) g);
}

module _ (b start : ℕ) (mixed : Bool) (l : List Place) (p : Place) (o : Opened b start false mixed l) (own : last_block p.before ≡ b)
    (pure : is_phi p.op ≡ true → mixed ≡ false) where
  longer : length (l ++ p ∷ []) ≡ length l + 1
  longer = length-append l (p ∷ [])

  last-phis : (i : ℕ) (x y : Place) → start ≤ i → i + 1 < length (l ++ p ∷ []) → slice_get (l ++ p ∷ []) i ≡ Some x → slice_get (l ++ p ∷ []) (i + 1) ≡ Some y
      → is_phi y.op ≡ true → is_phi x.op ≡ true
  last-phis i x y m n g h q = elim (get-cases l p (i + 1) y h) [
    | inl e ↦ (let w = slice_get_within l (i + 1) y e in o.spans.phis i x y m w (get-back l p i x (omega arith) g) e q)
    | inr e ↦ (let at = e.0 in o.unmixed (pure (ap (λ (z : Place). is_phi z.op) e.1 ∙ q)) i x m (get-back l p i x (omega arith) g))
  ]

  last-owned : (i : ℕ) (x : Place) → start ≤ i → i < length (l ++ p ∷ []) → slice_get (l ++ p ∷ []) i ≡ Some x → last_block x.before ≡ b
  last-owned i x m n g = elim (get-cases l p i x g) [
    | inl e ↦ o.spans.owned i x m (slice_get_within l i x e) e
    | inr e ↦ ap (λ (z : Place). last_block z.before) (sym e.1) ∙ own
  ]

  last-going : (v : Bool) → is_terminator p.op ≡ v → v ≡ false → (i : ℕ) (x : Place) → start ≤ i → slice_get (l ++ p ∷ []) i ≡ Some x
      → is_terminator x.op ≡ false
  last-going v e f i x m g = elim (get-cases l p i x g) [
    | inl h ↦ o.going refl i x m h
    | inr h ↦ ap (λ (z : Place). is_terminator z.op) (sym h.1) ∙ e ∙ f
  ]

  last-ends : (i : ℕ) (x : Place) → start ≤ i → slice_get (l ++ p ∷ []) i ≡ Some x → is_terminator x.op ≡ true → i + 1 ≡ length (l ++ p ∷ [])
  last-ends i x m g t = elim (get-cases l p i x g) [
    | inl h ↦ (let no : false ≡ true = sym (o.going refl i x m h) ∙ t in cc)
    | inr h ↦ (let at = h.0 in omega (arith, longer))
  ]

  last-ended : is_terminator p.op ≡ true → Ended start (length (l ++ p ∷ [])) (l ++ p ∷ [])
  last-ended t =
      let f = o.from in
      record {
        some = omega (arith, longer);
        ends = λ i x m n g. last-ends i x m g;
        ending = λ i x m g. elim (get-cases l p i x g) [
          | inl h ↦ (let w = slice_get_within l i x h in absurd (omega (arith, longer)))
          | inr h ↦ ap (λ (z : Place). is_terminator z.op) (sym h.1) ∙ t
        ];
      }

  last-unmixed : (mixed || not (is_phi p.op)) ≡ false → (i : ℕ) (x : Place) → start ≤ i → slice_get (l ++ p ∷ []) i ≡ Some x → is_phi x.op ≡ true
  last-unmixed u i x m g = elim (get-cases l p i x g) [
    | inl h ↦ o.unmixed (neither _ _ u).0 i x m h
    | inr h ↦ ap (λ (z : Place). is_phi z.op) (sym h.1) ∙ no _ (neither mixed _ u).1
  ]

  opened-more : Opened b start (is_terminator p.op) (mixed || not (is_phi p.op)) (l ++ p ∷ [])
  opened-more =
      let f = o.from in
      record {
        from = omega (arith, longer);
        spans = record { within = omega arith; phis = last-phis; owned = last-owned };
        going = λ e i x m g. last-going (is_terminator p.op) refl e i x m g;
        ended = last-ended;
        unmixed = last-unmixed;
      }

op-blocked : (starts : List ℕ) (count : ℕ) (mixed : Bool) (l : List Place) (p : Place) → Blocked starts count false mixed l → 0 < length starts
    → last_block p.before ≡ length starts - 1 → (is_phi p.op ≡ true → mixed ≡ false)
    → Blocked starts (count + 1) (is_terminator p.op) (mixed || not (is_phi p.op)) (l ++ p ∷ [])
op-blocked starts count mixed l p s some own pure =
    let c = s.counted in
    record {
      counted = omega (arith, length-append l (p ∷ []));
      first = s.first;
      none = λ z. absurd (omega arith);
      closed = λ b start next g h.
          let old = s.closed b start next g h in
          (spans-on b start next l p old.0, ended-on start next l p old.0.within old.1);
      last = λ b start g e. opened-more b start mixed l p (s.last b start g e) (own ∙ omega arith) pure;
    }

-- ---- one block more

new-opened : (b : ℕ) (l : List Place) → Opened b (length l) false false l
new-opened b l = record {
  from = omega arith;
  spans = record {
    within = omega arith;
    phis = λ i p q m n g h t. absurd (omega arith);
    owned = λ i p m n g. absurd (omega arith);
  };
  going = λ e i p m g. (let w = slice_get_within l i p g in absurd (omega arith));
  ended = λ e. cc;
  unmixed = λ e i p m g. (let w = slice_get_within l i p g in absurd (omega arith));
}

module _ (starts : List ℕ) (count : ℕ) (terminated mixed : Bool) (l : List Place) (s : Blocked starts count terminated mixed l)
    (whole : 0 < length starts → terminated ≡ true) where
  new-first : (start : ℕ) → slice_get (starts ++ count ∷ []) 0 ≡ Some start → start ≡ 0
  new-first start h = elim (get-cases starts count 0 start h) [
    | inl e ↦ s.first start e
    | inr e ↦ (let at = e.0 in let none = s.none (omega arith) in let c = s.counted in let same = e.1 in omega arith)
  ]

  now-closed : (b start next : ℕ) → slice_get starts b ≡ Some start → suc b ≡ length starts → count ≡ next → Spans b start next l × Ended start next l
  now-closed b start next g e f =
      let o = s.last b start g e in
      let same : length l ≡ next = sym s.counted ∙ f in
      let P : ℕ → Type 0 = λ n. Spans b start n l × Ended start n l in
      subst P same (o.spans, o.ended (whole (omega arith)))

  new-closed : (b start next : ℕ) → slice_get (starts ++ count ∷ []) b ≡ Some start → slice_get (starts ++ count ∷ []) (suc b) ≡ Some next
      → Spans b start next l × Ended start next l
  new-closed b start next g h = elim (get-cases starts count (suc b) next h) [
    | inl e ↦ elim (get-cases starts count b start g) [
      | inl f ↦ s.closed b start next f e
      | inr f ↦ (let w = slice_get_within starts (suc b) next e in let at = f.0 in absurd (omega arith))
    ]
    | inr e ↦ elim (get-cases starts count b start g) [
      | inl f ↦ now-closed b start next f e.0 e.1
      | inr f ↦ (let at = f.0 in let there = e.0 in absurd (omega arith))
    ]
  ]

  new-last : (b start : ℕ) → slice_get (starts ++ count ∷ []) b ≡ Some start → suc b ≡ length (starts ++ count ∷ []) → Opened b start false false l
  new-last b start g e = elim (get-cases starts count b start g) [
    | inl f ↦ (let w = slice_get_within starts b start f in absurd (omega (arith, length-append starts (count ∷ []))))
    | inr f ↦ (let same : length l ≡ start = sym s.counted ∙ f.1 in let P : ℕ → Type 0 = λ n. Opened b n false false l in subst P same (new-opened b l))
  ]

  block-blocked : Blocked (starts ++ count ∷ []) count false false l
  block-blocked = record {
    counted = s.counted;
    first = new-first;
    none = λ z. absurd (omega (arith, length-append starts (count ∷ [])));
    closed = new-closed;
    last = new-last;
  }

-- ---- scopes

label-blocked : (s : Scope) (n : Option Name) (l : List Place) → BlockedIn s l → (0 < length s.starts → s.terminated ≡ true) → BlockedIn (with_block s n) l
label-blocked s n l h whole =
    let same = name-parts s n (Block (length s.starts)) in
    let t = with_name_or_number s n (Block (length s.starts)) in
    blocked-along (s.starts ++ length s.results ∷ []) (t.starts ++ length t.results ∷ []) (length s.results) (length t.results) false false false false l
    (ap (λ (v : List ℕ). v ++ length t.results ∷ []) same.starts ∙ ap (λ (v : List (Option ℕ)). s.starts ++ length v ∷ []) same.results)
    (ap (λ (v : List (Option ℕ)). length v) same.results)
    refl
    refl
    (block-blocked s.starts (length s.results) s.terminated s.mixed l h whole)

-- before its first label a function may have an instruction, which opens a block; a block that is open has no terminator
pub record Going (s t : Scope) (l : List Place) : Type 0 where
  pub blocked : BlockedIn t l
  pub some : 0 < length t.starts
  pub number : length t.starts - 1 ≡ last_block s
  pub terminated : t.terminated ≡ false
  pub mixed : t.mixed ≡ true → s.mixed ≡ true

first-going : (s : Scope) (l : List Place) → BlockedIn s l → s.terminated ≡ false → Going s (with_first_block s) l
first-going s l h e = by (nat_lt 0 (length s.starts)) refl
  where
    by : (b : Bool) → nat_lt 0 (length s.starts) ≡ b → Going s (if b then s else with_block s None) l
    by true some = record { blocked = h; some = grind (arith, nat_tests); number = refl; terminated = e; mixed = λ m. m }
    by false some =
        let none : length s.starts ≡ 0 = grind (arith, nat_tests) in
        let t = with_name_or_number s None (Block (length s.starts)) in
        let same = ap (λ (v : List ℕ). length v) (name-parts s None (Block (length s.starts))).starts in
        record {
          blocked = label-blocked s None l h (λ p. absurd (omega arith));
          some = omega (arith, length-append t.starts (length t.results ∷ []));
          number = omega (arith, length-append t.starts (length t.results ∷ []));
          terminated = refl;
          mixed = λ m. cc;
        }

-- ---- items

abbrev fresh : Scope → Scope
fresh s = record s { again = false; low = false }

unmixed : (m n f a : Bool) → (m ≡ true → n ≡ true) → (f && (a || n)) ≡ false → f ≡ true → m ≡ false
unmixed false n f a h e g = refl
unmixed true true true true h e g = cc
unmixed true true true false h e g = cc
unmixed true true false a h e g = cc
unmixed true false f a h e g = let no = h refl in cc

-- a label or an end stands behind a whole block
whole-block : (b : ℕ) (t : Bool) → (nat_lt 0 b && not t) ≡ false → 0 < b → t ≡ true
whole-block b true e l = refl
whole-block b false e l = by (nat_lt 0 b) refl e
  where
    by : (v : Bool) → nat_lt 0 b ≡ v → (v && true) ≡ false → false ≡ true
    by true f g = sym g
    by false f g = absurd (grind (arith, nat_tests))

open-end : (b : ℕ) (t : Bool) → (not (nat_lt 0 b) || not t) ≡ false → (0 < b) × (t ≡ true)
open-end b t e =
    let two = neither _ _ e in
    let some : nat_lt 0 b ≡ true = no _ two.0 in
    (grind (arith, nat_tests), no _ two.1)

-- what holds of the whole function
pub record AllBlocked (f : Scope) (l : List Place) : Type 0 where
  pub blocked : BlockedIn f l
  pub some : 0 < length f.starts
  pub terminated : f.terminated ≡ true

module _ (b : Setting) where
  instr-blocked : (s : Scope) (r : Option Name) (o : Op) (l : List Place) → BlockedIn s l → KeepsIn b s (item.Instr r o)
      → BlockedIn (with_item b.kind s (item.Instr r o)) (l ++ record { before = s; result = r; op = o } ∷ [])
  instr-blocked s r o l h k =
      let p : Place = record { before = s; result = r; op = o } in
      let terminated : s.terminated ≡ false = k.1 BlockOpen in
      let phi : phi_place (placed b s k.0) (item.Instr r o) ≡ false = k.1 PhiPlace in
      let g = first-going (fresh s) l h terminated in
      let t = with_first_block (fresh s) in
      let same = result-parts t r (is_call o) (value_kind b.kind o) in
      let u = with_result t r (is_call o) (value_kind b.kind o) in
      blocked-along t.starts u.starts (length t.results + 1) (length (u.results ++ value_register s o ∷ [])) (is_terminator o)
      (u.terminated || is_terminator o) (t.mixed || not (is_phi o)) (u.mixed || not (is_phi o)) (l ++ p ∷ [])
      same.0
      (length-append u.results (value_register s o ∷ []) ∙ ap (λ (v : List (Option ℕ)). length v + 1) same.1)
      (ap (λ v. v || is_terminator o) (same.2 ∙ g.terminated))
      (ap (λ v. v || not (is_phi o)) same.3)
      (op-blocked t.starts (length t.results) t.mixed l p (let P : Bool → Type 0 = λ v. Blocked t.starts (length t.results) v t.mixed l in
      subst P g.terminated g.blocked) g.some (sym g.number)
      (unmixed t.mixed s.mixed (is_phi o) (in_first_block s) g.mixed phi))

  pub body-blocked : (s : Scope) (xs : List Item) (l : List Place) → BlockedIn s l → KeptFrom b s xs → IsBody xs
      → AllBlocked (fold (with_item b.kind) s xs) (l ++ places_in b.kind s xs)
  body-blocked s [] l h k w = absurd w
  body-blocked s (item.End ∷ []) l h k w =
      let whole : block_open (placed b s k.0.0) item.End ≡ false = k.0.1 BlockOpen in
      let two = open-end (length s.starts) s.terminated whole in
      let P : List Place → Type 0 = λ l. AllBlocked (fresh s) l in
      subst P (sym (append-nil l)) (record { blocked = h; some = two.0; terminated = two.1 })
  body-blocked s (item.Label n ∷ xs) l h k w =
      let whole : block_open (placed b s k.0.0) (item.Label n) ≡ false = k.0.1 BlockOpen in
      body-blocked (with_item b.kind s (item.Label n)) xs l
      (label-blocked (fresh s) (Some n) l h (whole-block (length s.starts) s.terminated whole)) k.1 w
  body-blocked s (item.Instr r o ∷ xs) l h k w =
      let p : Place = record { before = s; result = r; op = o } in
      let s' = with_item b.kind s (item.Instr r o) in
      let P : List Place → Type 0 = λ l. AllBlocked (fold (with_item b.kind) s' xs) l in
      subst P (append_assoc l (p ∷ []) (places_in b.kind s' xs)) (body-blocked s' xs (l ++ p ∷ []) (instr-blocked s r o l h k.0) k.1 w)
  body-blocked s (item.Head n t ps ∷ xs) l h k w = absurd w
  body-blocked s (item.TypeDef n t ∷ xs) l h k w = absurd w
  body-blocked s (item.Global n c t i ∷ xs) l h k w = absurd w
  body-blocked s (item.Declare n t ts ∷ xs) l h k w = absurd w
  body-blocked s (item.End ∷ x ∷ xs) l h k w = absurd w

-- ---- from the head on

parameters-blocked : (kind : Kinds) (ps : List (TyText × Option Name)) (s : Scope) (l : List Place) → BlockedIn s l
    → BlockedIn (fold (with_parameter kind) s ps) l
parameters-blocked kind [] s l h = h
parameters-blocked kind (p ∷ ps) s l h =
    let same = name-parts s p.1 (Value (kind p.0) (length s.types)) in
    let t = with_name_or_number s p.1 (Value (kind p.0) (length s.types)) in
    parameters-blocked kind ps (with_parameter kind s p) l
    (blocked-along s.starts t.starts (length s.results) (length t.results) s.terminated t.terminated s.mixed t.mixed l
    same.starts (ap (λ (v : List (Option ℕ)). length v) same.results) same.terminated same.mixed h)

nothing-blocked : BlockedIn empty_scope []
nothing-blocked = record {
  counted = refl;
  first = λ start h. cc;
  none = λ z. refl;
  closed = λ b start next g h. cc;
  last = λ b start g e. cc;
}

-- the blocks of a function that keeps the rules
pub function-blocked : (b : Setting) (n : Name) (t : TyText) (ps : List (TyText × Option Name)) (xs : List Item)
    → KeptFrom b empty_scope (item.Head n t ps ∷ xs) → IsBody xs
    → AllBlocked (fold (with_item b.kind) empty_scope (item.Head n t ps ∷ xs)) (places_in b.kind empty_scope (item.Head n t ps ∷ xs))
function-blocked b n t ps xs k w =
    body-blocked b (with_item b.kind empty_scope (item.Head n t ps)) xs [] (parameters-blocked b.kind ps empty_scope [] nothing-blocked) k.1 w
