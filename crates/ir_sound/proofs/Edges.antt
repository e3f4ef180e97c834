-- A `phi` that keeps the rules has an entry for each block that branches to its own.
use Rattle.std.proofs.Common.{◌≡◌, ℕ, zero, suc, ◌+◌, ◌-◌, Bool, true, false, ◌||◌, cond, List, [], ◌∷◌, ◌++◌, map, length, slice_get, nat_eq}
use Rattle.std.proofs.Common.{nat_lt, Option, Some, None, if◌then◌else◌, refl, sym, ap, ◌∙◌, subst, arith}
use Rattle.std.specs.List.{fold, filter, list_all, Contains}
use Rattle.std.proofs.lemmas.List.{length-append, map-append}
use Rattle.std.proofs.lemmas.Bool.Decides.{nat_tests, Decides-eqb}
use Rattle.code_form.specs.Places as code
use Rattle.code_form.specs.Sound.{HasEntryFor}
use Rattle.ir_tree.specs.declared.name.Name.{Name}
use Rattle.ir_tree.specs.declared.type_text.TyText.{TyText}
use Rattle.ir_tree.specs.declared.operand.Opd.{Opd}
use Rattle.ir_tree.specs.declared.op.Op.{Op}
use Rattle.ir_tree.specs.declared.op.Op.TheVariants as op
use Rattle.ir_tree.specs.declared.item.Item.{Item}
use Rattle.ir_tree.specs.declared.item.Item.TheVariants as item
use Rattle.ir_rules.specs.declared.local.Local.{Local}
use Rattle.ir_rules.specs.declared.local.Local.TheVariants.{Value, NoType, Block}
use Rattle.ir_rules.specs.declared.rule.Rule.TheVariants.{PhiEntries}
use Rattle.ir_rules.specs.declared.scope.Scope.{Scope}
use Rattle.ir_rules.specs.Types.{Kinds}
use Rattle.ir_rules.specs.Scopes.{is_phi, is_terminator, is_call, with_block, with_name_or_number, with_first_block, value_kind, with_item}
use Rattle.ir_rules.specs.Parts.{branch_labels}
use Rattle.ir_rules.specs.Settings.{Setting, Edge, local_of, last_block, edges_at, edges_from}
use Rattle.ir_rules.specs.Blocks.{goes_to, sources, entry_blocks, has, same_set, phi_entries, own_block}
use Rattle.ir_rules.specs.Paths.{Case}
use Rattle.ir_rules.specs.Memory.{Addresses}
use Rattle.ir_rules.specs.Codes.{typed_code, block_code, entry_once, entries_code, case_code, op_code}
use Rattle.ir_sound.proofs.Lists.{no, neither, both, get-left, get-right, at-contains}
use Rattle.ir_sound.proofs.Scopes.{name-parts}
use Rattle.ir_sound.proofs.Places.{Place, places_in, Keeps, result-parts}
use Rattle.ir_sound.proofs.Ops.{Entry, numbers}

-- ---- the code of an instruction is of its kind

pub same-phi : (s : Setting) (a : Addresses) (o : Op) → code.is_phi (op_code s a o) ≡ is_phi o
same-phi s a (op.Bin o t x y) = refl
same-phi s a (op.Cmp p t x y) = refl
same-phi s a (op.Select c i t x u y) = refl
same-phi s a (op.Cast c t x to) = refl
same-phi s a (op.Freeze t x) = refl
same-phi s a (op.Alloca t n) = refl
same-phi s a (op.Load t u x) = refl
same-phi s a (op.Store t x u y) = refl
same-phi s a (op.Get of t x is) = refl
same-phi s a (op.Phi t es) = refl
same-phi s a (op.Call t f xs) = refl
same-phi s a (op.Jump n) = refl
same-phi s a (op.Branch t c x y) = refl
same-phi s a (op.Switch t x n cs) = refl
same-phi s a (op.Ret v) = refl
same-phi s a op.Unreachable = refl

pub same-terminator : (s : Setting) (a : Addresses) (o : Op) → code.is_terminator (op_code s a o) ≡ is_terminator o
same-terminator s a (op.Bin o t x y) = refl
same-terminator s a (op.Cmp p t x y) = refl
same-terminator s a (op.Select c i t x u y) = refl
same-terminator s a (op.Cast c t x to) = refl
same-terminator s a (op.Freeze t x) = refl
same-terminator s a (op.Alloca t n) = refl
same-terminator s a (op.Load t u x) = refl
same-terminator s a (op.Store t x u y) = refl
same-terminator s a (op.Get of t x is) = refl
same-terminator s a (op.Phi t es) = refl
same-terminator s a (op.Call t f xs) = refl
same-terminator s a (op.Jump n) = refl
same-terminator s a (op.Branch t c x y) = refl
same-terminator s a (op.Switch t x n cs) = refl
same-terminator s a (op.Ret v) = refl
same-terminator s a op.Unreachable = refl

cases-labels : (s : Setting) (t : TyText) (cs : List Case) → map (λ (c : ℕ × ℕ). c.1) (map (case_code s t) cs) ≡ map (block_code s) (map (λ (c : Case). c.2) cs)
cases-labels s t [] = refl
cases-labels s t (c ∷ cs) = ap (λ l. block_code s c.2 ∷ l) (cases-labels s t cs)

pub same-labels : (s : Setting) (a : Addresses) (o : Op) → code.labels_of (op_code s a o) ≡ map (block_code s) (branch_labels o)
same-labels s a (op.Bin o t x y) = refl
same-labels s a (op.Cmp p t x y) = refl
same-labels s a (op.Select c i t x u y) = refl
same-labels s a (op.Cast c t x to) = refl
same-labels s a (op.Freeze t x) = refl
same-labels s a (op.Alloca t n) = refl
same-labels s a (op.Load t u x) = refl
same-labels s a (op.Store t x u y) = refl
same-labels s a (op.Get of t x is) = refl
same-labels s a (op.Phi t es) = refl
same-labels s a (op.Call t f xs) = refl
same-labels s a (op.Jump n) = refl
same-labels s a (op.Branch t c x y) = refl
same-labels s a (op.Switch t x n cs) = ap (λ l. block_code s n ∷ l) (cases-labels s t cs)
same-labels s a (op.Ret v) = refl
same-labels s a op.Unreachable = refl

-- ---- members

abbrev pub Member : {X : Type 0} → X → List X → Type 0
Member x xs = (i : ℕ) × (slice_get xs i ≡ Some x)

pub member-map : {X Y : Type 0} (f : X → Y) (xs : List X) (i : ℕ) (x : X) → slice_get xs i ≡ Some x → slice_get (map f xs) i ≡ Some (f x)
member-map f [] i x h = cc
member-map f (y ∷ xs) zero x h = let same : y ≡ x = cc in ap (λ z. Some (f z)) same
member-map f (y ∷ xs) (suc i) x h = member-map f xs i x h

pub map-member : {X Y : Type 0} (f : X → Y) (xs : List X) (i : ℕ) (y : Y) → slice_get (map f xs) i ≡ Some y → (x : X) × (slice_get xs i ≡ Some x) × (f x ≡ y)
map-member f [] i y h = cc
map-member f (x ∷ xs) zero y h = (x, refl, cc)
map-member f (x ∷ xs) (suc i) y h = map-member f xs i y h

member-left : {X : Type 0} (xs ys : List X) (x : X) → Member x xs → Member x (xs ++ ys)
member-left xs ys x m = (m.0, get-left xs ys m.0 x m.1)

member-right : {X : Type 0} (xs ys : List X) (x : X) → Member x ys → Member x (xs ++ ys)
member-right xs ys x m = (length xs + m.0, get-right xs ys m.0 (length xs + m.0) refl ∙ m.1)

member-filter : {X : Type 0} (p : X → Bool) (xs : List X) (i : ℕ) (x : X) → slice_get xs i ≡ Some x → p x ≡ true → Member x (filter p xs)
member-filter p [] i x h t = cc
member-filter {X} p (y ∷ xs) zero x h t =
    let same : y ≡ x = cc in
    let P : Bool → Type 0 = λ b. Member x (cond b (y ∷ filter p xs) (filter p xs)) in
    subst P (sym (ap p same ∙ t)) (0, ap Some same)
member-filter {X} p (y ∷ xs) (suc i) x h t = by (p y) (member-filter p xs i x h t)
  where
    by : (b : Bool) → Member x (filter p xs) → Member x (cond b (y ∷ filter p xs) (filter p xs))
    by true m = (suc m.0, m.1)
    by false m = m

pub all-member : {X : Type 0} (p : X → Bool) (xs : List X) (i : ℕ) (x : X) → list_all p xs ≡ true → slice_get xs i ≡ Some x → p x ≡ true
all-member p [] i x h e = cc
all-member p (y ∷ xs) zero x h e = let same : y ≡ x = cc in ap p (sym same) ∙ (both (p y) _ h).0
all-member p (y ∷ xs) (suc i) x h e = all-member p xs i x (both (p y) _ h).1 e

has-member : (ns : List ℕ) (n : ℕ) → has ns n ≡ true → Member n ns
has-member [] n h = cc
has-member (m ∷ ns) n h = by (nat_eq n m) refl h (has-member ns n)
  where
    by : (b : Bool) → nat_eq n m ≡ b → (b || has ns n) ≡ true → (has ns n ≡ true → Member n ns) → Member n (m ∷ ns)
    by true e g rest = (0, ap Some (sym ((Decides-eqb n m).0 e)))
    by false e g rest = (let there = rest g in (suc there.0, there.1))

member-has : (ns : List ℕ) (i n : ℕ) → slice_get ns i ≡ Some n → has ns n ≡ true
member-has [] i n h = cc
member-has (m ∷ ns) zero n h =
    let same : m ≡ n = cc in
    let here : nat_eq n m ≡ true = (Decides-eqb n m).1 (sym same) in
    ap (λ b. b || has ns n) here
member-has (m ∷ ns) (suc i) n h = or-true (nat_eq n m) (has ns n) (member-has ns i n h)
  where
    or-true : (a b : Bool) → b ≡ true → (a || b) ≡ true
    or-true true b h = refl
    or-true false b h = h

-- ---- entries

once-keeps : (done : List Entry) (e : Entry) (n : ℕ) → has (numbers done) n ≡ true → has (numbers (entry_once done e)) n ≡ true
once-keeps done e n h = by (has (numbers done) e.0)
  where
    by : (b : Bool) → has (numbers (if b then done else done ++ e ∷ [])) n ≡ true
    by true = h
    by false =
        let m = member-left (numbers done) (e.0 ∷ []) n (has-member (numbers done) n h) in
        let P : List ℕ → Type 0 = λ l. has l n ≡ true in
        subst P (sym (map-append (λ (e : Entry). e.0) done (e ∷ []))) (member-has (numbers done ++ e.0 ∷ []) m.0 n m.1)

once-has : (done : List Entry) (e : Entry) → has (numbers (entry_once done e)) e.0 ≡ true
once-has done e = by (has (numbers done) e.0) refl
  where
    by : (b : Bool) → has (numbers done) e.0 ≡ b → has (numbers (if b then done else done ++ e ∷ [])) e.0 ≡ true
    by true h = h
    by false h =
        let m = member-right (numbers done) (e.0 ∷ []) e.0 (0, refl) in
        let P : List ℕ → Type 0 = λ l. has l e.0 ≡ true in
        subst P (sym (map-append (λ (e : Entry). e.0) done (e ∷ []))) (member-has (numbers done ++ e.0 ∷ []) m.0 e.0 m.1)

fold-keeps : (es done : List Entry) (n : ℕ) → has (numbers done) n ≡ true → has (numbers (fold entry_once done es)) n ≡ true
fold-keeps [] done n h = h
fold-keeps (e ∷ es) done n h = fold-keeps es (entry_once done e) n (once-keeps done e n h)

fold-has : (es done : List Entry) (i n : ℕ) → slice_get (numbers es) i ≡ Some n → has (numbers (fold entry_once done es)) n ≡ true
fold-has [] done i n h = cc
fold-has (e ∷ es) done zero n h =
    let same : e.0 ≡ n = cc in
    let P : ℕ → Type 0 = λ n. has (numbers (fold entry_once done (e ∷ es))) n ≡ true in
    subst P same (fold-keeps es (entry_once done e) e.0 (once-has done e))
fold-has (e ∷ es) done (suc i) n h = fold-has es (entry_once done e) i n h

-- ---- edges

first-block-last : (s : Scope) → last_block (with_first_block s) ≡ last_block s
first-block-last s = by (nat_lt 0 (length s.starts)) refl
  where
    by : (b : Bool) → nat_lt 0 (length s.starts) ≡ b → last_block (if b then s else with_block s None) ≡ last_block s
    by true e = refl
    by false e =
        let none : length s.starts ≡ 0 = grind (arith, nat_tests) in
        let t = with_name_or_number s None (Block (length s.starts)) in
        let same = ap (λ (v : List ℕ). length v) (name-parts s None (Block (length s.starts))).starts in
        omega (arith, length-append t.starts (length t.results ∷ []))

-- an instruction stands in the block that is the last one before it
instr-last : (k : Kinds) (s : Scope) (r : Option Name) (o : Op) → last_block (with_item k s (item.Instr r o)) ≡ last_block s
instr-last k s r o =
    let t = with_first_block (record s { again = false; low = false }) in
    ap (λ (v : List ℕ). length v - 1) (result-parts t r (is_call o) (value_kind k o)).0 ∙ first-block-last (record s { again = false; low = false })

place-edge : (k : Kinds) (s : Scope) (xs : List Item) (j : ℕ) (p : Place) (i : ℕ) (n : Name) → slice_get (places_in k s xs) j ≡ Some p
    → slice_get (branch_labels p.op) i ≡ Some n
    → Member (last_block p.before, n) (edges_from k s xs)
place-edge k s [] j p i n h g = cc
place-edge k s (item.Instr r o ∷ xs) zero p i n h g =
    let x = item.Instr r o in
    let same : record { before = s; result = r; op = o } ≡ p = cc in
    let here : slice_get (branch_labels o) i ≡ Some n = ap (λ (p : Place). slice_get (branch_labels p.op) i) same ∙ g in
    let edge : Name → Edge = λ n. (last_block (with_item k s x), n) in
    let mapped = member-map edge (branch_labels o) i n here in
    let P : ℕ → Type 0 = λ b. Member (b, n) (edges_from k s (x ∷ xs)) in
    let last : last_block (with_item k s x) ≡ last_block p.before = instr-last k s r o ∙ ap (λ (p : Place). last_block p.before) same in
    subst P last (member-left (edges_at (with_item k s x) x) (edges_from k (with_item k s x) xs) (edge n) (i, mapped))
place-edge k s (item.Instr r o ∷ xs) (suc j) p i n h g =
    let x = item.Instr r o in
    member-right (edges_at (with_item k s x) x) (edges_from k (with_item k s x) xs) (last_block p.before, n) (place-edge k (with_item k s x) xs j p i n h g)
place-edge k s (item.Label m ∷ xs) j p i n h g = place-edge k (with_item k s (item.Label m)) xs j p i n h g
place-edge k s (item.Head m t ps ∷ xs) j p i n h g = place-edge k (with_item k s (item.Head m t ps)) xs j p i n h g
place-edge k s (item.TypeDef m t ∷ xs) j p i n h g = place-edge k (with_item k s (item.TypeDef m t)) xs j p i n h g
place-edge k s (item.Global m c t v ∷ xs) j p i n h g = place-edge k (with_item k s (item.Global m c t v)) xs j p i n h g
place-edge k s (item.Declare m t ts ∷ xs) j p i n h g = place-edge k (with_item k s (item.Declare m t ts)) xs j p i n h g
place-edge k s (item.End ∷ xs) j p i n h g = place-edge k (with_item k s item.End) xs j p i n h g

pub edge-of : (k : Kinds) (s : Scope) (xs : List Item) (j : ℕ) (p : Place) (i : ℕ) (n : Name) → slice_get (places_in k s xs) j ≡ Some p
    → slice_get (branch_labels p.op) i ≡ Some n → Member (last_block p.before, n) (edges_from k s xs)
edge-of k s xs j p i n h g = place-edge k s xs j p i n h g

-- ---- a `phi`

module _ (s : Setting) (a : Addresses) (b from : ℕ) (n : Name) (i : ℕ) (edge : slice_get s.edges i ≡ Some (from, n)) (to : local_of s n ≡ Some (Block b)) where
  source : Member from (sources s b)
  source =
      let goes : goes_to s b (from, n) ≡ true = by (local_of s n) to in
      let m = member-filter (goes_to s b) s.edges i (from, n) edge goes in
      (m.0, member-map (λ (e : Edge). e.0) (filter (goes_to s b) s.edges) m.0 (from, n) m.1)
    where
      by : (l : Option Local) → l ≡ Some (Block b) → elim l as (λ v. Bool) [
        | None ↦ false
        | Some m ↦
            elim m as (λ v. Bool) [ Block c ↦ nat_eq c b | Value k r ↦ false | NoType ↦ false ]
      ] ≡ true
      by (Some (Block c)) e = (let same : c ≡ b = cc in (Decides-eqb c b).1 same)
      by (Some (Value k r)) e = cc
      by (Some NoType) e = cc
      by None e = cc

  phi-has : (t : TyText) (es : List (Opd × Name)) → same_set (entry_blocks s es) (sources s b) ≡ true → Contains (numbers (entries_code s a t es)) from
  phi-has t es h =
      let two = both (list_all (has (sources s b)) (entry_blocks s es)) (list_all (has (entry_blocks s es)) (sources s b)) h in
      let m = has-member (entry_blocks s es) from (all-member (has (entry_blocks s es)) (sources s b) source.0 from two.1 source.1) in
      let code : Opd × Name → Entry = λ e. (block_code s e.1, typed_code s a t e.0) in
      let here : slice_get (numbers (map code es)) m.0 ≡ Some from = ap (λ (l : List ℕ). slice_get l m.0) (entry-numbers es) ∙ m.1 in
      let there = has-member (numbers (entries_code s a t es)) from (fold-has (map code es) [] m.0 from here) in
      at-contains (numbers (entries_code s a t es)) from there.0 there.1
    where
      entry-numbers : (es : List (Opd × Name)) → numbers (map (λ (e : Opd × Name). (block_code s e.1, typed_code s a t e.0)) es) ≡ entry_blocks s es
      entry-numbers [] = refl
      entry-numbers (e ∷ es) = ap (λ l. block_code s e.1 ∷ l) (entry-numbers es)

  -- a `phi` of the block has an entry for the block from which a branch comes
  pub entry-for : (r : Option Name) (o : Op) → Keeps s (item.Instr r o) → own_block s ≡ b → HasEntryFor from (op_code s a o)
  entry-for r (op.Bin o t x y) k e = tt
  entry-for r (op.Cmp p t x y) k e = tt
  entry-for r (op.Select c v t x u y) k e = tt
  entry-for r (op.Cast c t x to) k e = tt
  entry-for r (op.Freeze t x) k e = tt
  entry-for r (op.Alloca t v) k e = tt
  entry-for r (op.Load t u x) k e = tt
  entry-for r (op.Store t x u y) k e = tt
  entry-for r (op.Get of t x is) k e = tt
  entry-for r (op.Phi t es) k e =
      let kept : phi_entries s (item.Instr r (op.Phi t es)) ≡ false = k PhiEntries in
      let P : ℕ → Type 0 = λ b. same_set (entry_blocks s es) (sources s b) ≡ true in
      phi-has t es (subst P e (no _ (neither _ _ kept).0))
  entry-for r (op.Call t f xs) k e = tt
  entry-for r (op.Jump m) k e = tt
  entry-for r (op.Branch t c x y) k e = tt
  entry-for r (op.Switch t x m cs) k e = tt
  entry-for r (op.Ret v) k e = tt
  entry-for r op.Unreachable k e = tt
