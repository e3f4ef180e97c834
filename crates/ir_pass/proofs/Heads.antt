-- Where functions begin, item by item, and what the pass knows of them.
use Rattle.std.proofs.Common.{◌≡◌, ◌⊎◌, inl, inr, ℕ, zero, suc, ◌+◌, ◌-◌, ◌<◌, ◌≤◌, Bool, true, false, List, [], ◌∷◌, ◌++◌, length, take, drop, get_or, Option, Some, None}
use Rattle.std.proofs.Common.{is_some, if◌then◌else◌, refl, sym, ap, subst, ◌∙◌, arith}
use Rattle.std.specs.List.{fold}
use Rattle.std.proofs.lemmas.List.{take_more, drop_more, length-drop, length-take-le, get_or-drop}
use Rattle.std.proofs.lemmas.List.Sums.{fold-append}
use Rattle.ir_tree.specs.declared.item.Item.{Item}
use Rattle.ir_tree.specs.declared.item.Item.TheVariants as item
use Rattle.ir_rules.specs.Types.{Kinds}
use Rattle.ir_rules.specs.Scopes.{empty_scope, with_item, scope_of}
use Rattle.ir_rules.specs.Settings.{open_from, head_of, upto_end, function_items, items_before}
use Rattle.ir_pass.specs.Heads.{is_head, is_end, starts, next_head, opened}
use Rattle.ir_pass.specs.Frames.{Holds, no_frame, body_at, prior_at, with_step, left}
use Rattle.ir_pass.specs.declared.frame.Frame.{Frame}

-- ---- where the function begins that is open

-- behind one item more
open-last : (at : ℕ) (last : Option ℕ) (xs : List Item) (x : Item) → open_from at last (xs ++ x ∷ []) ≡ next_head (at + length xs) (open_from at last xs) x
open-last at last [] x = first x
  where
    here : at ≡ at + 0
    here = omega arith

    first : (x : Item) → open_from at last (x ∷ []) ≡ next_head (at + 0) last x
    first (item.Head n t ps) = ap Some here
    first item.End = refl
    first (item.TypeDef n t) = refl
    first (item.Global n c t i) = refl
    first (item.Declare n t ts) = refl
    first (item.Label n) = refl
    first (item.Instr r o) = refl
open-last at last (y ∷ xs) x = by y (open-last (suc at) (Some at) xs x) (open-last (suc at) None xs x) (open-last (suc at) last xs x)
  where
    along : suc at + length xs ≡ at + suc (length xs)
    along = omega arith

    moved : (o : Option ℕ) → open_from (suc at) o (xs ++ x ∷ []) ≡ next_head (suc at + length xs) (open_from (suc at) o xs) x
        → open_from (suc at) o (xs ++ x ∷ []) ≡ next_head (at + suc (length xs)) (open_from (suc at) o xs) x
    moved o h = h ∙ ap (λ n. next_head n (open_from (suc at) o xs) x) along

    by : (y : Item) → open_from (suc at) (Some at) (xs ++ x ∷ []) ≡ next_head (suc at + length xs) (open_from (suc at) (Some at) xs) x
        → open_from (suc at) None (xs ++ x ∷ []) ≡ next_head (suc at + length xs) (open_from (suc at) None xs) x
        → open_from (suc at) last (xs ++ x ∷ []) ≡ next_head (suc at + length xs) (open_from (suc at) last xs) x
        → open_from at last (y ∷ xs ++ x ∷ []) ≡ next_head (at + suc (length xs)) (open_from at last (y ∷ xs)) x
    by (item.Head n t ps) some none same = moved (Some at) some
    by item.End some none same = moved None none
    by (item.TypeDef n t) some none same = moved last same
    by (item.Global n c t i) some none same = moved last same
    by (item.Declare n t ts) some none same = moved last same
    by (item.Label n) some none same = moved last same
    by (item.Instr r o) some none same = moved last same

-- it begins before the items' end
abbrev Below : ℕ → Option ℕ → Type 0
Below n None = Unit {0}
Below n (Some h) = h < n

below-next : (n m : ℕ) (last : Option ℕ) (x : Item) → n < m → Below n last → Below m (next_head n last x)
below-next n m last (item.Head a t ps) l b = l
below-next n m last item.End l b = tt
below-next n m None (item.TypeDef a t) l b = tt
below-next n m None (item.Global a c t i) l b = tt
below-next n m None (item.Declare a t ts) l b = tt
below-next n m None (item.Label a) l b = tt
below-next n m None (item.Instr r o) l b = tt
below-next n m (Some h) (item.TypeDef a t) l b = omega arith
below-next n m (Some h) (item.Global a c t i) l b = omega arith
below-next n m (Some h) (item.Declare a t ts) l b = omega arith
below-next n m (Some h) (item.Label a) l b = omega arith
below-next n m (Some h) (item.Instr r o) l b = omega arith

-- ---- item i of a module

-- what the pass knows as it comes to item i
pub record Stands (kind : Kinds) (items : List Item) (i : ℕ) (inside : Bool) (f : Frame) : Type 0 where
  pub head : Option ℕ
  pub at : open_from 0 None (take i items) ≡ head
  pub below : Below i head
  pub opens : inside ≡ is_some head
  pub holds : Holds kind (function_items items head) (items_before items i head) f

pub begun : (kind : Kinds) (items : List Item) → Stands kind items 0 false no_frame
begun kind items = record {
  head = None;
  at = refl;
  below = tt;
  opens = refl;
  holds = record { function = refl; sources = λ b. refl; result = refl; before = refl };
}

module _ (kind : Kinds) (items : List Item) (i : ℕ) (x : Item) (h : i < length items) (e : x ≡ get_or items i x) where
  taken : take (i + 1) items ≡ take i items ++ x ∷ []
  taken = take_more items i x h ∙ ap (λ y. take i items ++ y ∷ []) (sym e)

  dropped : drop i items ≡ x ∷ drop (i + 1) items
  dropped = drop_more items i x h ∙ ap (λ y. y ∷ drop (i + 1) items) (sym e)

  head-next : (head : Option ℕ) → open_from 0 None (take i items) ≡ head → open_from 0 None (take (i + 1) items) ≡ next_head i head x
  head-next head at =
      let long : 0 + length (take i items) ≡ i = omega (arith, length-take-le i items (omega arith)) in
      ap (open_from 0 None) taken ∙ open-last 0 None (take i items) x ∙ ap (λ n. next_head n (open_from 0 None (take i items)) x) long ∙ ap (λ o. next_head i o x) at

  -- the item's own function, and what stands before the item in it
  abbrev own : Option ℕ
  own = head_of items i x

  none-before : items_before items i (Some i) ≡ []
  none-before = let same : i - i ≡ 0 = omega arith in ap (λ n. take n (drop i items)) same

  one-before : (k : ℕ) → k ≤ i → items_before items (i + 1) (Some k) ≡ items_before items i (Some k) ++ x ∷ []
  one-before k l =
      let next : i + 1 - k ≡ i - k + 1 = omega arith in
      let back : k + (i - k) ≡ i = omega arith in
      let room : i - k < length (drop k items) = omega (arith, length-drop k items) in
      ap (λ n. take n (drop k items)) next
      ∙ take_more (drop k items) (i - k) x room
      ∙ ap (λ y. take (i - k) (drop k items) ++ y ∷ []) (get_or-drop k items (i - k) x ∙ ap (λ n. get_or items n x) back ∙ sym e)

  -- ---- coming to the item

  -- a head begins a function with itself; another item leaves the function as it is
  starts-here : starts (drop i items) ≡ is_head x
  starts-here = ap starts dropped

  by-head : (head : Option ℕ) → (x : Item) → (is_head x ≡ true → head_of items i x ≡ Some i) × (is_head x ≡ false → open_from 0 None (take i items) ≡ head → head_of items i x ≡ head)
  by-head head (item.Head n t ps) = (λ t. refl, λ f at. cc)
  by-head head item.End = (λ t. cc, λ f at. at)
  by-head head (item.TypeDef n t) = (λ t. cc, λ f at. at)
  by-head head (item.Global n c t i) = (λ t. cc, λ f at. at)
  by-head head (item.Declare n t ts) = (λ t. cc, λ f at. at)
  by-head head (item.Label n) = (λ t. cc, λ f at. at)
  by-head head (item.Instr r o) = (λ t. cc, λ f at. at)

  pub entered : (inside : Bool) (f g : Frame) → (stands : Stands kind items i inside f)
      → ((body prior : List Item) → Holds kind body prior f → Holds kind (body_at body (drop i items)) (prior_at prior (drop i items)) g)
      → Holds kind (function_items items (head_of items i x)) (items_before items i (head_of items i x)) g
  entered inside f g stands step = by (is_head x) refl
    where
      told : Holds kind (body_at (function_items items stands.head) (drop i items)) (prior_at (items_before items i stands.head) (drop i items)) g
      told = step (function_items items stands.head) (items_before items i stands.head) stands.holds

      by : (b : Bool) → is_head x ≡ b → Holds kind (function_items items (head_of items i x)) (items_before items i (head_of items i x)) g
      by true t =
          let here : starts (drop i items) ≡ true = starts-here ∙ t in
          let bodies : body_at (function_items items stands.head) (drop i items) ≡ upto_end (drop i items)
          = ap (λ b. if b then upto_end (drop i items) else function_items items stands.head) here in
          let priors : prior_at (items_before items i stands.head) (drop i items) ≡ [] = ap (λ b. if b then [] else items_before items i stands.head) here in
          let heads : head_of items i x ≡ Some i = (by-head stands.head x).0 t in
          subst (λ o. Holds kind (function_items items o) (items_before items i o) g) (sym heads)
          (subst (λ l. Holds kind (upto_end (drop i items)) l g) (sym none-before)
          (subst (λ l. Holds kind (upto_end (drop i items)) l g) priors
          (subst (λ l. Holds kind l (prior_at (items_before items i stands.head) (drop i items)) g) bodies told)))
      by false t =
          let here : starts (drop i items) ≡ false = starts-here ∙ t in
          let bodies : body_at (function_items items stands.head) (drop i items) ≡ function_items items stands.head
          = ap (λ b. if b then upto_end (drop i items) else function_items items stands.head) here in
          let priors : prior_at (items_before items i stands.head) (drop i items) ≡ items_before items i stands.head
          = ap (λ b. if b then [] else items_before items i stands.head) here in
          let heads : head_of items i x ≡ stands.head = (by-head stands.head x).1 t stands.at in
          subst (λ o. Holds kind (function_items items o) (items_before items i o) g) (sym heads)
          (subst (λ l. Holds kind (function_items items stands.head) l g) priors
          (subst (λ l. Holds kind l (prior_at (items_before items i stands.head) (drop i items)) g) bodies told))

  -- ---- leaving it

  -- what is open behind the item, by the function in which it stands
  leaves : (head : Option ℕ) → open_from 0 None (take i items) ≡ head → next_head i head x ≡ (if is_end x then None else head_of items i x)
  leaves head at = by x
    where
      by : (x : Item) → next_head i head x ≡ (if is_end x then None else head_of items i x)
      by (item.Head n t ps) = refl
      by item.End = refl
      by (item.TypeDef n t) = sym at
      by (item.Global n c t i) = sym at
      by (item.Declare n t ts) = sym at
      by (item.Label n) = sym at
      by (item.Instr r o) = sym at

  opens-next : (inside : Bool) (head : Option ℕ) → open_from 0 None (take i items) ≡ head → inside ≡ is_some head → opened inside x ≡ is_some (next_head i head x)
  opens-next inside head at is = by x
    where
      by : (x : Item) → opened inside x ≡ is_some (next_head i head x)
      by (item.Head n t ps) = refl
      by item.End = refl
      by (item.TypeDef n t) = is
      by (item.Global n c t i) = is
      by (item.Declare n t ts) = is
      by (item.Label n) = is
      by (item.Instr r o) = is

  nothing-known : Holds kind [] [] no_frame
  nothing-known = record { function = refl; sources = λ b. refl; result = refl; before = refl }

  stepped : (o : Option ℕ) (g : Frame) → Below (i + 1) o → Holds kind (function_items items o) (items_before items i o) g
      → Holds kind (function_items items o) (items_before items (i + 1) o) (if is_some o then with_step kind g x else record (with_step kind g x) { before = empty_scope })
  stepped None g b holds = record { function = holds.function; sources = holds.sources; result = holds.result; before = refl }
  stepped (Some k) g b holds = record {
    function = holds.function;
    sources = holds.sources;
    result = holds.result;
    before =
        ap (λ s. with_item kind s x) holds.before
        ∙ sym (ap (scope_of kind) (one-before k (omega arith)) ∙ fold-append (with_item kind) empty_scope (items_before items i (Some k)) (x ∷ []));
  }

  pub passed : (inside : Bool) (f g : Frame) → (stands : Stands kind items i inside f)
      → Holds kind (function_items items (head_of items i x)) (items_before items i (head_of items i x)) g
      → Stands kind items (i + 1) (opened inside x) (left (opened inside x) (with_step kind g x) x)
  passed inside f g stands holds = record {
    head = next_head i stands.head x;
    at = head-next stands.head stands.at;
    below = below-next i (i + 1) stands.head x (omega arith) stands.below;
    opens = opens-next inside stands.head stands.at stands.opens;
    holds = by (is_end x) refl;
  }
    where
      next : Option ℕ
      next = next_head i stands.head x

      is : opened inside x ≡ is_some (next_head i stands.head x)
      is = opens-next inside stands.head stands.at stands.opens

      by : (b : Bool) → is_end x ≡ b → Holds kind (function_items items (next_head i stands.head x)) (items_before items (i + 1) (next_head i stands.head x)) (left (opened inside x) (with_step kind g x) x)
      by true t =
          let heads : next_head i stands.head x ≡ None = leaves stands.head stands.at ∙ ap (λ b. if b then None else head_of items i x) t in
          let frames : left (opened inside x) (with_step kind g x) x ≡ no_frame
          = ap (λ b. if b then no_frame else (if opened inside x then with_step kind g x else record (with_step kind g x) { before = empty_scope })) t in
          subst (λ o. Holds kind (function_items items o) (items_before items (i + 1) o) (left (opened inside x) (with_step kind g x) x)) (sym heads)
          (subst (λ (f : Frame). Holds kind [] [] f) (sym frames) nothing-known)
      by false t =
          let heads : next_head i stands.head x ≡ head_of items i x = leaves stands.head stands.at ∙ ap (λ b. if b then None else head_of items i x) t in
          let frames : left (opened inside x) (with_step kind g x) x
          ≡ (if is_some (next_head i stands.head x) then with_step kind g x else record (with_step kind g x) { before = empty_scope })
          = ap (λ b. if b then no_frame else (if opened inside x then with_step kind g x else record (with_step kind g x) { before = empty_scope })) t
          ∙ ap (λ b. if b then with_step kind g x else record (with_step kind g x) { before = empty_scope }) is in
          let own : Holds kind (function_items items (next_head i stands.head x)) (items_before items i (next_head i stands.head x)) g
          = subst (λ o. Holds kind (function_items items o) (items_before items i o) g) (sym heads) holds in
          subst (λ (f : Frame). Holds kind (function_items items (next_head i stands.head x)) (items_before items (i + 1) (next_head i stands.head x)) f) (sym frames)
          (stepped (next_head i stands.head x) g (below-next i (i + 1) stands.head x (omega arith) stands.below) own)
