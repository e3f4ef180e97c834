-- The pass over the items that gathers the instructions.
use Rattle.std.proofs.Common.{◌≡◌, ℕ, zero, suc, ◌+◌, ◌<◌, List, [], ◌∷◌, ◌++◌, length, take, drop, get_or, Option, Some, None, slice_get, refl, sym, ap, subst, ◌∙◌, append_assoc, add-one}
use Rattle.std.proofs.lemmas.List.{drop_more}
use Rattle.ir_tree.specs.declared.name.Name.{Name}
use Rattle.ir_tree.specs.declared.op.Op.{Op}
use Rattle.ir_tree.specs.declared.item.Item.{Item}
use Rattle.ir_tree.specs.declared.item.Item.TheVariants as item
use Rattle.ir_rules.specs.Types.{Kinds}
use Rattle.ir_rules.specs.Settings.{open_from, function_items, upto_end}
use Rattle.ir_rules.specs.Replacements.{Original, original_from}
use Rattle.ir_pass.specs.declared.frame.Frame.{Frame}
use Rattle.ir_pass.specs.Frames.{no_frame, body_at}
use Rattle.ir_pass.specs.Heads.{next_head}
use Rattle.ir_replacements.specs.declared.places.Spot.{Spot}
use Rattle.ir_replacements.specs.declared.places.Places.{Places}
use Rattle.ir_memory.proofs.Opens.{head-next}
use Rattle.ir_replacements.specs.Places.{instructions_from, IsFrameOf, open_items, IsSpot, AreSpots, IsAdded, IsNoted, IsPassed}

-- ---- lists

get-left : {X : Type 0} (xs ys : List X) (i : ℕ) (x : X) → slice_get xs i ≡ Some x → slice_get (xs ++ ys) i ≡ Some x
get-left [] ys i x h = cc
get-left (y ∷ xs) ys zero x h = h
get-left (y ∷ xs) ys (suc i) x h = get-left xs ys i x h

get-last : {X : Type 0} (xs : List X) (x : X) → slice_get (xs ++ x ∷ []) (length xs) ≡ Some x
get-last [] x = refl
get-last (y ∷ xs) x = get-last xs x

-- ---- spots

module _ (kind : Kinds) (items : List Item) where
  spot-on : (frames : List Frame) (f : Frame) (s : Spot) (o : Original) → IsSpot kind items frames s o → IsSpot kind items (frames ++ f ∷ []) s o
  spot-on frames f s o p = record { op = p.op; labels = p.labels; frame = p.frame; there = get-left frames (f ∷ []) s.frame p.frame p.there; is = p.is }

  spots-on : (frames : List Frame) (f : Frame) (ss : List Spot) (os : List Original) → AreSpots kind items frames ss os → AreSpots kind items (frames ++ f ∷ []) ss os
  spots-on frames f [] [] all = tt
  spots-on frames f (s ∷ ss) (o ∷ os) all = (spot-on frames f s o all.0, spots-on frames f ss os all.1)
  spots-on frames f [] (o ∷ os) all = absurd all
  spots-on frames f (s ∷ ss) [] all = absurd all

  spots-more : (frames : List Frame) (ss : List Spot) (os : List Original) (s : Spot) (o : Original) → AreSpots kind items frames ss os → IsSpot kind items frames s o
      → AreSpots kind items frames (ss ++ s ∷ []) (os ++ o ∷ [])
  spots-more frames [] [] s o all one = (one, tt)
  spots-more frames (t ∷ ss) (p ∷ os) s o all one = (all.0, spots-more frames ss os s o all.1 one)
  spots-more frames [] (p ∷ os) s o all one = absurd all
  spots-more frames (t ∷ ss) [] s o all one = absurd all

  abbrev pub MaybeSpot : List Frame → Option Spot → Option Original → Type 0
  MaybeSpot frames None None = Unit {0}
  MaybeSpot frames (Some s) (Some o) = IsSpot kind items frames s o
  MaybeSpot frames _ _ = ⊥

  pub spot-at : (frames : List Frame) (ss : List Spot) (os : List Original) (place : ℕ) → AreSpots kind items frames ss os
      → MaybeSpot frames (slice_get ss place) (slice_get os place)
  spot-at frames [] [] place all = tt
  spot-at frames (s ∷ ss) (o ∷ os) zero all = all.0
  spot-at frames (s ∷ ss) (o ∷ os) (suc place) all = spot-at frames ss os place all.1
  spot-at frames [] (o ∷ os) place all = absurd all
  spot-at frames (s ∷ ss) [] place all = absurd all

-- ---- instructions

pub original-is : (i : ℕ) (xs : List Item) (k : ℕ) → original_from i k xs ≡ slice_get (instructions_from i xs) k
original-is i [] zero = refl
original-is i [] (suc k) = refl
original-is i (item.Instr r o ∷ xs) zero = refl
original-is i (item.Instr r o ∷ xs) (suc k) = original-is (suc i) xs k
original-is i (item.Label n ∷ xs) zero = original-is (suc i) xs zero
original-is i (item.Label n ∷ xs) (suc k) = original-is (suc i) xs (suc k)
original-is i (item.TypeDef n t ∷ xs) zero = original-is (suc i) xs zero
original-is i (item.TypeDef n t ∷ xs) (suc k) = original-is (suc i) xs (suc k)
original-is i (item.Global n c t v ∷ xs) zero = original-is (suc i) xs zero
original-is i (item.Global n c t v ∷ xs) (suc k) = original-is (suc i) xs (suc k)
original-is i (item.Declare n t ts ∷ xs) zero = original-is (suc i) xs zero
original-is i (item.Declare n t ts ∷ xs) (suc k) = original-is (suc i) xs (suc k)
original-is i (item.Head n t ps ∷ xs) zero = original-is (suc i) xs zero
original-is i (item.Head n t ps ∷ xs) (suc k) = original-is (suc i) xs (suc k)
original-is i (item.End ∷ xs) zero = original-is (suc i) xs zero
original-is i (item.End ∷ xs) (suc k) = original-is (suc i) xs (suc k)

-- ---- one item more

pub started : (kind : Kinds) (items : List Item) (p : Places) → p.frames ≡ no_frame ∷ [] → p.spots ≡ [] → p.current ≡ 0 → IsPassed kind items 0 p
started kind items p frames spots current =
    let first : slice_get p.frames 0 ≡ Some no_frame = ap (λ (fs : List Frame). slice_get fs 0) frames in
    record {
      done = [];
      originals = refl;
      spots = subst (λ (ss : List Spot). AreSpots kind items p.frames ss []) (sym spots) tt;
      first = first;
      frame = no_frame;
      there = ap (slice_get p.frames) current ∙ first;
      is = record { function = refl; result = refl };
    }

module _ (kind : Kinds) (items : List Item) (i : ℕ) (p : Places) (before : IsPassed kind items i p) where
  module _ (x : Item) (h : i < length items) (e : x ≡ get_or items i x) where
    dropped : drop i items ≡ x ∷ drop (i + 1) items
    dropped = drop_more items i x h ∙ ap (λ y. y ∷ drop (i + 1) items) (sym e)

    -- what stands behind the item
    behind : (q : Places) (done : List Original) → instructions_from 0 items ≡ done ++ instructions_from (suc i) (drop (i + 1) items)
        → instructions_from 0 items ≡ done ++ instructions_from (i + 1) (drop (i + 1) items)
    behind q done s = s ∙ ap (λ n. done ++ instructions_from n (drop (i + 1) items)) (sym (add-one i))

    here : instructions_from 0 items ≡ before.done ++ instructions_from i (x ∷ drop (i + 1) items)
    here = before.originals ∙ ap (λ l. before.done ++ instructions_from i l) dropped

    next : open_from 0 None (take (i + 1) items) ≡ next_head i (open_from 0 None (take i items)) x
    next = head-next items i x h e

  -- an item that neither opens nor closes a function
  module _ (x : Item) (h : i < length items) (e : x ≡ get_or items i x) (same : open_items items (i + 1) ≡ open_items items i) where
    still : IsFrameOf kind (open_items items (i + 1)) before.frame
    still = subst (λ l. IsFrameOf kind l before.frame) (sym same) before.is

    stays : instructions_from i (x ∷ drop (i + 1) items) ≡ instructions_from (suc i) (drop (i + 1) items) → IsPassed kind items (i + 1) p
    stays none = record {
      done = before.done;
      originals = behind x h e p before.done (here x h e ∙ ap (λ l. before.done ++ l) none);
      spots = before.spots;
      first = before.first;
      frame = before.frame;
      there = before.there;
      is = still;
    }

  added : (r : Option Name) (o : Op) (h : i < length items) (e : item.Instr r o ≡ get_or items i (item.Instr r o)) (q : Places) → IsAdded o p q → IsPassed kind items (i + 1) q
  added r o h e q a =
      let x = item.Instr r o in
      let one : Original = record { at = i; result = r; instruction = o } in
      let same : open_items items (i + 1) ≡ open_items items i = ap (function_items items) (next x h e) in
      let rest = instructions_from (suc i) (drop (i + 1) items) in
      let spot : IsSpot kind items p.frames a.spot one =
      record { op = a.op; labels = a.labels; frame = before.frame; there = ap (slice_get p.frames) a.current ∙ before.there; is = before.is } in
      subst (λ (q : Places). IsPassed kind items (i + 1) q) (sym a.new)
      (record {
        done = before.done ++ one ∷ [];
        originals = behind x h e p (before.done ++ one ∷ []) (here x h e ∙ sym (append_assoc before.done (one ∷ []) rest));
        spots = spots-more kind items p.frames p.spots before.done a.spot one before.spots spot;
        first = before.first;
        frame = before.frame;
        there = before.there;
        is = subst (λ l. IsFrameOf kind l before.frame) (sym same) before.is;
      })

  pub passed : (x : Item) (h : i < length items) (e : x ≡ get_or items i x) (q : Places) → IsNoted kind (drop i items) x p q → IsPassed kind items (i + 1) q
  passed (item.Head n t ps) h e q a =
      let x = item.Head n t ps in
      let body : open_items items (i + 1) ≡ body_at [] (drop i items) =
      ap (function_items items) (next x h e) ∙ ap upto_end (dropped x h e) ∙ sym (ap (body_at []) (dropped x h e)) in
      subst (λ (q : Places). IsPassed kind items (i + 1) q) (sym a.new)
      (record {
        done = before.done;
        originals = behind x h e p before.done (here x h e);
        spots = spots-on kind items p.frames a.frame p.spots before.done before.spots;
        first = get-left p.frames (a.frame ∷ []) 0 no_frame before.first;
        frame = a.frame;
        there = get-last p.frames a.frame;
        is = subst (λ l. IsFrameOf kind l a.frame) (sym body) a.is;
      })
  passed item.End h e q a =
      let x = item.End in
      let none : open_items items (i + 1) ≡ [] = ap (function_items items) (next x h e) in
      subst (λ (q : Places). IsPassed kind items (i + 1) q) (sym a)
      (record {
        done = before.done;
        originals = behind x h e p before.done (here x h e);
        spots = before.spots;
        first = before.first;
        frame = no_frame;
        there = before.first;
        is = subst (λ l. IsFrameOf kind l no_frame) (sym none) (record { function = refl; result = refl });
      })
  passed (item.Instr r o) h e q a = added r o h e q a
  passed (item.TypeDef n t) h e q a =
      subst (λ (q : Places). IsPassed kind items (i + 1) q) (sym a) (stays (item.TypeDef n t) h e (ap (function_items items) (next (item.TypeDef n t) h e)) refl)
  passed (item.Global n c t v) h e q a =
      subst (λ (q : Places). IsPassed kind items (i + 1) q) (sym a) (stays (item.Global n c t v) h e (ap (function_items items) (next (item.Global n c t v) h e)) refl)
  passed (item.Declare n t ts) h e q a =
      subst (λ (q : Places). IsPassed kind items (i + 1) q) (sym a) (stays (item.Declare n t ts) h e (ap (function_items items) (next (item.Declare n t ts) h e)) refl)
  passed (item.Label n) h e q a =
      subst (λ (q : Places). IsPassed kind items (i + 1) q) (sym a) (stays (item.Label n) h e (ap (function_items items) (next (item.Label n) h e)) refl)
