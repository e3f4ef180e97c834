-- The lexemes of a module's items are read again as these items.
use Rattle.std.proofs.Common.{◌≡◌, ℕ, ◌-◌, ◌≤◌, Bool, true, false, List, [], ◌∷◌, map, length, Some, None, refl, sym, ap, subst, arith}
use Rattle.std.proofs.lemmas.List.{length-append}
use Rattle.ir_tree.specs.declared.item.Item.{Item}
use Rattle.ir_grammar.specs.Lexeme.{Lexemes}
use Rattle.ir_grammar.specs.Starts.{sees_skip, skip_start, sees_tail, sees_global_tail, tail_start}
use Rattle.ir_grammar.specs.Modules.{is_allowed, leaves_open, Piece, Front, kept, kept_starts, IsModule}
use Rattle.ir_text.specs.Parts.{item_lexemes, joined}
use Rattle.ir_text.specs.ReadBack.{EachOf}
use Rattle.ir_text.proofs.Gives.{AllBytes}
use Rattle.ir_text.proofs.Back.{AllFixed, fixed-append}
use Rattle.ir_text.proofs.OpsBack.{Behind}
use Rattle.ir_text.proofs.ItemsBack.{ItemBack, item-gives}

abbrev pub module_lexemes : List Item → Lexemes
module_lexemes xs = joined (map item_lexemes xs)

-- each item stands where it is allowed, and no function is open behind them
abbrev pub Stand : Bool → List Item → Type 0
Stand i [] = i ≡ false
Stand i (x ∷ xs) = (is_allowed i (Some x) ≡ true) × Stand (leaves_open (Some x)) xs

-- what isn't in the tree stands outside of functions
absent : (i : Bool) → is_allowed i None ≡ true → i ≡ false
absent true a = cc
absent false a = refl

-- what is read is kept as items that are read again
pub record Kept (i : Bool) (xs : List Item) : Type 0 where
  pub backs : EachOf ItemBack xs
  pub stand : Stand i xs

front-kept : (n : ℕ) (i : Bool) (ts : Lexemes) (ps : List Piece) (rest : Lexemes) → AllBytes ts → Front n i ts ps false rest → Kept i (kept ps)
front-kept n i ts [] rest k (e, f) = record { backs = tt; stand = e }
front-kept n i ts ((None, at) ∷ ps) rest k (mid, h, a, p, more) =
    let g = item-gives.gives ts None mid k h in
    let r = front-kept n false mid ps rest g.1 more in
    record { backs = r.backs; stand = subst (λ j. Stand j (kept ps)) (sym (absent i a)) r.stand }
front-kept n i ts ((Some x, at) ∷ ps) rest k (mid, h, a, p, more) =
    let g = item-gives.gives ts (Some x) mid k h in
    let r = front-kept n (leaves_open (Some x)) mid ps rest g.1 more in
    record { backs = (g.0, r.backs); stand = (a, r.stand) }

pub module-kept : (ts : Lexemes) (xs : List Item) (starts : List ℕ) → AllBytes ts → IsModule ts xs starts → Kept false xs
module-kept ts xs starts k m = subst (Kept false) m.tree (front-kept (length ts) false ts m.pieces [] k m.whole)

-- ---- and back

pub nothing-behind : Behind []
unfolding sees_skip skip_start sees_tail sees_global_tail tail_start
nothing-behind = record { no_comma = refl; no_skip = refl; no_tail = refl; no_global_tail = refl }

behind : (xs : List Item) → EachOf ItemBack xs → Behind (module_lexemes xs)
behind [] bs = nothing-behind
behind (x ∷ xs) (b, bs) = b.head (module_lexemes xs)

pieces : ℕ → List Item → List Piece
pieces n [] = []
pieces n (x ∷ xs) = (Some x, n - length (module_lexemes (x ∷ xs))) ∷ pieces n xs

kept-pieces : (n : ℕ) (xs : List Item) → kept (pieces n xs) ≡ xs
unfolding pieces
kept-pieces n [] = refl
kept-pieces n (x ∷ xs) = ap (λ more. x ∷ more) (kept-pieces n xs)

front-again : (n : ℕ) (i : Bool) (xs : List Item) → EachOf ItemBack xs → Stand i xs → length (module_lexemes xs) ≤ n → Front n i (module_lexemes xs)
    (pieces n xs) false []
unfolding pieces
front-again n i [] bs s small = (s, refl)
front-again n i (x ∷ xs) (b, bs) (a, s) small =
    let more = module_lexemes xs in
    let count = length-append (item_lexemes x) more in
    (more, b.back.again more (behind xs bs), a, (omega arith), front-again n (leaves_open (Some x)) xs bs s (omega arith))

pub module-again : (xs : List Item) → Kept false xs → (starts : List ℕ) × IsModule (module_lexemes xs) xs starts
module-again xs k =
    let ls = module_lexemes xs in
    let n = length ls in (
      kept_starts (pieces n xs),
      record { pieces = pieces n xs; whole = front-again n false xs k.backs k.stand (omega arith); tree = kept-pieces n xs; places = refl },
    )

pub module-fixed : (xs : List Item) → EachOf ItemBack xs → AllFixed (module_lexemes xs)
module-fixed [] bs = tt
module-fixed (x ∷ xs) (b, bs) = fixed-append (item_lexemes x) (module_lexemes xs) b.back.fixed (module-fixed xs bs)
