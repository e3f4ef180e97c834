-- Whole modules, item by item.
use Rattle.std.specs.Prelude.{◌≡◌, ℕ, ◌+◌, Bool, true, false, not, List, [], ◌∷◌, length, Some, None}
use Rattle.ir_tree.specs.declared.item.Item.{Item}
use Rattle.ir_tree.specs.declared.item.Item.TheVariants as tree
use Rattle.ir_grammar.specs.Lexeme.{Lexemes}
use Rattle.ir_grammar.specs.Items.{SomeItem, item}

-- labels, instructions and the end of a function are allowed only between a head and its end
abbrev pub is_inner : SomeItem → Bool
is_inner (Some (tree.Label n)) = true
is_inner (Some (tree.Instr n o)) = true
is_inner (Some tree.End) = true
is_inner _ = false

-- and all other items only outside
abbrev pub is_allowed : Bool → SomeItem → Bool
is_allowed true x = is_inner x
is_allowed false x = not (is_inner x)

-- whether a function is open after the item, if it is allowed
abbrev pub leaves_open : SomeItem → Bool
leaves_open (Some (tree.Head n t ps)) = true
leaves_open (Some (tree.Label n)) = true
leaves_open (Some (tree.Instr n o)) = true
leaves_open _ = false

-- an item that was read, and the number of its first lexeme
abbrev pub Piece : Type 0
Piece = SomeItem × ℕ

-- The lexemes, the last ones of n in all, begin with these whole allowed items. The flags say whether a function is open before and after them.
abbrev pub Front : ℕ → Bool → Lexemes → List Piece → Bool → Lexemes → Type 0
Front n inside ts [] inside' rest = (inside ≡ inside') × (ts ≡ rest)
Front n inside ts (p ∷ ps) inside' rest =
    (mid : Lexemes) × item.reads ts p.0 mid × (is_allowed inside p.0 ≡ true) × (p.1 + length ts ≡ n) × Front n (leaves_open p.0) mid ps inside' rest

-- the items that are in the tree
abbrev pub kept : List Piece → List Item
kept [] = []
kept ((None, at) ∷ ps) = kept ps
kept ((Some x, at) ∷ ps) = x ∷ kept ps

-- the numbers of their first lexemes
abbrev pub kept_starts : List Piece → List ℕ
kept_starts [] = []
kept_starts ((None, at) ∷ ps) = kept_starts ps
kept_starts ((Some x, at) ∷ ps) = at ∷ kept_starts ps

-- All lexemes are whole items, each allowed at its place, and no function is open after them. These are the ones that the tree keeps, and where each begins.
pub record IsModule (ts : Lexemes) (items : List Item) (starts : List ℕ) : Type 0 where
  pub pieces : List Piece
  pub whole : Front (length ts) false ts pieces false []
  pub tree : kept pieces ≡ items
  pub places : kept_starts pieces ≡ starts

-- no allowed item begins here, and a function is open where nothing is left
pub record Stops (inside : Bool) (rest : Lexemes) : Type 0 where
  pub none : (x : SomeItem) (mid : Lexemes) → item.reads rest x mid → is_allowed inside x ≡ true → ⊥
  pub open_end : rest ≡ [] → inside ≡ true

-- the number of lexemes before the first place where no allowed item begins
pub record IsUnread (ts : Lexemes) (at : ℕ) : Type 0 where
  pub pieces : List Piece
  pub inside : Bool
  pub rest : Lexemes
  pub front : Front (length ts) false ts pieces inside rest
  pub stops : Stops inside rest
  pub place : at + length rest ≡ length ts
