-- What the loop over the items of a module keeps, and what it comes to.
use Rattle.std.proofs.Common.{◌≡◌, ℕ, ◌+◌, ◌<◌, ◌≤◌, Bool, true, false, List, [], ◌∷◌, ◌++◌, length, Option, Some, None, Err, refl, sym, ap, ◌∙◌, subst, arith}
use Rattle.std.proofs.lemmas.List.{length-map}
use Rattle.ir_tokens.specs.declared.token.Token.{Token}
use Rattle.ir_tokens.specs.Bytes.{Text}
use Rattle.ir_tree.specs.declared.item.Item.{Item}
use Rattle.ir_grammar.specs.Lexeme.{Lexemes, lexeme, lexemes}
use Rattle.ir_grammar.specs.Items.{SomeItem, item}
use Rattle.ir_grammar.specs.Modules.{is_allowed, leaves_open, Piece, Front, kept, kept_starts, IsModule, IsUnread}
use Rattle.ir_grammar.proofs.ModuleLemmas.{Front-more, Front-shorter, item-one, nothing-read}
use Rattle.ir_grammar.proofs.Productions.{item-firm}
use Rattle.ir_reader.specs.declared.error.ReadError.{ReadError}
use Rattle.ir_reader.specs.declared.error.ReadError.TheVariants as error
use Rattle.ir_reader.specs.Answers.{NoItem, IsReadAt, NamesUnread}

-- the lexemes begin with whole allowed items, of which these are in the tree
pub record HasRead (ts : Lexemes) (inside : Bool) (rest : Lexemes) (items : List Item) (starts : List ℕ) : Type 0 where
  pub pieces : List Piece
  pub front : Front (length ts) false ts pieces inside rest
  pub tree : kept pieces ≡ items
  pub places : kept_starts pieces ≡ starts

pub nothing_yet : (ts : Lexemes) → HasRead ts false ts [] []
nothing_yet ts = record { pieces = []; front = (refl, refl); tree = refl; places = refl }

pub lexemes-length : (text : Text) (ts : List Token) → length (lexemes text ts) ≡ length ts
lexemes-length text ts = length-map ts (lexeme text)

-- what is left is no longer
pub HasRead-shorter : (ts : Lexemes) (inside : Bool) (rest : Lexemes) (items : List Item) (starts : List ℕ) → HasRead ts inside rest items starts
    → length rest ≤ length ts
HasRead-shorter ts inside rest items starts r = Front-shorter (length ts) false ts r.pieces inside rest r.front

pub item-shorter : (ts : Lexemes) (x : SomeItem) (mid : Lexemes) → item.parse ts ≡ Some (x, mid) → length mid < length ts
item-shorter ts x mid h = item-firm.strict ts x mid (item-firm.exact.sound ts x mid h)

kept-behind : (ps : List Piece) (p : Piece) → kept (ps ++ (p ∷ [])) ≡ kept ps ++ kept (p ∷ [])
kept-behind [] p = refl
kept-behind ((None, at) ∷ ps) p = kept-behind ps p
kept-behind ((Some x, at) ∷ ps) p = ap (λ xs. x ∷ xs) (kept-behind ps p)

kept_starts-behind : (ps : List Piece) (p : Piece) → kept_starts (ps ++ (p ∷ [])) ≡ kept_starts ps ++ kept_starts (p ∷ [])
kept_starts-behind [] p = refl
kept_starts-behind ((None, at) ∷ ps) p = kept_starts-behind ps p
kept_starts-behind ((Some x, at) ∷ ps) p = ap (λ xs. at ∷ xs) (kept_starts-behind ps p)

pub one_more : (ts : Lexemes) (inside : Bool) (rest : Lexemes) (items : List Item) (starts : List ℕ) → HasRead ts inside rest items starts
    → (x : SomeItem) (mid : Lexemes) (at : ℕ)
    → item.parse rest ≡ Some (x, mid) → is_allowed inside x ≡ true → at + length rest ≡ length ts
    → (behind : Bool) (items' : List Item) (starts' : List ℕ) → behind ≡ leaves_open x → items' ≡ items ++ kept ((x, at) ∷ [])
    → starts' ≡ starts ++ kept_starts ((x, at) ∷ [])
    → HasRead ts behind mid items' starts'
one_more ts inside rest items starts r x mid at h a p behind items' starts' e f g = record {
  pieces = r.pieces ++ ((x, at) ∷ []);
  front = subst (λ i. Front (length ts) false ts (r.pieces ++ ((x, at) ∷ [])) i mid) (sym e)
      (Front-more (length ts) false ts r.pieces inside rest mid x at r.front (item-firm.exact.sound rest x mid h) a p);
  tree = kept-behind r.pieces (x, at) ∙ ap (λ xs. xs ++ kept ((x, at) ∷ [])) r.tree ∙ sym f;
  places = kept_starts-behind r.pieces (x, at) ∙ ap (λ xs. xs ++ kept_starts ((x, at) ∷ [])) r.places ∙ sym g;
}

pub no_item : (inside : Bool) (ts : Lexemes) → item.parse ts ≡ None → NoItem inside ts
no_item inside ts e x mid h a = let f : ◌≡◌ {A = Option (SomeItem × Lexemes)} None (Some (x, mid)) = sym e ∙ item-firm.exact.only ts x mid h in cc

pub not_allowed : (inside : Bool) (ts : Lexemes) (x : SomeItem) (rest : Lexemes) → item.parse ts ≡ Some (x, rest) → is_allowed inside x ≡ false
    → NoItem inside ts
not_allowed inside ts x rest e no_leave y mid h a =
    let one = item-one ts x y rest mid (item-firm.exact.sound ts x rest e) h in
    let c : is_allowed inside x ≡ true = ap (is_allowed inside) one.0 ∙ a in cc

pub empty : (ts : Lexemes) → length ts ≡ 0 → ts ≡ []
empty [] e = refl
empty (l ∷ ts) e = absurd (omega arith)

-- where items and a place are left, none of them allowed
pub unread_at : (ts : Lexemes) (inside : Bool) (rest : Lexemes) (items : List Item) (starts : List ℕ) → HasRead ts inside rest items starts
    → NoItem inside rest → 0 < length rest → (at : ℕ) → at + length rest ≡ length ts
    → IsUnread ts at
unread_at ts inside rest items starts r none some at p = record {
  pieces = r.pieces;
  inside = inside;
  rest = rest;
  front = r.front;
  stops = record { none = none; open_end = λ e. let l = ap length e in absurd (omega arith) };
  place = p;
}

-- where a function is open at the end
pub open_at_end : (ts : Lexemes) (rest : Lexemes) (items : List Item) (starts : List ℕ) (inside : Bool) → inside ≡ true → HasRead ts inside rest items starts
    → length rest ≡ 0 → IsUnread ts (length ts)
open_at_end ts rest items starts inside i r e = record {
  pieces = r.pieces;
  inside = inside;
  rest = rest;
  front = r.front;
  stops = record { none = subst (λ c. NoItem inside c) (sym (empty rest e)) (nothing-read inside); open_end = λ _. i };
  place = omega arith;
}

pub whole_module : (ts : Lexemes) (rest : Lexemes) (items : List Item) (starts : List ℕ) (inside : Bool) → inside ≡ false → HasRead ts inside rest items starts
    → length rest ≡ 0 → IsModule ts items starts
whole_module ts rest items starts inside i r e = record {
  pieces = r.pieces;
  whole = subst (λ j. Front (length ts) false ts r.pieces j []) i (subst (λ c. Front (length ts) false ts r.pieces inside c) (empty rest e) r.front);
  tree = r.tree;
  places = r.places;
}

-- where no item is read, by the reason that was given
pub unread_by : (ts : Lexemes) (inside : Bool) (rest : Lexemes) (items : List Item) (starts : List ℕ) → HasRead ts inside rest items starts → 0 < length rest
    → (at : ℕ) → at + length rest ≡ length ts
    → (e : ReadError) (left : Lexemes) → IsReadAt inside at rest (Err e) left → NamesUnread ts e
unread_by ts inside rest items starts r some at p (error.NotAnItem n) left (same, none) = unread_at ts inside rest items starts r none some n (omega arith)
unread_by ts inside rest items starts r some at p error.OutOfMemory left h = tt
