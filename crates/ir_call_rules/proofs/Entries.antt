-- Two entries of one label differ exactly where one differs from the first of its label.
use Rattle.std.proofs.Common.{◌≡◌, ℕ, ◌+◌, ◌<◌, length, take, get_or, Bool, true, false, not, ◌||◌, ◌&&◌, List, [], ◌∷◌, ◌++◌, Option, Some, None, cond, refl, sym, ap, subst, ◌∙◌}
use Rattle.std.specs.List.{list_any}
use Rattle.std.proofs.lemmas.List.{take_more, map-append}
use Rattle.std.proofs.lemmas.List.Sums.{fold-append}
use Rattle.ir_tree.specs.declared.name.Name.{Name}
use Rattle.ir_tree.specs.declared.operand.Opd.{Opd}
use Rattle.ir_names.specs.Names.{same_name, defined, with_first, firsts}
use Rattle.ir_names.proofs.Defined.{same-eq, same-sym, defined-firsts}
use Rattle.ir_rules.specs.Blocks.{same_operand, two_differ}
use Rattle.ir_call_rules.specs.Sources.{by_label, differs_from_first}
use Rattle.ir_call_rules.proofs.Tests.{nor, or-true, exchanged, any-last}
use Rattle.ir_call_rules.proofs.Operands.{operand-eq, operand-self}

abbrev Entry : Type 0
Entry = Opd × Name

same-operand-sym : (a b : Opd) → same_operand a b ≡ same_operand b a
same-operand-sym a b = by (same_operand a b) refl (same_operand b a) refl
  where
    by : (p : Bool) → same_operand a b ≡ p → (q : Bool) → same_operand b a ≡ q → p ≡ q
    by true e true f = refl
    by false e false f = refl
    by true e false f = let P : Opd → Type 0 = λ c. same_operand c a ≡ true in sym (subst P (operand-eq a b e) (operand-self a)) ∙ f
    by false e true f = let P : Opd → Type 0 = λ c. same_operand c b ≡ true in sym e ∙ subst P (operand-eq b a f) (operand-self b)

-- the entry has the label of another and isn't that one's
abbrev clash : Entry → Entry → Bool
clash e d = same_name e.1 d.1 && not (same_operand e.0 d.0)

clash-sym : (d e : Entry) → clash d e ≡ clash e d
clash-sym d e = λ i. same-sym d.1 e.1 i && not (same-operand-sym d.0 e.0 i)

clashes-with : (es : List Entry) (e : Entry) → list_any (λ d. clash d e) es ≡ list_any (clash e) es
clashes-with es e = λ i. list_any (λ d. clash-sym d e i) es

differ-last : (es : List Entry) (e : Entry) → two_differ (es ++ e ∷ []) ≡ (two_differ es || list_any (λ d. clash d e) es)
differ-last [] e = refl
differ-last (d ∷ es) e =
    ap (λ u. u || two_differ (es ++ e ∷ [])) (any-last (clash d) es e)
    ∙ ap (λ u. (list_any (clash d) es || clash d e) || u) (differ-last es e)
    ∙ exchanged (list_any (clash d) es) (clash d e) (two_differ es) (list_any (λ d. clash d e) es)

neither : (a b : Bool) → (a || b) ≡ false → (a ≡ false) × (b ≡ false)
neither true b h = cc
neither false b h = (refl, h)

-- where no two differ, an entry clashes with some of its label exactly where it does with the first
clash-first : (es : List Entry) (e : Entry) → two_differ es ≡ false → list_any (clash e) es ≡ differs_from_first (defined (by_label es) e.1) e.0
clash-first [] e h = refl
clash-first (d ∷ es) e h = by (same_name e.1 d.1) refl (clash-first es e parts.1)
  where
    parts : (list_any (clash d) es ≡ false) × (two_differ es ≡ false)
    parts = neither (list_any (clash d) es) (two_differ es) h

    -- the first of the label is written as the entry is: no other of the label differs
    alike : same_name e.1 d.1 ≡ true → same_operand e.0 d.0 ≡ true → list_any (clash e) es ≡ false
    alike n o =
        let P : Name → Type 0 = λ m. list_any (λ (c : Entry). same_name m c.1 && not (same_operand d.0 c.0)) es ≡ false in
        let Q : Opd → Type 0 = λ a. list_any (λ (c : Entry). same_name e.1 c.1 && not (same_operand a c.0)) es ≡ false in
        subst Q (sym (operand-eq e.0 d.0 o)) (subst P (sym (same-eq e.1 d.1 n)) parts.0)

    first : same_name e.1 d.1 ≡ true → (q : Bool) → same_operand e.0 d.0 ≡ q → (not q || list_any (clash e) es) ≡ not (same_operand d.0 e.0)
    first n true o = alike n o ∙ sym (ap not (same-operand-sym d.0 e.0 ∙ o))
    first n false o = sym (ap not (same-operand-sym d.0 e.0 ∙ o))

    by : (p : Bool) → same_name e.1 d.1 ≡ p → list_any (clash e) es ≡ differs_from_first (defined (by_label es) e.1) e.0
        → ((p && not (same_operand e.0 d.0)) || list_any (clash e) es) ≡ differs_from_first (cond p (Some d.0) (defined (by_label es) e.1)) e.0
    by true n rest = first n (same_operand e.0 d.0) refl
    by false n rest = rest

-- with one entry more two differ, if two did or the entry isn't the first of its label
pub differ-more : (es : List Entry) (e : Entry) → two_differ (es ++ e ∷ []) ≡ (two_differ es || differs_from_first (defined (firsts (by_label es)) e.1) e.0)
differ-more es e = differ-last es e ∙ by (two_differ es) refl
  where
    by : (b : Bool) → two_differ es ≡ b
        → (b || list_any (λ d. clash d e) es) ≡ (b || differs_from_first (defined (firsts (by_label es)) e.1) e.0)
    by true h = refl
    by false h = clashes-with es e ∙ clash-first es e h ∙ ap (λ o. differs_from_first o e.0) (sym (defined-firsts (by_label es) [] e.1))

module _ (es : List Entry) (i : ℕ) (x : Entry) (h : i < length es) (e : x ≡ get_or es i x) where
  taken : take (i + 1) es ≡ take i es ++ x ∷ []
  taken = take_more es i x h ∙ ap (λ y. take i es ++ y ∷ []) (sym e)

  pub label-more : with_first (firsts (by_label (take i es))) (x.1, x.0) ≡ firsts (by_label (take (i + 1) es))
  label-more = sym (
      ap (λ l. firsts (by_label l)) taken
      ∙ ap firsts (map-append (λ (e : Entry). (e.1, e.0)) (take i es) (x ∷ []))
      ∙ fold-append with_first [] (by_label (take i es)) ((x.1, x.0) ∷ [])
      )

  pub differ-turn : (two_differ (take i es) || differs_from_first (defined (firsts (by_label (take i es))) x.1) x.0) ≡ two_differ (take (i + 1) es)
  differ-turn = sym (ap two_differ taken ∙ differ-more (take i es) x)
