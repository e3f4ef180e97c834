-- The definitions that lead to others, by number and by name.
use Rattle.std.proofs.Common.{◌≡◌, ℕ, zero, suc, nat_eq, Bool, true, false, ◌||◌, not, is_some, List, [], ◌∷◌, ◌++◌, length, map, Option, Some, None, slice_get, unwrap_or, refl, sym, ap, ◌∙◌, subst}
use Rattle.std.specs.List.{list_any, flat_map}
use Rattle.std.specs.Option.{option_map}
use Rattle.std.proofs.lemmas.Bool.Decides.{Decides-eqb}
use Rattle.std.proofs.lemmas.Option.{slice_get-map, same_Some}
use Rattle.std.proofs.lemmas.List.{length-map}
use Rattle.ir_tree.specs.declared.name.Name.{Name}
use Rattle.ir_tree.specs.declared.type_text.TyText.{TyText}
use Rattle.ir_names.specs.Names.{same_name, defined, firsts}
use Rattle.ir_names.proofs.Defined.{same-eq, same-self}
use Rattle.ir_rules.specs.Types.{TypeDefs, names_in, names_of, leads, holds_itself, has_unknown}
use Rattle.ir_types.specs.Definitions.{numbered_from}
use Rattle.ir_types.specs.Graph.{maybe_number, numbers_in, names_unknown, next_of, reaches}
use Rattle.ir_types.specs.Named.{Marks}
use Rattle.ir_types.proofs.Numbered.{here, nowhere, Here}

module _ (defs : TypeDefs) (nums : List (Name × ℕ)) (e : nums ≡ firsts (numbered_from 0 defs)) where
  abbrev edges : List (List ℕ)
  edges = map (λ (d : Name × TyText). numbers_in nums d.1) defs

  -- a name without a definition leads nowhere
  leads-none : (a b : Name) (k : ℕ) → defined defs a ≡ None → leads defs k a b ≡ false
  unfolding leads
  leads-none a b zero h = refl
  leads-none a b (suc k) h = ap (λ o. list_any (λ c. same_name c b || leads defs k c b) (names_of o)) h

  -- two names have one number only where they are one
  same-numbers : (m b : Name) (c j : ℕ) → defined nums m ≡ Some c → defined nums b ≡ Some j → nat_eq c j ≡ same_name m b
  same-numbers m b c j p q = by (nat_eq c j) refl (same_name m b) refl
    where
      forth : c ≡ j → same_name m b ≡ true
      forth f =
          let x = here defs nums e m c p in
          let y = here defs nums e b j q in
          let at : ◌≡◌ {A = Option (Name × TyText)} (Some (m, x.body)) (Some (b, y.body)) = sym x.at ∙ ap (slice_get defs) f ∙ y.at in
          let one : m ≡ b = ap (λ (d : Name × TyText). d.0) (same_Some (m, x.body) (b, y.body) at) in
          subst (λ (n : Name). same_name m n ≡ true) one (same-self m)

      back : same_name m b ≡ true → nat_eq c j ≡ true
      back h = (Decides-eqb c j).1 (same_Some c j (sym p ∙ ap (defined nums) (same-eq m b h) ∙ q))

      by : (x : Bool) → nat_eq c j ≡ x → (y : Bool) → same_name m b ≡ y → x ≡ y
      by true f true g = refl
      by false f false g = refl
      by true f false g = sym (forth ((Decides-eqb c j).0 f)) ∙ g
      by false f true g = sym f ∙ back g

  -- a name without a number isn't one that has one
  other-name : (m b : Name) (j : ℕ) → defined nums m ≡ None → defined nums b ≡ Some j → same_name m b ≡ false
  other-name m b j p q = by (same_name m b) refl
    where
      by : (x : Bool) → same_name m b ≡ x → x ≡ false
      by false f = refl
      by true f =
          let no : ◌≡◌ {A = Option ℕ} None (Some j) = sym p ∙ ap (defined nums) (same-eq m b f) ∙ q in cc

  pub edges-at : (a : Name) (i : ℕ) (h : Here defs a i) → next_of edges i ≡ numbers_in nums h.body
  edges-at a i h =
      ap (λ o. unwrap_or o []) (slice_get-map (λ (d : Name × TyText). numbers_in nums d.1) defs i
      ∙ ap (option_map (λ (d : Name × TyText). numbers_in nums d.1)) h.at)

  module _ (b : Name) (j : ℕ) (q : defined nums b ≡ Some j) where
    one-name : (k : ℕ) → ((a : Name) (i : ℕ) → defined nums a ≡ Some i → reaches edges k i j ≡ leads defs k a b) → (m : Name) (o : Option ℕ)
        → defined nums m ≡ o → (rest : List ℕ) (others : Bool) → list_any (λ c. nat_eq c j || reaches edges k c j) rest ≡ others
        → list_any (λ c. nat_eq c j || reaches edges k c j) (maybe_number o ++ rest) ≡ ((same_name m b || leads defs k m b) || others)
    one-name k h m None p rest others f =
        f ∙ sym (λ i. (other-name m b j p q i || leads-none m b k (nowhere defs nums e m p) i) || others)
    one-name k h m (Some c) p rest others f = λ i. (same-numbers m b c j p q i || h m c p i) || f i

    each-name : (k : ℕ) → ((a : Name) (i : ℕ) → defined nums a ≡ Some i → reaches edges k i j ≡ leads defs k a b) → (ns : List Name)
        → list_any (λ c. nat_eq c j || reaches edges k c j) (flat_map (λ n. maybe_number (defined nums n)) ns)
        ≡ list_any (λ m. same_name m b || leads defs k m b) ns
    each-name k h [] = refl
    each-name k h (m ∷ ns) = one-name k h m (defined nums m) refl (flat_map (λ n. maybe_number (defined nums n)) ns) (list_any (λ m. same_name m b || leads defs k m b) ns) (each-name k h ns)

    pub leads-numbers : (k : ℕ) (a : Name) (i : ℕ) → defined nums a ≡ Some i → reaches edges k i j ≡ leads defs k a b
    unfolding reaches leads
    leads-numbers zero a i p = refl
    leads-numbers (suc k) a i p =
        let h = here defs nums e a i p in
        ap (list_any (λ c. nat_eq c j || reaches edges k c j)) (edges-at a i h)
        ∙ each-name k (leads-numbers k) (names_in h.body)
        ∙ ap (λ o. list_any (λ c. same_name c b || leads defs k c b) (names_of o)) (sym h.is)

  -- flags of the definitions that reach themselves say which contain themselves
  pub marks-of : (es : List (List ℕ)) (flags : List Bool) → es ≡ edges
      → ((d : ℕ) → unwrap_or (slice_get flags d) false ≡ reaches es (length es) d d) → Marks nums flags defs
  marks-of es flags same exact n d p =
      exact d ∙ ap (λ (l : List (List ℕ)). reaches l (length l) d d) same
      ∙ ap (λ k. reaches edges k d d) (length-map defs (λ (d : Name × TyText). numbers_in nums d.1))
      ∙ leads-numbers n d p (length defs) n d p

  pub unnamed-holds : (n : Name) → defined nums n ≡ None → holds_itself defs n ≡ false
  unnamed-holds n p = leads-none n n (length defs) (nowhere defs nums e n p)

  known-same : (n : Name) → is_some (defined nums n) ≡ is_some (defined defs n)
  known-same n = by (defined nums n) refl
    where
      by : (o : Option ℕ) → defined nums n ≡ o → is_some o ≡ is_some (defined defs n)
      by None p = sym (ap is_some (nowhere defs nums e n p))
      by (Some d) p = sym (ap is_some (here defs nums e n d p).is)

  pub unknown-same : (t : TyText) → names_unknown nums t ≡ has_unknown defs t
  unknown-same t = λ i. list_any (λ n. not (known-same n i)) (names_in t)
