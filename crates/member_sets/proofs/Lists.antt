-- The lists of the members of each class, as the members are filed one after the other.
use Rattle.std.proofs.Common.{◌≡◌, ℕ, ◌+◌, ◌<◌, ◌==◌, true, false, suc, List, [], ◌∷◌, ◌++◌, length, map, take, get_or, set, slice_index, refl, sym, ap}
use Rattle.std.proofs.Common.{◌∙◌, subst}
use Rattle.std.proofs.Common.{arith, ⊎_elim}
use Rattle.std.specs.List.{All, Contains, filter, list_any}
use Rattle.std.proofs.lemmas.Bool.{true≢false, eqb-true, eq-eqb, ne_eqb, cases_eq}
use Rattle.std.proofs.lemmas.Bool.Decides.{nat_tests}
use Rattle.std.proofs.lemmas.List.{same_lists, length-map, length-set, map-append, get_or-map, get_or-set_same, get_or-set_other, get_or_default, take_all}
use Rattle.std.proofs.lemmas.List.Elements.{All-map, Contains-get_or}
use Rattle.std.proofs.lemmas.List.Folds.{list_any_at}
use Rattle.std.proofs.lemmas.Map.Views.{Contains-from_any}
use Rattle.std.proofs.lemmas.Simd.{map-map}
use Rattle.traces.proofs.Bools.{on_bool}
use Rattle.traces.proofs.Lists.{from_filter}
use Rattle.member_sets.specs.Marks.{AreMarked}
use Rattle.member_sets.specs.Members.{IsMemberList, same_class, is_class_leader, parts_by}
use Rattle.member_sets.specs.Filed.{AreFiled}
use Rattle.member_sets.proofs.Firsts.{any_firsts, firsts_taken, firsts_left, leads}
use Rattle.member_sets.proofs.Parts.{filter_taken, filter_left, part_is}

pub flipped : (x y : ℕ) → (x == y) ≡ (y == x)
flipped x y = grind (arith, nat_tests)

none_filed : (class : ℕ → ℕ) (c : ℕ) (xs : List ℕ) → list_any (λ x. x == c) (map class xs) ≡ false → filter (λ m. c == class m) xs ≡ []
none_filed class c [] h = refl
none_filed class c (x ∷ xs) h = on_bool (class x == c)
    (λ t. absurd (true≢false (sym (rw t refl) ∙ h)))
    (λ f. rw (flipped c (class x) ∙ f) (none_filed class c xs (sym (rw f refl) ∙ h)))

pub map_where : (f g : ℕ → List ℕ) (xs : List ℕ) → All (λ x. f x ≡ g x) xs → map f xs ≡ map g xs
map_where f g [] h = refl
map_where f g (x ∷ xs) h = let a : f x ≡ g x = h 0 x (omega arith) in let b = map_where f g xs (λ k d l. h (suc k) d (omega arith)) in cc

-- what the mark of a number that is there tells
pub marked_at : (ns ms : List ℕ) → AreMarked ns ms → (x : ℕ) → list_any (λ n. n == x) ns ≡ true
    → (x < length ms) × (slice_index ms x < length ns) × (slice_index ns (slice_index ms x) ≡ x)
marked_at ns ms a x h =
    let there : Contains ns x = Contains-from_any {eq = λ p q. p == q} (λ p q e. eqb-true p q e) x ns (ap (λ p. list_any p ns) (λ i c. flipped x c i) ∙ h) in
    let i = there.0 in let l = there.1 in
    let is : slice_index ns i ≡ x = (get_or_default ns i 0 x l ∙ there.2) in
    let w = a.within i l in let m : slice_index ms x ≡ i = (ap (slice_index ms) (sym is) ∙ a.mark i l) in
    (omega arith, omega arith, ap (slice_index ns) m ∙ is)

pub none_met : (class : ℕ → ℕ) (members : List ℕ) → AreFiled class members 0 [] []
none_met class members = record { classes_are = refl; lists_are = refl }

-- one member more
module _ (class : ℕ → ℕ) (members : List ℕ) (is : IsMemberList members) (i : ℕ) (l : i < length members) (m c : ℕ)
    (here : get_or members i 0 ≡ m) (of : class m ≡ c) (classes marks : List ℕ) (lists : List (List ℕ))
    (a : AreMarked classes marks) (p : AreFiled class members i classes lists) where
  abbrev of_class : ℕ → ℕ → List ℕ
  of_class j x = filter (λ k. x == class k) (take j members)

  is_class : class (get_or members i 0) ≡ c
  is_class = ap class here ∙ of

  not_more : (x : ℕ) → (x ≡ c → ⊥) → of_class (i + 1) x ≡ of_class i x
  not_more x ne = filter_left (λ k. x == class k) members i l (ne_eqb _ _ (λ e. ne (e ∙ is_class)))

  one_more : (x : ℕ) → x ≡ c → of_class (i + 1) x ≡ of_class i x ++ m ∷ []
  one_more x e = filter_taken (λ k. x == class k) members i l (eq-eqb _ _ (e ∙ sym is_class)) ∙ ap (λ y. of_class i x ++ y ∷ []) here

  -- it is the first of its class
  pub begun : list_any (λ k. k == c) classes ≡ false → AreFiled class members (i + 1) (classes ++ c ∷ []) (lists ++ (m ∷ []) ∷ [])
  begun h =
      let none : list_any (λ x. x == c) (map class (take i members)) ≡ false =
      sym (any_firsts class members is c i (omega arith)) ∙ ap (list_any (λ x. x == c)) (sym p.classes_are) ∙ h in
      let own : m ∷ [] ≡ of_class (i + 1) c = sym (one_more c refl ∙ ap (λ xs. xs ++ m ∷ []) (none_filed class c (take i members) none)) in
      let others : map (of_class i) classes ≡ map (of_class (i + 1)) classes = map_where (of_class i) (of_class (i + 1)) classes (λ k d b.
      sym (not_more (get_or classes k d) (λ e. true≢false (sym (list_any_at (λ n. n == c) classes k d b (eq-eqb _ _ e)) ∙ h)))) in
      record {
        classes_are = ap (λ xs. xs ++ c ∷ []) p.classes_are ∙ ap (λ y. map class (filter (is_class_leader class members) (take i members)) ++ y ∷ [])
            (sym is_class)
            ∙ sym (firsts_taken class members is i l (leads class members is i c classes false l p.classes_are (sym is_class) h));
        lists_are = ap (λ xs. xs ++ (m ∷ []) ∷ []) (p.lists_are ∙ others) ∙ ap (λ y. map (of_class (i + 1)) classes ++ y ∷ []) own
            ∙ sym (map-append (of_class (i + 1)) classes (c ∷ []));
      }

  -- its class is the one at an index
  pub joined : (at : ℕ) → at < length classes → get_or classes at 0 ≡ c
      → AreFiled class members (i + 1) classes (set lists at (get_or lists at [] ++ m ∷ []))
  joined at b e =
      let new = get_or lists at [] ++ m ∷ [] in
      let many : length lists ≡ length classes = ap length p.lists_are ∙ length-map classes (of_class i) in
      let many_set = length-set lists at new in let many_map = length-map classes (of_class (i + 1)) in
      let was : (k : ℕ) (d : List ℕ) → k < length classes → get_or lists k d ≡ of_class i (get_or classes k 0) =
      (λ k d h. ap (λ zs. get_or zs k d) p.lists_are ∙ get_or-map (of_class i) classes k 0 d h) in
      let now : (k : ℕ) (d : List ℕ) → k < length classes → get_or (map (of_class (i + 1)) classes) k d ≡ of_class (i + 1) (get_or classes k 0) =
      (λ k d h. get_or-map (of_class (i + 1)) classes k 0 d h) in
      record {
        classes_are = p.classes_are ∙ sym (firsts_left class members is i l
            (leads class members is i c classes true l p.classes_are (sym is_class) (list_any_at (λ k. k == c) classes at 0 b (eq-eqb _ _ e))));
        lists_are = same_lists (set lists at new) (map (of_class (i + 1)) classes) (omega arith) (λ k d h. ⊎_elim
            (λ (f : k ≡ at). ap (λ j. get_or (set lists at new) j d) f ∙ get_or-set_same lists at new d (omega arith)
            ∙ ap (λ xs. xs ++ m ∷ []) (was at [] b) ∙ sym (one_more (get_or classes at 0) e)
            ∙ ap (λ j. of_class (i + 1) (get_or classes j 0)) (sym f) ∙ sym (now k d (omega arith)))
            (λ (f : k ≡ at → ⊥). get_or-set_other lists at k new d f ∙ was k d (omega arith)
            ∙ sym (not_more (get_or classes k 0) (λ g. f (sym (a.mark k (omega arith)) ∙ ap (slice_index marks) (g ∙ sym e) ∙ a.mark at b)))
            ∙ sym (now k d (omega arith)))
            (cases_eq k at));
      }

pub all_filed : (class : ℕ → ℕ) (members : List ℕ) (n : ℕ) (classes : List ℕ) (lists : List (List ℕ)) → n ≡ length members
    → AreFiled class members n classes lists → lists ≡ parts_by class members
all_filed class members n classes lists e p =
    let leaders : List ℕ → List ℕ = λ xs. filter (is_class_leader class members) xs in
    p.lists_are ∙ ap (map (λ c. filter (λ m. c == class m) (take n members))) p.classes_are
    ∙ map-map (λ c. filter (λ m. c == class m) (take n members)) class (leaders (take n members))
    ∙ ap (λ xs. map (λ m. filter (same_class class m) xs) (leaders xs)) (take_all n members (omega arith))

pub parts_are : (class : ℕ → ℕ) (members : List ℕ) → IsMemberList members → All IsMemberList (parts_by class members)
parts_are class members is =
    All-map IsMemberList (λ m. filter (same_class class m) members) (filter (is_class_leader class members) members) (λ k d b.
    let ms = filter (is_class_leader class members) members in
    let c = (from_filter (is_class_leader class members) members (get_or ms k d) (Contains-get_or ms k d b)).0 in
    subst (λ y. IsMemberList (filter (same_class class y) members)) (get_or_default members c.0 0 (get_or ms k d) c.1 ∙ c.2) (part_is class members is c.0 c.1))
