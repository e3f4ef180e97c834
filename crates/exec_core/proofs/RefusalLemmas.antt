-- After a refusal the forks are released, and the state comes back.
use Rattle.std.proofs.Common.{◌≡◌, ℕ, ◌+◌, length, length-append, arith, List, [], ◌∷◌, ◌++◌, map, reverse, nat_eq, refl, sym, ap, ◌∙◌, subst, append_assoc}
use Rattle.std.proofs.Common.{⊎_elim}
use Rattle.std.specs.List.{All, Contains, IsDistinct}
use Rattle.std.specs.List.Sorted.{IsPermutation}
use Rattle.std.proofs.lemmas.List.{map-append, reverse-append, reverse-reverse, length-reverse}
use Rattle.std.proofs.lemmas.Simd.{map-map}
use Rattle.std.proofs.lemmas.List.Elements.{All-map, All-contains, Contains-append_left, Contains-append_right, Contains-push, Contains-append_cases}
use Rattle.std.proofs.lemmas.List.Sorted.{IsPermutation-sym, IsPermutation-trans, IsPermutation-append_left, IsPermutation-append_right, IsPermutation-reverse}
use Rattle.std.proofs.lemmas.List.Sorted.{Contains-permutation}
use Rattle.std.proofs.lemmas.Map.Keys.{IsDistinct-IsPermutation}
use Rattle.traces.specs.View.{View, IsLawful, Keeps}
use Rattle.traces.proofs.Permutations.{cancel_front}
use Rattle.traces.proofs.Steps.{length_map}
use Rattle.exec_core.specs.Held.{AreForksOf, IsBack}
use Rattle.exec_core.specs.Children.{Seen, seen, numbers_of, IsPlanned, IsReadied, AreReadying, IsGivenBack}
use Rattle.exec_core.specs.Plans.{states_of}
use Rattle.exec_core.specs.declared.divide.Child.{Child}
use Rattle.exec_machine.proofs.Numbers.{flips}
use Rattle.exec_core.proofs.Holding.{apart_lists, nowhere, All-from_contains}
use Rattle.exec_core.proofs.ChildLemmas.{contains_map}
use Rattle.exec_core.proofs.PrepareLemmas.{numbers_are, left_distinct, right_distinct}

pub map_reverse : {X Y : Type 0} (f : X → Y) (xs : List X) → map f (reverse xs) ≡ reverse (map f xs)
map_reverse f [] = refl
map_reverse f (x ∷ xs) =
    ap (map f) (reverse-append (x ∷ []) xs) ∙ map-append f (reverse xs) (x ∷ []) ∙ ap (λ ys. ys ++ f x ∷ []) (map_reverse f xs)
    ∙ sym (reverse-append (f x ∷ []) (map f xs))

abbrev pub rest_of : {X : Type 0} → List X → List X
rest_of [] = []
rest_of (x ∷ xs) = xs

abbrev pub first_of : {X : Type 0} → X → List X → X
first_of d [] = d
first_of d (x ∷ xs) = x

-- lists with a last element each are equal where the two parts are
pub ends : {X : Type 0} (xs ys : List X) (x y : X) → xs ++ x ∷ [] ≡ ys ++ y ∷ [] → (xs ≡ ys) × (x ≡ y)
ends {X} xs ys x y h =
    let r : x ∷ reverse xs ≡ y ∷ reverse ys = sym (reverse-append xs (x ∷ [])) ∙ ap reverse h ∙ reverse-append ys (y ∷ []) in
    (sym (reverse-reverse xs) ∙ ap reverse (ap rest_of r) ∙ reverse-reverse ys, ap (first_of y) r)

module _ {M S W C : Type 0} (V : View M S W C) where
  -- the last of the children all is x, the others stand in two lists that are released
  module _ (c : M) (all fore back : List (Child S C)) (x : Child S C) (are : all ≡ (fore ++ reverse back) ++ x ∷ [])
      (o : All (λ p. V.is_out c p.state) all) (d : IsDistinct nat_eq (numbers_of V all)) where
    numbers_are_of : numbers_of V all ≡ (numbers_of V fore ++ reverse (numbers_of V back)) ++ V.number x.state ∷ []
    numbers_are_of =
        ap (numbers_of V) are ∙ map-append (λ p. V.number p.state) (fore ++ reverse back) (x ∷ [])
        ∙ ap (λ ns. ns ++ V.number x.state ∷ []) (map-append (λ p. V.number p.state) fore (reverse back)
        ∙ ap (λ ns. numbers_of V fore ++ ns) (map_reverse (λ p. V.number p.state) back))

    both_distinct : IsDistinct nat_eq (numbers_of V fore ++ numbers_of V back)
    both_distinct = IsDistinct-IsPermutation nat_eq flips (numbers_of V fore ++ reverse (numbers_of V back)) (numbers_of V fore ++ numbers_of V back)
        (IsPermutation-append_right (numbers_of V fore) _ _ (IsPermutation-sym _ _ (IsPermutation-reverse (numbers_of V back))))
        (left_distinct (numbers_of V fore ++ reverse (numbers_of V back)) (V.number x.state ∷ []) (subst (IsDistinct nat_eq) numbers_are_of d))

    in_all : (p : Child S C) → Contains (fore ++ reverse back) p → V.is_out c p.state
    in_all p i = All-contains (λ y. V.is_out c y.state) ((fore ++ reverse back) ++ x ∷ []) p (subst (All (λ y. V.is_out c y.state)) are o)
        (Contains-append_left (fore ++ reverse back) (x ∷ []) p i)

    states_numbers : (ps : List (Child S C)) → map V.number (states_of ps) ≡ numbers_of V ps
    states_numbers ps = map-map V.number (λ p. p.state) ps

    pub fore_out : All (V.is_out c) (states_of fore)
    fore_out = All-map (V.is_out c) (λ p. p.state) fore (All-from_contains (λ p. V.is_out c p.state) fore
        (λ p i. in_all p (Contains-append_left fore (reverse back) p i)))

    pub fore_distinct : IsDistinct nat_eq (map V.number (states_of fore))
    fore_distinct = subst (IsDistinct nat_eq) (sym (states_numbers fore)) (left_distinct (numbers_of V fore) (numbers_of V back) both_distinct)

    pub back_distinct : IsDistinct nat_eq (map V.number (states_of back))
    back_distinct = subst (IsDistinct nat_eq) (sym (states_numbers back)) (right_distinct (numbers_of V fore) (numbers_of V back) both_distinct)

    pub back_out : (e : M) → Keeps V c e (map V.number (states_of fore)) → All (V.is_out e) (states_of back)
    back_out e k = All-map (V.is_out e) (λ p. p.state) back (All-from_contains (λ p. V.is_out e p.state) back (λ p i.
        k.out p.state (in_all p (Contains-append_right fore (reverse back) p (Contains-permutation back (reverse back) p (IsPermutation-reverse back) i)))
        (λ h. apart_lists (numbers_of V fore) (numbers_of V back) (V.number p.state) both_distinct
        (subst (λ xs. Contains xs (V.number p.state)) (states_numbers fore) h) (contains_map (λ y. V.number y.state) back p i))))

    module _ (lawful : IsLawful V) (e f : M) (p : IsPermutation (V.out_numbers c) (map V.number (states_of fore) ++ V.out_numbers e))
        (kp : Keeps V c e (map V.number (states_of fore)))
        (q : IsPermutation (V.out_numbers e) (map V.number (states_of back) ++ V.out_numbers f)) (kq : Keeps V e f (map V.number (states_of back))) where
      others_numbers : IsPermutation (numbers_of V fore ++ numbers_of V back) (numbers_of V (fore ++ reverse back))
      others_numbers = subst (IsPermutation (numbers_of V fore ++ numbers_of V back))
          (sym (map-append (λ y. V.number y.state) fore (reverse back) ∙ ap (λ ns. numbers_of V fore ++ ns) (map_reverse (λ y. V.number y.state) back)))
          (IsPermutation-append_right (numbers_of V fore) _ _ (IsPermutation-reverse (numbers_of V back)))

      not_fore : (j : ℕ) → (Contains (numbers_of V (fore ++ reverse back)) j → ⊥) → Contains (map V.number (states_of fore)) j → ⊥
      not_fore j ne h = ne (Contains-permutation (numbers_of V fore ++ numbers_of V back) (numbers_of V (fore ++ reverse back)) j others_numbers
          (Contains-append_left (numbers_of V fore) (numbers_of V back) j (subst (λ ns. Contains ns j) (states_numbers fore) h)))

      not_back : (j : ℕ) → (Contains (numbers_of V (fore ++ reverse back)) j → ⊥) → Contains (map V.number (states_of back)) j → ⊥
      not_back j ne h = ne (Contains-permutation (numbers_of V fore ++ numbers_of V back) (numbers_of V (fore ++ reverse back)) j others_numbers
          (Contains-append_right (numbers_of V fore) (numbers_of V back) j (subst (λ ns. Contains ns j) (states_numbers back) h)))

      pub given_back : IsGivenBack V c f all x.state
      given_back = record {
        others = fore ++ reverse back;
        last = x;
        all_are = are;
        is = refl;
        numbers = IsPermutation-trans _ _ _ (subst (λ ns. IsPermutation (V.out_numbers c) (ns ++ V.out_numbers e)) (states_numbers fore) p)
            (IsPermutation-trans _ _
            _ (subst (IsPermutation (numbers_of V fore ++ V.out_numbers e)) (sym (append_assoc (numbers_of V fore) (numbers_of V back) (V.out_numbers f)))
            (IsPermutation-append_right (numbers_of V fore) _ _
            (subst (λ ns. IsPermutation (V.out_numbers e) (ns ++ V.out_numbers f)) (states_numbers back) q)))
            (IsPermutation-append_left (V.out_numbers f) _ _ others_numbers));
        keeps = record {
          meanings = kq.meanings ∙ kp.meanings;
          stays = lawful.stays_trans c e f kp.stays kq.stays;
          out = λ t i ne. kq.out t (kp.out t i (not_fore _ ne)) (not_back _ ne);
          stands = λ t i ne. kq.stands t (kp.out t i (not_fore _ ne)) (not_back _ ne) ∙ kp.stands t i (not_fore _ ne);
        };
      }

  -- the children through a refused `ready_all` are out, and have different numbers
  module _ {b c : M} {all rest done : List (Child S C)} (r : AreReadying V b c all rest done) where
    pub readying_out : All (λ p. V.is_out c p.state) (rest ++ reverse done)
    readying_out = All-from_contains (λ p. V.is_out c p.state) (rest ++ reverse done) (λ p i. ⊎_elim
        (λ (h : Contains rest p). (All-contains (IsPlanned V c) rest p r.planned h).out)
        (λ (h : Contains (reverse done) p). (All-contains (IsReadied V c) done p r.readied
        (Contains-permutation (reverse done) done p (IsPermutation-sym _ _ (IsPermutation-reverse done)) h)).planned.out)
        (Contains-append_cases rest (reverse done) p i))

    pub readying_distinct : IsDistinct nat_eq (numbers_of V (rest ++ reverse done))
    readying_distinct = IsDistinct-IsPermutation nat_eq flips (numbers_of V rest ++ numbers_of V done) (numbers_of V (rest ++ reverse done))
        (subst (IsPermutation (numbers_of V rest ++ numbers_of V done))
        (sym (map-append (λ y. V.number y.state) rest (reverse done) ∙ ap (λ ns. numbers_of V rest ++ ns) (map_reverse (λ y. V.number y.state) done)))
        (IsPermutation-append_right (numbers_of V rest) _ _ (IsPermutation-reverse (numbers_of V done))))
        r.distinct

    pub readying_length : length rest + length done ≡ length all
    readying_length =
        let n = length-append (map (seen V c) rest) (reverse (map (seen V c) done)) in
        let i = length-reverse (map (seen V c) done) in let j = length_map (seen V c) rest in let k = length_map (seen V c) done in let l =
        length_map (seen V b) all in
        let m = ap length r.seen in omega arith

    seen_all : map (seen V c) (rest ++ reverse done) ≡ map (seen V b) all
    seen_all = map-append (seen V c) rest (reverse done) ∙ ap (λ xs. map (seen V c) rest ++ xs) (map_reverse (seen V c) done) ∙ r.seen

module _ {M S W C : Type 0} {V : View M S W C} (lawful : IsLawful V) {a b : M} {own : S} (o : V.is_out a own) (ps : List (Child S C))
    (f : AreForksOf V a own b (states_of ps)) (k : Keeps V a b []) where
  abbrev forked : List ℕ
  forked = map V.number (states_of ps)

  forked_apart : (j : ℕ) → Contains (V.out_numbers a) j → Contains forked j → ⊥
  forked_apart j i h = apart_lists forked (V.out_numbers a) j (IsDistinct-IsPermutation nat_eq flips _ _ (IsPermutation-sym _ _ f.numbers) (lawful.distinct b))
      h i

  same_out : (c : M) → IsPermutation (V.out_numbers b) (forked ++ V.out_numbers c) → IsPermutation (V.out_numbers a) (V.out_numbers c)
  same_out c p = cancel_front forked (V.out_numbers a) (V.out_numbers c) (IsPermutation-trans _ _ _ f.numbers p)

  pub fork_refused : {c : M} → IsPermutation (V.out_numbers b) (forked ++ V.out_numbers c) → Keeps V b c forked → IsBack V a c own own
  fork_refused {c} p kc =
      let n = forked_apart (V.number own) (lawful.among a own o) in
      record {
        number = refl;
        out = kc.out own (k.out own o (nowhere _)) n;
        stands = kc.stands own (k.out own o (nowhere _)) n ∙ k.stands own o (nowhere _);
        numbers = same_out c p;
        keeps = record {
          meanings = kc.meanings ∙ k.meanings;
          stays = lawful.stays_trans a b c k.stays kc.stays;
          out = λ t i ne. kc.out t (k.out t i (nowhere _)) (forked_apart _ (lawful.among a t i));
          stands = λ t i ne. kc.stands t (k.out t i (nowhere _)) (forked_apart _ (lawful.among a t i)) ∙ k.stands t i (nowhere _);
        };
      }

  module _ (q : Child S C) (qs : q.state ≡ own) {c e : M} {rest done : List (Child S C)} (r : AreReadying V b c (ps ++ q ∷ []) rest done) {s : S}
      (g : IsGivenBack V c e (rest ++ reverse done) s) where
    parted : (map (seen V c) g.others ≡ map (seen V b) ps) × (seen V c g.last ≡ seen V b q)
    parted = ends (map (seen V c) g.others) (map (seen V b) ps) (seen V c g.last) (seen V b q)
        (sym (map-append (seen V c) g.others (g.last ∷ [])) ∙ ap (map (seen V c)) (sym g.all_are) ∙ seen_all V r ∙ map-append (seen V b) ps (q ∷ []))

    others_are : numbers_of V g.others ≡ forked
    others_are = sym (map-map (λ (x : Seen W C). x.number) (seen V c) g.others) ∙ ap (map (λ (x : Seen W C). x.number)) parted.0
        ∙ map-map (λ (x : Seen W C). x.number) (seen V b) ps ∙ sym (map-map V.number (λ p. p.state) ps)

    last_out : V.is_out c s
    last_out = subst (V.is_out c) g.is (All-contains (λ p. V.is_out c p.state) (g.others ++ g.last ∷ []) g.last
        (subst (All (λ p. V.is_out c p.state)) g.all_are (readying_out V r)) (Contains-push g.others g.last))

    own_number : V.number s ≡ V.number own
    own_number = ap V.number (sym g.is) ∙ ap (λ (x : Seen W C). x.number) parted.1 ∙ ap V.number qs

    own_stands : V.stands c s ≡ V.stands a own
    own_stands = ap (V.stands c) (sym g.is) ∙ ap (λ (x : Seen W C). x.stands) parted.1 ∙ ap (V.stands b) qs ∙ k.stands own o (nowhere _)

    not_given : (j : ℕ) → Contains (V.out_numbers a) j → Contains (numbers_of V g.others) j → ⊥
    not_given j i h = forked_apart j i (subst (λ ns. Contains ns j) others_are h)

    not_readied : (j : ℕ) → Contains (V.out_numbers a) j → (Contains (V.number own ∷ []) j → ⊥) → Contains (numbers_of V (ps ++ q ∷ [])) j → ⊥
    not_readied j i ne h = ⊎_elim
        (λ (x : Contains forked j). forked_apart j i x)
        ne (Contains-append_cases forked (V.number own ∷ []) j
        (subst (λ ns. Contains ns j) (sym (map-map V.number (λ p. p.state) (ps ++ q ∷ [])) ∙ numbers_are lawful o ps f k q qs) h))

    pub ready_refused : IsBack V a e own s
    ready_refused =
        let n : Contains (numbers_of V g.others) (V.number s) → ⊥ =
        (λ h. not_given (V.number own) (lawful.among a own o) (subst (Contains (numbers_of V g.others)) own_number h)) in
        record {
          number = own_number;
          out = g.keeps.out s last_out n;
          stands = g.keeps.stands s last_out n ∙ own_stands;
          numbers = same_out e (subst (λ ns. IsPermutation (V.out_numbers b) (ns ++ V.out_numbers e)) others_are
              (subst (λ ns. IsPermutation ns (numbers_of V g.others ++ V.out_numbers e)) r.out g.numbers));
          keeps = record {
            meanings = g.keeps.meanings ∙ r.keeps.meanings ∙ k.meanings;
            stays = lawful.stays_trans a c e (lawful.stays_trans a b c k.stays r.keeps.stays) g.keeps.stays;
            out = λ t i ne. g.keeps.out t (r.keeps.out t (k.out t i (nowhere _)) (not_readied _ (lawful.among a t i) ne)) (not_given _ (lawful.among a t i));
            stands = λ t i ne. g.keeps.stands t (r.keeps.out t (k.out t i (nowhere _)) (not_readied _ (lawful.among a t i) ne))
                (not_given _ (lawful.among a t i))
                ∙ r.keeps.stands t (k.out t i (nowhere _)) (not_readied _ (lawful.among a t i) ne) ∙ k.stands t i (nowhere _);
          };
        }
