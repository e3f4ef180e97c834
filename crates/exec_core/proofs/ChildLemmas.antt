-- Pieces through the calls that ready and apply.
use Rattle.std.proofs.Common.{◌≡◌, ◌≢◌, ℕ, List, [], ◌∷◌, ◌++◌, map, reverse, nat_eq, false, refl, sym, ap, ◌∙◌, subst, append_assoc, append-nil, ⊎_elim}
use Rattle.std.specs.List.{All, Contains, IsDistinct}
use Rattle.std.specs.List.Sorted.{IsPermutation}
use Rattle.std.proofs.lemmas.Bool.{true≢false, eq-eqb}
use Rattle.std.proofs.lemmas.List.{map-append, reverse-append}
use Rattle.std.proofs.lemmas.List.Elements.{All-nil, All-push, All-contains, All-from_recursion, Contains-append_left, Contains-append_right, Contains-push}
use Rattle.std.proofs.lemmas.List.Sorted.{IsPermutation-middle, IsPermutation-append_right, IsPermutation-append_comm}
use Rattle.std.proofs.lemmas.Map.Keys.{IsDistinct-head, IsDistinct-IsPermutation}
use Rattle.traces.specs.View.{View, IsLawful, Keeps, KeepsReady, IsKnown}
use Rattle.traces.proofs.Lists.{contains_cases, contains_here, contains_there}
use Rattle.exec_core.specs.Children.{seen, numbers_of, IsPlanned, IsReadied, AreReadying}
use Rattle.exec_core.specs.declared.divide.Child.{Child}
use Rattle.exec_machine.proofs.Numbers.{flips}
use Rattle.exec_core.proofs.Holding.{single, nowhere, All-from_contains, keeps_none, keeps_more}

pub map_where : {X Y : Type 0} (f g : X → Y) (xs : List X) → ((x : X) → Contains xs x → f x ≡ g x) → map f xs ≡ map g xs
map_where f g [] h = refl
map_where f g (x ∷ xs) h = let a = h x (contains_here x xs) in let b = map_where f g xs (λ y c. h y (contains_there x y xs c)) in cc

pub contains_map : {X Y : Type 0} (f : X → Y) (xs : List X) (x : X) → Contains xs x → Contains (map f xs) (f x)
contains_map f [] x h = absurd (nowhere x h)
contains_map f (y ∷ ys) x h = ⊎_elim
    (λ (e : y ≡ x). subst (λ z. Contains (f y ∷ map f ys) (f z)) e (contains_here (f y) (map f ys)))
    (λ (c : Contains ys x). contains_there (f y) (f x) (map f ys) (contains_map f ys x c)) (contains_cases y x ys h)

-- in a list of different numbers the others differ from the one in the middle
pub to_front : (xs : List ℕ) (n : ℕ) (ys : List ℕ) → IsPermutation ((xs ++ n ∷ []) ++ ys) (n ∷ (xs ++ ys))
to_front xs n ys = subst (λ zs. IsPermutation zs (n ∷ (xs ++ ys))) (sym (append_assoc xs (n ∷ []) ys)) (IsPermutation-middle xs n ys)

pub others_differ : (xs : List ℕ) (n : ℕ) (ys : List ℕ) (k : ℕ) → IsDistinct nat_eq ((xs ++ n ∷ []) ++ ys) → Contains (xs ++ ys) k → n ≢ k
others_differ xs n ys k d c e =
    true≢false (sym (eq-eqb n k e) ∙ All-contains (λ y. nat_eq n y ≡ false) (xs ++ ys) k
    (All-from_recursion (λ y. nat_eq n y ≡ false) (xs ++ ys) (IsDistinct-head nat_eq n (xs ++ ys)
    (IsDistinct-IsPermutation nat_eq flips _ _ (to_front xs n ys) d))) c)

pub moved_distinct : (xs : List ℕ) (n : ℕ) (ys : List ℕ) → IsDistinct nat_eq ((xs ++ n ∷ []) ++ ys) → IsDistinct nat_eq (xs ++ (ys ++ n ∷ []))
moved_distinct xs n ys d = IsDistinct-IsPermutation nat_eq flips ((xs ++ n ∷ []) ++ ys) (xs ++ (ys ++ n ∷ []))
    (subst (λ zs. IsPermutation zs (xs ++ (ys ++ n ∷ []))) (sym (append_assoc xs (n ∷ []) ys))
    (IsPermutation-append_right xs _ _ (IsPermutation-append_comm (n ∷ []) ys))) d

module _ {M S W C : Type 0} (V : View M S W C) (lawful : IsLawful V) where
  -- one child p becomes q by a call that touches its state alone
  pub record Touches (old new : M) (p q : Child S C) : Type 0 where
    pub number : V.number q.state ≡ V.number p.state
    pub members : q.members ≡ p.members
    pub change : q.change ≡ p.change
    pub out : V.is_out new q.state
    pub stands : V.stands new q.state ≡ V.stands old p.state
    pub keeps : Keeps V old new (V.number p.state ∷ [])
    pub keeps_ready : KeepsReady V old new (V.number p.state ∷ [])

  seen_touched : (b c : M) (p q : Child S C) → Touches b c p q → seen V c q ≡ seen V b p
  seen_touched b c p q t = let n = t.number in let m = t.members in let d = t.change in let s = t.stands in cc

  module _ (b c : M) (n : ℕ) (k : Keeps V b c (n ∷ [])) (r : KeepsReady V b c (n ∷ [])) where
    pub planned_kept : (p : Child S C) → n ≢ V.number p.state → IsPlanned V b p → IsPlanned V c p
    planned_kept p ne i = let s = k.stands p.state i.out (λ h. ne (single h)) in record {
      out = k.out p.state i.out (λ h. ne (single h));
      live = ap (λ w. (V.meanings c).ended w) s ∙ ap (λ A. A.ended (V.stands b p.state)) k.meanings ∙ i.live;
      known = subst (λ w. IsKnown (V.meanings c) w p.change) (sym s) (subst (λ A. IsKnown A (V.stands b p.state) p.change) (sym k.meanings) i.known);
    }

    pub readied_kept : (p : Child S C) → n ≢ V.number p.state → IsReadied V b p → IsReadied V c p
    readied_kept p ne i = record {
      planned = planned_kept p ne i.planned;
      ready = r.ready p.state p.change i.planned.out (λ h. ne (single h)) i.ready;
    }

    pub seen_kept : (p : Child S C) → n ≢ V.number p.state → V.is_out b p.state → seen V c p ≡ seen V b p
    seen_kept p ne o = let s = k.stands p.state o (λ h. ne (single h)) in cc

  pub planned_touched : (b c : M) (p q : Child S C) → Touches b c p q → IsPlanned V b p → IsPlanned V c q
  planned_touched b c p q t i = record {
    out = t.out;
    live = ap (λ w. (V.meanings c).ended w) t.stands ∙ ap (λ A. A.ended (V.stands b p.state)) t.keeps.meanings ∙ i.live;
    known = subst (IsKnown (V.meanings c) (V.stands c q.state)) (sym t.change)
        (subst (λ w. IsKnown (V.meanings c) w p.change) (sym t.stands) (subst (λ A. IsKnown A (V.stands b p.state) p.change) (sym t.keeps.meanings) i.known));
  }

  pub readying_all : (a : M) (all done : List (Child S C)) → All (IsPlanned V a) all → IsDistinct nat_eq (numbers_of V all) → done ≡ []
      → AreReadying V a a all all done
  readying_all a all done p d e = subst (AreReadying V a a all all) (sym e) (record {
    planned = p;
    readied = All-nil _;
    seen = append-nil _;
    distinct = subst (IsDistinct nat_eq) (sym (append-nil (numbers_of V all))) d;
    inside = λ k h. h;
    out = refl;
    keeps = keeps_none V lawful a _;
  })

  module _ (a b c : M) (all fore done : List (Child S C)) (p q : Child S C) (i : AreReadying V a b all (fore ++ p ∷ []) done) (t : Touches b c p q) where
    numbers_are : numbers_of V (fore ++ p ∷ []) ≡ numbers_of V fore ++ V.number p.state ∷ []
    numbers_are = map-append (λ x. V.number x.state) fore (p ∷ [])

    apart : (x : Child S C) → Contains (numbers_of V fore ++ numbers_of V done) (V.number x.state) → V.number p.state ≢ V.number x.state
    apart x h = others_differ (numbers_of V fore) (V.number p.state) (numbers_of V done) (V.number x.state)
        (subst (λ xs. IsDistinct nat_eq (xs ++ numbers_of V done)) numbers_are i.distinct) h

    fore_apart : (x : Child S C) → Contains fore x → V.number p.state ≢ V.number x.state
    fore_apart x h = apart x (Contains-append_left _ _ _ (contains_map (λ y. V.number y.state) fore x h))

    done_apart : (x : Child S C) → Contains done x → V.number p.state ≢ V.number x.state
    done_apart x h = apart x (Contains-append_right (numbers_of V fore) _ _ (contains_map (λ y. V.number y.state) done x h))

    fore_planned : All (IsPlanned V c) fore
    fore_planned = All-from_contains (IsPlanned V c) fore (λ x h. planned_kept b c _ t.keeps t.keeps_ready x (fore_apart x h)
        (All-contains (IsPlanned V b) (fore ++ p ∷ []) x i.planned (Contains-append_left fore (p ∷ []) x h)))

    done_readied : All (IsReadied V c) done
    done_readied = All-from_contains (IsReadied V c) done (λ x h. readied_kept b c _ t.keeps t.keeps_ready x (done_apart x h)
        (All-contains (IsReadied V b) done x i.readied h))

    p_planned : IsPlanned V b p
    p_planned = All-contains (IsPlanned V b) (fore ++ p ∷ []) p i.planned (Contains-push fore p)

    fore_seen : map (seen V c) fore ≡ map (seen V b) fore
    fore_seen = map_where (seen V c) (seen V b) fore (λ x h. seen_kept b c _ t.keeps t.keeps_ready x (fore_apart x h)
        ((All-contains (IsPlanned V b) (fore ++ p ∷ []) x i.planned (Contains-append_left fore (p ∷ []) x h)).out))

    done_seen : map (seen V c) done ≡ map (seen V b) done
    done_seen = map_where (seen V c) (seen V b) done (λ x h. seen_kept b c _ t.keeps t.keeps_ready x (done_apart x h)
        ((All-contains (IsReadied V b) done x i.readied h).planned.out))

    seen_split : (map (seen V b) fore ++ seen V b p ∷ []) ++ reverse (map (seen V b) done) ≡ map (seen V a) all
    seen_split = ap (λ xs. xs ++ reverse (map (seen V b) done)) (sym (map-append (seen V b) fore (p ∷ []))) ∙ i.seen

    p_inside : Contains (numbers_of V all) (V.number p.state)
    p_inside = i.inside _ (contains_map (λ y. V.number y.state) (fore ++ p ∷ []) p (Contains-push fore p))

    all_kept : Keeps V a c (numbers_of V all)
    all_kept = keeps_more V lawful a b c (numbers_of V all) (V.number p.state ∷ []) (numbers_of V all) (λ k h. h)
        (λ k h. subst (Contains (numbers_of V all)) (single h) p_inside) i.keeps t.keeps

    module _ (o : V.out_numbers c ≡ V.out_numbers b) where
      -- the child is ready
      pub readying_more : V.is_ready c q.state q.change → AreReadying V a c all fore (done ++ q ∷ [])
      readying_more r = record {
        planned = fore_planned;
        readied = All-push (IsReadied V c) done q done_readied (record { planned = planned_touched b c p q t p_planned; ready = r });
        seen = ap (λ xs. map (seen V c) fore ++ reverse xs) (map-append (seen V c) done (q ∷ []))
            ∙ ap (λ xs. map (seen V c) fore ++ xs) (reverse-append (map (seen V c) done) (seen V c q ∷ []))
            ∙ ap (λ x. map (seen V c) fore ++ (x ∷ reverse (map (seen V c) done))) (seen_touched b c p q t)
            ∙ ap (λ xs. xs ++ (seen V b p ∷ reverse (map (seen V c) done))) fore_seen ∙ ap (λ xs. map (seen V b) fore ++ (seen V b p ∷ reverse xs)) done_seen
            ∙ sym (append_assoc (map (seen V b) fore) (seen V b p ∷ []) (reverse (map (seen V b) done))) ∙ seen_split;
        distinct = subst (λ xs. IsDistinct nat_eq (numbers_of V fore ++ xs)) (ap (λ n. numbers_of V done ++ n ∷ []) (sym t.number)
            ∙ sym (map-append (λ x. V.number x.state) done (q ∷ []))) (moved_distinct (numbers_of V fore) (V.number p.state) (numbers_of V done)
            (subst (λ xs. IsDistinct nat_eq (xs ++ numbers_of V done)) numbers_are i.distinct));
        inside = λ k h. i.inside k (subst (λ xs. Contains xs k) (sym numbers_are) (Contains-append_left (numbers_of V fore) (V.number p.state ∷ []) k h));
        out = o ∙ i.out;
        keeps = all_kept;
      }

      -- the child was not readied, and goes back
      pub readying_back : AreReadying V a c all (fore ++ q ∷ []) done
      readying_back = record {
        planned = All-push (IsPlanned V c) fore q fore_planned (planned_touched b c p q t p_planned);
        readied = done_readied;
        seen = ap (λ xs. xs ++ reverse (map (seen V c) done)) (map-append (seen V c) fore (q ∷ []))
            ∙ ap (λ x. (map (seen V c) fore ++ x ∷ []) ++ reverse (map (seen V c) done)) (seen_touched b c p q t)
            ∙ ap (λ xs. (xs ++ seen V b p ∷ []) ++ reverse (map (seen V c) done)) fore_seen
            ∙ ap (λ xs. (map (seen V b) fore ++ seen V b p ∷ []) ++ reverse xs) done_seen ∙ seen_split;
        distinct = subst (λ xs. IsDistinct nat_eq (xs ++ numbers_of V done)) (numbers_are ∙ ap (λ n. numbers_of V fore ++ n ∷ []) (sym t.number)
            ∙ sym (map-append (λ x. V.number x.state) fore (q ∷ []))) i.distinct;
        inside = λ k h. i.inside k (subst (λ xs. Contains xs k) (map-append (λ x. V.number x.state) fore (q ∷ [])
            ∙ ap (λ n. numbers_of V fore ++ n ∷ []) t.number ∙ sym numbers_are) h);
        out = o ∙ i.out;
        keeps = all_kept;
      }
