-- A module's fault is the first item that breaks a rule, with its least rule.
use Rattle.std.proofs.Common.{◌≡◌, ℕ, zero, suc, ◌+◌, ◌-◌, ◌<◌, Bool, true, false, List, [], ◌∷◌, Option, Some, None, slice_get, cond, refl, sym, ap, ◌∙◌}
use Rattle.std.proofs.Common.{arith}
use Rattle.std.specs.List.{find}
use Rattle.code_form.specs.declared.sign.PortSign.{PortSign}
use Rattle.ir_tree.specs.declared.item.Item.{Item}
use Rattle.ir_rules.specs.declared.rule.Rule.{Rule}
use Rattle.ir_rules.specs.declared.rule.Rule.TheVariants.{DoubleName}
use Rattle.ir_rules.specs.declared.rule.Fault.{Fault}
use Rattle.ir_rules.specs.Settings.{setting_of}
use Rattle.ir_rules.specs.Rules.{breaks, breaks_in, rules, rule_number, rule_at, fault, fault_at, fault_from}

-- ---- the list of the rules

abbrev IsCounted : ℕ → List Rule → Type 0
IsCounted n [] = Unit {0}
IsCounted n (r ∷ rs) = (rule_number r ≡ n) × IsCounted (suc n) rs

counted : IsCounted 1 rules
counted = (
  refl,
  (
    refl,
    (
      refl,
      (
        refl,
        (
          refl,
          (
            refl,
            (
              refl,
              (
                refl,
                (
                  refl,
                  (
                    refl,
                    (
                      refl,
                      (
                        refl,
                        (
                          refl,
                          (refl, (refl, (refl, (refl, (refl, (refl, (refl, (refl, (refl, (refl, (refl, tt))))))))))),
                        ),
                      ),
                    ),
                  ),
                ),
              ),
            ),
          ),
        ),
      ),
    ),
  ),
)

-- each rule stands where its number says
listed : (r : Rule) → slice_get rules (rule_number r - 1) ≡ Some r
listed DoubleName = refl
listed _ = refl

numbered : (n : ℕ) (rs : List Rule) → IsCounted n rs → (j : ℕ) (r : Rule) → slice_get rs j ≡ Some r → rule_number r ≡ n + j
numbered n [] c j r h = cc
numbered n (s ∷ rs) c zero r h = let same : s ≡ r = cc in ap rule_number (sym same) ∙ c.0 ∙ omega arith
numbered n (s ∷ rs) c (suc j) r h = numbered (suc n) rs c.1 j r h ∙ omega arith

-- ---- the first rule that passes a test

find-true : (p : Rule → Bool) (rs : List Rule) (r : Rule) → find p rs ≡ Some r → p r ≡ true
find-true p [] r h = cc
find-true p (s ∷ rs) r h = by (p s) refl (find-true p rs r) h
  where
    by : (b : Bool) → p s ≡ b → (find p rs ≡ Some r → p r ≡ true) → cond b (Some s) (find p rs) ≡ Some r → p r ≡ true
    by true e rest g = let same : s ≡ r = cc in ap p (sym same) ∙ e
    by false e rest g = rest g

find-none : (p : Rule → Bool) (rs : List Rule) → find p rs ≡ None → (j : ℕ) (r : Rule) → slice_get rs j ≡ Some r → p r ≡ false
find-none p [] h j r g = cc
find-none p (s ∷ rs) h j r g = by (p s) refl (λ q j g. find-none p rs q j r g) h j g
  where
    by : (b : Bool) → p s ≡ b → (find p rs ≡ None → (j : ℕ) → slice_get rs j ≡ Some r → p r ≡ false) → cond b (Some s) (find p rs) ≡ None → (j : ℕ)
        → slice_get (s ∷ rs) j ≡ Some r → p r ≡ false
    by true e rest q j g = cc
    by false e rest q zero g = let same : s ≡ r = cc in ap p (sym same) ∙ e
    by false e rest q (suc j) g = rest q j g

find-least : (p : Rule → Bool) (n : ℕ) (rs : List Rule) → IsCounted n rs → (r : Rule) → find p rs ≡ Some r → (j : ℕ) (q : Rule) → slice_get rs j ≡ Some q
    → rule_number q < rule_number r → p q ≡ false
find-least p n [] c r h j q g l = cc
find-least p n (s ∷ rs) c r h j q g l = by (p s) refl (λ f j g. find-least p (suc n) rs c.1 r f j q g l) h j g
  where
    by : (b : Bool) → p s ≡ b → (find p rs ≡ Some r → (j : ℕ) → slice_get rs j ≡ Some q → p q ≡ false) → cond b (Some s) (find p rs) ≡ Some r → (j : ℕ)
        → slice_get (s ∷ rs) j ≡ Some q → p q ≡ false
    by true e rest f j g =
        let same : s ≡ r = cc in
        let first : rule_number r ≡ n = ap rule_number (sym same) ∙ c.0 in
        let other = numbered n (s ∷ rs) c j q g in
        absurd (omega arith)
    by false e rest f zero g = let same : s ≡ q = cc in ap p (sym same) ∙ e
    by false e rest f (suc j) g = rest f j g

-- ---- the first item that breaks a rule

module _ (items : List Item) (signs : List PortSign) where
  pub record Found (i : ℕ) (xs : List Item) (f : Fault) : Type 0 where
    pub place : ℕ
    pub item : Item
    pub number : f.item ≡ i + place
    pub is : slice_get xs place ≡ Some item
    pub broken : rule_at items signs (i + place) item ≡ Some f.rule
    pub before : (j : ℕ) (y : Item) → j < place → slice_get xs j ≡ Some y → rule_at items signs (i + j) y ≡ None

  first-found : (i : ℕ) (x : Item) (xs : List Item) (f : Fault) (r : Rule) → rule_at items signs i x ≡ Some r → f.item ≡ i → f.rule ≡ r → Found i (x ∷ xs) f
  first-found i x xs f r e number rule = record {
    place = 0;
    item = x;
    number = omega arith;
    is = refl;
    broken = (let same : i + 0 ≡ i = omega arith in ap (λ k. rule_at items signs k x) same ∙ e ∙ ap Some (sym rule));
    before = λ j y l g. absurd (omega arith);
  }

  later-before : (i : ℕ) (x : Item) (xs : List Item) (f : Fault) → rule_at items signs i x ≡ None → (found : Found (suc i) xs f) → (j : ℕ) (y : Item)
      → j < suc found.place → slice_get (x ∷ xs) j ≡ Some y
      → rule_at items signs (i + j) y ≡ None
  later-before i x xs f e found zero y l g =
      let same : x ≡ y = cc in
      let here : i + 0 ≡ i = omega arith in
      ap (λ k. rule_at items signs k y) here ∙ ap (rule_at items signs i) (sym same) ∙ e
  later-before i x xs f e found (suc j) y l g =
      let along : i + suc j ≡ suc i + j = omega arith in
      ap (λ k. rule_at items signs k y) along ∙ found.before j y (omega arith) g

  later-found : (i : ℕ) (x : Item) (xs : List Item) (f : Fault) → rule_at items signs i x ≡ None → Found (suc i) xs f → Found i (x ∷ xs) f
  later-found i x xs f e found =
      let along : i + suc found.place ≡ suc i + found.place = omega arith in
      record {
        place = suc found.place;
        item = found.item;
        number = found.number ∙ sym along;
        is = found.is;
        broken = ap (λ k. rule_at items signs k found.item) along ∙ found.broken;
        before = later-before i x xs f e found;
      }

  found-fault : (i : ℕ) (xs : List Item) (f : Fault) → fault_from items signs i xs ≡ Some f → Found i xs f
  found-fault i [] f h = cc
  found-fault i (x ∷ xs) f h = by (rule_at items signs i x) refl (found-fault (suc i) xs f) h
    where
      by : (o : Option Rule) → rule_at items signs i x ≡ o → (fault_from items signs (suc i) xs ≡ Some f → Found (suc i) xs f)
          → fault_at i o (fault_from items signs (suc i) xs) ≡ Some f → Found i (x ∷ xs) f
      by (Some r) e rest g =
          let same : record { item = i; rule = r } ≡ f = cc in
          first-found i x xs f r e (ap (λ (f : Fault). f.item) (sym same)) (ap (λ (f : Fault). f.rule) (sym same))
      by None e rest g = later-found i x xs f e (rest g)

  no-fault : (i : ℕ) (xs : List Item) → fault_from items signs i xs ≡ None → (j : ℕ) (y : Item) → slice_get xs j ≡ Some y → rule_at items signs (i + j) y ≡ None
  no-fault i [] h j y g = cc
  no-fault i (x ∷ xs) h j y g = by (rule_at items signs i x) refl (λ q j g. no-fault (suc i) xs q j y g) h j g
    where
      by : (o : Option Rule) → rule_at items signs i x ≡ o
          → (fault_from items signs (suc i) xs ≡ None → (j : ℕ) → slice_get xs j ≡ Some y → rule_at items signs (suc i + j) y ≡ None)
          → fault_at i o (fault_from items signs (suc i) xs) ≡ None → (j : ℕ) → slice_get (x ∷ xs) j ≡ Some y → rule_at items signs (i + j) y ≡ None
      by (Some r) e rest q j g = cc
      by None e rest q zero g =
          let same : x ≡ y = cc in
          let here : i + 0 ≡ i = omega arith in
          ap (λ k. rule_at items signs k y) here ∙ ap (rule_at items signs i) (sym same) ∙ e
      by None e rest q (suc j) g =
          let along : i + suc j ≡ suc i + j = omega arith in
          ap (λ k. rule_at items signs k y) along ∙ rest q j g

  -- an item without a least rule breaks none
  kept : (i : ℕ) (x : Item) → rule_at items signs i x ≡ None → (r : Rule) → breaks items signs i x r ≡ false
  kept i x h r = find-none (breaks_in (setting_of items signs i x) x) rules h (rule_number r - 1) r (listed r)

  pub fault-broken : (f : Fault) → fault items signs ≡ Some f → (x : Item) × (slice_get items f.item ≡ Some x) × (breaks items signs f.item x f.rule ≡ true)
  fault-broken f h =
      let found = found-fault 0 items f h in
      let here : f.item ≡ found.place = found.number ∙ omega arith in
      let at : 0 + found.place ≡ f.item = sym found.number in (
        found.item,
        ap (slice_get items) here ∙ found.is,
        find-true (breaks_in (setting_of items signs f.item found.item) found.item) rules f.rule (ap (λ k. rule_at items signs k found.item) (sym at)
            ∙ found.broken),
      )

  pub fault-least : (f : Fault) (x : Item) (r : Rule) → fault items signs ≡ Some f → slice_get items f.item ≡ Some x → rule_number r < rule_number f.rule
      → breaks items signs f.item x r ≡ false
  fault-least f x r h g l =
      let found = found-fault 0 items f h in
      let here : f.item ≡ found.place = found.number ∙ omega arith in
      let both : ◌≡◌ {A = Option Item} (Some found.item) (Some x) = sym found.is ∙ ap (slice_get items) (sym here) ∙ g in
      let same : found.item ≡ x = cc in
      let is : rule_at items signs f.item x ≡ Some f.rule = ap (rule_at items signs f.item) (sym same)
      ∙ ap (λ k. rule_at items signs k found.item) found.number ∙ found.broken in
      find-least (breaks_in (setting_of items signs f.item x) x) 1 rules counted f.rule is (rule_number r - 1) r (listed r) l

  pub fault-first : (f : Fault) (i : ℕ) (x : Item) (r : Rule) → fault items signs ≡ Some f → i < f.item → slice_get items i ≡ Some x
      → breaks items signs i x r ≡ false
  fault-first f i x r h l g =
      let found = found-fault 0 items f h in
      let at : 0 + i ≡ i = omega arith in
      let number = found.number in
      kept i x (ap (λ k. rule_at items signs k x) (sym at) ∙ found.before i x (omega arith) g) r

  pub fault-none : (i : ℕ) (x : Item) (r : Rule) → fault items signs ≡ None → slice_get items i ≡ Some x → breaks items signs i x r ≡ false
  fault-none i x r h g = let at : 0 + i ≡ i = omega arith in kept i x (ap (λ k. rule_at items signs k x) (sym at) ∙ no-fault 0 items h i x g) r
