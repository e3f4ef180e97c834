-- Of what the makers try, only what equals the original or an earlier one is left out.
use Rattle.std.proofs.Common.{◌≡◌, ◌⊎◌, inl, inr, ℕ, zero, suc, ◌+◌, Bool, true, false, ◌||◌, not, ◌&&◌, List, [], ◌∷◌, ◌++◌, map}
use Rattle.std.proofs.Common.{refl, sym, ap, ◌∙◌, subst, arith}
use Rattle.std.proofs.Common.{Option, Some, None, ℤ, slice_get, slice_set, ◌==◌, if◌then◌else◌, append_assoc, append-nil, ⊎_elim}
use Rattle.std.specs.List.{fold, flat_map, list_any}
use Rattle.std.proofs.lemmas.Bool.Decides.{Decides-eqb}
use Rattle.am_base.specs.declared.word.Width.{Width}
use Rattle.am_base.specs.declared.word.BinOp.{BinOp}
use Rattle.am_base.specs.declared.word.BinOp.TheVariants.{Add, Sub, Mul, UDiv, SDiv, URem, SRem, Shl, LShr, AShr, And, Or, Xor}
use Rattle.am_base.specs.declared.word.Pred.{Pred}
use Rattle.am_base.specs.declared.word.Pred.TheVariants.{Eq, Ne, Ugt, Uge, Ult, Ule, Sgt, Sge, Slt, Sle}
use Rattle.am_base.specs.Word.{bits_of, signed, word_of}
use Rattle.am_base.proofs.ResultWords.{word_of-lt}
use Rattle.code_form.specs.declared.code.TyScalar.{TyScalar}
use Rattle.code_form.specs.declared.code.TyScalar.TheVariants.{Int, Ptr}
use Rattle.code_form.specs.declared.instr.Operand.{Operand}
use Rattle.code_form.specs.declared.instr.Operand.TheVariants.{Reg, Word}
use Rattle.code_form.specs.declared.instr.Instr.{Instr}
use Rattle.code_form.specs.declared.instr.Instr.TheVariants as instr
use Rattle.ir_tree.specs.declared.name.Name.{Name}
use Rattle.ir_tree.specs.declared.type_text.TyText.{TyText}
use Rattle.ir_tree.specs.declared.operand.Opd.{Opd}
use Rattle.ir_tree.specs.declared.operand.Opd.TheVariants as opd
use Rattle.ir_tree.specs.declared.op.Op.{Op}
use Rattle.ir_tree.specs.declared.op.Op.TheVariants as op
use Rattle.ir_rules.specs.Parts.{Typed}
use Rattle.ir_rules.specs.Settings.{Setting}
use Rattle.ir_rules.specs.Paths.{kind_width}
use Rattle.ir_rules.specs.Memory.{Addresses, constant_word}
use Rattle.ir_rules.specs.Codes.{op_code, typed_code, block_code, callee_code, width_in}
use Rattle.ir_rules.specs.Settings.{entity_of}
use Rattle.ir_sound.proofs.Lists.{Each}
use Rattle.mutant_maker.specs.Makers.{operations, same_operation, predicates, same_predicate, is_wide, with_word, new_words, new_numbers, with_argument}
use Rattle.mutant_maker.specs.Makers.{constants_from, same_operand, new_conditions, with_condition, condition_maker, replacements_of, values_of}
use Rattle.mutant_maker_laws.specs.Tried.{tried, tried_words, tried_numbers, tried_from, IsAmong, AreLeft}
use Rattle.mutant_maker_laws.proofs.Apart.{Apart, AllApart, all-apart}
use Rattle.mutant_maker_laws.proofs.Fitting.{argument-is, StandAt}
use Rattle.mutant_maker_laws.proofs.NewWords.{signed-is}

-- ---- tests that decide

-- a test of two elements of a list, computed over the whole list
all_pass : {X : Type 0} → (X → Bool) → List X → Bool
all_pass p [] = true
all_pass p (x ∷ xs) = p x && all_pass p xs

one_passes : {X : Type 0} (p : X → Bool) (xs : List X) (k : ℕ) (x : X) → all_pass p xs ≡ true → slice_get xs k ≡ Some x → p x ≡ true
unfolding all_pass
one_passes p [] k x h e = cc
one_passes p (y ∷ xs) zero x h e = let same : y ≡ x = cc in by (p y) refl h same
  where
    by : (b : Bool) → p y ≡ b → (b && all_pass p xs) ≡ true → y ≡ x → p x ≡ true
    by true t g s = subst (λ z. p z ≡ true) s t
    by false t g s = cc
one_passes p (y ∷ xs) (suc k) x h e = by (p y) h (λ g. one_passes p xs k x g e)
  where
    by : (b : Bool) → (b && all_pass p xs) ≡ true → (all_pass p xs ≡ true → p x ≡ true) → p x ≡ true
    by true g rest = rest g
    by false g rest = cc

-- two elements that pass a test have one index in a list, if the test says so of all in it
module _ {X : Type 0} (same : X → X → Bool) (xs : List X) (index : X → ℕ) (at : (x : X) → slice_get xs (index x) ≡ Some x) where
  implies : X → X → Bool
  implies x y = not (same x y) || (index x == index y)

  all_imply : Bool
  all_imply = all_pass (λ x. all_pass (implies x) xs) xs

  decided : all_imply ≡ true → (x y : X) → same x y ≡ true → x ≡ y
  unfolding all_imply implies
  decided h x y s =
      let row = one_passes (λ x. all_pass (implies x) xs) xs (index x) x h (at x) in
      let cell = one_passes (implies x) xs (index y) y row (at y) in
      let equal : index x ≡ index y = by (same x y) s cell in
      let here : Some x ≡ Some y = sym (at x) ∙ ap (slice_get xs) equal ∙ at y in
      cc here
    where
      by : (b : Bool) → b ≡ true → (not b || (index x == index y)) ≡ true → index x ≡ index y
      by true e g = (Decides-eqb (index x) (index y)).0 g
      by false e g = cc

operation_index : BinOp → ℕ
operation_index Add = 0
operation_index Sub = 1
operation_index Mul = 2
operation_index UDiv = 3
operation_index SDiv = 4
operation_index URem = 5
operation_index SRem = 6
operation_index Shl = 7
operation_index LShr = 8
operation_index AShr = 9
operation_index And = 10
operation_index Or = 11
operation_index Xor = 12

operation_at : (b : BinOp) → slice_get operations (operation_index b) ≡ Some b
unfolding operation_index
operation_at Add = refl
operation_at Sub = refl
operation_at Mul = refl
operation_at UDiv = refl
operation_at SDiv = refl
operation_at URem = refl
operation_at SRem = refl
operation_at Shl = refl
operation_at LShr = refl
operation_at AShr = refl
operation_at And = refl
operation_at Or = refl
operation_at Xor = refl

operation_same : (b k : BinOp) → same_operation b k ≡ true → b ≡ k
unfolding operation_index all_pass all_imply implies
operation_same = decided same_operation operations operation_index operation_at refl

predicate_index : Pred → ℕ
predicate_index Eq = 0
predicate_index Ne = 1
predicate_index Ugt = 2
predicate_index Uge = 3
predicate_index Ult = 4
predicate_index Ule = 5
predicate_index Sgt = 6
predicate_index Sge = 7
predicate_index Slt = 8
predicate_index Sle = 9

predicate_at : (p : Pred) → slice_get predicates (predicate_index p) ≡ Some p
unfolding predicate_index
predicate_at Eq = refl
predicate_at Ne = refl
predicate_at Ugt = refl
predicate_at Uge = refl
predicate_at Ult = refl
predicate_at Ule = refl
predicate_at Sgt = refl
predicate_at Sge = refl
predicate_at Slt = refl
predicate_at Sle = refl

predicate_same : (p k : Pred) → same_predicate p k ≡ true → p ≡ k
unfolding predicate_index all_pass all_imply implies
predicate_same = decided same_predicate predicates predicate_index predicate_at refl

operand_same : (x y : Operand) → same_operand x y ≡ true → x ≡ y
operand_same (Reg a) (Reg b) h = ap Reg ((Decides-eqb a b).0 h)
operand_same (Reg a) (Word b) h = cc
operand_same (Word a) (Reg b) h = cc
operand_same (Word a) (Word b) h = ap Word ((Decides-eqb a b).0 h)

-- ---- instructions among others

among_front : (i : Instr) (is js : List Instr) → IsAmong i is → IsAmong i (is ++ js)
among_front i [] js h = absurd h
among_front i (j ∷ is) js h = ⊎_elim inl (λ g. inr (among_front i is js g)) h

among_last : (i : Instr) (is : List Instr) → IsAmong i (is ++ i ∷ [])
among_last i [] = inl refl
among_last i (j ∷ is) = inr (among_last i is)

among_push : (i j : Instr) (is : List Instr) → IsAmong i (is ++ j ∷ []) → IsAmong i is ⊎ (i ≡ j)
among_push i j [] h = ⊎_elim inr (λ g. absurd g) h
among_push i j (k ∷ is) h = ⊎_elim (λ e. inl (inl e)) (λ g. ⊎_elim (λ f. inl (inr f)) inr (among_push i j is g)) h

any_push : (p : ℕ → Bool) (ns : List ℕ) (n : ℕ) → list_any p (ns ++ n ∷ []) ≡ true → (list_any p ns ≡ true) ⊎ (p n ≡ true)
any_push p [] n h = by (p n) h
  where
    by : (b : Bool) → (b || false) ≡ true → (false ≡ true) ⊎ (b ≡ true)
    by true g = inr refl
    by false g = cc
any_push p (m ∷ ns) n h = by (p m) h (any_push p ns n)
  where
    by : (b : Bool) → (b || list_any p (ns ++ n ∷ [])) ≡ true → (list_any p (ns ++ n ∷ []) ≡ true → (list_any p ns ≡ true) ⊎ (p n ≡ true))
        → ((b || list_any p ns) ≡ true) ⊎ (p n ≡ true)
    by true g rest = inl refl
    by false g rest = rest g

module _ (s : Setting) (a : Addresses) where
  abbrev code : Op → Instr
  code o = op_code s a o

  abbrev typed : TyText → Opd → Operand
  typed t x = typed_code s a t x

  -- ---- what is left out was there

  abbrev Leaves : List Instr → List Op → List Op → Type 0
  Leaves before [] left = left ≡ []
  Leaves before (p ∷ ps) left = (IsAmong (code p) before × Leaves before ps left)
      ⊎ ((more : List Op) × (left ≡ p ∷ more) × Leaves (before ++ code p ∷ []) ps more)

  leaves_more : (is js : List Instr) (ps left : List Op) → ((i : Instr) → IsAmong i is → IsAmong i js) → Leaves is ps left → Leaves js ps left
  leaves_more is js [] left h g = g
  leaves_more is js (p ∷ ps) left h g =
      ⊎_elim
      (λ l. inl (h (code p) l.0, leaves_more is js ps left h l.1))
      (λ r. inr (
        r.0,
        r.1,
        leaves_more (is ++ code p ∷ []) (js ++ code p ∷ []) ps r.0
            (λ i k. ⊎_elim (λ m. among_front i js (code p ∷ []) (h i m)) (λ e. subst (λ j. IsAmong j (js ++ code p ∷ [])) (sym e) (among_last (code p) js))
            (among_push i (code p) is k)) r.2,
      ))
      g

  leaves_on : (is : List Instr) (j : Instr) (ps left : List Op) → Leaves is ps left → Leaves (is ++ j ∷ []) ps left
  leaves_on is j ps left = leaves_more is (is ++ j ∷ []) ps left (λ i. among_front i is (j ∷ []))

  leaves_append : (is : List Instr) (ps qs left also : List Op) → Leaves is ps left → Leaves is qs also → Leaves is (ps ++ qs) (left ++ also)
  leaves_append is [] qs left also h g = subst (λ l. Leaves is qs (l ++ also)) (sym h) g
  leaves_append is (p ∷ ps) qs left also h g =
      ⊎_elim
      (λ l. inl (l.0, leaves_append is ps qs left also l.1 g))
      (λ r. inr (r.0 ++ also, ap (λ l. l ++ also) r.1, leaves_append (is ++ code p ∷ []) ps qs r.0 also r.2 (leaves_on is (code p) qs also g)))
      h

  -- and where those that are left differ, none that is left was there
  are_left : (is : List Instr) (ps left : List Op) → Each (λ p. IsAmong (code p) is → ⊥) left → AllApart s a left → Leaves is ps left
      → AreLeft code is ps left
  are_left is [] left h d g = g
  are_left is (p ∷ ps) left h d g =
      ⊎_elim
      (λ l. inl (l.0, are_left is ps left h d l.1))
      (λ r. let new : Each (λ q. IsAmong (code q) is → ⊥) (p ∷ r.0) = subst (Each (λ q. IsAmong (code q) is → ⊥)) r.1 h in
      let apart : AllApart s a (p ∷ r.0) = subst (AllApart s a) r.1 d in
      inr (new.0, r.0, r.1, are_left (is ++ code p ∷ []) ps r.0 (others r.0 new.1 apart.0) apart.1 r.2))
      g
    where
      others : (qs : List Op) → Each (λ q. IsAmong (code q) is → ⊥) qs → Each (Apart s a p) qs → Each (λ q. IsAmong (code q) (is ++ code p ∷ []) → ⊥) qs
      others [] n k = tt
      others (q ∷ qs) (n, ns) (k, ks) = ((λ m. ⊎_elim n (λ e. k (sym e)) (among_push (code q) (code p) is m)), others qs ns ks)

  -- ---- maker by maker

  module _ (o : Op) where
    abbrev Found : List Op → List Op → Type 0
    Found ps left = Leaves (code o ∷ []) ps left

    one_left : (b : Bool) (p : Op) → (b ≡ true → code p ≡ code o) → Found (p ∷ []) (if b then [] else p ∷ [])
    one_left true p h = inl (inl (h refl), refl)
    one_left false p h = inr ([], refl, refl)

    others_left : {K : Type 0} (same : K → Bool) (f : K → Op) → ((k : K) → same k ≡ true → code (f k) ≡ code o) → (ks : List K)
        → Found (map f ks) (flat_map (λ k. if same k then [] else f k ∷ []) ks)
    others_left same f h [] = refl
    others_left same f h (k ∷ ks) =
        leaves_append (code o ∷ []) (f k ∷ []) (map f ks) (if same k then [] else f k ∷ []) (flat_map (λ k. if same k then [] else f k ∷ []) ks)
        (one_left (same k) (f k) (h k)) (others_left same f h ks)

    -- numbers in the place of an operand
    module _ (t : TyText) (x : Opd) (f : Opd → Op) (alike : (d : Opd) → typed t d ≡ typed t x → code (f d) ≡ code o) where
      abbrev numbers : List ℤ → List Op
      numbers zs = map (λ z. f (opd.Number z)) zs

      module _ (w : Width) (old : ℕ) where
        abbrev word : ℕ → Op
        word n = f (opd.Number (signed w n))

        -- the old word and those that are left are among the codes
        abbrev AreSeen : List Instr → List ℕ → Type 0
        AreSeen is words = (n : ℕ) → list_any (λ m. m == n) (old ∷ words) ≡ true → IsAmong (code (word n)) is

        seen_more : (is : List Instr) (words : List ℕ) (n : ℕ) → AreSeen is words → AreSeen (is ++ code (word n) ∷ []) (words ++ n ∷ [])
        seen_more is words n h m e =
            ⊎_elim
            (λ g. among_front (code (word m)) is (code (word n) ∷ []) (h m g))
            (λ g. subst (λ k. IsAmong (code (word k)) (is ++ code (word n) ∷ [])) ((Decides-eqb n m).0 g) (among_last (code (word n)) is))
            (any_push (λ k. k == m) (old ∷ words) n e)

        -- what is left behind some words
        abbrev Behind : List Instr → List ℕ → List ℕ → Type 0
        Behind is words news = (more : List ℕ) × (fold (with_word old) words news ≡ words ++ more)
            × Leaves is (numbers (map (signed w) news)) (numbers (map (signed w) more))

        words_left : (is : List Instr) (words news : List ℕ) → AreSeen is words → Behind is words news
        words_left is words [] h = ([], sym (append-nil words), refl)
        words_left is words (n ∷ news) h =
            by (list_any (λ m. m == n) (old ∷ words)) refl (words_left is words news h)
            (words_left (is ++ code (word n) ∷ []) (words ++ n ∷ []) news (seen_more is words n h))
          where
            by : (b : Bool) → list_any (λ m. m == n) (old ∷ words) ≡ b → Behind is words news → Behind (is ++ code (word n) ∷ []) (words ++ n ∷ []) news
                → (more : List ℕ) × (fold (with_word old) (if b then words else words ++ n ∷ []) news ≡ words ++ more)
                × Leaves is (word n ∷ numbers (map (signed w) news)) (numbers (map (signed w) more))
            by true e rest other = (rest.0, rest.1, inl (h n e, rest.2))
            by false e other rest =
                (n ∷ rest.0, rest.1 ∙ append_assoc words (n ∷ []) rest.0, inr (numbers (map (signed w) rest.0), refl, rest.2))

      abbrev words_if : Width → Bool → List ℕ → List Op
      words_if w b ns = numbers (if b then map (signed w) ns else [])

      numbers_left : (k : Option TyScalar) (y : Opd) → s.kind t ≡ k → x ≡ y → Found (numbers (tried_numbers k y)) (numbers (new_numbers k y))
      numbers_left None y e same = refl
      numbers_left (Some Ptr) y e same = refl
      numbers_left (Some (Int w)) (opd.Number z) e same = by (is_wide w)
        where
          old : typed t x ≡ Word (word_of w z)
          old = ap (λ y. typed t y) same ∙ ap (λ k. Word (constant_word s.types a (kind_width k) (opd.Number z))) e

          back : typed t (opd.Number (signed w (word_of w z))) ≡ Word (word_of w z)
          back = ap (λ k. Word (constant_word s.types a (kind_width k) (opd.Number (signed w (word_of w z))))) e
              ∙ ap Word (signed-is w (word_of w z) (word_of-lt w z)).word

          seen : AreSeen w (word_of w z) (code o ∷ []) []
          seen n h = ⊎_elim
              (λ g. cc)
              (λ g. let is : word_of w z ≡ n = (Decides-eqb (word_of w z) n).0 g in
              subst (λ m. IsAmong (code (f (opd.Number (signed w m)))) (code o ∷ [])) is (inl (alike (opd.Number (signed w (word_of w z))) (back ∙ sym old))))
              (any_push (λ m. m == n) [] (word_of w z) h)

          by : (b : Bool) → Found (words_if w b (tried_words w (word_of w z))) (words_if w b (new_words w (word_of w z)))
          by true =
              let all = words_left w (word_of w z) (code o ∷ []) [] (tried_words w (word_of w z)) seen in
              subst (λ ns. Found (numbers (map (signed w) (tried_words w (word_of w z)))) (numbers (map (signed w) ns))) (sym all.1) all.2
          by false = refl
      numbers_left (Some (Int w)) (opd.Local n) e same = refl
      numbers_left (Some (Int w)) (opd.Global n) e same = refl
      numbers_left (Some (Int w)) opd.True e same = refl
      numbers_left (Some (Int w)) opd.False e same = refl
      numbers_left (Some (Int w)) opd.Null e same = refl
      numbers_left (Some (Int w)) opd.Undef e same = refl
      numbers_left (Some (Int w)) opd.Poison e same = refl
      numbers_left (Some (Int w)) opd.Zero e same = refl
      numbers_left (Some (Int w)) (opd.Get g) e same = refl

      all_numbers : Found (numbers (tried_numbers (s.kind t) x)) (numbers (new_numbers (s.kind t) x))
      all_numbers = numbers_left (s.kind t) x refl refl

    -- the conditions
    module _ (c : TyText) (i : Opd) (f : Opd → Op) (is : (j : Opd) → with_condition o j ≡ f j ∷ [])
        (alike : (j : Opd) → typed c i ≡ typed c j → code (f j) ≡ code o) where
      flags_left : Found (f opd.True ∷ f opd.False ∷ []) (flat_map (with_condition o) (new_conditions (typed c i)))
      flags_left = by (same_operand (typed c i) (Word 1)) (same_operand (typed c i) (Word 0)) refl refl
        where
          by : (b d : Bool) → same_operand (typed c i) (Word 1) ≡ b → same_operand (typed c i) (Word 0) ≡ d
              → Found (f opd.True ∷ f opd.False ∷ []) (flat_map (with_condition o) ((if b then [] else opd.True ∷ []) ++ (if d then [] else opd.False ∷ [])))
          by true true g h =
              inl (inl (alike opd.True (operand_same (typed c i) (Word 1) g)), inl (inl (alike opd.False (operand_same (typed c i) (Word 0) h)), refl))
          by true false g h = rw (is opd.False) (inl (inl (alike opd.True (operand_same (typed c i) (Word 1) g)), inr ([], refl, refl)))
          by false true g h =
              rw (is opd.True) (inr ([], refl, inl (inl (alike opd.False (operand_same (typed c i) (Word 0) h)), refl)))
          by false false g h = rw (is opd.True, is opd.False) (inr (f opd.False ∷ [], refl, inr ([], refl, refl)))

  -- two operands of a binary operation or a comparison
  module _ {K : Type 0} (same : K → K → Bool) (decides : (b k : K) → same b k ≡ true → b ≡ k) (mk : K → Opd → Opd → Op) (t : TyText)
      (put : K → Operand → Operand → Instr)
      (codes : (k : K) (x y : Opd) → code (mk k x y) ≡ put k (typed t x) (typed t y)) (ks : List K) (b : K) (x y : Opd) where
    abbrev both : Op
    both = mk b x y

    abbrev test : Bool
    test = same_operand (typed t x) (typed t y)

    abbrev puts_first : List ℤ → List Op
    puts_first zs = map (λ z. mk b (opd.Number z) y) zs

    abbrev puts_second : List ℤ → List Op
    puts_second zs = map (λ z. mk b x (opd.Number z)) zs

    abbrev swap : List Op
    swap = if test then [] else mk b y x ∷ []

    two_left : Found both
        (map (λ k. mk k x y) ks ++ ((puts_first (tried_numbers (s.kind t) x) ++ (puts_second (tried_numbers (s.kind t) y) ++ [])) ++ (mk b y x ∷ [] ++ [])))
        (flat_map (λ k. if same b k then [] else mk k x y ∷ []) ks
        ++ ((puts_first (new_numbers (s.kind t) x) ++ (puts_second (new_numbers (s.kind t) y) ++ [])) ++ (swap ++ [])))
    two_left =
        let I = code both ∷ [] in
        let tx = puts_first (tried_numbers (s.kind t) x) in
        let ty = puts_second (tried_numbers (s.kind t) y) in
        let nx = puts_first (new_numbers (s.kind t) x) in
        let ny = puts_second (new_numbers (s.kind t) y) in
        let first = all_numbers both t x (λ d. mk b d y) (λ d e. codes b d y ∙ ap (λ v. put b v (typed t y)) e ∙ sym (codes b x y)) in
        let second = all_numbers both t y (λ d. mk b x d) (λ d e. codes b x d ∙ ap (λ v. put b (typed t x) v) e ∙ sym (codes b x y)) in
        let swapped = one_left both test (mk b y x) (λ e. let k = operand_same (typed t x) (typed t y) e in
        codes b y x ∙ ap (λ v. put b v (typed t x)) (sym k) ∙ ap (λ v. put b (typed t x) v) k ∙ sym (codes b x y)) in
        leaves_append I (map (λ k. mk k x y) ks) ((tx ++ (ty ++ [])) ++ (mk b y x ∷ [] ++ [])) (flat_map (λ k. if same b k then [] else mk k x y ∷ []) ks)
        ((nx ++ (ny ++ [])) ++ (swap ++ [])) (others_left both (same b) (λ k. mk k x y) (λ k e. ap (λ l. code (mk l x y)) (sym (decides b k e))) ks)
        (leaves_append I (tx ++ (ty ++ [])) (mk b y x ∷ [] ++ []) (nx ++ (ny ++ [])) (swap ++ [])
        (leaves_append I tx (ty ++ []) nx (ny ++ []) first (leaves_append I ty [] ny [] second refl))
        (leaves_append I (mk b y x ∷ []) [] swap [] swapped refl))

  -- ---- arguments

  abbrev value_of : Typed → Operand
  value_of v = typed v.0 v.1

  set_same : (xs : List Typed) (k : ℕ) (v : Typed) (d : Opd) → slice_get xs k ≡ Some v → typed v.0 d ≡ typed v.0 v.1
      → map value_of (slice_set xs k (v.0, d)) ≡ map value_of xs
  set_same [] k v d h e = cc
  set_same (x ∷ xs) zero v d h e = let is : x ≡ v = cc in ap (λ u. u ∷ map value_of xs) (e ∙ ap value_of (sym is))
  set_same (x ∷ xs) (suc k) v d h e = ap (λ us. value_of x ∷ us) (set_same xs k v d h e)

  arguments_left : (t : TyText) (f : Name) (xs : List Typed) (k : ℕ) (vs : List Typed) → StandAt xs k vs
      → Found (op.Call t f xs) (tried_from s.kind (op.Call t f xs) k vs) (constants_from s.kind (op.Call t f xs) k vs)
  arguments_left t f xs k [] there = refl
  arguments_left t f xs k (v ∷ vs) there =
      let here : slice_get xs k ≡ Some v = ap (slice_get xs) (omega arith) ∙ there 0 v refl in
      let next : StandAt xs (k + 1) vs = λ i u e. ap (slice_get xs) (omega arith) ∙ there (suc i) u e in
      leaves_append (code (op.Call t f xs) ∷ []) (map (λ z. op.Call t f (with_argument xs k (opd.Number z))) (tried_numbers (s.kind v.0) v.1))
      (tried_from s.kind (op.Call t f xs) (k + 1) vs) (map (λ z. op.Call t f (with_argument xs k (opd.Number z))) (new_numbers (s.kind v.0) v.1))
      (constants_from s.kind (op.Call t f xs) (k + 1) vs)
      (all_numbers (op.Call t f xs) v.0 v.1 (λ d. op.Call t f (with_argument xs k d))
      (λ d e. ap (λ ys. instr.Call (callee_code s f (entity_of s f)) (map value_of ys)) (argument-is xs k v d here)
      ∙ ap (λ us. instr.Call (callee_code s f (entity_of s f)) us) (set_same xs k v d here e)))
      (arguments_left t f xs (k + 1) vs next)

  -- ---- all makers

  abbrev Holds : Op → Type 0
  Holds o = Found o (tried s.kind o) (replacements_of s.kind (code o) o)

  value_left : (o : Op) (t : TyText) (x : Opd) (f : Opd → Op) → ((d : Opd) → typed t d ≡ typed t x → code (f d) ≡ code o)
      → Found o ((map (λ z. f (opd.Number z)) (tried_numbers (s.kind t) x) ++ []) ++ []) ((map (λ z. f (opd.Number z)) (new_numbers (s.kind t) x) ++ []) ++ [])
  value_left o t x f alike =
      let I = code o ∷ [] in
      let tx = map (λ z. f (opd.Number z)) (tried_numbers (s.kind t) x) in
      let nx = map (λ z. f (opd.Number z)) (new_numbers (s.kind t) x) in
      leaves_append I (tx ++ []) [] (nx ++ []) [] (leaves_append I tx [] nx [] (all_numbers o t x f alike) refl) refl

  select_left : (c : TyText) (i : Opd) (t : TyText) (x : Opd) (u : TyText) (y : Opd) → Holds (op.Select c i t x u y)
  select_left c i t x u y =
      let o = op.Select c i t x u y in
      let I = code o ∷ [] in
      let put : Operand → Operand → Operand → Instr = λ d v w. instr.Select d v w in
      let first = all_numbers o t x (λ d. op.Select c i t d u y) (λ d e. ap (λ v. put (typed c i) v (typed u y)) e) in
      let second = all_numbers o u y (λ d. op.Select c i t x u d) (λ d e. ap (λ v. put (typed c i) (typed t x) v) e) in
      let swap = one_left o (same_operand (typed t x) (typed u y)) (op.Select c i u y t x) (λ e. let k = operand_same (typed t x) (typed u y) e in
      ap (λ v. put (typed c i) v (typed t x)) (sym k) ∙ ap (λ v. put (typed c i) (typed t x) v) k) in
      let flags = flags_left o c i (λ j. op.Select c j t x u y) (λ j. refl) (λ j e. ap (λ d. put d (typed t x) (typed u y)) (sym e)) in
      let tx = map (λ z. op.Select c i t (opd.Number z) u y) (tried_numbers (s.kind t) x) in
      let ty = map (λ z. op.Select c i t x u (opd.Number z)) (tried_numbers (s.kind u) y) in
      let nx = map (λ z. op.Select c i t (opd.Number z) u y) (new_numbers (s.kind t) x) in
      let ny = map (λ z. op.Select c i t x u (opd.Number z)) (new_numbers (s.kind u) y) in
      let sx = op.Select c i u y t x ∷ [] in
      let sn = if same_operand (typed t x) (typed u y) then [] else op.Select c i u y t x ∷ [] in
      let cx = op.Select c opd.True t x u y ∷ op.Select c opd.False t x u y ∷ [] in
      let cn = condition_maker (code o) o in
      leaves_append I (tx ++ (ty ++ [])) (sx ++ cx) (nx ++ (ny ++ [])) (sn ++ cn)
      (leaves_append I tx (ty ++ []) nx (ny ++ []) first (leaves_append I ty [] ny [] second refl)) (leaves_append I sx cx sn cn swap flags)

  branch_left : (t : TyText) (c : Opd) (m n : Name) → Holds (op.Branch t c m n)
  branch_left t c m n =
      let o = op.Branch t c m n in
      let I = code o ∷ [] in
      let put : Operand → ℕ → ℕ → Instr = λ d a b. instr.Branch d a b in
      let swap = one_left o (block_code s m == block_code s n) (op.Branch t c n m) (λ e. let k = (Decides-eqb (block_code s m) (block_code s n)).0 e in
      ap (λ v. put (typed t c) v (block_code s m)) (sym k) ∙ ap (λ v. put (typed t c) (block_code s m) v) k) in
      let flags = flags_left o t c (λ j. op.Branch t j m n) (λ j. refl) (λ j e. ap (λ d. put d (block_code s m) (block_code s n)) (sym e)) in
      leaves_append I (op.Branch t c n m ∷ []) (op.Branch t opd.True m n ∷ op.Branch t opd.False m n ∷ [])
      (if (block_code s m == block_code s n) then [] else op.Branch t c n m ∷ []) (condition_maker (code o) o) swap flags

  all_hold : (o : Op) → Holds o
  all_hold (op.Bin b t x y) =
      two_left same_operation operation_same (λ k x y. op.Bin k t x y) t (λ k v w. instr.Bin k (width_in s t) v w) (λ k x y. refl) operations b x y
  all_hold (op.Cmp p t x y) =
      two_left same_predicate predicate_same (λ k x y. op.Cmp k t x y) t (λ k v w. instr.Cmp k (width_in s t) v w) (λ k x y. refl) predicates p x y
  all_hold (op.Select c i t x u y) = select_left c i t x u y
  all_hold (op.Cast c t x to) = refl
  all_hold (op.Freeze t x) = refl
  all_hold (op.Alloca t n) = refl
  all_hold (op.Load t u x) = refl
  all_hold (op.Store t x u y) = value_left (op.Store t x u y) t x (λ d. op.Store t d u y) (λ d e. ap (λ v. instr.Store (width_in s t) v (typed u y)) e)
  all_hold (op.Get of t x is) = refl
  all_hold (op.Phi t es) = refl
  all_hold (op.Call t f xs) =
      leaves_append (code (op.Call t f xs) ∷ []) (tried_from s.kind (op.Call t f xs) 0 xs) [] (constants_from s.kind (op.Call t f xs) 0 xs) []
      (arguments_left t f xs 0 xs (λ j v e. ap (slice_get xs) (omega arith) ∙ e)) refl
  all_hold (op.Jump n) = refl
  all_hold (op.Branch t c m n) = branch_left t c m n
  all_hold (op.Switch t x n cs) = refl
  all_hold (op.Ret None) = refl
  all_hold (op.Ret (Some v)) = value_left (op.Ret (Some v)) v.0 v.1 (λ d. op.Ret (Some (v.0, d))) (λ d e. ap (λ u. instr.Ret (Some u)) e)
  all_hold op.Unreachable = refl

  pub all-left : (o : Op) → AreLeft code (code o ∷ []) (tried s.kind o) (replacements_of s.kind (code o) o)
  all-left o =
      let makes = all-apart s a o in
      are_left (code o ∷ []) (tried s.kind o) (replacements_of s.kind (code o) o) (old (replacements_of s.kind (code o) o) makes.old) makes.new (all_hold o)
    where
      old : (qs : List Op) → Each (Apart s a o) qs → Each (λ q. IsAmong (code q) (code o ∷ []) → ⊥) qs
      old [] h = tt
      old (q ∷ qs) (h, hs) = ((λ m. ⊎_elim (λ e. h (sym e)) (λ n. absurd n) m), old qs hs)
