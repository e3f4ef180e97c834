-- The codes of what the makers make of an instruction differ from its own and from each other.
use Rattle.std.proofs.Common.{◌≡◌, ℕ, zero, suc, ◌+◌, Bool, true, false, not, ◌&&◌, List, [], ◌∷◌, ◌++◌, map, refl, sym, ap, ◌∙◌, subst, arith}
use Rattle.std.proofs.Common.{Option, Some, None, ℤ, slice_get, slice_set, ◌==◌, ◌<◌, ◌^◌, if◌then◌else◌}
use Rattle.std.specs.List.{flat_map, list_any}
use Rattle.std.proofs.lemmas.Bool.{and_parts, not-true}
use Rattle.std.proofs.lemmas.Bool.Decides.{Decides-eqb}
use Rattle.am_base.specs.declared.word.Width.{Width}
use Rattle.am_base.specs.declared.word.BinOp.{BinOp}
use Rattle.am_base.specs.declared.word.BinOp.TheVariants.{Add, Sub, Mul, UDiv, SDiv, URem, SRem, Shl, LShr, AShr, And, Or, Xor}
use Rattle.am_base.specs.declared.word.Pred.{Pred}
use Rattle.am_base.specs.declared.word.Pred.TheVariants.{Eq, Ne, Ugt, Uge, Ult, Ule, Sgt, Sge, Slt, Sle}
use Rattle.am_base.specs.Word.{bits_of, signed, word_of}
use Rattle.code_form.specs.declared.code.TyScalar.TheVariants.{Int}
use Rattle.code_form.specs.declared.instr.Operand.{Operand}
use Rattle.code_form.specs.declared.instr.Operand.TheVariants.{Reg, Word}
use Rattle.code_form.specs.declared.instr.Instr.{Instr}
use Rattle.code_form.specs.declared.instr.Instr.TheVariants as instr
use Rattle.ir_tree.specs.declared.name.Name.{Name}
use Rattle.ir_tree.specs.declared.type_text.TyText.{TyText}
use Rattle.ir_tree.specs.declared.operand.Opd.{Opd}
use Rattle.ir_tree.specs.declared.operand.Opd.TheVariants as opd
use Rattle.ir_tree.specs.declared.op.Op.{Op}
use Rattle.ir_tree.specs.declared.op.Op.TheVariants as op
use Rattle.ir_rules.specs.Parts.{Typed}
use Rattle.ir_rules.specs.Settings.{Setting}
use Rattle.ir_rules.specs.Paths.{kind_width}
use Rattle.ir_rules.specs.Memory.{Addresses, constant_word}
use Rattle.ir_rules.specs.Codes.{op_code, typed_code, block_code}
use Rattle.ir_sound.proofs.Edges.{member-map}
use Rattle.ir_sound.proofs.Lists.{Each, each-weaker, each-append, none-each, map-each}
use Rattle.mutant_maker.specs.Makers.{operations, same_operation, predicates, same_predicate, new_numbers, with_argument}
use Rattle.mutant_maker.specs.Makers.{constants_from, same_operand, new_conditions, with_condition, replacements_of}
use Rattle.mutant_maker_laws.proofs.Kept.{flat-each}
use Rattle.mutant_maker_laws.proofs.NewWords.{IsOther, Differ, AllDiffer, signed-is, new_words-others, new-cases}
use Rattle.mutant_maker_laws.proofs.Fitting.{every, unless-each, others-each, argument-is, StandAt}

-- ---- equality by tests

-- each one passes the test with no later one
all_apart : {X : Type 0} → (X → X → Bool) → List X → Bool
all_apart same [] = true
all_apart same (x ∷ xs) = not (list_any (same x) xs) && all_apart same xs

apart-differ : {X : Type 0} (same : X → X → Bool) → ((x : X) → same x x ≡ true) → (xs : List X) → all_apart same xs ≡ true → AllDiffer xs
unfolding all_apart
apart-differ same self [] h = tt
apart-differ same self (x ∷ xs) h =
    let both = and_parts (not (list_any (same x) xs)) (all_apart same xs) h in (
      each-weaker _ (Differ x) (λ y n e. let yes : same x y ≡ true = subst (λ z. same x z ≡ true) e (self x) in cc) xs
          (none-each (same x) xs (not-true _ both.0)),
      apart-differ same self xs both.1,
    )

pub operation-self : (b : BinOp) → same_operation b b ≡ true
operation-self Add = refl
operation-self Sub = refl
operation-self Mul = refl
operation-self UDiv = refl
operation-self SDiv = refl
operation-self URem = refl
operation-self SRem = refl
operation-self Shl = refl
operation-self LShr = refl
operation-self AShr = refl
operation-self And = refl
operation-self Or = refl
operation-self Xor = refl

pub predicate-self : (p : Pred) → same_predicate p p ≡ true
predicate-self Eq = refl
predicate-self Ne = refl
predicate-self Ugt = refl
predicate-self Uge = refl
predicate-self Ult = refl
predicate-self Ule = refl
predicate-self Sgt = refl
predicate-self Sge = refl
predicate-self Slt = refl
predicate-self Sle = refl

operations-differ : AllDiffer operations
unfolding all_apart
operations-differ = apart-differ same_operation operation-self operations refl

predicates-differ : AllDiffer predicates
unfolding all_apart
predicates-differ = apart-differ same_predicate predicate-self predicates refl

number-self : (n : ℕ) → (n == n) ≡ true
number-self n = (Decides-eqb n n).1 refl

operand-self : (x : Operand) → same_operand x x ≡ true
operand-self (Reg n) = number-self n
operand-self (Word n) = number-self n

differ-by : {X : Type 0} (same : X → X → Bool) → ((x : X) → same x x ≡ true) → (x y : X) → same x y ≡ false → Differ x y
differ-by same self x y h e = let yes : same x y ≡ true = subst (λ z. same x z ≡ true) e (self x) in cc

-- ---- the parts of a code

pub data Part : Type 0 where
  operation : BinOp → Part
  predicate : Pred → Part
  operand : Operand → Part
  label : ℕ → Part
  nothing : Part

abbrev head : Instr → Part
head (instr.Bin k w x y) = operation k
head (instr.Cmp p w x y) = predicate p
head (instr.Select d x y) = operand d
head (instr.Branch d m n) = operand d
head _ = nothing

abbrev first : Instr → Part
first (instr.Bin k w x y) = operand x
first (instr.Cmp p w x y) = operand x
first (instr.Select d x y) = operand x
first (instr.Store w x y) = operand x
first (instr.Ret (Some x)) = operand x
first (instr.Branch d m n) = label m
first _ = nothing

abbrev second : Instr → Part
second (instr.Bin k w x y) = operand y
second (instr.Cmp p w x y) = operand y
second (instr.Select d x y) = operand y
second (instr.Branch d m n) = label n
second _ = nothing

some_operand : Option Operand → Part
some_operand None = nothing
some_operand (Some x) = operand x

argument : ℕ → Instr → Part
argument k (instr.Call c xs) = some_operand (slice_get xs k)
argument k _ = nothing

-- ---- lists of instructions by their codes

module _ (s : Setting) (a : Addresses) where
  abbrev code : Op → Instr
  code o = op_code s a o

  abbrev typed : TyText → Opd → Operand
  typed t x = typed_code s a t x

  abbrev pub Apart : Op → Op → Type 0
  Apart x y = code x ≡ code y → ⊥

  abbrev pub AllApart : List Op → Type 0
  AllApart [] = Unit {0}
  AllApart (x ∷ xs) = Each (Apart x) xs × AllApart xs

  abbrev Cross : List Op → List Op → Type 0
  Cross xs ys = Each (λ x. Each (Apart x) ys) xs

  append-apart : (xs ys : List Op) → AllApart xs → AllApart ys → Cross xs ys → AllApart (xs ++ ys)
  append-apart [] ys h g c = g
  append-apart (x ∷ xs) ys (h, hs) g (c, cs) = (each-append (Apart x) xs ys h c, append-apart xs ys hs g cs)

  cross-right : (xs ys zs : List Op) → Cross xs ys → Cross xs zs → Cross xs (ys ++ zs)
  cross-right [] ys zs h g = tt
  cross-right (x ∷ xs) ys zs (h, hs) (g, gs) = (each-append (Apart x) ys zs h g, cross-right xs ys zs hs gs)

  cross-none : (xs : List Op) → Cross xs []
  cross-none [] = tt
  cross-none (x ∷ xs) = (tt, cross-none xs)

  alone-apart : (b : Bool) (x : Op) → AllApart (if b then [] else x ∷ [])
  alone-apart true x = tt
  alone-apart false x = (tt, tt)

  -- ---- beside the original

  module _ (o : Op) where
    abbrev Kept : (Instr → Part) → Op → Type 0
    Kept V r = V (code r) ≡ V (code o)

    abbrev Changed : (Instr → Part) → Op → Type 0
    Changed V r = V (code r) ≡ V (code o) → ⊥

    changed-apart : (V : Instr → Part) (xs : List Op) → Each (Changed V) xs → Each (Apart o) xs
    changed-apart V xs h = each-weaker (Changed V) (Apart o) (λ r c e. c (ap V (sym e))) xs h

    cross-changed : (V : Instr → Part) (xs ys : List Op) → Each (Changed V) xs → Each (Kept V) ys → Cross xs ys
    cross-changed V [] ys h g = tt
    cross-changed V (x ∷ xs) ys (h, hs) g = (each-weaker (Kept V) (Apart x) (λ y k e. h (ap V e ∙ k)) ys g, cross-changed V xs ys hs g)

    cross-kept : (V : Instr → Part) (xs ys : List Op) → Each (Kept V) xs → Each (Changed V) ys → Cross xs ys
    cross-kept V [] ys h g = tt
    cross-kept V (x ∷ xs) ys (h, hs) g = (each-weaker (Changed V) (Apart x) (λ y c e. c (ap V (sym e) ∙ h)) ys g, cross-kept V xs ys hs g)

    -- ---- others of a list

    module _ {K : Type 0} (same : K → Bool) (f : K → Op) where
      abbrev others : List K → List Op
      others ks = flat_map (λ k. if same k then [] else f k ∷ []) ks

      others-later : (x : Op) (ks : List K) → Each (λ k. Apart x (f k)) ks → Each (Apart x) (others ks)
      others-later x [] h = tt
      others-later x (k ∷ ks) (h, hs) = each-append (Apart x) _ (others ks) (unless-each (Apart x) (same k) (f k) (λ _. h)) (others-later x ks hs)

      others-apart : ((k l : K) → code (f k) ≡ code (f l) → k ≡ l) → (ks : List K) → AllDiffer ks → AllApart (others ks)
      others-apart inj [] h = tt
      others-apart inj (k ∷ ks) (h, hs) = append-apart _ (others ks) (alone-apart (same k) (f k)) (others-apart inj ks hs)
          (unless-each (λ x. Each (Apart x) (others ks)) (same k) (f k)
          (λ _. others-later (f k) ks (each-weaker (Differ k) _ (λ l d e. d (inj k l e)) ks h)))

    -- ---- numbers

    pub record AreNew (V : Instr → Part) (xs : List Op) : Type 0 where
      pub changed : Each (Changed V) xs
      pub apart : AllApart xs

    module _ (t : TyText) (x : Opd) (f : Opd → Op) (V : Instr → Part) (is : (b : Opd) → V (code (f b)) ≡ operand (typed t b))
        (old : V (code o) ≡ operand (typed t x)) where
      word-code : (w : Width) → s.kind t ≡ Some (Int w) → (z : ℤ) → typed t (opd.Number z) ≡ Word (word_of w z)
      word-code w e z = ap (λ k. Word (constant_word s.types a (kind_width k) (opd.Number z))) e

      signed-code : (w : Width) → s.kind t ≡ Some (Int w) → (n : ℕ) → n < 2 ^ bits_of w → V (code (f (opd.Number (signed w n)))) ≡ operand (Word n)
      signed-code w e n h = is (opd.Number (signed w n)) ∙ ap operand (word-code w e (signed w n)) ∙ ap (λ m. operand (Word m)) (signed-is w n h).word

      abbrev numbers : List ℤ → List Op
      numbers zs = map (λ z. f (opd.Number z)) zs

      words-apart : (w : Width) → s.kind t ≡ Some (Int w) → (b : ℕ) (ns : List ℕ) → Each (IsOther w b) ns → AllDiffer ns → AllApart (numbers (map (signed w) ns))
      words-apart w e b [] h d = tt
      words-apart w e b (n ∷ ns) (h, hs) (d, ds) = (later ns hs d, words-apart w e b ns hs ds)
        where
          later : (ms : List ℕ) → Each (IsOther w b) ms → Each (Differ n) ms → Each (Apart (f (opd.Number (signed w n)))) (numbers (map (signed w) ms))
          later [] k d = tt
          later (m ∷ ms) (k, ks) (d, ds) = (
            λ same. (
                let equal : operand (Word n) ≡ operand (Word m) = sym (signed-code w e n h.0) ∙ ap V same ∙ signed-code w e m k.0 in
                let number : n ≡ m = cc in
                d number),
            later ms ks ds,
          )

      words-changed : (w : Width) → s.kind t ≡ Some (Int w) → (z : ℤ) → x ≡ opd.Number z → (ns : List ℕ) → Each (IsOther w (word_of w z)) ns
          → Each (Changed V) (numbers (map (signed w) ns))
      words-changed w e z same [] h = tt
      words-changed w e z same (n ∷ ns) (h, hs) = (
        λ k. (
            let was : V (code o) ≡ operand (Word (word_of w z)) = old ∙ ap (λ y. operand (typed t y)) same ∙ ap operand (word-code w e z) in
            let equal : operand (Word n) ≡ operand (Word (word_of w z)) = sym (signed-code w e n h.0) ∙ k ∙ was in
            let number : n ≡ word_of w z = cc in
            h.1 number),
        words-changed w e z same ns hs,
      )

      numbers-new : AreNew V (numbers (new_numbers (s.kind t) x))
      numbers-new = new-cases (λ zs. AreNew V (numbers zs)) (s.kind t) x (record { changed = tt; apart = tt }) (λ w z e same.
          let others = new_words-others w (word_of w z) in record {
            changed = words-changed w e z same _ others.each;
            apart = words-apart w e (word_of w z) _ others.each others.differ;
          })

      -- each keeps what has nothing to do with the number
      numbers-each : (P : Op → Type 0) → ((b : Opd) → P (f b)) → (zs : List ℤ) → Each P (numbers zs)
      numbers-each P h [] = tt
      numbers-each P h (z ∷ zs) = (h (opd.Number z), numbers-each P h zs)

    -- ---- conditions

    module _ (c : TyText) (i : Opd) (f : Opd → Op) (e : (j : Opd) → with_condition o j ≡ f j ∷ []) (is : (j : Opd) → head (code (f j)) ≡ operand (typed c j))
        (old : head (code o) ≡ operand (typed c i)) where
      abbrev flags : List Op
      flags = flat_map (with_condition o) (new_conditions (typed c i))

      flags-each : (P : Op → Type 0) → (same_operand (typed c i) (Word 1) ≡ false → P (f opd.True)) → (same_operand (typed c i) (Word 0) ≡ false → P (f opd.False))
          → Each P flags
      flags-each P yes' no' = flat-each P (with_condition o) (new_conditions (typed c i))
          (each-append (λ j. Each P (with_condition o j)) (if same_operand (typed c i) (Word 1) then [] else opd.True ∷ []) _
          (unless-each _ (same_operand (typed c i) (Word 1)) opd.True (λ u. subst (Each P) (sym (e opd.True)) (yes' u, tt)))
          (unless-each _ (same_operand (typed c i) (Word 0)) opd.False (λ u. subst (Each P) (sym (e opd.False)) (no' u, tt))))

      two-flags : (b d : Bool) → AllApart (flat_map (with_condition o) ((if b then [] else opd.True ∷ []) ++ (if d then [] else opd.False ∷ [])))
      two-flags true true = tt
      two-flags true false = rw (e opd.False) (tt, tt)
      two-flags false true = rw (e opd.True) (tt, tt)
      two-flags false false = rw (e opd.True, e opd.False) ((apart, tt), (tt, tt))
        where
          apart : Apart (f opd.True) (f opd.False)
          apart same = (let equal : operand (Word 1) ≡ operand (Word 0) = sym (is opd.True) ∙ ap head same ∙ is opd.False in let wrong : ◌≡◌ {A = ℕ} 1 0 = cc in absurd (omega arith))

      changed-flag : (j : Opd) (n : ℕ) → typed c j ≡ Word n → same_operand (typed c i) (Word n) ≡ false → Changed head (f j)
      changed-flag j n d u k =
          let equal : operand (Word n) ≡ operand (typed c i) = ap operand (sym d) ∙ sym (is j) ∙ k ∙ old in
          let same : typed c i ≡ Word n = cc in
          differ-by same_operand operand-self (typed c i) (Word n) u same

      flags-new : AreNew head flags
      flags-new = record {
        changed = flags-each (Changed head) (changed-flag opd.True 1 refl) (changed-flag opd.False 0 refl);
        apart = two-flags (same_operand (typed c i) (Word 1)) (same_operand (typed c i) (Word 0));
      }

    -- ---- two operands, and their swap

    two-apart : (xs ys : List Op) → AllApart xs → AllApart ys → Each (Changed first) xs → Each (Kept first) ys → AllApart (xs ++ (ys ++ []))
    two-apart xs ys h g c k = append-apart xs (ys ++ []) h (append-apart ys [] g tt (cross-none ys))
        (cross-changed first xs (ys ++ []) c (each-append (Kept first) ys [] k tt))

    two-cross : (xs ys zs : List Op) → Each (Kept second) xs → Each (Kept first) ys → Each (Changed first) zs → Each (Changed second) zs
        → Cross (xs ++ (ys ++ [])) zs
    two-cross xs ys zs h g c d = each-append _ xs (ys ++ []) (cross-kept second xs zs h d) (each-append _ ys [] (cross-kept first ys zs g c) tt)

    pub record AreApart (xs : List Op) : Type 0 where
      pub old : Each (Apart o) xs
      pub new : AllApart xs

  abbrev pub Makes : Op → Type 0
  Makes o = AreApart o (replacements_of s.kind (code o) o)

  swap-changed : (o : Op) (V : Instr → Part) (x y : Operand) (new : Op) → V (code o) ≡ operand x → V (code new) ≡ operand y → same_operand x y ≡ false
      → Changed o V new
  swap-changed o V x y new h g u k =
      let equal : operand x ≡ operand y = sym h ∙ sym k ∙ g in
      let same : x ≡ y = cc in
      differ-by same_operand operand-self x y u same

  swap-changed' : (o : Op) (V : Instr → Part) (x y : Operand) (new : Op) → V (code o) ≡ operand y → V (code new) ≡ operand x → same_operand x y ≡ false
      → Changed o V new
  swap-changed' o V x y new h g u k =
      let equal : operand x ≡ operand y = sym g ∙ k ∙ h in
      let same : x ≡ y = cc in
      differ-by same_operand operand-self x y u same

  -- a binary operation or comparison
  module _ {K : Type 0} (same : K → K → Bool) (self : (k : K) → same k k ≡ true) (mk : K → Opd → Opd → Op) (t : TyText) (h : K → Part)
      (inj : (k l : K) → h k ≡ h l → k ≡ l) (heads : (k : K) (x y : Opd) → head (code (mk k x y)) ≡ h k)
      (firsts : (k : K) (x y : Opd) → first (code (mk k x y)) ≡ operand (typed t x))
      (seconds : (k : K) (x y : Opd) → second (code (mk k x y)) ≡ operand (typed t y)) (ks : List K) (differ : AllDiffer ks) (b : K) (x y : Opd) where
    abbrev o : Op
    o = mk b x y

    abbrev changed_first : List Op
    changed_first = map (λ z. mk b (opd.Number z) y) (new_numbers (s.kind t) x)

    abbrev changed_second : List Op
    changed_second = map (λ z. mk b x (opd.Number z)) (new_numbers (s.kind t) y)

    abbrev test : Bool
    test = same_operand (typed t x) (typed t y)

    abbrev swap : List Op
    swap = if test then [] else mk b y x ∷ []

    one : AreNew o first changed_first
    one = numbers-new o t x (λ d. mk b d y) first (λ d. firsts b d y) (firsts b x y)

    two : AreNew o second changed_second
    two = numbers-new o t y (λ d. mk b x d) second (λ d. seconds b x d) (seconds b x y)

    first-each : (P : Op → Type 0) → ((d : Opd) → P (mk b d y)) → Each P changed_first
    first-each P g = numbers-each o t x (λ d. mk b d y) first (λ d. firsts b d y) (firsts b x y) P g (new_numbers (s.kind t) x)

    second-each : (P : Op → Type 0) → ((d : Opd) → P (mk b x d)) → Each P changed_second
    second-each P g = numbers-each o t y (λ d. mk b x d) second (λ d. seconds b x d) (seconds b x y) P g (new_numbers (s.kind t) y)

    kept-head : (d e : Opd) → Kept o head (mk b d e)
    kept-head d e = heads b d e ∙ sym (heads b x y)

    swap-first : Each (Changed o first) swap
    swap-first = unless-each (Changed o first) test (mk b y x) (swap-changed o first (typed t x) (typed t y) (mk b y x) (firsts b x y) (firsts b y x))

    swap-second : Each (Changed o second) swap
    swap-second = unless-each (Changed o second) test (mk b y x) (swap-changed' o second (typed t x) (typed t y) (mk b y x) (seconds b x y) (seconds b y x))

    others-new : Each (Changed o head) (others o (same b) (λ k. mk k x y) ks)
    others-new = others-each (Changed o head) (same b) (λ k. mk k x y)
        (λ k u e. let equal : k ≡ b = inj k b (sym (heads k x y) ∙ e ∙ heads b x y) in differ-by same self b k u (sym equal)) ks

    abbrev numbers_both : List Op
    numbers_both = changed_first ++ (changed_second ++ [])

    pub two_operands-apart : AreApart o (others o (same b) (λ k. mk k x y) ks ++ (numbers_both ++ (swap ++ [])))
    two_operands-apart =
        let tail_first = each-append (Changed o first) swap [] swap-first tt in
        let tail_second = each-append (Changed o second) swap [] swap-second tt in
        let consts_old = each-append (Apart o) _ _ (changed-apart o first _ one.changed)
        (each-append (Apart o) _ [] (changed-apart o second _ two.changed) tt) in
        let first_kept = second-each (Kept o first) (λ d. firsts b x d ∙ sym (firsts b x y)) in
        let second_kept = first-each (Kept o second) (λ d. seconds b d y ∙ sym (seconds b x y)) in
        let consts_apart = two-apart o _ _ one.apart two.apart one.changed first_kept in
        let consts_head = each-append (Kept o head) _ _ (first-each (Kept o head) (λ d. kept-head d y))
        (each-append (Kept o head) _ [] (second-each (Kept o head) (λ d. kept-head x d)) tt) in
        let rest_apart = append-apart numbers_both (swap ++ []) consts_apart (append-apart swap [] (alone-apart test (mk b y x)) tt (cross-none swap))
        (two-cross o _ _ _ second_kept first_kept tail_first tail_second) in
        let rest_head = each-append (Kept o head) numbers_both (swap ++ []) consts_head
        (each-append (Kept o head) swap [] (unless-each (Kept o head) test (mk b y x) (λ _. kept-head y x)) tt) in
        record {
          old = each-append (Apart o) _ _ (changed-apart o head _ others-new)
              (each-append (Apart o) numbers_both _ consts_old (changed-apart o first _ tail_first));
          new = append-apart _ _ (others-apart o (same b) (λ k. mk k x y)
              (λ k l e. inj k l (sym (heads k x y) ∙ ap head e ∙ heads l x y)) ks differ) rest_apart (cross-changed o head _ _ others-new rest_head);
        }

  binary-apart : (b : BinOp) (t : TyText) (x y : Opd) → Makes (op.Bin b t x y)
  binary-apart b t x y = two_operands-apart same_operation operation-self (λ k x y. op.Bin k t x y) t operation (λ k l e. cc) (λ k x y. refl) (λ k x y. refl)
      (λ k x y. refl) operations operations-differ b x y

  compare-apart : (p : Pred) (t : TyText) (x y : Opd) → Makes (op.Cmp p t x y)
  compare-apart p t x y = two_operands-apart same_predicate predicate-self (λ k x y. op.Cmp k t x y) t predicate (λ k l e. cc) (λ k x y. refl) (λ k x y. refl)
      (λ k x y. refl) predicates predicates-differ p x y

  -- the value of a `store` or `ret`
  value-apart : (o : Op) (t : TyText) (x : Opd) (f : Opd → Op) → ((d : Opd) → first (code (f d)) ≡ operand (typed t d)) → first (code o) ≡ operand (typed t x)
      → AreApart o (map (λ z. f (opd.Number z)) (new_numbers (s.kind t) x) ++ [] ++ [])
  value-apart o t x f is old =
      let new = numbers-new o t x f first is old in
      let xs = map (λ z. f (opd.Number z)) (new_numbers (s.kind t) x) in
      record {
        old = each-append (Apart o) (xs ++ []) [] (each-append (Apart o) xs [] (changed-apart o first xs new.changed) tt) tt;
        new = append-apart (xs ++ []) [] (append-apart xs [] new.apart tt (cross-none xs)) tt (cross-none (xs ++ []));
      }

  select-apart : (c : TyText) (i : Opd) (t : TyText) (x : Opd) (u : TyText) (y : Opd) → Makes (op.Select c i t x u y)
  select-apart c i t x u y =
      let o = op.Select c i t x u y in
      let f : Opd → Op = λ d. op.Select c i t d u y in
      let g : Opd → Op = λ d. op.Select c i t x u d in
      let j : Opd → Op = λ d. op.Select c d t x u y in
      let one = numbers-new o t x f first (λ d. refl) refl in
      let two = numbers-new o u y g second (λ d. refl) refl in
      let flags = flags-new o c i j (λ d. refl) (λ d. refl) refl in
      let f_each : (P : Op → Type 0) → ((d : Opd) → P (f d)) → Each P (map (λ z. f (opd.Number z)) (new_numbers (s.kind t) x)) = λ P h.
      numbers-each o t x f first (λ d. refl) refl P h (new_numbers (s.kind t) x) in
      let g_each : (P : Op → Type 0) → ((d : Opd) → P (g d)) → Each P (map (λ z. g (opd.Number z)) (new_numbers (s.kind u) y)) = λ P h.
      numbers-each o u y g second (λ d. refl) refl P h (new_numbers (s.kind u) y) in
      let new = op.Select c i u y t x in
      let test = same_operand (typed t x) (typed u y) in
      let swap_first = unless-each (Changed o first) test new (swap-changed o first (typed t x) (typed u y) new refl refl) in
      let swap_second = unless-each (Changed o second) test new (swap-changed' o second (typed t x) (typed u y) new refl refl) in
      let swap_head = unless-each (Kept o head) test new (λ _. refl) in
      let consts_old = each-append (Apart o) _ _ (changed-apart o first _ one.changed)
      (each-append (Apart o) _ [] (changed-apart o second _ two.changed) tt) in
      let first_kept = g_each (Kept o first) (λ d. refl) in
      let consts_head = each-append (Kept o head) _ _ (f_each (Kept o head) (λ d. refl)) (each-append (Kept o head) _ [] (g_each (Kept o head) (λ d. refl)) tt) in
      let consts_apart = two-apart o _ _ one.apart two.apart one.changed first_kept in
      let consts_swap = two-cross o _ _ _ (f_each (Kept o second) (λ d. refl)) first_kept swap_first swap_second in
      record {
        old = each-append (Apart o) _ _ consts_old (each-append (Apart o) _ _ (changed-apart o first _ swap_first) (changed-apart o head _ flags.changed));
        new = append-apart _ _ consts_apart (append-apart _ _ (alone-apart test new) flags.apart (cross-kept o head _ _ swap_head flags.changed))
            (cross-right _ _ _ consts_swap (cross-kept o head _ _ consts_head flags.changed));
      }

  branch-apart : (t : TyText) (c : Opd) (m n : Name) → Makes (op.Branch t c m n)
  branch-apart t c m n =
      let o = op.Branch t c m n in
      let j : Opd → Op = λ d. op.Branch t d m n in
      let flags = flags-new o t c j (λ d. refl) (λ d. refl) refl in
      let new = op.Branch t c n m in
      let test = block_code s m == block_code s n in
      let swap_first = unless-each (Changed o first) test new (λ u e. let equal : block_code s n ≡ block_code s m = cc in
      differ-by (λ a b. a == b) number-self (block_code s m) (block_code s n) u (sym equal)) in
      let swap_head = unless-each (Kept o head) test new (λ _. refl) in
      record {
        old = each-append (Apart o) _ _ (changed-apart o first _ swap_first) (changed-apart o head _ flags.changed);
        new = append-apart _ _ (alone-apart test new) flags.apart (cross-kept o head _ _ swap_head flags.changed);
      }

  -- ---- arguments

  abbrev value_of : Typed → Operand
  value_of v = typed v.0 v.1

  set-here : (xs : List Typed) (k : ℕ) (v y : Typed) → slice_get xs k ≡ Some v → slice_get (map value_of (slice_set xs k y)) k ≡ Some (value_of y)
  set-here [] k v y e = cc
  set-here (x ∷ xs) zero v y e = refl
  set-here (x ∷ xs) (suc k) v y e = set-here xs k v y e

  set-before : (xs : List Typed) (j k : ℕ) (y : Typed) → j < k → slice_get (map value_of (slice_set xs k y)) j ≡ slice_get (map value_of xs) j
  set-before [] j k y h = refl
  set-before (x ∷ xs) j zero y h = absurd (omega arith)
  set-before (x ∷ xs) zero (suc k) y h = refl
  set-before (x ∷ xs) (suc j) (suc k) y h = set-before xs j k y (omega arith)

  module _ (t : TyText) (f : Name) (xs : List Typed) where
    abbrev call : Op
    call = op.Call t f xs

    abbrev with_one : ℕ → Opd → Op
    with_one k d = op.Call t f (with_argument xs k d)

    argument-here : (k : ℕ) (v : Typed) (d : Opd) → slice_get xs k ≡ Some v → argument k (code (with_one k d)) ≡ operand (typed v.0 d)
    unfolding argument some_operand
    argument-here k v d e = ap (λ ys. some_operand (slice_get (map value_of ys) k)) (argument-is xs k v d e)
        ∙ ap some_operand (set-here xs k v (v.0, d) e)

    argument-before : (j k : ℕ) (v : Typed) (d : Opd) → slice_get xs k ≡ Some v → j < k → Kept call (argument j) (with_one k d)
    unfolding argument some_operand
    argument-before j k v d e h = ap (λ ys. some_operand (slice_get (map value_of ys) j)) (argument-is xs k v d e)
        ∙ ap some_operand (set-before xs j k (v.0, d) h)

    argument-old : (k : ℕ) (v : Typed) → slice_get xs k ≡ Some v → argument k (code call) ≡ operand (value_of v)
    unfolding argument some_operand
    argument-old k v e = ap some_operand (member-map value_of xs k v e)

    before-kept : (j k : ℕ) (vs : List Typed) → StandAt xs k vs → j < k → Each (Kept call (argument j)) (constants_from s.kind call k vs)
    before-kept j k [] there h = tt
    before-kept j k (v ∷ vs) there h =
        let here : slice_get xs k ≡ Some v = ap (slice_get xs) (omega arith) ∙ there 0 v refl in
        each-append (Kept call (argument j)) _ _
        (map-each (Kept call (argument j)) (λ z. with_one k (opd.Number z)) (new_numbers (s.kind v.0) v.1)
        (every _ (λ z. argument-before j k v (opd.Number z) here h) _))
        (before-kept j (k + 1) vs (λ i u e. ap (slice_get xs) (omega arith) ∙ there (suc i) u e) (omega arith))

    arguments-apart : (k : ℕ) (vs : List Typed) → StandAt xs k vs → AreApart call (constants_from s.kind call k vs)
    arguments-apart k [] there = record { old = tt; new = tt }
    arguments-apart k (v ∷ vs) there =
        let here : slice_get xs k ≡ Some v = ap (slice_get xs) (omega arith) ∙ there 0 v refl in
        let next : StandAt xs (k + 1) vs = λ i u e. ap (slice_get xs) (omega arith) ∙ there (suc i) u e in
        let new = numbers-new call v.0 v.1 (with_one k) (argument k) (λ d. argument-here k v d here) (argument-old k v here) in
        let more = arguments-apart (k + 1) vs next in
        record {
          old = each-append (Apart call) _ _ (changed-apart call (argument k) _ new.changed) more.old;
          new = append-apart _ _ new.apart more.new (cross-changed call (argument k) _ _ new.changed (before-kept k (k + 1) vs next (omega arith)));
        }

  call-apart : (t : TyText) (f : Name) (xs : List Typed) → Makes (op.Call t f xs)
  call-apart t f xs =
      let all = arguments-apart t f xs 0 xs (λ j v e. ap (slice_get xs) (omega arith) ∙ e) in
      record {
        old = each-append (Apart (op.Call t f xs)) _ [] all.old tt;
        new = append-apart _ [] all.new tt (cross-none _);
      }

  nothing-made : (o : Op) → AreApart o []
  nothing-made o = record { old = tt; new = tt }

  pub all-apart : (o : Op) → Makes o
  all-apart (op.Bin b t x y) = binary-apart b t x y
  all-apart (op.Cmp p t x y) = compare-apart p t x y
  all-apart (op.Select c i t x u y) = select-apart c i t x u y
  all-apart (op.Cast c t x to) = nothing-made _
  all-apart (op.Freeze t x) = nothing-made _
  all-apart (op.Alloca t n) = nothing-made _
  all-apart (op.Load t u x) = nothing-made _
  all-apart (op.Store t x u y) = value-apart (op.Store t x u y) t x (λ d. op.Store t d u y) (λ d. refl) refl
  all-apart (op.Get of t x is) = nothing-made _
  all-apart (op.Phi t es) = nothing-made _
  all-apart (op.Call t f xs) = call-apart t f xs
  all-apart (op.Jump n) = nothing-made _
  all-apart (op.Branch t c m n) = branch-apart t c m n
  all-apart (op.Switch t x n cs) = nothing-made _
  all-apart (op.Ret None) = nothing-made _
  all-apart (op.Ret (Some v)) = value-apart (op.Ret (Some v)) v.0 v.1 (λ d. op.Ret (Some (v.0, d))) (λ d. refl) refl
  all-apart op.Unreachable = nothing-made _
