-- What the makers make of an instruction that keeps the rules can stand in its place.
use Rattle.std.proofs.Common.{◌≡◌, ℕ, zero, suc, ◌+◌, Bool, true, false, not, ◌||◌, List, [], ◌∷◌, map, refl, sym, ap, ◌∙◌, subst, arith, inl, inr}
use Rattle.std.proofs.Common.{Option, Some, None, is_none, ℤ, ◌==◌, slice_get, slice_set, if◌then◌else◌}
use Rattle.std.specs.List.{flat_map}
use Rattle.am_base.specs.declared.word.Width.{Width}
use Rattle.am_base.specs.declared.word.Width.TheVariants.{W1, W8, W16, W32, W64}
use Rattle.am_base.specs.declared.word.BinOp.{BinOp}
use Rattle.am_base.specs.declared.word.Pred.{Pred}
use Rattle.am_base.specs.Word.{signed, word_of}
use Rattle.code_form.specs.declared.code.TyScalar.{TyScalar}
use Rattle.code_form.specs.declared.instr.Operand.{Operand}
use Rattle.code_form.specs.declared.instr.Operand.TheVariants.{Word}
use Rattle.code_form.specs.declared.code.TyScalar.TheVariants.{Int, Ptr}
use Rattle.ir_tree.specs.declared.name.Name.{Name}
use Rattle.ir_tree.specs.declared.type_text.TyText.{TyText}
use Rattle.ir_tree.specs.declared.operand.Opd.{Opd}
use Rattle.ir_tree.specs.declared.operand.Opd.TheVariants as opd
use Rattle.ir_tree.specs.declared.op.Op.{Op}
use Rattle.ir_tree.specs.declared.op.Op.TheVariants as op
use Rattle.ir_names.proofs.Defined.{same-self}
use Rattle.ir_names.specs.Names.{same_name}
use Rattle.ir_rules.specs.Types.{Kinds, result_kind, same_width, same_kind}
use Rattle.ir_rules.specs.Parts.{Typed, op_operands}
use Rattle.ir_rules.specs.Scopes.{value_kind}
use Rattle.ir_rules.specs.Entities.{same_result, signature_of}
use Rattle.ir_rules.specs.Settings.{Setting, entity_of}
use Rattle.ir_rules.specs.Operands.{operand_differs, operand_out, no_condition}
use Rattle.ir_rules.specs.Calls.{has_other_signature}
use Rattle.ir_rules.specs.Memory.{Addresses}
use Rattle.ir_rules.specs.Codes.{op_code, typed_code, block_code}
use Rattle.ir_rules.specs.Replacements.{Original, stays_as_it_is, ends_otherwise, gives_otherwise, goes_elsewhere, breaks_there, is_misfit}
use Rattle.ir_sound.proofs.Operands.{kind-same, call-result}
use Rattle.ir_sound.proofs.Lists.{neither, no, Each, each-at, each-weaker, each-append, map-each}
use Rattle.mutant_maker.specs.Makers.{operations, same_operation, predicates, same_predicate, new_words, new_numbers, with_argument}
use Rattle.mutant_maker.specs.Makers.{constants_from, same_operand, new_conditions, with_condition, replacements_of}
use Rattle.mutant_maker_laws.proofs.Kept.{flat-each, or-no, OperandKept, Around, AllKept, operands-kept, around-kept, none-broken}
use Rattle.mutant_maker_laws.proofs.NewWords.{IsOther, signed-is, new_words-others, new-cases}

-- ---- lists

pub every : {X : Type 0} (P : X → Type 0) → ((x : X) → P x) → (xs : List X) → Each P xs
every P h [] = tt
every P h (x ∷ xs) = (h x, every P h xs)

pub unless-each : {X : Type 0} (P : X → Type 0) (b : Bool) (x : X) → (b ≡ false → P x) → Each P (if b then [] else x ∷ [])
unless-each P true x h = tt
unless-each P false x h = (h refl, tt)

pub others-each : {X K : Type 0} (P : X → Type 0) (same : K → Bool) (f : K → X) → ((k : K) → same k ≡ false → P (f k)) → (ks : List K)
    → Each P (flat_map (λ k. if same k then [] else f k ∷ []) ks)
others-each P same f h ks = flat-each P _ ks (every _ (λ k. unless-each P (same k) (f k) (h k)) ks)

or_yes : (a : Bool) → (a || true) ≡ true
or_yes true = refl
or_yes false = refl

-- ---- equal kinds

same_width-self : (w : Width) → same_width w w ≡ true
same_width-self W1 = refl
same_width-self W8 = refl
same_width-self W16 = refl
same_width-self W32 = refl
same_width-self W64 = refl

same_kind-self : (k : Option TyScalar) → same_kind k k ≡ true
same_kind-self None = refl
same_kind-self (Some Ptr) = refl
same_kind-self (Some (Int w)) = same_width-self w

same_result-self : (v : Option (Option TyScalar)) → not (same_result v v) ≡ false
same_result-self None = refl
same_result-self (Some k) = ap not (same_kind-self k)

-- ---- operands in place of others

module _ (s : Setting) where
  number-kept : (t : TyText) (z : ℤ) (w : Width) (a : ℕ) → s.kind t ≡ Some (Int w) → OperandKept s (t, opd.Number z) → IsOther w (word_of w z) a
      → OperandKept s (t, opd.Number (signed w a))
  number-kept t z w a e h k =
      let in' = signed-is w a k.0 in
      let D : Option TyScalar → Type 0 = λ q. operand_differs s q (opd.Number (signed w a)) ≡ false in
      let R : Option TyScalar → Type 0 = λ q. operand_out q (opd.Number (signed w a)) ≡ false in
      record {
        types = h.types;
        scalar = h.scalar;
        indices = tt;
        named = refl;
        typed = subst D (sym e) refl;
        range = subst R (sym e) (ap not in'.fits_in);
        path = refl;
      }

  abbrev NumberKept : TyText → ℤ → Type 0
  NumberKept t z = OperandKept s (t, opd.Number z)

  numbers-by : (t : TyText) (x : Opd) → OperandKept s (t, x) → Each (NumberKept t) (new_numbers (s.kind t) x)
  numbers-by t x h = new-cases (Each (NumberKept t)) (s.kind t) x tt (λ w z e same.
      let K : Opd → Type 0 = λ y. OperandKept s (t, y) in
      map-each (NumberKept t) (signed w) (new_words w (word_of w z)) (each-weaker (IsOther w (word_of w z)) _
      (λ a k. number-kept t z w a e (subst K same h) k) (new_words w (word_of w z)) (new_words-others w (word_of w z)).each))

  -- a maker of constants, for each operand that keeps the rules
  pub numbers-kept : (P : Op → Type 0) (t : TyText) (x : Opd) (f : Opd → Op) → OperandKept s (t, x) → ((a : Opd) → OperandKept s (t, a) → P (f a))
      → Each P (map (λ z. f (opd.Number z)) (new_numbers (s.kind t) x))
  numbers-kept P t x f h g = map-each P (λ z. f (opd.Number z)) _ (each-weaker (NumberKept t) _ (λ z k. g (opd.Number z) k) _ (numbers-by t x h))

  condition-by : (k : Option TyScalar) → is_none k ≡ false → no_condition k ≡ false → k ≡ Some (Int W1)
  condition-by None h g = cc
  condition-by (Some Ptr) h g = cc
  condition-by (Some (Int W1)) h g = refl
  condition-by (Some (Int W8)) h g = cc
  condition-by (Some (Int W16)) h g = cc
  condition-by (Some (Int W32)) h g = cc
  condition-by (Some (Int W64)) h g = cc

  flags-kept : (c : TyText) (i : Opd) → OperandKept s (c, i) → no_condition (s.kind c) ≡ false
      → OperandKept s (c, opd.True) × OperandKept s (c, opd.False)
  flags-kept c i h g =
      let flag = condition-by (s.kind c) h.scalar g in
      let T : Option TyScalar → Type 0 = λ q. operand_differs s q opd.True ≡ false in
      let F : Option TyScalar → Type 0 = λ q. operand_differs s q opd.False ≡ false in (
        record { types = (h.types.0, tt); scalar = h.scalar; indices = tt; named = refl; typed = subst T (sym flag) refl; range = refl; path = refl },
        record { types = (h.types.0, tt); scalar = h.scalar; indices = tt; named = refl; typed = subst F (sym flag) refl; range = refl; path = refl },
      )

-- ---- another argument

set-each : {X : Type 0} (P : X → Type 0) (xs : List X) (k : ℕ) (y : X) → Each P xs → P y → Each P (slice_set xs k y)
set-each P [] k y h g = tt
set-each P (x ∷ xs) zero y h g = (g, h.1)
set-each P (x ∷ xs) (suc k) y h g = (h.0, set-each P xs k y h.1 g)

set-types : (xs : List Typed) (k : ℕ) (v : Typed) (a : Opd) → slice_get xs k ≡ Some v
    → map (λ (x : Typed). x.0) (slice_set xs k (v.0, a)) ≡ map (λ (x : Typed). x.0) xs
set-types [] k v a e = cc
set-types (x ∷ xs) zero v a e = let same : x ≡ v = cc in ap (λ (y : Typed). y.0 ∷ map (λ (x : Typed). x.0) xs) (sym same)
set-types (x ∷ xs) (suc k) v a e = ap (λ more. x.0 ∷ more) (set-types xs k v a e)

pub argument-is : (xs : List Typed) (k : ℕ) (v : Typed) (a : Opd) → slice_get xs k ≡ Some v → with_argument xs k a ≡ slice_set xs k (v.0, a)
argument-is xs k v a e = rw e refl

value-result : (kind : Kinds) (t : TyText) (f : Name) (xs : List Typed) → value_kind kind (op.Call t f xs) ≡ result_kind kind t
value-result kind t f xs = elim (call-result t f xs kind) [
  | inl h ↦ h.0 ∙ sym h.1
  | inr h ↦ h.0 ∙ sym h.1
]

same_value : (kind : Kinds) (t : TyText) (f : Name) (xs ys : List Typed) → value_kind kind (op.Call t f ys) ≡ value_kind kind (op.Call t f xs)
same_value kind t f xs ys = value-result kind t f ys ∙ sym (value-result kind t f xs)

-- some arguments stand among all from a place on
abbrev pub StandAt : List Typed → ℕ → List Typed → Type 0
StandAt xs k vs = (j : ℕ) (v : Typed) → slice_get vs j ≡ Some v → slice_get xs (k + j) ≡ Some v

-- ---- in the place of the original

module _ (s : Setting) (addresses : Addresses) (at : ℕ) (r : Option Name) where
  abbrev pub original : Op → Original
  original o = record { at = at; result = r; instruction = o }

  abbrev pub Stands : Op → Op → Type 0
  Stands o new = is_misfit s (original o) new ≡ false

  stands : (o new : Op) → stays_as_it_is o ≡ false → stays_as_it_is new ≡ false → ends_otherwise o new ≡ false → gives_otherwise s.kind o new ≡ false
      → goes_elsewhere o new ≡ false → Each (OperandKept s) (op_operands new) → Around s r new → Stands o new
  stands o new a b c d e ops around =
      or-no _ (breaks_there s r new) (or-no _ (goes_elsewhere o new) (or-no _ (gives_otherwise s.kind o new) (or-no _ (ends_otherwise o new)
      (or-no (stays_as_it_is o) (stays_as_it_is new) a b) c) d) e) (none-broken s r new ops around)

  -- the code of the original, and what is made of it
  abbrev pub AllStand : Op → Type 0
  AllStand o = AllKept s r o → Each (Stands o) (replacements_of s.kind (op_code s addresses o) o)

  binary-stand : (b : BinOp) (t : TyText) (x y : Opd) → AllStand (op.Bin b t x y)
  binary-stand b t x y k =
      let o = op.Bin b t x y in
      let around = around-kept s r o k in
      let ops = operands-kept s r o k in
      let P : Op → Type 0 = Stands o in
      let one : (c : BinOp) (a d : Opd) → OperandKept s (t, a) → OperandKept s (t, d) → P (op.Bin c t a d) = λ c a d h g.
      stands o (op.Bin c t a d) refl refl refl (same_result-self (Some (s.kind t))) refl (h, (g, tt)) around in
      each-append P _ _ (others-each P (same_operation b) (λ c. op.Bin c t x y) (λ c _. one c x y ops.0 ops.1.0) operations)
      (each-append P _ _ (each-append P _ _ (numbers-kept s P t x (λ a. op.Bin b t a y) ops.0 (λ a h. one b a y h ops.1.0))
      (each-append P _ _ (numbers-kept s P t y (λ a. op.Bin b t x a) ops.1.0 (λ a h. one b x a ops.0 h)) tt))
      (each-append P _ _ (unless-each P (same_operand (typed_code s addresses t x) (typed_code s addresses t y)) (op.Bin b t y x) (λ _. one b y x ops.1.0 ops.0)) tt))

  compare-stand : (p : Pred) (t : TyText) (x y : Opd) → AllStand (op.Cmp p t x y)
  compare-stand p t x y k =
      let o = op.Cmp p t x y in
      let around = around-kept s r o k in
      let ops = operands-kept s r o k in
      let P : Op → Type 0 = Stands o in
      let one : (q : Pred) (a d : Opd) → OperandKept s (t, a) → OperandKept s (t, d) → P (op.Cmp q t a d) = λ q a d h g.
      stands o (op.Cmp q t a d) refl refl refl (same_result-self (value_kind s.kind o)) refl (h, (g, tt)) around in
      each-append P _ _ (others-each P (same_predicate p) (λ q. op.Cmp q t x y) (λ q _. one q x y ops.0 ops.1.0) predicates)
      (each-append P _ _ (each-append P _ _ (numbers-kept s P t x (λ a. op.Cmp p t a y) ops.0 (λ a h. one p a y h ops.1.0))
      (each-append P _ _ (numbers-kept s P t y (λ a. op.Cmp p t x a) ops.1.0 (λ a h. one p x a ops.0 h)) tt))
      (each-append P _ _ (unless-each P (same_operand (typed_code s addresses t x) (typed_code s addresses t y)) (op.Cmp p t y x) (λ _. one p y x ops.1.0 ops.0)) tt))

  store-stand : (t : TyText) (x : Opd) (u : TyText) (y : Opd) → AllStand (op.Store t x u y)
  store-stand t x u y k =
      let o = op.Store t x u y in
      let around = around-kept s r o k in
      let ops = operands-kept s r o k in
      let P : Op → Type 0 = Stands o in
      each-append P _ _ (each-append P _ _ (numbers-kept s P t x (λ a. op.Store t a u y) ops.0
      (λ a h. stands o (op.Store t a u y) refl refl refl refl refl (h, (ops.1.0, tt)) around)) tt) tt

  ret-stand : (v : Typed) → AllStand (op.Ret (Some v))
  ret-stand v k =
      let o = op.Ret (Some v) in
      let around = around-kept s r o k in
      let ops = operands-kept s r o k in
      let P : Op → Type 0 = Stands o in
      each-append P _ _ (each-append P _ _ (numbers-kept s P v.0 v.1 (λ a. op.Ret (Some (v.0, a))) ops.0
      (λ a h. stands o (op.Ret (Some (v.0, a))) refl refl refl refl refl (h, tt) around)) tt) tt

  flags-each : (P : Op → Type 0) (o : Op) (d : Operand) (f : Opd → Op) → ((j : Opd) → with_condition o j ≡ f j ∷ []) → P (f opd.True) → P (f opd.False)
      → Each P (flat_map (with_condition o) (new_conditions d))
  flags-each P o d f e a b = flat-each P (with_condition o) (new_conditions d) (
      each-append (λ j. Each P (with_condition o j)) (if same_operand d (Word 1) then [] else opd.True ∷ []) _
      (unless-each _ (same_operand d (Word 1)) opd.True (λ _. subst (Each P) (sym (e opd.True)) (a, tt)))
      (unless-each _ (same_operand d (Word 0)) opd.False (λ _. subst (Each P) (sym (e opd.False)) (b, tt)))
      )

  select-stand : (c : TyText) (i : Opd) (t : TyText) (x : Opd) (u : TyText) (y : Opd) → AllStand (op.Select c i t x u y)
  select-stand c i t x u y k =
      let o = op.Select c i t x u y in
      let around = around-kept s r o k in
      let ops = operands-kept s r o k in
      let hi = ops.0 in let hx = ops.1.0 in let hy = ops.1.1.0 in
      let taken = neither (no_condition (s.kind c)) (not (same_kind (s.kind t) (s.kind u))) around.2 in
      let kinds : s.kind t ≡ s.kind u = kind-same (s.kind t) (s.kind u) (no _ taken.1) in
      let flags = flags-kept s c i hi taken.0 in
      let P : Op → Type 0 = Stands o in
      let one : (j a d : Opd) → OperandKept s (c, j) → OperandKept s (t, a) → OperandKept s (u, d) → P (op.Select c j t a u d) = λ j a d g h l.
      stands o (op.Select c j t a u d) refl refl refl (same_result-self (Some (s.kind t))) refl (g, (h, (l, tt))) around in
      let swapped : not (same_kind (s.kind u) (s.kind t)) ≡ false =
      ap (λ q. not (same_kind (s.kind u) q)) kinds ∙ ap not (same_kind-self (s.kind u)) in
      let turned : Around s r (op.Select c i u y t x) = (tt, tt, or-no (no_condition (s.kind c)) _ taken.0 swapped, tt, tt, refl, refl, refl, refl, refl, refl) in
      let other : P (op.Select c i u y t x) = stands o (op.Select c i u y t x) refl refl refl taken.1 refl (hi, (hy, (hx, tt))) turned in
      each-append P _ _ (each-append P _ _ (numbers-kept s P t x (λ a. op.Select c i t a u y) hx (λ a h. one i a y hi h hy))
      (each-append P _ _ (numbers-kept s P u y (λ a. op.Select c i t x u a) hy (λ a h. one i x a hi hx h)) tt))
      (each-append P _ _ (unless-each P (same_operand (typed_code s addresses t x) (typed_code s addresses u y)) (op.Select c i u y t x) (λ _. other))
      (flags-each P o (typed_code s addresses c i) (λ j. op.Select c j t x u y) (λ j. refl) (one opd.True x y flags.0 hx hy) (one opd.False x y flags.1 hx hy)))

  branch-stand : (t : TyText) (c : Opd) (m n : Name) → AllStand (op.Branch t c m n)
  branch-stand t c m n k =
      let o = op.Branch t c m n in
      let around = around-kept s r o k in
      let ops = operands-kept s r o k in
      let flags = flags-kept s t c ops.0 around.2 in
      let labels = around.3 in
      let targets = around.4 in
      let P : Op → Type 0 = Stands o in
      let one : (j : Opd) → OperandKept s (t, j) → P (op.Branch t j m n) = λ j h.
      stands o (op.Branch t j m n) refl refl refl refl (rw (same-self m, same-self n, or_yes (same_name n m)) refl) (h, tt) around in
      let turned : Around s r (op.Branch t c n m) =
      (tt, tt, around.2, (labels.1.0, (labels.0, tt)), (targets.1.0, (targets.0, tt)), refl, refl, refl, refl, refl, refl) in
      let other : P (op.Branch t c n m) =
      stands o (op.Branch t c n m) refl refl refl refl (rw (same-self m, same-self n, or_yes (same_name n m)) refl) (ops.0, tt) turned in
      each-append P _ _ (unless-each P (block_code s m == block_code s n) (op.Branch t c n m) (λ _. other))
      (flags-each P o (typed_code s addresses t c) (λ j. op.Branch t j m n) (λ j. refl) (one opd.True flags.0) (one opd.False flags.1))

  arguments-stand : (t : TyText) (f : Name) (xs : List Typed) → AllKept s r (op.Call t f xs) → (k : ℕ) (vs : List Typed) → StandAt xs k vs
      → Each (Stands (op.Call t f xs)) (constants_from s.kind (op.Call t f xs) k vs)
  arguments-stand t f xs keeps k [] there = tt
  arguments-stand t f xs keeps k (v ∷ vs) there =
      let o = op.Call t f xs in
      let around = around-kept s r o keeps in
      let ops = operands-kept s r o keeps in
      let P : Op → Type 0 = Stands o in
      let here : slice_get xs k ≡ Some v = ap (slice_get xs) (omega arith) ∙ there 0 v refl in
      let set : Opd → List Typed = λ a. slice_set xs k (v.0, a) in
      let gives : (a : Opd) → gives_otherwise s.kind o (op.Call t f (set a)) ≡ false = λ a.
      ap (λ g. not (same_result (value_kind s.kind o) g)) (same_value s.kind t f xs (set a)) ∙ same_result-self (value_kind s.kind o) in
      let one : (a : Opd) → OperandKept s (v.0, a) → P (op.Call t f (with_argument xs k a)) = λ a h.
      let C : List TyText → Type 0 = λ ts. has_other_signature (signature_of s.kind t ts) (entity_of s f) ≡ false in
      let turned : Around s r (op.Call t f (set a)) =
      (around.0, around.1, refl, tt, tt, around.5, subst C (sym (set-types xs k v a here)) around.6, refl, refl, refl, refl) in
      let Q : List Typed → Type 0 = λ ys. P (op.Call t f ys) in
      subst Q (sym (argument-is xs k v a here)) (stands o (op.Call t f (set a)) refl refl refl (gives a) refl
      (set-each (OperandKept s) xs k (v.0, a) ops h) turned) in
      each-append P _ _ (numbers-kept s P v.0 v.1 (λ a. op.Call t f (with_argument xs k a)) (each-at (OperandKept s) xs k v ops here) one)
      (arguments-stand t f xs keeps (k + 1) vs (λ j u e. ap (slice_get xs) (omega arith) ∙ there (suc j) u e))

  call-stand : (t : TyText) (f : Name) (xs : List Typed) → AllStand (op.Call t f xs)
  call-stand t f xs k = each-append (Stands (op.Call t f xs)) _ _ (arguments-stand t f xs k 0 xs (λ j v e. ap (slice_get xs) (omega arith) ∙ e)) tt

  pub all-stand : (o : Op) → AllStand o
  all-stand (op.Bin b t x y) k = binary-stand b t x y k
  all-stand (op.Cmp p t x y) k = compare-stand p t x y k
  all-stand (op.Select c i t x u y) k = select-stand c i t x u y k
  all-stand (op.Cast c t x to) k = tt
  all-stand (op.Freeze t x) k = tt
  all-stand (op.Alloca t n) k = tt
  all-stand (op.Load t u x) k = tt
  all-stand (op.Store t x u y) k = store-stand t x u y k
  all-stand (op.Get of t x is) k = tt
  all-stand (op.Phi t es) k = tt
  all-stand (op.Call t f xs) k = call-stand t f xs k
  all-stand (op.Jump n) k = tt
  all-stand (op.Branch t c m n) k = branch-stand t c m n k
  all-stand (op.Switch t x n cs) k = tt
  all-stand (op.Ret None) k = tt
  all-stand (op.Ret (Some v)) k = ret-stand v k
  all-stand op.Unreachable k = tt
