-- The records of the made mutants of a module are without a fault, and what they ask for differs.
use Rattle.std.proofs.Common.{◌≡◌, ℕ, zero, suc, ◌+◌, ◌<◌, ◌≤◌, Bool, true, false, List, [], ◌∷◌, ◌++◌, length, map, Option, Some, None, refl, sym, ap}
use Rattle.std.proofs.Common.{◌∙◌, subst, arith, slice_get, decimal, unwrap_or}
use Rattle.std.specs.List.{fold, AllPairs, AllZip}
use Rattle.std.proofs.lemmas.Option.{slice_get_within}
use Rattle.code_form.specs.declared.code.Func.{Func}
use Rattle.code_form.specs.declared.code.Code.{Code}
use Rattle.code_form.specs.declared.instr.Instr.{Instr}
use Rattle.code_form.specs.declared.sign.PortSign.{PortSign}
use Rattle.code_form.specs.declared.instr.Instr.TheVariants.{Unreachable}
use Rattle.code_form.specs.Places.{function_at, no_function, instr_at}
use Rattle.code_form.specs.Sound.{IsSound}
use Rattle.ir_tokens.specs.Bytes.{Text}
use Rattle.ir_tree.specs.declared.name.Name.{Name}
use Rattle.ir_tree.specs.declared.type_text.TyText.{TyText}
use Rattle.ir_tree.specs.declared.op.Op.{Op}
use Rattle.ir_tree.specs.declared.item.Item.{Item}
use Rattle.ir_tree.specs.declared.item.Item.TheVariants as item
use Rattle.ir_rules.specs.Types.{type_defs, kind_of}
use Rattle.ir_rules.specs.Scopes.{empty_scope, with_item, scope_of}
use Rattle.ir_rules.specs.Entities.{name_bytes}
use Rattle.ir_rules.specs.Settings.{Setting, setting_of, upto_end}
use Rattle.ir_rules.specs.Rules.{fault}
use Rattle.ir_rules.specs.Memory.{Addresses, addresses_of}
use Rattle.ir_rules.specs.Codes.{op_code}
use Rattle.ir_rules.specs.Modules.{code_of, function_code, functions_from, blocks_from}
use Rattle.ir_rules.specs.Replacements.{Original, original_from, replacement_by}
use Rattle.ir_rules.proofs.FirstFaults.{fault-none}
use Rattle.ir_text.specs.ReadBack.{PartsReadBack}
use Rattle.ir_text.proofs.ReadBack.{made-reads}
use Rattle.ir_sound.specs.Whole.{AreWhole}
use Rattle.ir_sound.proofs.Lists.{Each, each-weaker, each-append, map-each, all-each, get-right}
use Rattle.ir_sound.proofs.Whole.{code-sound}
use Rattle.ir_sound.proofs.Walk.{Along, along-on, along-instr, along-start, head-kept, originals_from, original-is, original-instr, base}
use Rattle.ir_sound.proofs.Placed.{instr_count, length-places}
use Rattle.ir_sound.proofs.Places.{places_in}
use Rattle.ir_sound.proofs.Laid.{function-laid, length-blocks}
use Rattle.ir_sound.proofs.Blocks.{function-blocked}
use Rattle.function_names.specs.Names.{function_named}
use Rattle.mutant_records.specs.Lists.{first_place, end_place, place_named}
use Rattle.mutant_records.specs.declared.list.Made.{Made as Asked}
use Rattle.mutant_maker.specs.Makers.{replacements_of}
use Rattle.mutant_maker.specs.Lists.{Made, made_in, made_at, made_from}
use Rattle.mutant_maker_laws.specs.Made.{IsAsked, IsOther, IsDifferent}
use Rattle.mutant_maker_laws.proofs.Kept.{AllKept}
use Rattle.mutant_maker_laws.proofs.Fitting.{Stands, all-stand, every}
use Rattle.mutant_maker_laws.proofs.Apart.{AllApart, Apart, all-apart}
use Rattle.mutant_maker_laws.proofs.Reading.{all-read}
use Rattle.mutant_maker_laws.proofs.Names.{named, placed, first-laid, end-laid}

-- these, as those of the mutants from a number on
abbrev numbered : ℕ → List Asked → List Asked
numbered n [] = []
numbered n (r ∷ rs) = record { mutant = n; function = r.function; place = r.place; with = r.with } ∷ numbered (n + 1) rs

abbrev pub AreNumbered : ℕ → List Asked → Type 0
AreNumbered n [] = Unit {0}
AreNumbered n (r ∷ rs) = (r.mutant ≡ n) × AreNumbered (n + 1) rs

are-numbered : (n : ℕ) (rs : List Asked) → AreNumbered n (numbered n rs)
are-numbered n [] = tt
are-numbered n (r ∷ rs) = (refl, are-numbered (n + 1) rs)

numbered-apart : (n : ℕ) (q : Asked) (k : ℕ) (rs : List Asked) → Each (IsDifferent q) rs
    → Each (IsDifferent (record { mutant = k; function = q.function; place = q.place; with = q.with })) (numbered n rs)
numbered-apart n q k [] h = tt
numbered-apart n q k (r ∷ rs) (h, hs) = (h, numbered-apart (n + 1) q k rs hs)

module _ (items : List Item) (signs : List PortSign) (whole : AreWhole false items) (faultless : fault items signs ≡ None)
    (parts : (i : ℕ) (r : Option Name) (o : Op) → slice_get items i ≡ Some (item.Instr r o) → PartsReadBack o) where
  abbrev c : Code
  c = code_of items signs

  abbrev addresses : Addresses
  addresses = addresses_of (type_defs items) items

  abbrev AreDifferent : List Asked → Type 0
  AreDifferent [] = Unit {0}
  AreDifferent (r ∷ rs) = Each (IsDifferent r) rs × AreDifferent rs

  -- what the records of some items ask for, from a place of the code on
  record Walked (at : ℕ) (mades : List Made) : Type 0 where
    asked : List Asked
    are : AllZip (IsAsked items signs c) mades asked
    later : Each (λ (r : Asked). at ≤ r.place.0) asked
    other : Each (IsOther c) asked
    different : AreDifferent asked

  append-asked : (ms ns : List Made) (rs ts : List Asked) → AllZip (IsAsked items signs c) ms rs → AllZip (IsAsked items signs c) ns ts
      → AllZip (IsAsked items signs c) (ms ++ ns) (rs ++ ts)
  append-asked [] ns [] ts h g = g
  append-asked [] ns (r ∷ rs) ts h g = absurd h
  append-asked (m ∷ ms) ns [] ts h g = absurd h
  append-asked (m ∷ ms) ns (r ∷ rs) ts (h, hs) g = (h, append-asked ms ns rs ts hs g)

  later-differ : (at : ℕ) (q : Asked) (ts : List Asked) → q.place.0 ≡ at → Each (λ (r : Asked). at + 1 ≤ r.place.0) ts → Each (IsDifferent q) ts
  later-differ at q [] e h = tt
  later-differ at q (t ∷ ts) e (h, hs) = ((λ same _. absurd (omega arith)), later-differ at q ts e hs)

  append-different : (at : ℕ) (rs ts : List Asked) → AreDifferent rs → Each (λ (r : Asked). r.place.0 ≡ at) rs → AreDifferent ts
      → Each (λ (r : Asked). at + 1 ≤ r.place.0) ts → AreDifferent (rs ++ ts)
  append-different at [] ts h e g l = g
  append-different at (r ∷ rs) ts (h, hs) (e, es) g l = (each-append (IsDifferent r) rs ts h (later-differ at r ts e l), append-different at rs ts hs es g l)

  -- ---- one instruction

  module _ (i at : ℕ) (r : Option Name) (o : Op) (there : slice_get items i ≡ Some (item.Instr r o))
      (place : slice_get (originals_from 0 items) at ≡ Some (record { at = i; result = r; instruction = o })) (f : Text) (n k : ℕ) (function : Func)
      (name : function_named c f ≡ Some k) (func : function_at c k ≡ function) (numbered : place_named function (decimal n) ≡ Some at) where
    abbrev s : Setting
    s = setting_of items signs i (item.Instr r o)

    keeps : AllKept s r o
    keeps x = fault-none items signs i (item.Instr r o) x faultless there

    abbrev ask : Op → Asked
    ask p = record { mutant = 0; function = k; place = record { 0 = at }; with = op_code s addresses p }

    here : slice_get c.instrs at ≡ Some (op_code s addresses o)
    here = original-instr items signs addresses 0 items at _ place

    stood : original_from 0 at items ≡ Some (record { at = i; result = r; instruction = o })
    stood = original-is 0 items at ∙ place

    fits : (p : Op) → Stands s addresses i r o p → replacement_by items signs at (item.Instr None p) ≡ Some (op_code s addresses p)
    fits p h = rw (stood, h) refl

    one : (p : Op) → Stands s addresses i r o p → PartsReadBack p → IsAsked items signs c (made_in f n p) (ask p)
    one p h g = record {
      named = name;
      placed = ap (λ f. place_named f (decimal n)) func ∙ numbered;
      reads = (item.Instr None p, record { op = p; bare = refl; whole = made-reads p g }, fits p h);
    }

    all-asked : (ps : List Op) → Each (Stands s addresses i r o) ps → Each PartsReadBack ps → AllZip (IsAsked items signs c) (map (made_in f n) ps) (map ask ps)
    all-asked [] h g = tt
    all-asked (p ∷ ps) (h, hs) (g, gs) = (one p h g, all-asked ps hs gs)

    old : instr_at c at ≡ op_code s addresses o
    old = ap (λ (j : Option Instr). unwrap_or j Unreachable) here

    all-other : (ps : List Op) → Each (Apart s addresses o) ps → Each (IsOther c) (map ask ps)
    all-other [] h = tt
    all-other (p ∷ ps) (h, hs) = ((λ e. h (sym old ∙ sym e)), all-other ps hs)

    from-all : (p : Op) (ps : List Op) → Each (Apart s addresses p) ps → Each (IsDifferent (ask p)) (map ask ps)
    from-all p [] h = tt
    from-all p (q ∷ ps) (h, hs) = ((λ _ e. h e), from-all p ps hs)

    all-different : (ps : List Op) → AllApart s addresses ps → AreDifferent (map ask ps)
    all-different [] h = tt
    all-different (p ∷ ps) (h, hs) = (from-all p ps h, all-different ps hs)

    abbrev ps : List Op
    ps = replacements_of s.kind (op_code s addresses o) o

    with-more : (more : List Made) → Walked (at + 1) more → Walked at (map (made_in f n) ps ++ more)
    with-more more w =
        let apart = all-apart s addresses o in
        let same = map-each (λ (r : Asked). r.place.0 ≡ at) ask ps (every _ (λ p. refl) ps) in
        record {
          asked = map ask ps ++ w.asked;
          are = append-asked _ _ _ _ (all-asked ps (all-stand s addresses i r o keeps) (all-read s addresses o (parts i r o there))) w.are;
          later = each-append (λ (r : Asked). at ≤ r.place.0) _ _ (each-weaker _ _ (λ r e. omega arith) _ same) (each-weaker _ _ (λ r h. omega arith) _ w.later);
          other = each-append (IsOther c) _ _ (all-other ps apart.old) w.other;
          different = append-different at _ _ (all-different ps apart.new) same w.different w.later;
        }

    instruction-walked : (more : List Made) → Walked (at + 1) more → Walked at (made_at (kind_of (type_defs items)) f n (slice_get c.instrs at) o ++ more)
    instruction-walked more w =
        subst (λ (i : Option Instr). Walked at (made_at (kind_of (type_defs items)) f n i o ++ more)) (sym here) (with-more more w)

  -- ---- all items

  sound : IsSound c
  sound = code-sound items signs whole faultless

  -- the function in which some items stand, in front of which n of its instructions stand
  record Own (f : Text) (n at : ℕ) (rest : List Item) : Type 0 where
    number : ℕ
    function : Func
    is : slice_get c.funcs number ≡ Some function
    name : function.name ≡ f
    from : first_place function + n ≡ at
    to : end_place function ≡ at + instr_count (upto_end rest)

  abbrev Inside : Bool → Text → ℕ → ℕ → List Item → Type 0
  Inside true f n at rest = Own f n at rest
  Inside false f n at rest = Unit {0}

  abbrev Stand : List Item → List Item → ℕ → ℕ → Type 0
  Stand front rest i at = Along items signs faultless front rest i at

  -- the functions that begin in some items, in front of which k functions begin
  abbrev Follow : ℕ → ℕ → List Item → Type 0
  Follow k at rest = (j : ℕ) (g : Func) → slice_get (functions_from (type_defs items) at rest) j ≡ Some g → slice_get c.funcs (k + j) ≡ Some g

  item-at : (front : List Item) (x : Item) (rest : List Item) (i at : ℕ) → Stand front (x ∷ rest) i at → slice_get items i ≡ Some x
  item-at front x rest i at a = let n = a.number in ap (λ (l : List Item). slice_get l i) a.is ∙ get-right front (x ∷ rest) 0 i (omega arith)

  original-at : (front : List Item) (r : Option Name) (o : Op) (rest : List Item) (i at : ℕ) → Stand front (item.Instr r o ∷ rest) i at
      → slice_get (originals_from 0 items) at ≡ Some (record { at = i; result = r; instruction = o })
  original-at front r o rest i at a =
      let n = a.count in
      ap (λ (l : List Original). slice_get l at) a.originals_are ∙ get-right a.originals (originals_from i (item.Instr r o ∷ rest)) 0 at (omega arith)

  instruction-own : (front : List Item) (r : Option Name) (o : Op) (rest : List Item) (i at : ℕ) (f : Text) (n : ℕ) → Stand front (item.Instr r o ∷ rest) i at
      → Own f n at (item.Instr r o ∷ rest) → (more : List Made) → Walked (at + 1) more
      → Walked at (made_at (kind_of (type_defs items)) f (n + 1) (slice_get c.instrs at) o ++ more)
  instruction-own front r o rest i at f n a own more w =
      let place = original-at front r o rest i at a in
      let within = slice_get_within c.instrs at _ (original-instr items signs addresses 0 items at _ place) in
      let few = sound.few_instrs in
      let from = own.from in
      let to = own.to in
      let name : function_named c f ≡ Some own.number = ap (function_named c) (sym own.name) ∙ named c sound own.number own.function own.is in
      let func : function_at c own.number ≡ own.function = ap (λ (g : Option Func). unwrap_or g no_function) own.is in
      instruction-walked i at r o (item-at front (item.Instr r o) rest i at a) place f (n + 1) own.number own.function name func
      (placed own.function n at own.from (omega arith) (omega arith)) more w

  head-own : (front : List Item) (g : Name) (t : TyText) (ps : List (TyText × Option Name)) (rest : List Item) (i at k : ℕ)
      → Stand front (item.Head g t ps ∷ rest) i at → AreWhole true rest → Follow k at (item.Head g t ps ∷ rest) → Own (name_bytes g) 0 at rest
  head-own front g t ps rest i at k a w follow =
      let x = item.Head g t ps in
      let kind = kind_of (type_defs items) in
      let kept = head-kept items signs faultless front g t ps rest i at a w in
      let s = fold (with_item kind) empty_scope (x ∷ upto_end rest) in
      let l = places_in kind empty_scope (x ∷ upto_end rest) in
      let blocked = function-blocked (base items signs faultless i) g t ps (upto_end rest) kept.0 kept.1 in
      let laid = function-laid at s l blocked in
      let some = blocked.some in
      let long : 0 < length (blocks_from at s.starts (length s.results)) = omega (arith, length-blocks at s.starts (length s.results)) in
      let count : length l ≡ instr_count (upto_end rest) = length-places kind (with_item kind empty_scope x) (upto_end rest) in
      let first = first-laid at (at + length l) _ long laid in
      let end = end-laid at (at + length l) _ long laid in
      record {
        number = k;
        function = function_code (type_defs items) at g t ps (scope_of kind (upto_end (x ∷ rest)));
        is = ap (slice_get c.funcs) (omega arith) ∙ follow 0 _ refl;
        name = refl;
        from = omega arith;
        to = end ∙ ap (λ n. at + n) count;
      }

  nothing-walked : (at : ℕ) → Walked at []
  nothing-walked at = record { asked = []; are = tt; later = tt; other = tt; different = tt }

  walk-items : (inside : Bool) (front rest : List Item) (i at k : ℕ) (f : Text) (n : ℕ) → Stand front rest i at → AreWhole inside rest → Follow k at rest
      → Inside inside f n at rest → Walked at (made_from (kind_of (type_defs items)) c.instrs f n at rest)
  walk-items false front [] i at k f n a w follow own = nothing-walked at
  walk-items true front [] i at k f n a w follow own = nothing-walked at
  walk-items true front (item.Label m ∷ rest) i at k f n a w follow own =
      walk-items true (front ++ item.Label m ∷ []) rest (suc i) at k f n (along-on items signs faultless front (item.Label m) rest i at a refl) w.1 follow
      (record { number = own.number; function = own.function; is = own.is; name = own.name; from = own.from; to = own.to })
  walk-items true front (item.Instr r o ∷ rest) i at k f n a w follow own =
      let from = own.from in
      let to = own.to in
      let next : Own f (n + 1) (suc at) rest = record {
        number = own.number;
        function = own.function;
        is = own.is;
        name = own.name;
        from = omega arith;
        to = omega arith;
      } in
      let more = walk-items true (front ++ item.Instr r o ∷ []) rest (suc i) (suc at) k f (n + 1) (along-instr items signs faultless front r o rest i at a) w.1
      follow next in
      let one : suc at ≡ at + 1 = omega arith in
      instruction-own front r o rest i at f n a own _
      (subst (λ q. Walked q (made_from (kind_of (type_defs items)) c.instrs f (n + 1) q rest)) one more)
  walk-items true front (item.End ∷ rest) i at k f n a w follow own =
      walk-items false (front ++ item.End ∷ []) rest (suc i) at k f n (along-on items signs faultless front item.End rest i at a refl) w.1 follow tt
  walk-items false front (item.TypeDef m t ∷ rest) i at k f n a w follow own =
      walk-items false (front ++ item.TypeDef m t ∷ []) rest (suc i) at k f n (along-on items signs faultless front (item.TypeDef m t) rest i at a refl) w.1
      follow tt
  walk-items false front (item.Global m b t v ∷ rest) i at k f n a w follow own =
      walk-items false (front ++ item.Global m b t v ∷ []) rest (suc i) at k f n (along-on items signs faultless front (item.Global m b t v) rest i at a refl) w.1
      follow tt
  walk-items false front (item.Declare m t ts ∷ rest) i at k f n a w follow own =
      walk-items false (front ++ item.Declare m t ts ∷ []) rest (suc i) at k f n (along-on items signs faultless front (item.Declare m t ts) rest i at a refl) w.1
      follow tt
  walk-items false front (item.Head g t ps ∷ rest) i at k f n a w follow own =
      walk-items true (front ++ item.Head g t ps ∷ []) rest (suc i) at (k + 1) (name_bytes g) 0
      (along-on items signs faultless front (item.Head g t ps) rest i at a refl) w.1
      (λ j h e. ap (slice_get c.funcs) (omega arith) ∙ follow (suc j) h e) (head-own front g t ps rest i at k a w.1 follow)
  walk-items false front (item.Label m ∷ rest) i at k f n a w follow own = (let no = w.0 in cc)
  walk-items false front (item.Instr r o ∷ rest) i at k f n a w follow own = (let no = w.0 in cc)
  walk-items false front (item.End ∷ rest) i at k f n a w follow own = (let no = w.0 in cc)
  walk-items true front (item.TypeDef m t ∷ rest) i at k f n a w follow own = (let no = w.0 in cc)
  walk-items true front (item.Global m b t v ∷ rest) i at k f n a w follow own = (let no = w.0 in cc)
  walk-items true front (item.Declare m t ts ∷ rest) i at k f n a w follow own = (let no = w.0 in cc)
  walk-items true front (item.Head g t ps ∷ rest) i at k f n a w follow own = (let no = w.0 in cc)

  all-pairs : (rs : List Asked) → AreDifferent rs → AllPairs IsDifferent rs
  all-pairs [] h i j d low high = absurd (omega arith)
  all-pairs (r ∷ rs) (h, hs) i zero d low high = absurd (omega arith)
  all-pairs (r ∷ rs) (h, hs) zero (suc j) d low high = all-each (IsDifferent r) rs h j d (omega arith)
  all-pairs (r ∷ rs) (h, hs) (suc i) (suc j) d low high = all-pairs rs hs i j d (omega arith) (omega arith)

  numbered-asked : (n : ℕ) (ms : List Made) (rs : List Asked) → AllZip (IsAsked items signs c) ms rs → AllZip (IsAsked items signs c) ms (numbered n rs)
  numbered-asked n [] [] h = tt
  numbered-asked n [] (r ∷ rs) h = absurd h
  numbered-asked n (m ∷ ms) [] h = absurd h
  numbered-asked n (m ∷ ms) (r ∷ rs) (h, hs) =
      (record { named = h.named; placed = h.placed; reads = h.reads }, numbered-asked (n + 1) ms rs hs)

  numbered-other : (n : ℕ) (rs : List Asked) → Each (IsOther c) rs → Each (IsOther c) (numbered n rs)
  numbered-other n [] h = tt
  numbered-other n (r ∷ rs) (h, hs) = (h, numbered-other (n + 1) rs hs)

  numbered-different : (n : ℕ) (rs : List Asked) → AreDifferent rs → AreDifferent (numbered n rs)
  numbered-different n [] h = tt
  numbered-different n (r ∷ rs) (h, hs) = (numbered-apart (n + 1) r n rs h, numbered-different (n + 1) rs hs)

  pub record AllAsked (mades : List Made) : Type 0 where
    pub asked : List Asked
    pub numbers : AreNumbered 1 asked
    pub are : AllZip (IsAsked items signs c) mades asked
    pub others : Each (IsOther c) asked
    pub different : AllPairs IsDifferent asked

  pub made-asked : AllAsked (made_from (kind_of (type_defs items)) c.instrs [] 0 0 items)
  made-asked =
      let w = walk-items false [] items 0 0 0 [] 0 (along-start items signs faultless) whole (λ j g e. ap (slice_get c.funcs) (omega arith) ∙ e) tt in
      record {
        asked = numbered 1 w.asked;
        numbers = are-numbered 1 w.asked;
        are = numbered-asked 1 _ w.asked w.are;
        others = numbered-other 1 w.asked w.other;
        different = all-pairs (numbered 1 w.asked) (numbered-different 1 w.asked w.different);
      }
