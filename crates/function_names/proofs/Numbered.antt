-- Names that are given numbers one by one: the first number counts.
use Rattle.std.proofs.Common.{◌≡◌, ℕ, ◌+◌, Bool, true, false, List, [], ◌∷◌, ◌++◌, length, take, get_or, ◌<◌, Option, None, Some, is_some, if◌then◌else◌, cond, refl, ap, sym, subst, ◌∙◌, arith}
use Rattle.std.specs.List.{position_from}
use Rattle.std.specs.Str.{bytes_eq}
use Rattle.std.proofs.lemmas.List.{take_more, length-take-le}
use Rattle.std.proofs.lemmas.Slice.Eq.{bytes_eq-Decides}
use Rattle.indexmap.specs.IndexMap.{IndexMap, insert_entry}
use Rattle.indexmap.proofs.CallerLemmas.{insert_entry-new}
use Rattle.code_form.specs.declared.code.Code.{Code}
use Rattle.code_form.specs.declared.code.Func.{Func}
use Rattle.function_names.specs.Names.{Numbers, function_named, number_in, Adds}

abbrev pub or_else : Option ℕ → Option ℕ → Option ℕ
or_else (Some x) y = Some x
or_else None y = y

or_none : (o : Option ℕ) → o ≡ or_else o None
or_none (Some x) = refl
or_none None = refl

number_behind : (t : Numbers) (k : List ℕ) (v : ℕ) (name : List ℕ)
    → number_in (t ++ (k, v) ∷ []) name ≡ or_else (number_in t name) (if bytes_eq name k then Some v else None)
number_behind [] k v name = refl
number_behind (e ∷ t) k v name = by (bytes_eq name e.0) (number_behind t k v name)
  where
    by : (b : Bool) → number_in (t ++ (k, v) ∷ []) name ≡ or_else (number_in t name) (if bytes_eq name k then Some v else None)
        → cond b (Some e.1) (number_in (t ++ (k, v) ∷ []) name) ≡ or_else (cond b (Some e.1) (number_in t name)) (if bytes_eq name k then Some v else None)
    by true rest = refl
    by false rest = rest

place_behind : (test : Func → Bool) (i : ℕ) (fs : List Func) (f : Func)
    → position_from test i (fs ++ f ∷ []) ≡ or_else (position_from test i fs) (if test f then Some (i + length fs) else None)
place_behind test i [] f = by (test f)
  where
    by : (b : Bool) → cond b (Some i) None ≡ (if b then Some (i + 0) else None)
    by true = ap Some (omega arith)
    by false = refl
place_behind test i (g ∷ fs) f = by (test g) (place_behind test (i + 1) fs f)
  where
    same : (b : Bool) → (if b then Some (i + 1 + length fs) else None) ≡ (if b then Some (i + (1 + length fs)) else None)
    same true = ap Some (omega arith)
    same false = refl

    by : (b : Bool) → position_from test (i + 1) (fs ++ f ∷ []) ≡ or_else (position_from test (i + 1) fs) (if test f then Some (i + 1 + length fs) else None)
        → cond b (Some i) (position_from test (i + 1) (fs ++ f ∷ [])) ≡ or_else (cond b (Some i) (position_from test (i + 1) fs)) (if test f then Some (i + length (g ∷ fs)) else None)
    by true rest = refl
    by false rest = rest ∙ ap (λ o. or_else (position_from test (i + 1) fs) o) (same (test f) ∙ ap (λ n. if test f then Some (i + n) else None) (omega arith))

-- the name of a function has the number that it has among these functions
abbrev pub AreNumbered : List Func → Numbers → Type 0
AreNumbered fs numbers = (name : List ℕ) → number_in numbers name ≡ position_from (λ (f : Func). bytes_eq name f.name) 0 fs

pub numbered_more : (fs : List Func) (f : Func) (old new : Numbers) → AreNumbered fs old → Adds old f.name (length fs) new → AreNumbered (fs ++ f ∷ []) new
numbered_more fs f old new all adds name =
    ap (λ t. number_in t name) adds ∙ by (number_in old f.name) refl ∙ ap (λ o. or_else o (if bytes_eq name f.name then Some (length fs) else None)) (all name)
    ∙ ap (λ n. or_else (position_from (λ (g : Func). bytes_eq name g.name) 0 fs) (if bytes_eq name f.name then Some n else None)) (omega arith)
    ∙ sym (place_behind (λ (g : Func). bytes_eq name g.name) 0 fs f)
  where
    found : (x : ℕ) → number_in old f.name ≡ Some x → (b : Bool) → bytes_eq name f.name ≡ b
        → number_in old name ≡ or_else (number_in old name) (if b then Some (length fs) else None)
    found x e true q =
        let here : number_in old name ≡ Some x = subst (λ n. number_in old n ≡ Some x) (sym ((bytes_eq-Decides name f.name).0 q)) e in
        rw here refl
    found x e false q = or_none (number_in old name)

    by : (o : Option ℕ) → number_in old f.name ≡ o
        → number_in (if is_some o then old else old ++ (f.name, length fs) ∷ []) name ≡ or_else (number_in old name) (if bytes_eq name f.name then Some (length fs) else None)
    by (Some x) e = found x e (bytes_eq name f.name) refl
    by None e = number_behind old f.name (length fs) name

nothing : {X : Type 0} (o : Option X) → is_some o ≡ false → o ≡ None
nothing None h = refl
nothing (Some x) h = cc

-- what the map has after a name that it hadn't is inserted
pub added : {S : Type 0} (m : IndexMap (List ℕ) ℕ S) (name key : List ℕ) (v : ℕ) (new : Numbers) (b : Bool) → b ≡ is_some (number_in m.entries name) → b ≡ false
    → key ≡ name → new ≡ insert_entry bytes_eq m.entries key v → Adds m.entries name v new
added m name key v new b h f same ins =
    let none = nothing _ (sym h ∙ f) in
    ins ∙ ap (λ k. insert_entry bytes_eq m.entries k v) same ∙ insert_entry-new bytes_eq m name v none
    ∙ ap (λ o. if is_some o then m.entries else m.entries ++ (name, v) ∷ []) (sym none)

-- one more function of a list
pub numbered_next : (fs items : List Func) (i : ℕ) (f : Func) (old new : Numbers) → items ≡ fs → i < length items → f ≡ get_or items i f
    → AreNumbered (take i fs) old → Adds old f.name i new → AreNumbered (take (i + 1) fs) new
numbered_next fs items i f old new same here at all adds =
    let h : i < length fs = rw (sym same) here in
    let is : f ≡ get_or fs i f = rw (sym same) at in
    let len : length (take i fs) ≡ i = length-take-le i fs (omega arith) in
    let more : take (i + 1) fs ≡ take i fs ++ f ∷ [] = take_more fs i f h ∙ ap (λ g. take i fs ++ g ∷ []) (sym is) in
    subst (λ gs. AreNumbered gs new) (sym more) (numbered_more (take i fs) f old new all (subst (λ n. Adds old f.name n new) (sym len) adds))

place_within : (test : Func → Bool) (i : ℕ) (fs : List Func) (n : ℕ) → position_from test i fs ≡ Some n → n < i + length fs
place_within test i [] n e = cc
place_within test i (f ∷ fs) n e = by (test f) (place_within test (i + 1) fs n) e
  where
    by : (b : Bool) → (position_from test (i + 1) fs ≡ Some n → n < i + 1 + length fs) → cond b (Some i) (position_from test (i + 1) fs) ≡ Some n → n < i + length (f ∷ fs)
    by true more h = let same : i ≡ n = cc in omega arith
    by false more h = let later = more h in omega arith

-- the number of a name is that of a function of the code
pub named_within : (code : Code) (name : List ℕ) (n : ℕ) → function_named code name ≡ Some n → n < length code.funcs
named_within code name n e = let within = place_within (λ (f : Func). bytes_eq name f.name) 0 code.funcs n e in omega arith
