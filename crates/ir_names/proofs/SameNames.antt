-- The derived equality of names is that of the definitions.
use Rattle.std.proofs.Common.{◌≡◌, Bool, true, false, List, [], ◌∷◌, ◌++◌, Option, None, Some, is_some, if◌then◌else◌, refl, ap, sym, subst, ◌∙◌}
use Rattle.std.specs.Map.{lookup}
use Rattle.ir_tree.specs.declared.name.Name.{Name}
use Rattle.ir_tree.specs.declared.name.Name.TheVariants.{Text, Number}
use Rattle.ir_tree.specs.contracts.name.NamePartialEq.TheImpl as name
use Rattle.indexmap.specs.IndexMap.{IndexMap, get, insert_entry}
use Rattle.indexmap.proofs.CallerLemmas.{insert_entry-new}
use Rattle.ir_names.specs.Names.{same_name, defined, with_first}

same : (a b : Name) → (name.eq-value).it a b ≡ same_name a b
same (Text a) (Text b) = refl
same (Text a) (Number n) = refl
same (Number n) (Text b) = refl
same (Number m) (Number n) = refl

pub eq-same : ◌≡◌ {A = Name → Name → Bool} (name.eq-value).it same_name
eq-same = λ i a b. same a b i

-- what the map has at a name is what its entries define it as
pub get-defined : {X : Type 0} (es : List (Name × X)) (n : Name) → lookup ((name.eq-value).it n) es ≡ defined es n
get-defined es n = ap (λ (e : Name → Name → Bool). lookup (e n) es) eq-same

nothing : {X : Type 0} (o : Option X) → is_some o ≡ false → o ≡ None
nothing None h = refl
nothing (Some x) h = cc

-- a name that is there isn't defined again
pub known_stays : {X : Type 0} (es now : List (Name × X)) (n : Name) (x : X) (b : Bool) → es ≡ now → b ≡ is_some (lookup ((name.eq-value).it n) es)
    → b ≡ true → now ≡ with_first now (n, x)
known_stays {X} es now n x b v h t =
    let P : List (Name × X) → Type 0 = λ l. l ≡ with_first l (n, x) in
    subst P v (ap (λ b. if b then es else es ++ (n, x) ∷ []) (sym t ∙ h ∙ ap is_some (get-defined es n)))

-- and a new one is defined behind all others
pub new_last : {X S : Type 0} (m : IndexMap Name X S) (now new : List (Name × X)) (n k : Name) (x : X) (b : Bool)
    → m.entries ≡ now → b ≡ is_some (get (name.eq-value).it m n) → b ≡ false → k ≡ n → new ≡ insert_entry (name.eq-value).it m.entries k x
    → new ≡ with_first now (n, x)
new_last m now new n k x b v h f same ins =
    let none = nothing _ (sym h ∙ f) in
    ins
    ∙ ap (λ q. insert_entry (name.eq-value).it m.entries q x) same
    ∙ insert_entry-new (name.eq-value).it m n x none
    ∙ ap (λ b. if b then m.entries else m.entries ++ (n, x) ∷ []) (sym (ap is_some (sym (get-defined m.entries n) ∙ none)))
    ∙ ap (λ l. with_first l (n, x)) v
