-- A set of labels has the labels that it is made of.
use Rattle.std.proofs.Common.{◌≡◌, Bool, true, false, ◌||◌, List, [], ◌∷◌, is_some, refl, sym, ap, ◌∙◌}
use Rattle.std.specs.List.{list_any, list_all, fold}
use Rattle.ir_tree.specs.declared.name.Name.{Name}
use Rattle.ir_names.specs.Names.{same_name, defined}
use Rattle.ir_names.proofs.Defined.{has-first}
use Rattle.ir_replacements.specs.Labels.{Labels, with_label, label_table}

or-false : (b : Bool) → (b || false) ≡ b
or-false true = refl
or-false false = refl

or-assoc : (a b c : Bool) → ((a || b) || c) ≡ (a || (b || c))
or-assoc true b c = refl
or-assoc false b c = refl

label-from : (ns : List Name) (t : Labels) (n : Name) → is_some (defined (fold with_label t ns) n) ≡ (is_some (defined t n) || list_any (same_name n) ns)
label-from [] t n = sym (or-false (is_some (defined t n)))
label-from (m ∷ ns) t n =
    label-from ns (with_label t m) n
    ∙ ap (λ (b : Bool). b || list_any (same_name n) ns) (has-first t (m, tt) n)
    ∙ or-assoc (is_some (defined t n)) (same_name n m) (list_any (same_name n) ns)

pub label-is : (ns : List Name) (n : Name) → is_some (defined (label_table ns) n) ≡ list_any (same_name n) ns
label-is ns n = label-from ns [] n

pub all-within : (ns ms : List Name) → list_all (λ (n : Name). is_some (defined (label_table ns) n)) ms ≡ list_all (λ (n : Name). list_any (same_name n) ns) ms
all-within ns ms = λ i. list_all (λ (n : Name). label-is ns n i) ms
