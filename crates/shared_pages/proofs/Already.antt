-- A page that is a memory's own already.
use Rattle.std.proofs.Common.{◌≡◌, ℕ, ◌<◌, ◌≤◌, List, Option, Some, None, true, false, length, inl, inr, get_or, arith, ap, sym, ◌∙◌, refl}
use Rattle.std.specs.Prelude.{is_some}
use Rattle.std.proofs.lemmas.Bool.{cases_lt}
use Rattle.std.proofs.lemmas.List.{get_or_past, set-get_or}
use Rattle.shared_pages.specs.Counts.{one_if}
use Rattle.shared_pages.specs.Store.{Memory, Store, IsIn, IsMadeOwn, memory, the_memory, or_empty, is_own, used_pages}

not_both : true ≡ false → ⊥
not_both e = cc

-- a memory that is there
pub in_list : (ms : List (Option Memory)) (m : ℕ) → is_some (get_or ms m None) ≡ true → m < length ms
in_list ms m h = elim (cases_lt m (length ms)) [
  | inl low ↦ low
  | inr high ↦ absurd (not_both (sym h ∙ ap is_some (get_or_past ms m None high)))
]

pub is_there : (s : Store) (m : ℕ) → IsIn s m → memory s m ≡ Some (the_memory s m)
is_there s m known = some (memory s m) known
  where
    none : false ≡ true → ⊥
    none e = cc

    some : (o : Option Memory) → is_some o ≡ true → o ≡ Some (or_empty o)
    some None h = absurd (none h)
    some (Some x) h = refl

pub own_already : (s : Store) (m i : ℕ) → IsIn s m → is_own s m i ≡ true → used_pages s ≤ s.peak → IsMadeOwn s s m i
own_already s m i known own most =
    let same = sym (set-get_or (the_memory s m).pages i 0) in
    let one = ap one_if own in
    record {
      here = is_there s m known ∙ (λ k. Some (record (the_memory s m) { pages = same k }));
      others = λ k ne. refl;
      own = own;
      grown = λ k j h. h;
      still = λ p some h. h;
      kept = λ h. refl;
      differs = λ h. absurd (not_both (sym own ∙ h));
      fresh = λ h. absurd (not_both (sym own ∙ h));
      used = omega (arith, one);
      peak = omega (arith, most);
    }
