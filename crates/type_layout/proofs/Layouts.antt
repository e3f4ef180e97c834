-- Bounds on the ends of fields, from the bound on the sizes of a type and the types inside it.
use Rattle.std.proofs.Common.{◌≡◌, ℕ, zero, suc, ◌+◌, ◌<◌, ◌≤◌, max, List, [], ◌∷◌, length, get_or, map, take, arith, sym, ap, refl}
use Rattle.std.specs.List.{fold}
use Rattle.std.proofs.lemmas.Grind.{common_steps}
use Rattle.std.proofs.lemmas.List.{take_more}
use Rattle.am_base.specs.declared.limits.TheConstants.{MAX_TYPE_BYTES}
use Rattle.type_layout.specs.declared.ty.Ty.{Ty}
use Rattle.type_layout.specs.declared.ty.Ty.TheOpen.{Struct}
use Rattle.type_layout.specs.Layout.{round_up}
use Rattle.type_layout.specs.Types.{Layout, layout_of, layout_step, end_after, offsets_from}

abbrev most_of : ℕ → List Layout → ℕ
most_of m fs = fold (λ most f. max most f.most) m fs

abbrev struct_most : List Ty → ℕ
struct_most fields = (layout_step (Struct (map layout_of fields))).most

most_start : (fs : List Layout) (m : ℕ) → m ≤ most_of m fs
most_start [] m = omega arith
most_start (f ∷ fs) m = omega (arith, most_start fs (max m f.most))

most_each : (fields : List Ty) (m i : ℕ) (f : Ty) → i < length fields → f ≡ get_or fields i f → (layout_of f).most ≤ most_of m (map layout_of fields)
most_each [] m i f h e = absurd (omega arith)
most_each (x ∷ xs) m zero f h e = rw e (omega (arith, most_start (map layout_of xs) (max m (layout_of x).most)))
most_each (x ∷ xs) m (suc i) f h e = most_each xs (max m (layout_of x).most) i f (omega arith) e

end_rises : (fs : List Layout) (at : ℕ) → at ≤ end_after at fs
end_rises [] at = omega arith
end_rises (f ∷ fs) at = omega (arith, end_rises fs (round_up at f.align + f.size))

end_part : (fields : List Ty) (at i : ℕ) → end_after at (map layout_of (take i fields)) ≤ end_after at (map layout_of fields)
end_part [] at zero = omega arith
end_part [] at (suc i) = omega arith
end_part (x ∷ xs) at zero = end_rises (map layout_of (x ∷ xs)) at
end_part (x ∷ xs) at (suc i) = end_part xs (round_up at (layout_of x).align + (layout_of x).size) i

pub one_most : (fields : List Ty) (i : ℕ) (f : Ty) → i < length fields → f ≡ get_or fields i f → struct_most fields ≤ MAX_TYPE_BYTES
    → (layout_of f).most ≤ MAX_TYPE_BYTES
one_most fields i f h e l = omega (arith, most_each fields (layout_step (Struct (map layout_of fields))).size i f h e)

pub end_small : (fields : List Ty) (i n : ℕ) → n ≡ end_after 0 (map layout_of (take i fields)) → struct_most fields ≤ MAX_TYPE_BYTES → n ≤ MAX_TYPE_BYTES
end_small fields i n e l = omega (arith, end_part fields 0 i, most_start (map layout_of fields) (layout_step (Struct (map layout_of fields))).size)

-- the place after field i
pub end_next : (fields : List Ty) (i at : ℕ) (f : Ty) → i < length fields → f ≡ get_or fields i f → at ≡ end_after 0 (map layout_of (take i fields))
    → struct_most fields ≤ MAX_TYPE_BYTES →
    round_up at (layout_of f).align + (layout_of f).size ≤ MAX_TYPE_BYTES
end_next fields i at f h e p l =
    let more = end_small fields (i + 1) _ refl l in
    let step : end_after 0 (map layout_of (take (i + 1) fields)) ≡ round_up at (layout_of f).align + (layout_of f).size =
    rw (take_more fields i f h, ← e) (grind (arith, common_steps)) in
    omega arith

-- ---- where the fields begin

pub length-offsets : (fields : List Ty) (at : ℕ) → length (offsets_from at (map layout_of fields)) ≡ length fields
length-offsets [] at = refl
length-offsets (x ∷ xs) at = ap suc (length-offsets xs (round_up at (layout_of x).align + (layout_of x).size))

pub offset_at : (fields : List Ty) (at k : ℕ) (f : Ty) → k < length fields → f ≡ get_or fields k f
    → get_or (offsets_from at (map layout_of fields)) k 0 ≡ round_up (end_after at (map layout_of (take k fields))) (layout_of f).align
offset_at [] at k f h e = absurd (omega arith)
offset_at (x ∷ xs) at zero f h e = ap (λ (t : Ty). round_up at (layout_of t).align) (sym e)
offset_at (x ∷ xs) at (suc k) f h e = offset_at xs (round_up at (layout_of x).align + (layout_of x).size) k f (omega arith) e
