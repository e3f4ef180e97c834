-- Memory that is kept up to a length, with zeros above.
use Rattle.std.proofs.Common.{◌≡◌, ℕ, ◌+◌, ◌-◌, ◌≤◌, ◌<◌, List, [], ◌∷◌, ◌++◌, length, replicate, slice_set, take, Bool, true, false, if◌then◌else◌, refl, sym, ap, subst, ◌∙◌, arith, All}
use Rattle.std.proofs.Math.Seq.{take_all}
use Rattle.std.proofs.lemmas.List.{set-append_left, length-set, replicate-append-replicate, append_assoc}
use Rattle.std.proofs.lemmas.List.Elements.{All-head, All-tail, All-append, All-replicate}
use Rattle.am_base.specs.declared.limits.TheConstants.{MEMORY_BYTES}
use Rattle.machine_form.specs.State.{with_bytes}
use Rattle.machine_form.specs.Start.{zeros}

-- writes below the end leave what stands behind it
pub with_bytes-left : (xs ys : List ℕ) (ws : List (ℕ × ℕ)) → All (λ w. w.0 < length xs) ws → with_bytes (xs ++ ys) ws ≡ with_bytes xs ws ++ ys
with_bytes-left xs ys [] h = refl
with_bytes-left xs ys (w ∷ ws) h =
    ap (λ zs. with_bytes zs ws) (set-append_left xs ys w.0 w.1 (All-head (λ v. v.0 < length xs) w ws h))
    ∙ with_bytes-left (slice_set xs w.0 w.1) ys ws (subst (λ n. All (λ v. v.0 < n) ws) (sym (length-set xs w.0 w.1)) (All-tail (λ v. v.0 < length xs) w ws h))

pub length-with_bytes : (xs : List ℕ) (ws : List (ℕ × ℕ)) → length (with_bytes xs ws) ≡ length xs
length-with_bytes xs [] = refl
length-with_bytes xs (w ∷ ws) = length-with_bytes (slice_set xs w.0 w.1) ws ∙ length-set xs w.0 w.1

zeros_above : (n : ℕ) (xs : List ℕ) → length xs ≤ n → n ≤ MEMORY_BYTES
    → (xs ++ replicate (n - length xs) 0) ++ replicate (MEMORY_BYTES - n) 0 ≡ xs ++ replicate (MEMORY_BYTES - length xs) 0
zeros_above n xs h f =
    append_assoc xs (replicate (n - length xs) 0) (replicate (MEMORY_BYTES - n) 0)
    ∙ ap (λ zs. xs ++ zs) (replicate-append-replicate (n - length xs) (MEMORY_BYTES - n) 0)
    ∙ ap (λ k. xs ++ replicate k 0) (omega arith)

-- zeros that are kept now were there before
pub grown : (ok : Bool) (n k : ℕ) (xs ys : List ℕ) → k ≡ length xs → length xs ≤ n → n ≤ MEMORY_BYTES
    → ys ≡ (if ok then take n xs ++ replicate (n - k) 0 else xs) → length ys ≡ (if ok then n else k)
    → ys ++ zeros (MEMORY_BYTES - length ys) ≡ xs ++ zeros (MEMORY_BYTES - length xs)
unfolding zeros
grown true n k xs ys e h f i l = rw (l, i, e, take_all n xs h) (zeros_above n xs h f)
grown false n k xs ys e h f i l = rw i refl

pub below_zeros : (xs : List ℕ) (n : ℕ) → All (λ b. b < 256) xs → All (λ b. b < 256) (xs ++ zeros n)
unfolding zeros
below_zeros xs n h = All-append (λ b. b < 256) xs (replicate n 0) h (All-replicate (λ b. b < 256) n 0 (omega arith))
