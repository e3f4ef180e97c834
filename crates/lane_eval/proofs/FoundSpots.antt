-- The table of spots says for each place in which function and in which block it lies.
use Rattle.std.proofs.Common.{◌≡◌, ℕ, zero, suc, ◌+◌, ◌-◌, ◌<◌, ◌≤◌, Bool, true, false, cond, List, [], ◌∷◌, ◌++◌, length, replicate, get_or, Some, slice_get, arith, sym, ◌∙◌, ap, refl, subst, length-append}
use Rattle.std.specs.Prelude.{flat_map, nat_lt, ◌||◌}
use Rattle.std.specs.Option.{option_map}
use Rattle.std.proofs.lemmas.List.{length-replicate}
use Rattle.std.proofs.lemmas.Bool.Decides.{nat_tests}
use Rattle.std.proofs.lemmas.Option.{slice_get-get_or, slice_get_within, get_or_from_slice_get}
use Rattle.code_form.specs.declared.code.Block.{Block}
use Rattle.code_form.specs.declared.code.Func.{Func}
use Rattle.code_form.specs.declared.code.Code.{Code}
use Rattle.code_form.specs.Places.{lies_in, lies_in_some, block_in, function_in, function_of}
use Rattle.code_form.specs.Sound.{IsSound, AreLaid}
use Rattle.machine_form.proofs.Fits.{laid_front}
use Rattle.machine_form.proofs.FoundPlaces.{within, past, lies_past}
use Rattle.lane_eval.specs.declared.spots.Spot.{Spot}
use Rattle.lane_eval.specs.Spots.{IsSpot, AreSpots, spots_of_blocks, spots_of_functions}

-- ---- lists

front_at : {X : Type 0} (xs ys : List X) (i : ℕ) → i < length xs → slice_get (xs ++ ys) i ≡ slice_get xs i
front_at [] ys i l = absurd (omega arith)
front_at (x ∷ xs) ys zero l = refl
front_at (x ∷ xs) ys (suc i) l = front_at xs ys i (omega arith)

back_at : {X : Type 0} (xs ys : List X) (n i j : ℕ) → length xs ≡ n → i ≡ n + j → slice_get (xs ++ ys) i ≡ slice_get ys j
back_at [] ys n i j l e = let same : i ≡ j = omega arith in ap (slice_get ys) same
back_at (x ∷ xs) ys n zero j l e = absurd (omega arith)
back_at (x ∷ xs) ys n (suc i) j l e = back_at xs ys (n - 1) i j (omega arith) (omega arith)

one_of : {X : Type 0} (n : ℕ) (x y : X) (i : ℕ) → slice_get (replicate n x) i ≡ Some y → x ≡ y
one_of zero x y i e = cc
one_of (suc n) x y zero e = cc
one_of (suc n) x y (suc i) e = one_of n x y i e

-- ---- the blocks of a function

less : (n m : ℕ) → nat_lt n m ≡ true → n < m
less n m e = grind (arith, nat_tests)

not_less : (n m : ℕ) → nat_lt n m ≡ false → m ≤ n
not_less n m e = grind (arith, nat_tests)

length-blocks : (f b from : ℕ) (blocks : List Block) (to : ℕ) → AreLaid from blocks to → from + length (spots_of_blocks f b blocks) ≡ to
length-blocks f b from [] to h = omega (arith, h)
length-blocks f b from (x ∷ blocks) to h =
    let rest = length-blocks f (b + 1) (from + x.len) blocks to h.1 in
    omega (
      arith,
      length-append (replicate x.len (record { function = f; block = b })) (spots_of_blocks f (b + 1) blocks),
      length-replicate {A = Spot} x.len (record { function = f; block = b }),
    )

record LiesThere (f b at : ℕ) (blocks : List Block) (spot : Spot) : Type 0 where
  number : ℕ
  lies : lies_in_some at blocks ≡ true
  function : spot.function ≡ f
  block : spot.block ≡ b + number
  found : block_in blocks at ≡ Some number

blocks_found : (f b from : ℕ) (blocks : List Block) (to i at : ℕ) (spot : Spot) → AreLaid from blocks to → at ≡ from + i → slice_get (spots_of_blocks f b blocks) i ≡ Some spot → LiesThere f b at blocks spot
blocks_found f b from [] to i at spot h e d = cc
blocks_found f b from (x ∷ blocks) to i at spot h e d =
    by (nat_lt i x.len) refl
    (λ (beyond : x.len ≤ i).
    blocks_found f (b + 1) (from + x.len) blocks to (i - x.len) at spot h.1 (omega arith)
    (sym (back_at (replicate x.len (record { function = f; block = b })) (spots_of_blocks f (b + 1) blocks) x.len i (i - x.len) long (omega arith)) ∙ d))
  where
    long : length {A = Spot} (replicate x.len (record { function = f; block = b })) ≡ x.len
    long = length-replicate {A = Spot} x.len (record { function = f; block = b })

    by : (c : Bool) → nat_lt i x.len ≡ c → (x.len ≤ i → LiesThere f (b + 1) at blocks spot) → LiesThere f b at (x ∷ blocks) spot
    by true c rest =
        let below : i < x.len = less i x.len c in
        let same = one_of x.len (record { function = f; block = b }) spot i (sym (front_at (replicate x.len (record { function = f; block = b })) (spots_of_blocks f (b + 1) blocks) i (omega (arith, long))) ∙ d) in
        let here : lies_in at x ≡ true = within x at (omega (arith, h.0)) (omega (arith, h.0)) in
        record {
          number = 0;
          lies = ap (λ c. c || lies_in_some at blocks) here;
          function = ap (λ (s : Spot). s.function) (sym same);
          block = omega (arith, ap (λ (s : Spot). s.block) same);
          found = ap (λ c. cond c (Some 0) (option_map suc (block_in blocks at))) here;
        }
    by false c rest =
        let beyond : x.len ≤ i = not_less i x.len c in
        let more = rest beyond in
        let here : lies_in at x ≡ false = past x at (omega (arith, h.0)) in
        record {
          number = suc more.number;
          lies = ap (λ c. c || lies_in_some at blocks) here ∙ more.lies;
          function = more.function;
          block = omega (arith, more.block);
          found = ap (λ c. cond c (Some 0) (option_map suc (block_in blocks at))) here ∙ ap (option_map suc) more.found;
        }

-- ---- the functions of a code

length-functions : (f from : ℕ) (funcs : List Func) (to : ℕ) → AreLaid from (flat_map (λ (f : Func). f.blocks) funcs) to → from + length (spots_of_functions f funcs) ≡ to
length-functions f from [] to h = omega (arith, h)
length-functions f from (k ∷ funcs) to h =
    let front = laid_front from k.blocks (flat_map (λ (f : Func). f.blocks) funcs) to h in
    omega (
      arith,
      length-blocks f 0 from k.blocks front.0 front.1,
      length-functions (f + 1) front.0 funcs to front.2,
      length-append (spots_of_blocks f 0 k.blocks) (spots_of_functions (f + 1) funcs),
    )

record StandsThere (f at : ℕ) (funcs : List Func) (spot : Spot) : Type 0 where
  number : ℕ
  number_is : spot.function ≡ f + number
  function : slice_get funcs number ≡ Some (function_in funcs at)
  block : block_in (function_in funcs at).blocks at ≡ Some spot.block

functions_found : (f from : ℕ) (funcs : List Func) (to i at : ℕ) (spot : Spot) → AreLaid from (flat_map (λ (f : Func). f.blocks) funcs) to → at ≡ from + i
    → slice_get (spots_of_functions f funcs) i ≡ Some spot → StandsThere f at funcs spot
functions_found f from [] to i at spot h e d = cc
functions_found f from (k ∷ funcs) to i at spot h e d =
    by (nat_lt i (length (spots_of_blocks f 0 k.blocks))) refl
    (λ (beyond : length (spots_of_blocks f 0 k.blocks) ≤ i).
    functions_found (f + 1) front.0 funcs to (i - length (spots_of_blocks f 0 k.blocks)) at spot front.2 (omega (arith, long))
    (sym (back_at (spots_of_blocks f 0 k.blocks) (spots_of_functions (f + 1) funcs) (length (spots_of_blocks f 0 k.blocks)) i (i - length (spots_of_blocks f 0 k.blocks)) refl (omega arith)) ∙ d))
  where
    front : (middle : ℕ) × AreLaid from k.blocks middle × AreLaid middle (flat_map (λ (f : Func). f.blocks) funcs) to
    front = laid_front from k.blocks (flat_map (λ (f : Func). f.blocks) funcs) to h

    long : from + length (spots_of_blocks f 0 k.blocks) ≡ front.0
    long = length-blocks f 0 from k.blocks front.0 front.1

    by : (c : Bool) → nat_lt i (length (spots_of_blocks f 0 k.blocks)) ≡ c → (length (spots_of_blocks f 0 k.blocks) ≤ i → StandsThere (f + 1) at funcs spot) → StandsThere f at (k ∷ funcs) spot
    by true c rest =
        let below : i < length (spots_of_blocks f 0 k.blocks) = less i (length (spots_of_blocks f 0 k.blocks)) c in
        let there = blocks_found f 0 from k.blocks front.0 i at spot front.1 e (sym (front_at (spots_of_blocks f 0 k.blocks) (spots_of_functions (f + 1) funcs) i below) ∙ d) in
        let is : function_in (k ∷ funcs) at ≡ k = ap (λ c. cond c k (function_in funcs at)) there.lies in
        let number : there.number ≡ spot.block = omega (arith, there.block) in
        record {
          number = 0;
          number_is = omega (arith, there.function);
          function = ap Some (sym is);
          block = ap (λ (g : Func). block_in g.blocks at) is ∙ there.found ∙ ap Some number;
        }
    by false c rest =
        let beyond : length (spots_of_blocks f 0 k.blocks) ≤ i = not_less i (length (spots_of_blocks f 0 k.blocks)) c in
        let more = rest beyond in
        let is : function_in (k ∷ funcs) at ≡ function_in funcs at = ap (λ c. cond c k (function_in funcs at)) (lies_past from k.blocks front.0 at front.1 (omega (arith, long))) in
        record {
          number = suc more.number;
          number_is = omega (arith, more.number_is);
          function = more.function ∙ ap Some (sym is);
          block = ap (λ (g : Func). block_in g.blocks at) is ∙ more.block;
        }

pub spots_found : (code : Code) → IsSound code → AreSpots code (spots_of_functions 0 code.funcs)
spots_found code sound = record {
  long = omega (arith, length-functions 0 0 code.funcs (length code.instrs) sound.laid);
  each = λ at spot d.
      let there = functions_found 0 0 code.funcs (length code.instrs) at at spot sound.laid (omega arith) d in
      let P : ℕ → Type 0 = λ n. slice_get code.funcs n ≡ Some (function_in code.funcs at) in
      let number : there.number ≡ spot.function = omega (arith, there.number_is) in
      record { function = subst P number there.function; block = there.block };
}

-- ---- reading the table

module _ (code : Code) (spots : List Spot) (are : AreSpots code spots) (at : ℕ) (inside : at < length code.instrs) (none : Spot) where
  spot_read : IsSpot code at (get_or spots at none)
  spot_read = are.each at (get_or spots at none) (slice_get-get_or spots at none (omega (arith, are.long)))

  pub function_inside : (get_or spots at none).function < length code.funcs
  function_inside = slice_get_within code.funcs (get_or spots at none).function (function_of code at) spot_read.function

  pub function_read : (d : Func) → get_or code.funcs (get_or spots at none).function d ≡ function_of code at
  function_read d = get_or_from_slice_get code.funcs (get_or spots at none).function (function_of code at) d spot_read.function

  pub block_read : block_in (function_of code at).blocks at ≡ Some (get_or spots at none).block
  block_read = spot_read.block
