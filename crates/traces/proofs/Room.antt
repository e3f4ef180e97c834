-- No analysis costs more than each mutant alone could at most.
use Rattle.std.proofs.Common.{◌≡◌, ℕ, zero, suc, ◌+◌, ◌*◌, ◌<◌, ◌≤◌, Bool, true, false, if◌then◌else◌, length, slice_get, sym, subst, arith}
use Rattle.std.specs.List.{sum_by}
use Rattle.std.specs.Option.{option_map_or}
use Rattle.std.proofs.lemmas.List.Sums.{sum_by_push}
use Rattle.std.proofs.Math.Nat.{mul-le-mul_right}
use Rattle.traces.specs.Meanings.{IsLight}
use Rattle.traces.specs.Trace.{Trial, trace, state_at}
use Rattle.traces.specs.Together.{below}
use Rattle.traces.specs.Work.{is_least, is_first_try, total_cost, variant_at}
use Rattle.traces.specs.Cost.{step_cost, try_cost, load_cost, asks_cost}
use Rattle.traces.proofs.Trace.{changes_from-AreChangesFrom}

sum_below_within : (f : ℕ → ℕ) (c n : ℕ) → ((k : ℕ) → k < n → f k ≤ c) → sum_by f (below n) ≤ n * c
sum_below_within f c zero h = omega arith
sum_below_within f c (suc n) h = rw (sum_by_push f (below n) n)
    (let a = h n (omega arith) in let i = sum_below_within f c n (λ k l. h k (omega arith)) in omega arith)

chosen_within : (b : Bool) (n c : ℕ) → n ≤ c → (if b then n else 0) ≤ c
chosen_within true n c h = h
chosen_within false n c h = omega arith

module _ {S C : Type 0} (T : Trial S C) where
  pub length-trace : (m : ℕ) → length (trace T m) ≤ T.budget
  length-trace m = (changes_from-AreChangesFrom T m T.budget T.start).within

  pub total_within : (f : ℕ → ℕ → ℕ) (c : ℕ) → ((m n : ℕ) → m < T.mutants → n < length (trace T m) → f m n ≤ c) → total_cost T f ≤ T.mutants * (T.budget * c)
  total_within f c h = sum_below_within (λ m. sum_by (f m) (below (length (trace T m)))) (T.budget * c) T.mutants
      (λ m l. let a = sum_below_within (f m) c (length (trace T m)) (λ n k. h m n l k) in
      let b : length (trace T m) * c ≤ T.budget * c = mul-le-mul_right c (length-trace m) in omega arith)

  pub steps_within : total_cost T (step_cost T) ≤ T.mutants * (T.budget * 1)
  steps_within = total_within (step_cost T) 1 (λ m n l k. chosen_within (is_least T m (n + 1)) 1 1 (omega arith))

  pub tries_within : total_cost T (try_cost T) ≤ T.mutants * (T.budget * 1)
  tries_within = total_within (try_cost T) 1 (λ m n l k. chosen_within (is_first_try T m n) 1 1 (omega arith))

  module _ (light : IsLight T.meanings) (known : (m p : ℕ) → m < T.mutants → T.meanings.knows p (T.variant m p) ≡ true) where
    weight_within : (m n : ℕ) → m < T.mutants → n < length (trace T m) → option_map_or T.meanings.weight (slice_get (trace T m) n) 0 ≤ 65536
    weight_within m n l k =
        let changes = changes_from-AreChangesFrom T m T.budget T.start in
        subst (λ o. option_map_or T.meanings.weight o 0 ≤ 65536) (sym (changes.made n k))
        (light.weight (variant_at T m n) (state_at T m n) (changes.live n k) (known m (T.meanings.place (state_at T m n)) l))

    pub load_within : total_cost T (load_cost T) ≤ T.mutants * (T.budget * 65536)
    load_within = total_within (load_cost T) 65536 (λ m n l k. chosen_within (is_least T m (n + 1)) _ 65536 (weight_within m n l k))

    pub asks_within : (port : ℕ) → total_cost T (asks_cost T port) ≤ T.mutants * (T.budget * 1)
    asks_within port = total_within (asks_cost T port) 1 (λ m n l k. chosen_within (is_first_try T m n) _ 1
        (light.toll port (variant_at T m n) (state_at T m n) ((changes_from-AreChangesFrom T m T.budget T.start).live n k)
        (known m (T.meanings.place (state_at T m n)) l)))
