-- An analysis through its turns.
use Rattle.std.proofs.Common.{◌≡◌, ℕ, ◌+◌, ◌*◌, ◌^◌, ◌<◌, ◌≤◌, true, false, not, ◌&&◌, nat_lt, List, [], ◌∷◌, ◌++◌, length, map, nat_eq, refl, sym, ap, ◌∙◌}
use Rattle.std.proofs.Common.{subst, arith}
use Rattle.std.specs.List.{All, Contains, IsDistinct, sum_by, count_by, flat_map, remove}
use Rattle.std.specs.List.Sorted.{IsPermutation}
use Rattle.std.proofs.Math.Nat.{mul-le-mul}
use Rattle.std.proofs.lemmas.Option.{slice_get_within, get_or_from_slice_get}
use Rattle.std.proofs.lemmas.List.Elements.{All-head, All-contains, All-cons, All-nil, Contains-append_left}
use Rattle.std.proofs.lemmas.List.Sums.{sum_by-append, sum_by-cons}
use Rattle.std.proofs.lemmas.List.Sorted.{IsPermutation-refl, IsPermutation-sym, IsPermutation-trans, IsPermutation-remove, sum_by-IsPermutation}
use Rattle.std.proofs.lemmas.Map.Keys.{IsDistinct-IsPermutation}
use Rattle.am_base.specs.declared.limits.TheConstants.{MAX_BUDGET, MAX_MUTANTS}
use Rattle.code_form.specs.Variant.{Table, mutants_of}
use Rattle.traces.specs.Meanings.{Meanings, IsSameTest}
use Rattle.traces.specs.Counts.{Counts, SameCounts}
use Rattle.traces.specs.View.{View, IsLawful, Keeps}
use Rattle.traces.specs.Trace.{Trial}
use Rattle.traces.specs.Together.{below}
use Rattle.traces.specs.Work.{total_cost}
use Rattle.traces.specs.Configuration.{Execution, opening, is_live, parts, IsExecution, IsConfiguration}
use Rattle.traces.specs.Cost.{cost_so_far, cost_of_turn, step_cost, try_cost, load_cost, asks_cost, same_split, split_cost}
use Rattle.traces.proofs.Cost.{spent_turn, spent_at_most}
use Rattle.traces.proofs.Bools.{on_bool}
use Rattle.traces.proofs.Lists.{contains_here}
use Rattle.exec_core.proofs.ChildLemmas.{contains_map}
use Rattle.traces.proofs.Permutations.{cancel_front, configuration_moved}
use Rattle.traces.proofs.Room.{steps_within, tries_within, load_within, asks_within}
use Rattle.traces.proofs.Splits.{splits_cost}
use Rattle.traces.proofs.Steps.{parts_cost}
use Rattle.traces.proofs.TurnCounts.{tries_cost, tolls_cost, weights_cost}
use Rattle.traces.proofs.Turns.{turned_between, opening_is}
use Rattle.exec_core.specs.Analysed.{IsGoing, IsStopped}
use Rattle.traces.specs.Counts.{RoseBy, RoseWithin, IsBetween, AreAtMost}
use Rattle.exec_core.specs.Counted.{counts_so_far, counts_of_turn, totals}
use Rattle.exec_core.specs.Engines.{split_seen}
use Rattle.exec_core.specs.Held.{IsReleased}
use Rattle.exec_core.specs.Executions.{execution_of, state_numbers, goes_on}
use Rattle.exec_core.specs.Plans.{KnowsTable}
use Rattle.code_form.specs.Trial.{trial_of}
use Rattle.exec_core.specs.Turned.{executions_of, split_made, IsHeld, AreHeld, Turned, Refused}
use Rattle.exec_core.specs.declared.execution.Execution.{Execution as Concrete}
use Rattle.exec_core.specs.declared.engine.Engine.{Engine}
use Rattle.exec_machine.proofs.Numbers.{flips, contains_rest}
use Rattle.exec_core.proofs.Holding.{apart_lists, keeps_none}

pub ones : {X : Type 0} (xs : List X) → sum_by (λ x. 1) xs ≡ length xs
ones [] = refl
ones (x ∷ xs) = rw (sum_by-cons (λ y. 1) x xs) (let i = ones xs in omega arith)

zeros : (f : ℕ → ℕ) (xs : List ℕ) → ((x : ℕ) → f x ≡ 0) → sum_by f xs ≡ 0
zeros f [] h = refl
zeros f (x ∷ xs) h = rw (sum_by-cons f x xs) (let i = zeros f xs h in let a = h x in omega arith)

pub moved_cost : {S : Type 0} (f : ℕ → ℕ → ℕ) (es gs : List (Execution S)) → IsPermutation es gs → cost_so_far f gs ≡ cost_so_far f es
unfolding cost_so_far
moved_cost f es gs p = sum_by-IsPermutation (λ e. sum_by (λ m. sum_by (f m) (below e.step)) e.members) es gs p

between : {low value : ℕ} (by so_far : ℕ) {now total new : ℕ} → value ≡ low + so_far → now ≡ so_far + by → now ≤ total → IsBetween value new (value + by)
    → IsBetween low new (low + total)
between by so_far e f l b = record { least = omega (arith, b.least, e); most = omega (arith, b.most, e, f, l) }

module _ {W C : Type 0} {T : Trial W C} (same : IsSameTest T.meanings) {e : Execution W} (is : IsExecution T e) (live : is_live T e ≡ true)
    {rest es gs : List (Execution W)} (was : IsPermutation es (e ∷ rest)) (now : IsPermutation (rest ++ parts T e) gs) where
  pub turned_cost : (f : ℕ → ℕ → ℕ) → cost_so_far f gs ≡ cost_so_far f es + cost_of_turn f e
  turned_cost f = moved_cost f (rest ++ parts T e) gs now ∙ spent_turn T same f e is live [] rest
      ∙ ap (λ n. n + cost_of_turn f e) (moved_cost f es (e ∷ rest) was)

  pub turned_config : IsConfiguration T es → IsConfiguration T gs
  turned_config c = configuration_moved T (rest ++ parts T e) gs now (turned_between T same e is live [] rest (configuration_moved T es (e ∷ rest) was c))

  pub turned_more : cost_so_far (λ m n. 1) es < cost_so_far (λ m n. 1) gs
  turned_more = let c = turned_cost (λ m n. 1) in let n = ones e.members in let s = is.some in omega arith

  pub turned_counts : (a b c : Counts) → RoseBy a b (counts_so_far T es) → RoseBy b c (counts_of_turn T e) → RoseBy a c (counts_so_far T gs)
  turned_counts a b c r s = record {
    tried = (let h = turned_cost (try_cost T) in let k = tries_cost T same e is live in omega (arith, r.tried, s.tried, h, k));
    applied = (let h = turned_cost (step_cost T) in let k = parts_cost T same e is live in omega (arith, r.applied, s.applied, h, k));
    weighed = (let h = turned_cost (load_cost T) in let k = weights_cost T same e is live in omega (arith, r.weighed, s.weighed, h, k));
    readied = (let h = turned_cost (load_cost T) in let k = weights_cost T same e is live in omega (arith, r.readied, s.readied, h, k));
    asks = λ port. (let h = turned_cost (asks_cost T port) in let k = tolls_cost T same e is live port in omega (arith, r.asks port, s.asks port, h, k));
  }

  -- a refused turn counts no more than the turn that is owed
  pub refused_counts : IsConfiguration T es → (a b c : Counts) → RoseBy a b (counts_so_far T es) → RoseWithin b c (counts_of_turn T e)
      → RoseWithin a c (totals T)
  refused_counts conf a b c r s =
      let g = turned_config conf in
      let most : (f : ℕ → ℕ → ℕ) → cost_so_far f gs ≤ total_cost T f = (λ f. spent_at_most T same f gs g) in
      let by : (f : ℕ → ℕ → ℕ) (n : ℕ) → n ≡ cost_of_turn f e → cost_so_far f gs ≡ cost_so_far f es + n =
      (λ f m h. turned_cost f ∙ ap (λ n. cost_so_far f es + n) (sym h)) in
      record {
        tried = between _ _ r.tried (by (try_cost T) _ (tries_cost T same e is live)) (most (try_cost T)) s.tried;
        applied = between _ _ r.applied (by (step_cost T) _ (parts_cost T same e is live)) (most (step_cost T)) s.applied;
        weighed = between _ _ r.weighed (by (load_cost T) _ (weights_cost T same e is live)) (most (load_cost T)) s.weighed;
        readied = between _ _ r.readied (by (load_cost T) _ (weights_cost T same e is live)) (most (load_cost T)) s.readied;
        asks = λ port. between _ _ (r.asks port) (by (asks_cost T port) _ (tolls_cost T same e is live port)) (most (asks_cost T port)) (s.asks port);
      }

  pub turned_splits : (x : ℕ × List ℕ) (old new : List (ℕ × List ℕ)) → count_by (same_split x) old ≡ cost_so_far (split_cost T x) es → new ≡ old
      ++ split_made T e → count_by (same_split x) new ≡ cost_so_far (split_cost T x) gs
  turned_splits x old new h i =
      let c = turned_cost (split_cost T x) in let k = splits_cost T same e is live x in
      ap (count_by (same_split x)) i ∙ sum_by-append (λ s. Rattle.std.specs.Prelude.cond (same_split x s) 1 0) old (split_made T e)
      ∙ ap (λ n. n + count_by (same_split x) (split_made T e)) h ∙ ap (λ n. cost_so_far (split_cost T x) es + n) (sym k) ∙ sym c

-- within the limits no count passes its bound
below_bound : (m b c total : ℕ) → m ≤ MAX_MUTANTS → b ≤ MAX_BUDGET → c ≤ 65536 → total ≤ m * (b * c) → total ≤ 42949672960000000
below_bound m b c total hm hb hc h =
    let x : b * c ≤ MAX_BUDGET * 65536 = mul-le-mul hb hc in
    let y : m * (b * c) ≤ MAX_MUTANTS * 655360000000 = mul-le-mul hm x in omega arith

module _ {M S W C : Type 0} {V : View M S W C} (lawful : IsLawful V) {a b : M} (table : Table) (start : W) (budget : ℕ) {n : ℕ} {E : Engine S C} {k0 k : ℕ}
    (few : mutants_of table ≤ MAX_MUTANTS) (short : budget ≤ MAX_BUDGET) (known : KnowsTable (V.meanings a) table)
    (going : IsGoing V (trial_of (V.meanings a) table start budget) a b n E k0 k) where
  abbrev T : Trial W C
  T = trial_of (V.meanings a) table start budget

  same_test : IsSameTest T.meanings
  same_test = lawful.same a

  abbrev es : List (Execution W)
  es = executions_of V b E.lives.items E.ended.items

  spent : (f : ℕ → ℕ → ℕ) → cost_so_far f es ≤ total_cost T f
  spent f = spent_at_most T same_test f es going.config

  known_here : (m p : ℕ) → m < T.mutants → T.meanings.knows p (T.variant m p) ≡ true
  known_here m p l = known m p

  tries_low : cost_so_far (try_cost T) es ≤ 42949672960000000
  tries_low = let s = spent (try_cost T) in below_bound T.mutants T.budget 1 _ few short (omega arith) (let w = tries_within T in omega arith)

  steps_low : cost_so_far (step_cost T) es ≤ 42949672960000000
  steps_low = let s = spent (step_cost T) in below_bound T.mutants T.budget 1 _ few short (omega arith) (let w = steps_within T in omega arith)

  load_low : cost_so_far (load_cost T) es ≤ 42949672960000000
  load_low = let s = spent (load_cost T) in below_bound T.mutants T.budget 65536 _ few short (omega arith) (let w = load_within T (lawful.light a) known_here in
      omega arith)

  asks_low : (port : ℕ) → cost_so_far (asks_cost T port) es ≤ 42949672960000000
  asks_low port = let s = spent (asks_cost T port) in below_bound T.mutants T.budget 1 _ few short (omega arith) (let w =
      asks_within T (lawful.light a) known_here port in omega arith)

  alone_low : cost_so_far (λ m n. 1) es ≤ 42949672960000000
  alone_low = let s = spent (λ m n. 1) in below_bound T.mutants T.budget 1 _ few short (omega arith)
      (let w = Rattle.traces.proofs.Room.total_within T (λ m n. 1) 1 (λ m n l j. omega arith) in omega arith)

  pub room_left : AreAtMost (3 * 2 ^ 61) (V.counts a) → AreAtMost (7 * 2 ^ 60) (V.counts b)
  room_left r = record {
    tried = (let l = tries_low in omega (arith, r.tried, going.counts.tried, l));
    applied = (let l = steps_low in omega (arith, r.applied, going.counts.applied, l));
    weighed = (let l = load_low in omega (arith, r.weighed, going.counts.weighed, l));
    readied = (let l = load_low in omega (arith, r.readied, going.counts.readied, l));
    asks = λ port. (let l = asks_low port in omega (arith, r.asks port, going.counts.asks port, l));
  }

  pub meter_left : k0 ≤ 3 * 2 ^ 61 → k ≤ 7 * 2 ^ 60
  meter_left h = let l = steps_low in omega (arith, going.meter, l)

  pub tries_left : E.tries ≤ 7 * 2 ^ 60
  tries_left = let l = tries_low in omega (arith, going.tries, l)

  pub alone_left : E.alone ≤ 7 * 2 ^ 60
  alone_left = let l = alone_low in omega (arith, going.alone, l)

  module _ (o : Contains (V.out_numbers a) n) where
    others : List ℕ
    others = remove (V.out_numbers a) o.0

    pub beside : IsPermutation (V.out_numbers a) (n ∷ remove (V.out_numbers a) o.0)
    beside = IsPermutation-remove (V.out_numbers a) o.0 n o.1 (sym o.2)

    pub are_held : AreHeld V b budget E.lives.items E.ended.items
    are_held = record { others = remove (V.out_numbers a) o.0; held = going.held (remove (V.out_numbers a) o.0) beside }

    -- the states that were out before are none of the executions'
    not_ours : (j : ℕ) → Contains (V.out_numbers a) j → (Contains (n ∷ []) j → ⊥) → Contains (state_numbers V (E.lives.items ++ E.ended.items)) j → ⊥
    not_ours j i ne h =
        let all = E.lives.items ++ E.ended.items in let rest = remove (V.out_numbers a) o.0 in
        apart_lists (state_numbers V all) rest j
        (IsDistinct-IsPermutation nat_eq flips (V.out_numbers b) (state_numbers V all ++ rest) (going.held rest beside).numbers (lawful.distinct b)) h
        (contains_rest (V.out_numbers a) rest n j beside i (λ e. ne (subst (Contains (n ∷ [])) (sym e) (contains_here n []))))

    pub keeps_on : (c : M) → Keeps V b c (state_numbers V (E.lives.items ++ E.ended.items)) → Keeps V a c (n ∷ [])
    keeps_on c q = record {
      meanings = q.meanings ∙ going.keeps.meanings;
      stays = lawful.stays_trans a b c going.keeps.stays q.stays;
      out = λ t i ne. q.out t (going.keeps.out t i ne) (not_ours (V.number t) (lawful.among a t i) ne);
      stands = λ t i ne. q.stands t (going.keeps.out t i ne) (not_ours (V.number t) (lawful.among a t i) ne) ∙ going.keeps.stands t i ne;
    }

    -- the execution of a turn
    module _ (at : ℕ) (l : Concrete S) (there : Rattle.std.specs.Prelude.slice_get E.lives.items at ≡ Rattle.std.specs.Prelude.Some l) where
      contained : Contains E.lives.items l
      contained = (at, slice_get_within E.lives.items at l there, get_or_from_slice_get E.lives.items at l l there)

      live_here : is_live T (execution_of V b l) ≡ true
      live_here = ap (λ (A : Meanings W C). not (A.ended (V.stands b l.state)) && nat_lt l.step budget) (sym going.keeps.meanings)
          ∙ All-contains (λ x. goes_on V b budget x ≡ true) E.lives.items l (going.held (remove (V.out_numbers a) o.0) beside).live contained

      execution_here : (rest : List (Execution W)) → IsPermutation es (execution_of V b l ∷ rest) → IsExecution T (execution_of V b l)
      execution_here rest p = All-head (IsExecution T) (execution_of V b l) rest (configuration_moved T es (execution_of V b l ∷ rest) p going.config).each

    module _ {c : M} {at : ℕ} {F : Engine S C} {k' : ℕ} (held : (xs : List ℕ) → IsHeld V b budget xs E.lives.items E.ended.items
        → IsHeld V c budget xs F.lives.items F.ended.items)
        (q : Keeps V b c (state_numbers V (E.lives.items ++ E.ended.items))) where
      module _ (turned : Turned V T b c at E F k k') where
        abbrev e : Execution W
        e = execution_of V b turned.turned

        abbrev gs : List (Execution W)
        gs = executions_of V c F.lives.items F.ended.items

        live : is_live T (execution_of V b turned.turned) ≡ true
        live = live_here at turned.turned turned.there

        is_execution : IsExecution T (execution_of V b turned.turned)
        is_execution = execution_here at turned.turned turned.there turned.rest turned.was

        cost : (f : ℕ → ℕ → ℕ) → cost_so_far f gs ≡ cost_so_far f es + cost_of_turn f e
        cost = turned_cost same_test is_execution live turned.was turned.is

        pub going_more : IsGoing V T a c n F k0 k'
        going_more = record {
          held = λ xs p. held xs (going.held xs p);
          keeps = keeps_on c q;
          config = turned_config same_test is_execution live turned.was turned.is going.config;
          counts = turned_counts same_test is_execution live turned.was turned.is (V.counts a) (V.counts b) (V.counts c) going.counts turned.counts;
          meter = (let h = cost (step_cost T) in let j = parts_cost T same_test e is_execution live in omega (arith, going.meter, turned.meter, h, j));
          tries = (let h = cost (try_cost T) in let j = tries_cost T same_test e is_execution live in omega (arith, going.tries, turned.tries, h, j));
          alone = (let h = cost (λ m n. 1) in let j = ones e.members in omega (arith, going.alone, turned.alone, h, j));
          splits = λ x. turned_splits same_test is_execution live turned.was turned.is x (map split_seen E.splits.items)
              (map split_seen F.splits.items) (going.splits x) turned.splits;
        }

        pub closer : cost_so_far (λ m n. 1) es < cost_so_far (λ m n. 1) gs
        closer = turned_more same_test is_execution live turned.was turned.is

        -- what the configuration has cost is at most all that is owed
        pub owed : cost_so_far (λ m n. 1) gs ≤ total_cost T (λ m n. 1)
        owed = spent_at_most T same_test (λ m n. 1) gs going_more.config

      -- a refused turn stops the analysis: what it would have come to bounds what it has counted
      pub refused_stops : Refused V T b c at E F k k' → IsStopped V T a c n F k0 k'
      refused_stops r =
          let x = execution_of V b r.refused in
          let there = contains_map (execution_of V b) (E.lives.items ++ E.ended.items) r.refused
          (Contains-append_left E.lives.items E.ended.items r.refused (contained at r.refused r.there)) in
          let rest = remove es there.0 in
          let p = IsPermutation-remove es there.0 x there.1 (sym there.2) in
          record {
            held = λ xs h. held xs (going.held xs h);
            keeps = keeps_on c q;
            counts = refused_counts same_test (execution_here at r.refused r.there rest p) (live_here at r.refused r.there) p
                (IsPermutation-refl (rest ++ parts T x)) going.config (V.counts a) (V.counts b) (V.counts c) going.counts r.counts;
            meter = (let l = spent (step_cost T) in record { least = omega (arith, going.meter, r.meter); most = omega (arith, going.meter, r.meter, l) });
            beside = omega (arith, going.meter, r.meter, going.counts.applied, r.applied);
          }

start_cost : {W : Type 0} (f : ℕ → ℕ → ℕ) (ms : List ℕ) (w : W) → cost_so_far f (record { step = 0; members = ms; state = w } ∷ []) ≡ 0
unfolding cost_so_far
start_cost {W} f ms w =
    let x : Execution W = record { step = 0; members = ms; state = w } in
    sum_by-cons (λ (e : Execution W). sum_by (λ m. sum_by (f m) (below e.step)) e.members) x []
    ∙ ap (λ n. n + 0) (zeros (λ m. sum_by (f m) (below 0)) ms (λ m. refl))

-- all mutants stand at the start, as one execution
module _ {M S W C : Type 0} (V : View M S W C) (lawful : IsLawful V) (a : M) (table : Table) (start : S) (budget : ℕ) (E : Engine S C) (k : ℕ) where
  abbrev trial : Trial W C
  trial = trial_of (V.meanings a) table (V.stands a start) budget

  abbrev first : Concrete S
  first = record { step = 0; members = below (mutants_of table); state = start }

  pub opened : V.is_out a start → 0 < mutants_of table → E.splits.items ≡ [] → E.tries ≡ 0 → E.alone ≡ 0
      → (goes_on V a budget first ≡ true → (E.lives.items ≡ first ∷ []) × (E.ended.items ≡ []))
      → (goes_on V a budget first ≡ false → (E.lives.items ≡ []) × (E.ended.items ≡ first ∷ []))
      → IsGoing V trial a a (V.number start) E k k
  opened o some none t l on over =
      let one : E.lives.items ++ E.ended.items ≡ first ∷ [] = on_bool (goes_on V a budget first)
      (λ y. let h = on y in ap (λ xs. xs ++ E.ended.items) h.0 ∙ ap (λ xs. first ∷ xs) h.1) (λ n. let h = over n in ap (λ xs. xs ++ E.ended.items) h.0 ∙ h.1) in
      let es : executions_of V a E.lives.items E.ended.items ≡ opening trial = ap (map (execution_of V a)) one in
      let free : (f : ℕ → ℕ → ℕ) → cost_so_far f (executions_of V a E.lives.items E.ended.items) ≡ 0 =
      (λ f. ap (cost_so_far f) es ∙ start_cost f (below (mutants_of table)) (V.stands a start)) in
      record {
        held = λ xs p. record {
          out = subst (All (λ x. V.is_out a x.state)) (sym one) (All-cons (λ (x : Concrete S). V.is_out a x.state) first [] o
              (All-nil (λ (x : Concrete S). V.is_out a x.state)));
          numbers = subst (λ ys. IsPermutation (V.out_numbers a) (state_numbers V ys ++ xs)) (sym one) p;
          live = on_bool (goes_on V a budget first) (λ y. subst (All (λ x. goes_on V a budget x ≡ true)) (sym (on y).0)
              (All-cons (λ x. goes_on V a budget x ≡ true) first [] y (All-nil (λ x. goes_on V a budget x ≡ true))))
              (λ n. subst (All (λ x. goes_on V a budget x ≡ true)) (sym (over n).0) (All-nil (λ x. goes_on V a budget x ≡ true)));
          over = on_bool (goes_on V a budget first)
              (λ y. subst (All (λ x. goes_on V a budget x ≡ false)) (sym (on y).1) (All-nil (λ x. goes_on V a budget x ≡ false)))
              (λ n. subst (All (λ x. goes_on V a budget x ≡ false)) (sym (over n).1)
              (All-cons (λ x. goes_on V a budget x ≡ false) first [] n (All-nil (λ x. goes_on V a budget x ≡ false))));
        };
        keeps = keeps_none V lawful a _;
        config = subst (IsConfiguration trial) (sym es) (opening_is trial (lawful.same a) some);
        counts = record {
          tried = (let c = free (try_cost trial) in omega (arith, c));
          applied = (let c = free (step_cost trial) in omega (arith, c));
          weighed = (let c = free (load_cost trial) in omega (arith, c));
          readied = (let c = free (load_cost trial) in omega (arith, c));
          asks = λ p. (let c = free (asks_cost trial p) in omega (arith, c));
        };
        meter = (let c = free (step_cost trial) in omega (arith, c));
        tries = t ∙ sym (free (try_cost trial));
        alone = l ∙ sym (free (λ m n. 1));
        splits = λ x. ap (λ ys. count_by (same_split x) (map split_seen ys)) none ∙ sym (free (split_cost trial x));
      }

  -- the start was released, and nothing was counted
  pub none_opened : (b : M) → IsReleased V a b (V.number start) → SameCounts (V.counts a) (V.counts b) → E.lives.items ≡ [] → E.ended.items ≡ []
      → IsStopped V trial a b (V.number start) E k k
  none_opened b r s l e = record {
    held = λ xs p. subst (λ ys. IsHeld V b budget xs ys E.ended.items) (sym l) (subst (IsHeld V b budget xs []) (sym e) (record {
      out = All-nil (λ x. V.is_out b x.state);
      numbers = cancel_front (V.number start ∷ []) (V.out_numbers b) xs (IsPermutation-trans _ _ _ (IsPermutation-sym _ _ r.numbers) p);
      live = All-nil (λ x. goes_on V b budget x ≡ true);
      over = All-nil (λ x. goes_on V b budget x ≡ false);
    }));
    keeps = r.keeps;
    counts = record {
      tried = record { least = omega (arith, s.tried); most = omega (arith, s.tried) };
      applied = record { least = omega (arith, s.applied); most = omega (arith, s.applied) };
      weighed = record { least = omega (arith, s.weighed); most = omega (arith, s.weighed) };
      readied = record { least = omega (arith, s.readied); most = omega (arith, s.readied) };
      asks = λ p. record { least = omega (arith, s.asks p); most = omega (arith, s.asks p) };
    };
    meter = record { least = omega arith; most = omega arith };
    beside = omega (arith, s.applied);
  }
