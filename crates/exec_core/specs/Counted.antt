-- What an analysis counts.
--     totals                    the counts of a whole trial
--     counts_so_far es          the counts of the changes that the members of these executions have made
--     counts_of_turn e          the counts of one turn of e: a try for each different variant, and a change for each part
--     tries_of_turn e           the counts of its tries alone
use Rattle.std.specs.Prelude.{ℕ, List, length}
use Rattle.std.specs.List.{filter, sum_by}
use Rattle.traces.specs.Meanings.{total_toll}
use Rattle.traces.specs.Counts.{Counts, counts_of_tries}
use Rattle.traces.specs.Trace.{Trial, change_of}
use Rattle.traces.specs.Work.{steps, tries, load, asks}
use Rattle.traces.specs.Configuration.{Execution, is_leader, parts, variants_of}
use Rattle.traces.specs.Cost.{cost_so_far, step_cost, try_cost, load_cost, asks_cost}

module _ {S C : Type 0} (T : Trial S C) where
  abbrev pub totals : Counts
  totals = record { tried = tries T; applied = steps T; weighed = load T; readied = load T; asks = asks T }

  abbrev pub counts_so_far : List (Execution S) → Counts
  counts_so_far es = record {
    tried = cost_so_far (try_cost T) es;
    applied = cost_so_far (step_cost T) es;
    weighed = cost_so_far (load_cost T) es;
    readied = cost_so_far (load_cost T) es;
    asks = λ port. cost_so_far (asks_cost T port) es;
  }

  abbrev pub weight_of_turn : Execution S → ℕ
  weight_of_turn e = sum_by (λ m. T.meanings.weight (change_of T m e.state)) (filter (is_leader T e) e.members)

  abbrev pub counts_of_turn : Execution S → Counts
  counts_of_turn e = record {
    tried = length (variants_of T e);
    applied = length (parts T e);
    weighed = weight_of_turn e;
    readied = weight_of_turn e;
    asks = λ port. total_toll T.meanings port e.state (variants_of T e);
  }

  abbrev pub tries_of_turn : Execution S → Counts
  tries_of_turn e = counts_of_tries T.meanings e.state (variants_of T e)
