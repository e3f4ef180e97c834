use Rattle.std.proofs.Common.{◌≡◌, length, map, get_or, None, sym, ap, ◌∙◌, subst, arith}
use Rattle.std.proofs.lemmas.List.FromFn.{length-map-range_with_len, get_or-map-range_with_len}
use Rattle.traces.specs.Work.{splits}
use Rattle.exec_core.specs.Engines.{split_seen}
use Rattle.reach_report.specs.Reach.{IsParting}
use Rattle.reach_report.specs.Pass.{table_of, leader_of}
use Rattle.reach_report.proofs.Analysed.{parting_of}
use Rattle.reach_report.proofs.parting.partings.Goals as goal

pub returns : goal.returns
returns c = λ T same an.
    let a = c.args.analysed.now in let numbers = c.as_slice-numbers.result.now in let classes = c.as_slice-classes.result.now in let told = c.deref.result.now in
    let many : length numbers ≡ T.mutants = ap length c.as_slice-numbers.ensures ∙ an.shown.count in
    let table : told ≡ table_of T.mutants (splits T) =
    c.deref.ensures.value ∙ c.in_ok-table.ensures ∙ ap (λ n. table_of n (map split_seen c.as_slice.result.now)) many
    ∙ ap (λ s. table_of T.mutants (map split_seen s)) c.as_slice.ensures ∙ ap (table_of T.mutants) an.splits in
    let leads = leader_of classes numbers in record {
      count = ap length c.in_ok-list.ensures ∙ length-map-range_with_len (λ m. get_or told (leads m) None) 0 (length numbers) ∙ many;
      each = λ m h. subst (IsParting T m)
          (sym (ap (λ xs. get_or xs m None) c.in_ok-list.ensures ∙ get_or-map-range_with_len (λ k. get_or told (leads k) None) 0 (length numbers) m m None (omega (arith, many, h)) (omega arith)
          ∙ ap (λ t. get_or t (leads m) None) table
          ∙ ap (λ es. get_or (table_of T.mutants (splits T)) (leader_of es numbers m) None) c.as_slice-classes.ensures
          ∙ ap (λ ns. get_or (table_of T.mutants (splits T)) (leader_of a.classes ns m) None) c.as_slice-numbers.ensures))
          (parting_of T same a an m h);
    }
