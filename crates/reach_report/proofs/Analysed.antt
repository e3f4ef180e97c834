-- The parting of each mutant, from what an analysis gives.
use Rattle.std.proofs.Common.{◌≡◌, ℕ, ◌<◌, get_or, slice_index, None, sym, ap, subst}
use Rattle.std.specs.Option.{option_map_or}
use Rattle.std.proofs.lemmas.Option.{slice_get_within, get_or_from_slice_get}
use Rattle.traces.specs.Meanings.{IsSameTest}
use Rattle.traces.specs.Trace.{Trial}
use Rattle.traces.specs.Work.{splits}
use Rattle.machine_form.specs.declared.change.Change.{Change}
use Rattle.machine_form.specs.State.{State}
use Rattle.flat_analysis.specs.declared.ended.Ended.{Ended}
use Rattle.flat_analysis.specs.declared.ended.CaseAnalysis.{CaseAnalysis}
use Rattle.flat_analysis.specs.Ended.{IsEnded, IsAnalysis}
use Rattle.reach_report.specs.Reach.{IsParting}
use Rattle.reach_report.specs.Pass.{table_of, leader_of}
use Rattle.reach_report.proofs.Leaders.{first_listed, first_least, least_leads, parting_is}

pub parting_of : (T : Trial State Change) → IsSameTest T.meanings → (a : CaseAnalysis) → IsAnalysis T a → (m : ℕ) → m < T.mutants
    → IsParting T m (get_or (table_of T.mutants (splits T)) (leader_of a.classes a.class_of m) None)
unfolding leader_of
parting_of T same a an m h =
    let shown = an.shown.each m h in let class = shown.class in let number = slice_index a.class_of m in
    let here : get_or a.classes number class ≡ class = get_or_from_slice_get a.classes number class class shown.is in
    let ended : IsEnded T class = subst (IsEnded T) here (an.classes.each number class (slice_get_within a.classes number class shown.is)) in
    let c = slice_index class.members 0 in
    let listed = first_listed class.members ended.some in
    let leads = (ended.members m c shown.member).0 listed in
    let least = least_leads T same m c leads.is_mutant leads.equal (λ j l e. first_least class.members j ended.rising
    ((ended.members m j shown.member).1 (record { is_mutant = l; equal = e }))) in
    subst (λ (k : ℕ). IsParting T m (get_or (table_of T.mutants (splits T)) k None))
    (sym (ap (λ o. option_map_or (λ (e : Ended). slice_index e.members 0) o 0) shown.is)) (parting_is T same m c least)
