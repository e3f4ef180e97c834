-- The text of `groups` is that of the classes of the mutants at the step.
use Rattle.std.proofs.Common.{◌≡◌, ℕ, ◌<◌, ◌≤◌, List, ◌∷◌, [], ◌++◌, length, ap, ◌∙◌, ⊎_elim, arith}
use Rattle.std.specs.Prelude.{codes}
use Rattle.std.specs.List.{Contains, flat_map}
use Rattle.std.proofs.lemmas.Bool.{cases_lt}
use Rattle.std.proofs.lemmas.Bool.Decides.{nat_tests}
use Rattle.std.proofs.lemmas.List.Elements.{All-contains}
use Rattle.std.proofs.lemmas.List.Kept.{AllPairs-from_increasing}
use Rattle.std.proofs.lemmas.List.Sorted.{Contains-permutation, IsPermutation-sym}
use Rattle.traces.specs.Meanings.{IsSameTest}
use Rattle.traces.specs.Trace.{Trial, trace, within}
use Rattle.traces.specs.Together.{below}
use Rattle.traces.proofs.Below.{below_below}
use Rattle.traces.proofs.Prefixes.{to_flat_map}
use Rattle.machine_form.specs.declared.change.Change.{Change}
use Rattle.machine_form.specs.State.{State}
use Rattle.flat_analysis.specs.Ended.{IsEnded, AreEnded}
use Rattle.flat_analysis.specs.declared.ended.Ended.{Ended}
use Rattle.line_parts.specs.Parts.{spaced}
use Rattle.command_texts.specs.Groups.{IsGroupsText, group_of}
use Rattle.commands.specs.Groups.{AreClassesAt}
use Rattle.commands.proofs.OneGroups.{class-one}
use Rattle.accmut_laws.specs.Classes.{group_line, classes_at, shorter_than, shown_at}
use Rattle.accmut_laws.proofs.ClassText.{IsPart, all_short, all_lines}

module _ (T : Trial State Change) (same : IsSameTest T.meanings) (n budget : ℕ) (classes : List Ended)
    (ended : AreEnded (within T budget) classes) (at : AreClassesAt T n classes) where
  abbrev cut : Trial State Change
  cut = within T budget

  is_ended : (e : Ended) → Contains classes e → IsEnded cut e
  is_ended e c = All-contains (IsEnded cut) classes e ended.each c

  is_mutant : (e : Ended) → Contains classes e → (m : ℕ) → Contains e.members m → m < T.mutants
  is_mutant e c m d =
      let all = flat_map (λ (e : Ended). e.members) classes in
      below_below T.mutants m
      (Contains-permutation all (below T.mutants) m (IsPermutation-sym (below T.mutants) all ended.once) (to_flat_map (λ (e : Ended). e.members) classes e m c d))

  is_part : (e : Ended) → Contains classes e → IsPart T same n (λ e. e.members) (λ e. e.length) e
  is_part e c =
      let is = is_ended e c in
      let most = at.most e c in
      record {
        some = is.some;
        rising = AllPairs-from_increasing e.members is.rising;
        whole = λ uncut m d. at.whole e c (grind (arith, nat_tests)) m d;
        short = λ is_cut m d. ⊎_elim
            (λ (l : length (trace T m) < n). l)
            (λ (g : n ≤ length (trace T m)).
            let found = at.reached m (is_mutant e c m d) g in
            let one : e ≡ found.class = class-one cut e found.class is (is_ended found.class found.there) m d found.member in
            let long : e.length ≡ n = ap (λ (e : Ended). e.length) one ∙ found.is in
            absurd (grind (arith, nat_tests)))
            (cases_lt (length (trace T m)) n);
      }

  pub shown : (text : List ℕ) → IsGroupsText n classes text → text ≡ shown_at T n
  shown text g =
      let lines : flat_map (group_of n) classes ≡ flat_map group_line (classes_at T n) =
      all_lines T same n (λ (e : Ended). e.members) (λ (e : Ended). e.length) classes is_part ended.once group_line ended.rising in
      let short : g.short ≡ shorter_than T n =
      all_short T same n (λ (e : Ended). e.members) (λ (e : Ended). e.length) classes is_part ended.once g.short g.rising g.same in
      g.lines ∙ ap (λ xs. xs ++ codes "short," ++ spaced g.short ++ 10 ∷ []) lines
      ∙ ap (λ ms. flat_map group_line (classes_at T n) ++ codes "short," ++ spaced ms ++ 10 ∷ []) short
