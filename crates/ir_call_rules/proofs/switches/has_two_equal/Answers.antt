use Rattle.std.proofs.Common.{[], ◌||◌, map, take, ap, ◌∙◌}
use Rattle.std.specs.List.{fold}
use Rattle.ir_rules.specs.Paths.{Case, case_word, two_equal}
use Rattle.ir_call_rules.specs.Numbers.{has_word, with_word}
use Rattle.ir_call_rules.proofs.Sets.{words-more, equal-turn}
use Rattle.ir_call_rules.proofs.switches.has_two_equal.Goals as goal

pub each-preserved : goal.each-preserved
each-preserved c =
    let word = λ (k : Case). case_word c.args.w k.1 in
    let cs = c.args.cases.now in
    let i = c.each.case-index in
    let x = c.case-item.result in
    record {
      seen =
          c.in_ok-known.ensures.added
          ∙ ap (with_word c.each.words) c.case_word.ensures
          ∙ ap (λ ws. with_word ws (word x)) c.each.invariant.seen
          ∙ words-more word cs i x c.each-test.true c.case-item.is;
      found =
          c.either-found.ensures
          ∙ ap (λ b. b || c.in_ok-known.known) c.each.invariant.found
          ∙ ap (λ b. two_equal (map word (take i cs)) || b) (
          c.in_ok-known.ensures.known
          ∙ ap (has_word c.each.words) c.case_word.ensures
          ∙ ap (λ ws. has_word ws (word x)) c.each.invariant.seen
          )
          ∙ equal-turn word cs i x c.each-test.true c.case-item.is;
    }
