use Rattle.std.proofs.Common.{◌≡◌, [], map, take}
use Rattle.std.specs.List.{fold}
use Rattle.ir_rules.specs.Paths.{Case, case_word, two_equal}
use Rattle.ir_call_rules.specs.Numbers.{with_word}
use Rattle.ir_call_rules.proofs.switches.has_two_equal.Given as goal

abbrev pub invariant-each : goal.invariant-each
invariant-each l =
    let ws = map (λ (c : Case). case_word l.w c.1) (take l.case-index l.cases) in
    record { seen : l.words ≡ fold with_word [] ws; found : l.found ≡ two_equal ws }
