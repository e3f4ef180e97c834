use Rattle.std.proofs.Common.{◌≡◌, map, take}
use Rattle.am_base.specs.Word.{signed}
use Rattle.mutant_maker.proofs.numbers.signed_words.Given as goal

abbrev pub invariant-each : goal.invariant-each
invariant-each l = l.numbers ≡ map (signed l.w) (take l.word-index l.word-items)
