use Rattle.std.proofs.Common.{◌∙◌, map, ap}
use Rattle.std.proofs.lemmas.Result.{on_ok_weaker}
use Rattle.shared_machine.proofs.WriteSteps.{mapped_below, each_owned, none_taken}
use Rattle.am_base.specs.declared.limits.TheConstants.{MEMORY_BYTES}
use Rattle.shared_machine.proofs.writes.reserve_bytes.Goals as goal

pub reserve-requires-clause-range : goal.reserve-requires-clause-range
reserve-requires-clause-range c = mapped_below MEMORY_BYTES c.args.c.now.bytes _ (c.as_slice-2.ensures ∙ c.in_ok-at.ensures ∙ ap (map (λ b. b.0)) c.as_slice.ensures.pairs) c.requires.range

pub returns-in_err-at-clause-reserved : goal.returns-in_err-at-clause-reserved
returns-in_err-at-clause-reserved c = none_taken c.args.store.now c.args.memory.now _ c.requires.known c.requires.most

pub returns-clause-own : goal.returns-clause-own
returns-clause-own c =
    on_ok_weaker c.reserve.result
    (each_owned c.reserve.new.self c.args.memory.now c.args.c.now.bytes _ (c.as_slice-2.ensures ∙ c.in_ok-at.ensures ∙ ap (map (λ b. b.0)) c.as_slice.ensures.pairs))
    c.reserve.ensures.own
