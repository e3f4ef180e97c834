use Rattle.std.proofs.Common.{◌≡◌, ℕ, List, ◌++◌, None, Some, OnOk, replicate, sym, ap, subst, ◌∙◌}
use Rattle.ir_rules.specs.Types.{TypeDefs, expanded, scalar_of, kind_of}
use Rattle.ir_rules.specs.Memory.{little_endian, constant_word}
use Rattle.ir_op_codes.specs.Words.{IsFit}
use Rattle.ir_memory.proofs.Constants.{kind-expanded, zero-bytes, word-bytes}
use Rattle.ir_memory.proofs.inits.write_constant.Goals as goal

pub constant_word-requires : goal.constant_word-requires
constant_word-requires c = subst (λ (ds : TypeDefs). IsFit ds c.args.a.now) (sym c.in_ok-room.ensures.defs) c.requires.fit

pub returns-in-None-clause-bytes : goal.returns-in-None-clause-bytes
returns-in-None-clause-bytes c =
    let defs = c.args.types.now.defs in
    let t = expanded defs c.args.ty.now in
    let none : None ≡ scalar_of t =
    sym c.in-None.is ∙ c.kind.ensures ∙ ap (λ (ds : TypeDefs). kind_of ds c.args.ty.now) c.in_ok-room.ensures.defs ∙ kind-expanded defs c.args.ty.now in
    subst (λ (l : List ℕ). OnOk c.pad.result (c.pad.new.buffer ≡ c.args.buffer.now ++ l))
    (ap (λ (n : ℕ). replicate n 0) c.in_ok-room.ensures.size ∙ zero-bytes defs c.args.names.now.addresses.now t c.args.a.now none)
    c.pad.ensures

pub returns-in_ok-word-in-Some-clause-bytes : goal.returns-in_ok-word-in-Some-clause-bytes
returns-in_ok-word-in-Some-clause-bytes c =
    let defs = c.args.types.now.defs in
    let addresses = c.args.names.now.addresses.now in
    let t = expanded defs c.args.ty.now in
    let some : Some c.in-Some.kind ≡ scalar_of t =
    sym c.in-Some.is ∙ c.kind.ensures ∙ ap (λ (ds : TypeDefs). kind_of ds c.args.ty.now) c.in_ok-room.ensures.defs ∙ kind-expanded defs c.args.ty.now in
    let word = c.in_ok-word-in-Some.ensures.word ∙ (λ j. constant_word (c.in_ok-room.ensures.defs j) addresses (c.kind_width.ensures j) c.args.a.now) in
    subst (λ (l : List ℕ). OnOk c.write_word.result (c.write_word.new.buffer ≡ c.args.buffer.now ++ l))
    ((λ j. little_endian (c.in_ok-room.ensures.size j) (word j)) ∙ word-bytes defs addresses t c.args.a.now c.in-Some.kind some)
    c.write_word.ensures
