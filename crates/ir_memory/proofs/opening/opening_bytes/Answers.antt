use Rattle.std.proofs.Common.{◌≡◌, ℕ, List, [], ◌-◌, ◌++◌, All, map, length, replicate, sym, ap, subst, ◌∙◌, arith}
use Rattle.std.specs.List.{fold}
use Rattle.type_layout.specs.Layout.{round_up}
use Rattle.ir_rules.specs.Memory.{Global, padded, with_global, addresses_of}
use Rattle.ir_memory.specs.Places.{placed}
use Rattle.ir_memory.specs.Inits.{PlacedIsSmall}
use Rattle.ir_memory.specs.declared.places.Placed.{Placed}
use Rattle.ir_memory.proofs.Addresses.{global-same}
use Rattle.ir_memory.proofs.opening.opening_bytes.Goals as goal

from-start : (old new : List ℕ) (n : ℕ) → new ≡ old ++ replicate (n - (length old - 0)) 0 → new ≡ padded n old
from-start old new n e = let none : length old - 0 ≡ length old = omega arith in e ∙ ap (λ k. old ++ replicate (n - k) 0) none

pub write_globals-requires : goal.write_globals-requires
write_globals-requires c = subst (All (PlacedIsSmall c.args.types.now.defs)) (sym c.as_slice.ensures) c.requires.small

pub returns-clause-bytes : goal.returns-clause-bytes
returns-clause-bytes c = λ items list end same.
    let defs = c.args.types.now.defs in
    let a = c.args.names.now.addresses.now in
    let b = addresses_of defs items in
    let globals =
    c.in_ok-buffer.ensures.bytes
    ∙ ap (λ (l : List Placed). fold (with_global defs a) [] (map placed l)) c.as_slice.ensures
    ∙ (λ j. fold (global-same defs a b same j) [] (list j)) in
    from-start c.in_ok-buffer.buffer c.pad_to.new.buffer c.stack_base_of.result c.in_ok-pad_to.ensures
    ∙ ap (λ (n : ℕ). padded n c.in_ok-buffer.buffer) c.stack_base_of.ensures
    ∙ (λ j. padded (round_up (end j) 16) (globals j))
