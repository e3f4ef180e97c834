use Rattle.std.proofs.Common.{◌≡◌, ℕ, ◌≤◌, ap, arith}
use Rattle.ir_rules.specs.Memory.{end_from, constants_end, constants_of, variables_of}
use Rattle.ir_sound.proofs.Addresses.{end-rises}
use Rattle.ir_memory.proofs.places.places_of.Goals as goal

pub add_globals-requires-clause-room : goal.add_globals-requires-clause-room
add_globals-requires-clause-room c =
    let defs = c.args.types.now.defs in
    let items = c.args.items.now in
    let same = ap (λ (n : ℕ). end_from defs n (constants_of items)) c.from-start.ensures in
    let low = end-rises defs (variables_of items) (constants_end defs items) in
    let room = c.requires.room in
    omega arith
