use Rattle.std.proofs.Common.{◌≡◌, ℕ, All, List, None, map, refl, sym, ap, subst, ◌∙◌, arith}
use Rattle.std.specs.Prelude.{IfOk}
use Rattle.type_layout.specs.Layout.{round_up}
use Rattle.code_form.specs.declared.code.Code.{Code}
use Rattle.code_form.specs.declared.sign.PortSign.{PortSign}
use Rattle.ir_rules.specs.Rules.{fault}
use Rattle.ir_rules.specs.Types.{TypeDefs, type_defs}
use Rattle.ir_rules.specs.Memory.{addresses_of}
use Rattle.ir_rules.specs.Modules.{instrs_from, results_from}
use Rattle.ir_memory.specs.Inits.{PlacedIsSmall}
use Rattle.ir_memory.specs.Places.{placed}
use Rattle.ir_module.specs.Parts.{with_memory}
use Rattle.ir_module.proofs.Modules.{code-is, end-small, constants-small, memory-is}
use Rattle.ir_module.proofs.module.code_by.Goals as goal

pub memory_of-requires-clause-small : goal.memory_of-requires-clause-small
memory_of-requires-clause-small c =
    subst (λ (ds : TypeDefs). All (PlacedIsSmall ds) c.args.places.now.list) (sym c.requires.types) c.requires.small

pub memory_of-requires-clause-room : goal.memory_of-requires-clause-room
memory_of-requires-clause-room c =
    let end = c.requires.end in
    let small = end-small c.args.items.now c.args.signs.now c.requires.faultless in
    omega arith

pub parts_of-requires-clause-faultless : goal.parts_of-requires-clause-faultless
parts_of-requires-clause-faultless c =
    subst (λ (s : List PortSign). fault c.args.items.now s ≡ None) (sym c.requires.ports) c.requires.faultless

pub parts_of-requires-clause-types : goal.parts_of-requires-clause-types
parts_of-requires-clause-types c = c.in_ok-memory.ensures.defs ∙ c.requires.types

pub joined-requires-clause-constants : goal.joined-requires-clause-constants
joined-requires-clause-constants c =
    let end = c.requires.constants in
    let small = constants-small c.args.items.now c.args.signs.now c.requires.faultless in
    omega arith

pub joined-requires-clause-room : goal.joined-requires-clause-room
joined-requires-clause-room c =
    let end = c.requires.end in
    let small = end-small c.args.items.now c.args.signs.now c.requires.faultless in
    omega arith

pub returns : goal.returns
returns c =
    let items = c.args.items.now in
    let signs = c.args.signs.now in
    let places = c.args.places.now in
    let p = c.in_ok-parts.parts in
    let m = c.in_ok-memory.memory in
    let memory =
    memory-is c.args.types.now.defs items (map placed places.list) places.end c.args.tables.now.addresses.now m c.requires.types c.in_ok-memory.ensures.bytes
    c.requires.list c.requires.end c.requires.addresses in
    let whole =
    code-is items signs (with_memory p m places signs) c.in_ok-parts.ensures.funcs
    (c.in_ok-parts.ensures.instrs ∙ ap (λ (s : List PortSign). instrs_from items s (addresses_of (type_defs items) items) 0 items) c.requires.ports)
    (c.in_ok-parts.ensures.results ∙ ap (λ (s : List PortSign). results_from items s 0 items) c.requires.ports)
    memory c.requires.constants (ap (λ (e : ℕ). round_up e 16) c.requires.end) refl in
    subst (λ (k : Code). IfOk c.joined.result (λ code. code ≡ k)) whole c.joined.ensures
