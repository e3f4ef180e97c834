use Rattle.ir_scopes.specs.Kinds.{kind_in}
use Rattle.ir_module.proofs.Modules.{kinds-are, entities-are}
use Rattle.ir_module.proofs.module.module_code.Goals as goal

pub placed_code-requires-clause-whole : goal.placed_code-requires-clause-whole
placed_code-requires-clause-whole c = c.requires.whole

pub placed_code-requires-clause-few : goal.placed_code-requires-clause-few
placed_code-requires-clause-few c = c.requires.few

pub placed_code-requires-clause-faultless : goal.placed_code-requires-clause-faultless
placed_code-requires-clause-faultless c = c.requires.faultless

pub placed_code-requires-clause-ports : goal.placed_code-requires-clause-ports
placed_code-requires-clause-ports c = c.in_ok-ports.ensures

pub placed_code-requires-clause-types : goal.placed_code-requires-clause-types
placed_code-requires-clause-types c = c.in_ok-types.ensures

pub placed_code-requires-clause-kinds : goal.placed_code-requires-clause-kinds
placed_code-requires-clause-kinds c =
    kinds-are c.args.items.now c.args.signs.now c.in_ok-types.types.defs (kind_in c.in_ok-kinds.kinds.names) c.in_ok-types.ensures c.in_ok-kinds.ensures

pub placed_code-requires-clause-globals : goal.placed_code-requires-clause-globals
placed_code-requires-clause-globals c =
    entities-are c.args.items.now c.args.signs.now c.in_ok-types.types.defs (kind_in c.in_ok-kinds.kinds.names) c.in_ok-types.ensures c.in_ok-kinds.ensures
    c.in_ok-entities.entities c.in_ok-entities.ensures

pub returns : goal.returns
returns c = c.placed_code.ensures
