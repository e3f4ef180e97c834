use Rattle.ir_rules.specs.Memory.{addresses_of}
use Rattle.ir_module.proofs.Modules.{no-register, no-block, first-address}
use Rattle.ir_module.proofs.module.memory_of.Goals as goal

pub invariant_of-names : goal.invariant_of-names
invariant_of-names c = record {
  registers = no-register c.new-locals.result c.new-locals.ensures;
  blocks = no-block c.new-locals.result c.new-locals.ensures;
  functions = c.args.tables.now.functions;
}

pub returns-clause-bytes : goal.returns-clause-bytes
returns-clause-bytes c = λ items list end a.
    c.opening_bytes-bytes.ensures.bytes items list end (first-address c.args.tables.now.addresses.now (addresses_of c.args.types.now.defs items) a)
