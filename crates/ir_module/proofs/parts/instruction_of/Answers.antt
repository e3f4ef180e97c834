use Rattle.ir_module.proofs.parts.instruction_of.Goals as goal

pub invariant_of-names : goal.invariant_of-names
invariant_of-names c = record {
  registers = c.requires.small.registers;
  blocks = c.requires.small.blocks;
  functions = c.args.tables.now.functions;
}

pub op_code-code-requires : goal.op_code-code-requires
op_code-code-requires c = c.requires.fits

pub returns-clause-code : goal.returns-clause-code
returns-clause-code c = c.op_code-code.ensures.code
