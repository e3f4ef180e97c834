use Rattle.std.proofs.Common.{◌++◌, reverse}
use Rattle.exec_core.proofs.RefusalLemmas.{fore_out, fore_distinct, back_out, back_distinct, given_back}
use Rattle.exec_core.proofs.divide.give_back.Goals as goal

pub release_children-requires-clause-out : goal.release_children-requires-clause-out
release_children-requires-clause-out g c =
    fore_out g.M.Machine.view c.args.machine.now (c.args.children.now.items
    ++ reverse c.args.readied.now.items) c.take_first-first.new.children.items c.take_first-first.new.readied.items c.take_first-first.result
    c.take_first-first.ensures c.requires.out c.requires.distinct

pub release_children-requires-clause-distinct : goal.release_children-requires-clause-distinct
release_children-requires-clause-distinct g c =
    fore_distinct g.M.Machine.view c.args.machine.now (c.args.children.now.items
    ++ reverse c.args.readied.now.items) c.take_first-first.new.children.items c.take_first-first.new.readied.items c.take_first-first.result
    c.take_first-first.ensures c.requires.out c.requires.distinct

pub release_children-requires-2-clause-out : goal.release_children-requires-2-clause-out
release_children-requires-2-clause-out g c =
    back_out g.M.Machine.view c.args.machine.now (c.args.children.now.items
    ++ reverse c.args.readied.now.items) c.take_first-first.new.children.items c.take_first-first.new.readied.items c.take_first-first.result
    c.take_first-first.ensures c.requires.out c.requires.distinct c.release_children.new.machine c.release_children.ensures.keeps

pub release_children-requires-2-clause-distinct : goal.release_children-requires-2-clause-distinct
release_children-requires-2-clause-distinct g c =
    back_distinct g.M.Machine.view c.args.machine.now (c.args.children.now.items
    ++ reverse c.args.readied.now.items) c.take_first-first.new.children.items c.take_first-first.new.readied.items c.take_first-first.result
    c.take_first-first.ensures c.requires.out c.requires.distinct

pub returns-clause-back : goal.returns-clause-back
returns-clause-back g c =
    given_back g.M.Machine.view c.args.machine.now (c.args.children.now.items
    ++ reverse c.args.readied.now.items) c.take_first-first.new.children.items c.take_first-first.new.readied.items c.take_first-first.result
    c.take_first-first.ensures c.requires.out c.requires.distinct g.met.M.Machine.lawful c.release_children.new.machine c.release_children-2.new.machine
    c.release_children.ensures.out c.release_children.ensures.keeps c.release_children-2.ensures.out c.release_children-2.ensures.keeps
