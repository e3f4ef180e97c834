use Rattle.std.proofs.Common.{rules, ◌≡◌, [], arith}
use Rattle.exec_core.proofs.SettleLemmas.{settling_none, settling_more, settled, All-front, All-last}
use Rattle.exec_core.specs.declared.execution.Execution.{Execution as Concrete}
use Rattle.exec_core.proofs.execution.settle_all.Goals as goal

pub loop-l-init : goal.loop-l-init
loop-l-init g c = record {
  settling = settling_none _ _ _ _ _ _;
  out = c.requires.out;
  room_lives = c.requires.room_lives;
  room_ended = c.requires.room_ended;
}

pub loop-l-preserved : goal.loop-l-preserved
loop-l-preserved g c =
    let V = g.M.Machine.view in let i = c.loop-l.invariant in record {
      settling = settling_more _ _ i.settling c.in-Some.ensures.items c.settle.ensures.live c.settle.ensures.over;
      out = All-front (λ (x : Concrete g.row.M-State.Denot). V.is_out c.args.machine.now x.state) c.loop-l.made.items c.pop.new.self.items c.in-Some.l
          c.in-Some.ensures.items i.out;
      room_lives = omega (arith, c.in-Some.ensures.cases, c.settle.ensures.len_lives, c.settle.ensures.capacity_lives);
      room_ended = omega (arith, c.in-Some.ensures.cases, c.settle.ensures.len_ended, c.settle.ensures.capacity_ended);
    }

pub settle-requires-clause-out : goal.settle-requires-clause-out
settle-requires-clause-out g c =
    All-last (λ (x : Concrete g.row.M-State.Denot). g.M.Machine.view.is_out c.args.machine.now x.state) c.loop-l.made.items c.pop.new.self.items c.in-Some.l
    c.in-Some.ensures.items c.loop-l.invariant.out

pub returns-clause-settled : goal.returns-clause-settled
returns-clause-settled g c =
    let none : c.loop-l.made.items ≡ [] = search rules in
    settled c.loop-l.invariant.settling none
