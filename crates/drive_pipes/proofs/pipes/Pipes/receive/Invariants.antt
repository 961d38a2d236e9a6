use Rattle.std.proofs.Common.{[]}
use Rattle.drive_pipes.specs.Flows.{FlowsTo, AreSent}
use Rattle.drive_pipes.proofs.pipes.Pipes.receive.Given as goal

-- so far bytes came in, none was lost, and nothing was sent but what waited
abbrev pub invariant-loop : goal.invariant-loop
invariant-loop g l = record {
  came : FlowsTo (g.E.Ends.came l.fn.self.ends) (g.E.Ends.came l.self.ends) l.fn.self.incoming l.self.incoming;
  sent : AreSent (g.E.Ends.went l.fn.self.ends) (g.E.Ends.went l.self.ends) l.fn.self.outgoing.items l.self.outgoing.items [];
}
