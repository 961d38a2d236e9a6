use Rattle.std.proofs.Common.{refl, subst, []}
use Rattle.drive_pipes.specs.Lines.{Takes}
use Rattle.drive_pipes.specs.Flows.{FlowsTo}
use Rattle.drive_pipes.proofs.Flowing.{stays, flows_on, still_waits, sent_on}
use Rattle.drive_pipes.proofs.pipes.Pipes.receive.Goals as goal

pub loop-init : goal.loop-init
loop-init g c = record { came = stays _ _ _ _ refl refl; sent = still_waits _ _ _ _ refl refl }

pub loop-preserved : goal.loop-preserved
loop-preserved g c =
    let l = c.loop in
    let handed = c.hand_on.new.self in
    let takes = subst (Takes l.self.incoming c.take_line.new.self) c.in-Part.is c.in_ok-line.ensures in record {
      came = flows_on _ _ _ _ _ _ l.invariant.came
          (flows_on _ _ _ _ _ _
          (subst (λ xs. FlowsTo (g.E.Ends.came l.self.ends) (g.E.Ends.came handed.ends) xs handed.incoming) takes.0 c.in_ok-hand_on-in-Part.ensures.came)
          c.in_ok-take_in-in-Part.ensures.came);
      sent = sent_on _ _ _ _ _ _ [] [] l.invariant.sent (sent_on _ _ _ _ _ _ [] [] c.hand_on.ensures.sent c.take_in.ensures.sent);
    }

pub returns-in-Line-clause-came : goal.returns-in-Line-clause-came
returns-in-Line-clause-came g c =
    let l = c.loop in
    let first = c.args.self.now in
    let takes = subst (Takes l.self.incoming c.take_line.new.self) c.in-Line.is c.in_ok-line.ensures in
    subst (FlowsTo (g.E.Ends.came first.ends) (g.E.Ends.came l.self.ends) first.incoming) takes.0 l.invariant.came
