use Rattle.series.proofs.Flowing.{same_flows}
use Rattle.series.proofs.flows.Flows.make_room.Goals as goal

pub returns-clause-same : goal.returns-clause-same
returns-clause-same c between changes are = same_flows between c.args.self.now _ changes c.make_places.ensures.same c.make_room.ensures.same c.make_room-2.ensures.same are
