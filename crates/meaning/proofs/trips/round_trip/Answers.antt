use Rattle.meaning.proofs.Grouped.{within, group_there}
use Rattle.meaning.proofs.trips.round_trip.Goals as goal

pub bounds-groups-to : goal.bounds-groups-to
bounds-groups-to c = within c.args.scenario.now c.args.groups.now c.args.to c.requires.groups c.requires.receiver

pub there-requires-clause-group : goal.there-requires-clause-group
there-requires-clause-group c = group_there c.args.scenario.now c.args.groups.now c.args.to c.requires.groups c.requires.receiver

pub back-requires-clause-group : goal.back-requires-clause-group
back-requires-clause-group c = group_there c.args.scenario.now c.args.groups.now c.args.to c.requires.groups c.requires.receiver
