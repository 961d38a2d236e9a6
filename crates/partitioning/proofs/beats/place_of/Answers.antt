use Rattle.partitioning.proofs.Beating.{found, never_absent}
use Rattle.partitioning.proofs.beats.place_of.Goals as goal

pub unreachable-requires : goal.unreachable-requires
unreachable-requires c = never_absent c.args.scenario.now c.args.ranks.now c.args.member c.rank.result c.requires.member c.rank.ensures c.requires.all c.requires.rises c.binary_search.result c.in-Err.field-0 c.binary_search.ensures.position c.in-Err.is

pub returns : goal.returns
returns c = found c.args.scenario.now c.args.ranks.now c.args.member c.rank.result c.requires.member c.rank.ensures c.requires.all c.requires.rises c.binary_search.result c.in-Ok.place c.binary_search.ensures.position c.in-Ok.is
