use Rattle.std.proofs.Common.{◌<◌}
use Rattle.std.proofs.lemmas.List.Elements.{All-same}
use Rattle.trace.specs.declared.row.What.TheVariants as what
use Rattle.scenario.specs.Setup.{member_count}
use Rattle.reports.specs.Departures.{crashes_of, leaves_of}
use Rattle.reports.proofs.Places.{departed_are_members}
use Rattle.reports.proofs.reporting.text_of.Goals as goal

pub push_crashes-requires : goal.push_crashes-requires
push_crashes-requires c =
    All-same (λ crash. crash.member < member_count c.args.scenario.now) c.crashes.result.now (crashes_of c.args.tallies.now) c.crashes.ensures
    (departed_are_members c.args.scenario.now what.Crash c.args.tallies.now c.requires)

pub push_leaves-requires : goal.push_leaves-requires
push_leaves-requires c =
    All-same (λ leave. leave.member < member_count c.args.scenario.now) c.leaves.result.now (leaves_of c.args.tallies.now) c.leaves.ensures
    (departed_are_members c.args.scenario.now what.Leave c.args.tallies.now c.requires)
