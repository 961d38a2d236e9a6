use Rattle.std.proofs.Common.{◌<◌, map}
use Rattle.std.proofs.lemmas.List.Elements.{All-same}
use Rattle.trace.specs.declared.row.What.TheVariants as what
use Rattle.scenario.specs.Setup.{member_count}
use Rattle.incidents.specs.Returns.{returns_of}
use Rattle.reports.specs.Absences.{with_others_left, absences_of}
use Rattle.reports.proofs.Accounting.{absent_members, returned_members}
use Rattle.reports.proofs.reporting.account_text.Goals as goal

pub push_absences-requires-clause-crashes : goal.push_absences-requires-clause-crashes
push_absences-requires-clause-crashes c =
    All-same (λ crash. crash.member < member_count c.args.scenario.now) c.args.account.now.crashes.items (absences_of what.Crash (map with_others_left c.args.tallies.now)) c.requires.account.crashes
    (absent_members c.args.scenario.now what.Crash c.args.tallies.now c.requires.named)

pub push_absences-requires-clause-leaves : goal.push_absences-requires-clause-leaves
push_absences-requires-clause-leaves c =
    All-same (λ leave. leave.member < member_count c.args.scenario.now) c.args.account.now.leaves.items (absences_of what.Leave (map with_others_left c.args.tallies.now)) c.requires.account.leaves
    (absent_members c.args.scenario.now what.Leave c.args.tallies.now c.requires.named)

pub push_absences-requires-clause-returns : goal.push_absences-requires-clause-returns
push_absences-requires-clause-returns c =
    All-same (λ r. r.member < member_count c.args.scenario.now) c.args.account.now.returns.items (returns_of (member_count c.args.scenario.now) c.args.tallies.now) c.requires.account.returns
    (returned_members c.args.scenario.now (member_count c.args.scenario.now) c.args.tallies.now c.requires.named)
