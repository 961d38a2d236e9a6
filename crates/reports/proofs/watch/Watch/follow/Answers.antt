use Rattle.std.proofs.Common.{◌∙◌, sym}
use Rattle.reports.proofs.Keeping.{on_ok}
use Rattle.reports.proofs.Watching.{watched_nothing}
use Rattle.reports.proofs.watch.Watch.follow.Goals as goal

pub add-requires-clause-kept : goal.add-requires-clause-kept
add-requires-clause-kept c = (c.requires.kept.0, c.requires.kept.1.incidents)

pub returns-then-reports_nothing : goal.returns-then-reports_nothing
returns-then-reports_nothing c =
    on_ok c.add.result (λ added rows are.
    watched_nothing c.args.self.now _ rows c.args.row.now (sym c.reports_nothing.ensures ∙ c.if-reports_nothing.true) are (added rows are.incidents)) c.add.ensures.ok
