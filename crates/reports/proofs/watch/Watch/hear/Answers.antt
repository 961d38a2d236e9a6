use Rattle.std.proofs.Common.{◌++◌, ◌∷◌, [], map, subst}
use Rattle.reports.specs.Held.{AreRevivalsOf}
use Rattle.reports.specs.Absences.{with_left, with_others_left}
use Rattle.reports.specs.Away.{AreAbsencesOf}
use Rattle.reports.proofs.Keeping.{on_ok}
use Rattle.reports.proofs.Watching.{few_read, watched_more}
use Rattle.reports.proofs.watch.Watch.hear.Goals as goal

pub follow-requires : goal.follow-requires
follow-requires c = (map with_others_left c.requires.kept.0, c.requires.kept.1.absences, few_read with_others_left c.requires.kept.0 c.requires.kept.2)

pub follow_revival-requires : goal.follow_revival-requires
follow_revival-requires c = (map with_left c.requires.kept.0, c.requires.kept.1.revivals, few_read with_left c.requires.kept.0 c.requires.kept.2)

pub add-requires-clause-kept : goal.add-requires-clause-kept
add-requires-clause-kept c = (c.requires.kept.0, c.requires.kept.1.incidents)

pub returns : goal.returns
returns c =
    on_ok c.add.result (λ added rows are. watched_more _ rows c.args.row.now
    (subst (λ r. AreAbsencesOf c.follow.new.self (map with_others_left rows ++ r ∷ [])) c.with_others_left-of_others.ensures (c.in_ok-follow.ensures (map with_others_left rows) are.absences))
    (subst (λ r. AreRevivalsOf c.follow_revival.new.revivals (map with_left rows ++ r ∷ [])) c.with_left-of_all.ensures (c.in_ok-follow_revival.ensures (map with_left rows) are.revivals))
    (added rows are.incidents)) c.add.ensures.ok
