use Rattle.series.proofs.series.follow_health.Goals as goal

pub returns-then-eq-clause-kept : goal.returns-then-eq-clause-kept
returns-then-eq-clause-kept c member room = c.follow.ensures.kept member 17 room
