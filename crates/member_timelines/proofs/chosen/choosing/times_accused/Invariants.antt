use Rattle.std.proofs.Common.{◌≡◌, min, sum_by}
use Rattle.std.specs.List.{range_with_len}
use Rattle.member_timelines.specs.Choice.{accused_in, most_of_all}
use Rattle.member_timelines.proofs.chosen.choosing.times_accused.Given as goal

-- the times of the spans so far
abbrev pub invariant-loop-span : goal.invariant-loop-span
invariant-loop-span l = l.times ≡ min (sum_by (accused_in l.run.scenario.now l.run.tallies.now l.member) (range_with_len 0 l.span)) most_of_all
