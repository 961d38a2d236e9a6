use Rattle.std.proofs.Common.{◌≡◌, filter_map}
use Rattle.std.specs.List.{range_with_len}
use Rattle.member_timelines.specs.Choice.{choice}
use Rattle.member_timelines.proofs.chosen.choosing.unordered.Given as goal

-- those so far
abbrev pub invariant-loop-number : goal.invariant-loop-number
invariant-loop-number l = l.all.items ≡ filter_map (choice l.run.scenario.now l.run.tallies.now) (range_with_len 0 l.number)
