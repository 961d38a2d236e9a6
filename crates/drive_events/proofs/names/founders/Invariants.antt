use Rattle.std.proofs.Common.{◌≡◌, ◌<◌, All, filter}
use Rattle.std.specs.List.{range_with_len}
use Rattle.scenario.specs.Setup.{member_count}
use Rattle.drive_events.specs.Start.{is_founder}
use Rattle.drive_events.proofs.names.founders.Given as goal

-- the founders so far
abbrev pub invariant-loop-number : goal.invariant-loop-number
invariant-loop-number l = record {
  all : l.list.items ≡ filter (is_founder l.scenario) (range_with_len 0 l.number);
  within : All (λ m. m < member_count l.scenario) l.list.items;
}
