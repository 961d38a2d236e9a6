use Rattle.std.proofs.Common.{◌≡◌, ◌+◌, ◌*◌, ◌≤◌, ◌^◌}
use Rattle.series.specs.Grid.{count_at}
use Rattle.member_timelines.specs.Heights.{level, heights}
use Rattle.member_timelines.proofs.counts.heights.Given as goal

-- the heights of the spans so far, and how many are in the state now
abbrev pub invariant-loop-span : goal.invariant-loop-span
invariant-loop-span l =
    record {
      made : l.heights.items ≡ heights (count_at l.flows.came l.state) (count_at l.flows.went l.state) l.span l.first l.most;
      before : l.before ≡ level (count_at l.flows.came l.state) (count_at l.flows.went l.state) l.first l.span;
      small : l.before ≤ l.first + l.span * 2 ^ 64;
    }
