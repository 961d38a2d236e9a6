use Rattle.std.proofs.Common.{◌≡◌, ◌*◌, ◌≤◌, ◌^◌}
use Rattle.series.specs.Grid.{count_at}
use Rattle.member_timelines.specs.Heights.{level}
use Rattle.run_page.specs.Health.{ends}
use Rattle.run_page.proofs.ends.ends.Given as goal

-- the numbers at the ends of the spans so far, and how many are in the state now
abbrev pub invariant-loop-span : goal.invariant-loop-span
invariant-loop-span l =
    record {
      made : l.ends.items ≡ ends (count_at l.flows.came l.state) (count_at l.flows.went l.state) l.span l.most;
      before : l.before ≡ level (count_at l.flows.came l.state) (count_at l.flows.went l.state) 0 l.span;
      small : l.before ≤ l.span * 2 ^ 64;
    }
