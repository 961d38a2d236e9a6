use Rattle.std.proofs.Common.{ap, ◌∙◌}
use Rattle.std.specs.Prelude.{count_by, nat_lt}
use Rattle.scenario.specs.Setup.{member_count}
use Rattle.member_timelines.specs.Wrongly.{times_out}
use Rattle.run_summary.proofs.Counting.{count_same}
use Rattle.run_summary.proofs.summary.members_out.Goals as goal

pub returns : goal.returns
returns c =
    c.count_some.ensures ∙ ap (count_by (λ n. nat_lt 0 n)) c.as_slice.ensures.value
    ∙ count_same (λ n. nat_lt 0 n) (times_out c.args.run.now.scenario.now c.args.run.now.tallies.now) (member_count c.args.run.now.scenario.now) c.in_ok-wrongly.wrongly.items
    c.in_ok-wrongly.ensures.all c.in_ok-wrongly.ensures.counted
