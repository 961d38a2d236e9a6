use Rattle.std.proofs.Common.{◌≡◌, ◌-◌, ◌^◌, min, take, sum_by}
use Rattle.reports.specs.Rows.{losses_of}
use Rattle.run_page.proofs.traffic.lost.Given as goal

-- those of the kinds so far
abbrev pub invariant-loop-kind : goal.invariant-loop-kind
invariant-loop-kind l = l.all ≡ min (sum_by (λ kind. losses_of kind l.run.tallies.now) (take l.kind-index l.kinds)) (2 ^ 64 - 1)
