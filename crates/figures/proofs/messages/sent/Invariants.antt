use Rattle.std.proofs.Common.{◌≡◌, take}
use Rattle.std.specs.Prelude.{sum_by}
use Rattle.reports.specs.Rows.{count_of}
use Rattle.figures.proofs.messages.sent.Given as goal

-- those of the kinds so far
abbrev pub invariant-loop-kind : goal.invariant-loop-kind
invariant-loop-kind l = l.sent ≡ sum_by (λ kind. count_of kind l.tallies) (take l.kind-index l.kinds)
