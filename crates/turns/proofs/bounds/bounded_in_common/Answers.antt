use Rattle.std.proofs.Common.{◌+◌, ◌<◌, ◌≤◌, IfSome, subst, arith}
use Rattle.turns.proofs.Limits.{both_ok, in_common}
use Rattle.turns.proofs.bounds.bounded_in_common.Goals as goal

pub returns : goal.returns
returns g c =
    both_ok c.bound_all.result
    (λ bounded same all.
    in_common g.Q.EventQueue.set c.args.course.now c.requires.course c.args.parts.items c.args.first c.requires.first c.args.least_delay _ c.bound_after-bound.result bounded.items c.requires.least
    (omega (arith, c.ticks-last.ensures)) c.bound_after-bound.ensures.in_time (subst (λ t. IfSome c.args.least_delay (λ d. c.bound_after-bound.result ≤ t + d)) c.ticks.ensures c.bound_after-bound.ensures.near) (λ some. subst (λ t. t < c.bound_after-bound.result) c.ticks.ensures (c.bound_after-bound.ensures.past some)) same all)
    c.bound_all.ensures.parts c.bound_all.ensures.bounds
