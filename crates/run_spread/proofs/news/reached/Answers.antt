use Rattle.std.proofs.Common.{◌≡◌, map, ap, ◌∙◌, arith}
use Rattle.std.specs.Prelude.{count_by, nat_lt}
use Rattle.std.specs.List.{range_with_len}
use Rattle.run_spread.specs.Spread.{come_by, reached}
use Rattle.member_timelines.proofs.Steps.{map_more}
use Rattle.run_spread.proofs.news.reached.Goals as goal

pub loop-place-preserved : goal.loop-place-preserved
loop-place-preserved c =
    map_more (come_by c.args.times.now c.args.step) c.loop-place.place _ _ _ c.loop-place.invariant c.in_ok-push.ensures.items
    (c.come_before.ensures ∙ ap (λ end. count_by (λ time. nat_lt time end) c.args.times.now) c.saturating_mul.ensures)

pub returns : goal.returns
unfolding reached
returns c =
    let last : c.loop-place.place ≡ 120 = omega (arith, c.loop-place-test.false, c.loop-place.auto.place-end) in
    c.loop-place.invariant ∙ ap (λ n. map (come_by c.args.times.now c.args.step) (range_with_len 0 n)) last
