use Rattle.std.proofs.Common.{◌≡◌, ◌+◌, ◌-◌, length, min, ap, sym, ◌∙◌, arith}
use Rattle.std.proofs.lemmas.List.FromFn.{length-map-range_with_len}
use Rattle.series.specs.Grid.{count_at}
use Rattle.member_timelines.specs.Heights.{height, shown}
use Rattle.member_timelines.proofs.Levels.{heights_more, level_more}
use Rattle.member_timelines.proofs.counts.heights.Goals as goal

pub loop-span-preserved : goal.loop-span-preserved
loop-span-preserved c =
    let came = count_at c.args.flows.now.came c.args.state in
    let went = count_at c.args.flows.now.went c.args.state in
    let span = c.loop-span.span in
    let next : c.after-next.result ≡ c.loop-span.before + came span - went span =
    c.after-next.ensures ∙ ap (λ x. c.loop-span.before + x - c.went.result) c.came-came.ensures ∙ ap (λ x. c.loop-span.before + came span - x) c.went.ensures in
    let is : c.shown.result ≡ min (shown (came span) c.after-next.result) c.args.most =
    c.shown.ensures ∙ ap (λ x. min (shown x c.after-next.result) c.args.most) c.came-came.ensures in
    record {
      made =
          c.in_ok-push.ensures.items
          ∙ heights_more came went c.args.first c.args.most span c.loop-span.before c.after-next.result c.shown.result c.loop-span.heights.items c.loop-span.invariant.made
          c.loop-span.invariant.before next is;
      before = next ∙ ap (λ b. b + came span - went span) c.loop-span.invariant.before ∙ sym (level_more came went c.args.first span);
      small = omega (arith, c.after-next.ensures, c.came-came.type_inv, c.loop-span.invariant.small);
    }

pub returns-clause-all : goal.returns-clause-all
returns-clause-all c =
    ap length c.loop-span.invariant.made
    ∙ length-map-range_with_len (height (count_at c.args.flows.now.came c.args.state) (count_at c.args.flows.now.went c.args.state) c.args.first c.args.most) 0 c.loop-span.span
    ∙ omega (arith, c.loop-span-test.false, c.loop-span.auto.span-end)
