use Rattle.std.proofs.Common.{◌≡◌, ◌+◌, ◌-◌, length, ap, sym, ◌∙◌, arith}
use Rattle.std.proofs.lemmas.List.FromFn.{length-map-range_with_len}
use Rattle.series.specs.Grid.{count_at}
use Rattle.member_timelines.proofs.Levels.{level_more}
use Rattle.run_page.specs.Health.{end_height}
use Rattle.run_page.proofs.SpanEnds.{ends_more}
use Rattle.run_page.proofs.ends.ends.Goals as goal

pub loop-span-preserved : goal.loop-span-preserved
loop-span-preserved c =
    let came = count_at c.args.flows.now.came c.args.state in
    let went = count_at c.args.flows.now.went c.args.state in
    let span = c.loop-span.span in
    let next : c.after-next.result ≡ c.loop-span.before + came span - went span =
    c.after-next.ensures ∙ ap (λ x. c.loop-span.before + x - c.went.result) c.came-came.ensures ∙ ap (λ x. c.loop-span.before + came span - x) c.went.ensures in
    record {
      made =
          c.in_ok-push.ensures.items
          ∙ ends_more came went c.args.most span c.loop-span.before c.after-next.result c.at_most.result c.loop-span.ends.items c.loop-span.invariant.made
          c.loop-span.invariant.before next c.at_most.ensures;
      before = next ∙ ap (λ b. b + came span - went span) c.loop-span.invariant.before ∙ sym (level_more came went 0 span);
      small = omega (arith, c.after-next.ensures, c.came-came.type_inv, c.loop-span.invariant.small);
    }

pub returns-clause-all : goal.returns-clause-all
returns-clause-all c =
    ap length c.loop-span.invariant.made
    ∙ length-map-range_with_len (end_height (count_at c.args.flows.now.came c.args.state) (count_at c.args.flows.now.went c.args.state) c.args.most) 0 c.loop-span.span
    ∙ omega (arith, c.loop-span-test.false, c.loop-span.auto.span-end)
