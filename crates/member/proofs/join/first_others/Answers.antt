use Rattle.std.proofs.Common.{◌≡◌, ◌≤◌, ap, ◌∙◌, ◌&&◌, not, nat_eq, filter, arith}
use Rattle.scenario.specs.Setup.{member_count, start_of}
use Rattle.std.specs.List.{range_with_len}
use Rattle.member.specs.Step.{is_first_other, first_others}
use Rattle.member.proofs.Openings.{others_next}
use Rattle.member.proofs.join.first_others.Goals as goal

pub loop-number-preserved : goal.loop-number-preserved
loop-number-preserved c =
    let s = c.args.scenario.now in
    let number = c.loop-number.number in
    let here : number ≤ number = omega arith in
    let starts : c.run_at-run.result.is_first ≡ nat_eq (start_of s number) 0 = c.run_at-run.ensures.known number here c.run_at-run.ensures.within in
    record {
      others = others_next (is_first_other s c.args.oneself) number _ _ c.is_kept-keep.result c.loop-number.invariant.others
          (c.is_kept-keep.ensures ∙ ap (λ b. b && not (nat_eq number c.args.oneself)) starts) c.in_ok-push_if.ensures;
      known = λ k above below. c.run_at-run.ensures.known k (omega (arith, above)) below;
    }

pub returns-clause-others : goal.returns-clause-others
unfolding first_others
returns-clause-others c =
    let s = c.args.scenario.now in
    let all : c.loop-number.number ≡ member_count s = omega (arith, c.members-number-end.ensures.count, c.loop-number.auto.number-end, c.loop-number-test.false) in
    c.loop-number.invariant.others ∙ ap (λ n. filter (is_first_other s c.args.oneself) (range_with_len 0 n)) all
