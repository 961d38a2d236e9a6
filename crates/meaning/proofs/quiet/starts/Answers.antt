use Rattle.std.proofs.Common.{◌+◌, ap, sym, ◌∙◌, arith}
use Rattle.meaning.specs.Quiet.{starts_of, starts_below}
use Rattle.meaning.proofs.Sums.{sum_more}
use Rattle.meaning.proofs.quiet.starts.Goals as goal

pub loop-member-preserved : goal.loop-member-preserved
loop-member-preserved c =
    let s = c.args.scenario.now in
    let member = c.loop-member.member in
    record {
      value = ap (λ n. n + c.starts_of-sum.result) c.loop-member.invariant.value
          ∙ ap (λ n. starts_below s member + n) c.starts_of-sum.ensures.value
          ∙ sym (sum_more (starts_of s) member);
      few = omega (arith, c.loop-member.invariant.few, c.starts_of-sum.ensures.few);
    }
