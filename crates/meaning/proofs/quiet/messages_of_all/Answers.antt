use Rattle.std.proofs.Common.{◌+◌, ap, sym, ◌∙◌, arith}
use Rattle.meaning.specs.Quiet.{messages_of, messages_below}
use Rattle.meaning.proofs.Sums.{sum_more}
use Rattle.meaning.proofs.quiet.messages_of_all.Goals as goal

pub loop-member-preserved : goal.loop-member-preserved
loop-member-preserved c =
    let s = c.args.scenario.now in
    let member = c.loop-member.member in
    record {
      value = ap (λ n. n + c.messages_of-sum.result) c.loop-member.invariant.value
          ∙ ap (λ n. messages_below s member + n) c.messages_of-sum.ensures.value
          ∙ sym (sum_more (messages_of s) member);
      few = omega (arith, c.loop-member.invariant.few, c.messages_of-sum.ensures.few);
    }
