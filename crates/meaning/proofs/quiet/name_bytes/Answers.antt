use Rattle.std.proofs.Common.{◌+◌, min, length, ap, sym, ◌∙◌, arith}
use Rattle.meaning.specs.Quiet.{name_bytes, names_below}
use Rattle.meaning.proofs.Sums.{sum_more}
use Rattle.meaning.proofs.quiet.name_bytes.Goals as goal

pub loop-member-preserved : goal.loop-member-preserved
loop-member-preserved c =
    let s = c.args.scenario.now in
    let member = c.loop-member.member in
    record {
      value = ap (λ n. n + c.min.result) c.loop-member.invariant.value
          ∙ ap (λ n. names_below s member + n) (c.min.ensures ∙ ap (λ bytes. min (length bytes) 38) c.name.ensures.value)
          ∙ sym (sum_more (name_bytes s) member);
      few = omega (arith, c.loop-member.invariant.few, c.min.ensures);
    }
