use Rattle.std.proofs.Common.{◌≤◌, ◌+◌, ◌<◌, length, arith}
use Rattle.std.proofs.lemmas.List.Elements.{All-set, All-weaker}
use Rattle.partitioning.proofs.Counting.{one_more}
use Rattle.partitioning.proofs.folding.sizes_of.Goals as goal

pub loop-member-preserved : goal.loop-member-preserved
loop-member-preserved c =
    let parts = c.args.division.now.part_of in
    let sizes = c.loop-member.sizes.items in
    let part = c.part-part.result in
    let size = c.index_mut.result.now in
    let within : part < length sizes = omega (arith, c.part-part.ensures.below) in
    let before = c.loop-member.invariant.1 part size within in
    let bounded = All-set (λ n. n ≤ c.loop-member.member + 1) sizes part (size + 1) (omega (arith, before, c.index_mut.ensures.value))
    (All-weaker (λ n. n ≤ c.loop-member.member) (λ n. n ≤ c.loop-member.member + 1) (λ n low. omega arith) sizes c.loop-member.invariant.1) in (
      omega arith,
      bounded,
      λ p low. one_more parts sizes c.loop-member.member part size c.part-part.ensures.value within c.index_mut.ensures.value p (c.loop-member.invariant.2 p low),
    )
