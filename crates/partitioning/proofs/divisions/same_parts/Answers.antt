use Rattle.std.proofs.Common.{◌≡◌, ◌<◌, [], ◌∷◌, ◌++◌, arith}
use Rattle.std.proofs.lemmas.List.Elements.{All-push}
use Rattle.partitioning.proofs.Together.{next_too}
use Rattle.partitioning.proofs.divisions.same_parts.Goals as goal

pub loop-member-preserved : goal.loop-member-preserved
loop-member-preserved c =
    let deal = c.args.division.now in
    let so_far = c.loop-member.part_of.items in
    let after = c.push.new.self.items in
    let part = c.part-part.result in
    let pushed : after ≡ so_far ++ part ∷ [] = c.in_ok-push.ensures.items in (
      omega (arith, c.in_ok-push.ensures.len),
      rw pushed (All-push (λ p. p < deal.parts) so_far part c.loop-member.invariant.1 c.part-part.ensures.below),
      next_too deal.part_of so_far after part c.loop-member.member c.part-part.ensures.value pushed c.loop-member.invariant.2,
    )
