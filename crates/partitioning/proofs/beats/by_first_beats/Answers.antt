use Rattle.std.proofs.Common.{◌≡◌, ◌%◌, ◌<◌, ◌≤◌, Some, map, slice_get, subst, ap, ◌∙◌, arith}
use Rattle.std.proofs.lemmas.List.Elements.{All-push}
use Rattle.scenario.specs.Setup.{member_count}
use Rattle.scenario.specs.Division.{Deal}
use Rattle.partitioning.specs.Beats.{rank_of}
use Rattle.partitioning.proofs.Beating.{at_rank, beats_rise, member_of, members_all, one_placed}
use Rattle.partitioning.proofs.beats.by_first_beats.Goals as goal

pub loop-member-preserved : goal.loop-member-preserved
loop-member-preserved c =
    let ranks = c.in_ok-ranks.ranks.items in
    let so_far = c.loop-member.part_of.items in
    let place = c.place_of-place.result in
    let pushed = c.in_ok-push.ensures.items in (
      omega (arith, c.in_ok-push.ensures.len),
      rw pushed (All-push (λ part. part < c.args.parts) so_far (place % c.args.parts) c.loop-member.invariant.1 (omega (arith, c.requires.few.0))),
      one_placed c.args.scenario.now ranks c.args.parts so_far c.push.new.self.items c.loop-member.member place (omega (arith, c.loop-member.invariant.0)) (subst (λ xs. slice_get xs place ≡ Some (rank_of c.args.scenario.now c.loop-member.member)) c.deref.ensures.value c.place_of-place.ensures) pushed c.loop-member.invariant.2,
    )

pub returns-clause-in_order : goal.returns-clause-in_order
returns-clause-in_order c =
    let s = c.args.scenario.now in
    let few : member_count s ≤ 16384 = omega (arith, c.members-member-end.ensures.count, c.members-member-end.ensures.at_most_16384) in
    let ranks = c.in_ok-ranks.ranks.items in
    let all = c.in_ok-ranks.ensures.all in
    record {
      count = ap (λ (deal : Deal). deal.parts) c.divided.ensures;
      order = map member_of ranks;
      all = members_all s few ranks all;
      rises = beats_rise s few ranks all c.in_ok-ranks.ensures.rises;
      turn = λ m low.
          let own = c.loop-member.invariant.2 m (omega (arith, low, c.loop-member-test.false, c.members-member-end.ensures.count)) in
          (own.0, at_rank s few ranks all m own.0 low own.1, ap (λ (deal : Deal). slice_get deal.part_of m) c.divided.ensures ∙ own.2);
    }
