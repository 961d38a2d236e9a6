use Rattle.std.proofs.Common.{◌≡◌, ◌<◌, ℕ, [], ◌∷◌, ◌++◌, length, get_or, map, take, ap, ◌∙◌, arith}
use Rattle.std.proofs.lemmas.List.{take_all}
use Rattle.scenario.specs.Division.{Deal}
use Rattle.partitioning.proofs.Together.{one_more, below_too}
use Rattle.partitioning.proofs.folding.folded.Goals as goal

pub loop-member-preserved : goal.loop-member-preserved
loop-member-preserved c =
    let places = c.in_ok-places.places.items in
    let parts = c.args.division.now.part_of in
    let placed = c.loop-member.part_of.items in
    let after = c.push.new.self.items in
    let part = c.part-part.result in
    let place = c.index.result.now in
    let within : part < length places = omega (arith, c.part-part.ensures.below, c.in_ok-places.ensures.each) in
    let pushed : after ≡ placed ++ place ∷ [] = c.in_ok-push.ensures.items in (
      omega (arith, c.in_ok-push.ensures.len),
      below_too c.args.most places parts placed after part place within c.index.ensures pushed c.in_ok-places.ensures.below c.loop-member.invariant.1,
      one_more c.args.most places parts placed after part place within c.index.ensures pushed c.loop-member.member c.part-part.ensures.value c.loop-member.invariant.2,
    )

pub returns-clause-folded : goal.returns-clause-folded
returns-clause-folded c =
    let place_of : ℕ → ℕ = λ part. get_or c.in_ok-places.places.items part c.args.most in
    let parts = c.args.division.now.part_of in
    let all : take c.loop-member.member parts ≡ parts = take_all c.loop-member.member parts (omega (arith, c.loop-member-test.false, c.members-member-end.ensures.count, c.requires.divides)) in
    record {
      parts = ap (λ (deal : Deal). deal.parts) c.divided.ensures;
      place_of = place_of;
      whole = ap (λ (deal : Deal). deal.part_of) c.divided.ensures ∙ c.loop-member.invariant.2 ∙ ap (map place_of) all;
      even = c.in_ok-places.ensures.even;
    }
