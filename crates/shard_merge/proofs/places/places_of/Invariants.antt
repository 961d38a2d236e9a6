use Rattle.shard_merge.specs.Reasons.{ArePlaces}
use Rattle.shard_merge.proofs.places.places_of.Given as goal

-- the texts so far have their places
abbrev pub invariant-loop-place : goal.invariant-loop-place
invariant-loop-place l = ArePlaces l.texts l.head.mark.now l.head.columns l.head.plan l.head.shard.of l.places.items l.place
