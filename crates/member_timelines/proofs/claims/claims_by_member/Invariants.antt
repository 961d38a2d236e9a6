use Rattle.std.proofs.Common.{◌≡◌, ℕ, ◌<◌, length, take}
use Rattle.std.specs.Prelude.{count_by, slice_index}
use Rattle.member_timelines.specs.Wrongly.{is_claim_about}
use Rattle.member_timelines.proofs.claims.claims_by_member.Given as goal

-- the claims so far are counted, at a place for each member
abbrev pub invariant-loop-claim : goal.invariant-loop-claim
invariant-loop-claim l =
    record {
      all : length l.counts.items ≡ l.members;
      counted : (m : ℕ) → m < l.members → slice_index l.counts.items m ≡ count_by (is_claim_about m) (take l.claim-index l.claims);
    }
