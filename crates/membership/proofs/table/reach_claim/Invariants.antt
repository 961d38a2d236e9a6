use Rattle.std.proofs.Common.{◌≡◌, ℕ, ◌+◌, ◌-◌, ◌≤◌, max, length, sum_by, vec_len}
use Rattle.membership.specs.Columns.{claim_at, claim_weight, known_weight}
use Rattle.membership.specs.Held.{claims_in}
use Rattle.membership.proofs.table.reach_claim.Given as goal

abbrev pub invariant-loop-claims : goal.invariant-loop-claims
invariant-loop-claims l = record {
  same : (k : ℕ) → claim_at (claims_in l.claims.items) k ≡ claim_at (claims_in l.fn.claims.items) k;
  weight : sum_by claim_weight (claims_in l.claims.items) ≡ sum_by claim_weight (claims_in l.fn.claims.items);
  known : sum_by known_weight (claims_in l.claims.items) ≡ sum_by known_weight (claims_in l.fn.claims.items);
  bound : length l.claims.items ≤ max (length l.fn.claims.items) (l.place + 1);
}

abbrev pub decreases-loop-claims : goal.decreases-loop-claims
decreases-loop-claims l = l.place + 1 - vec_len l.claims
