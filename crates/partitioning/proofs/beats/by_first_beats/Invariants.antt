use Rattle.std.proofs.Common.{◌≡◌, ◌<◌, ◌%◌, ℕ, All, Some, slice_get, vec_len}
use Rattle.partitioning.specs.Beats.{rank_of}
use Rattle.partitioning.proofs.beats.by_first_beats.Given as goal

-- each member so far is in the part that has its turn at the member's place
abbrev pub invariant-loop-member : goal.invariant-loop-member
invariant-loop-member l =
    (vec_len l.part_of ≡ l.member)
    × All (λ part. part < l.parts) l.part_of.items
    × ((m : ℕ) → m < l.member → (place : ℕ) × (slice_get l.ranks.items place ≡ Some (rank_of l.scenario m)) × (slice_get l.part_of.items m ≡ Some (place % l.parts)))
