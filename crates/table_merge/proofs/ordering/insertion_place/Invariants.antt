use Rattle.std.proofs.Common.{ℕ, ◌<◌, get_or}
use Rattle.table_merge.specs.declared.finding.Found.{Found}
use Rattle.table_merge.proofs.ordering.insertion_place.Given as goal

-- the tables so far begin before the seed
abbrev pub invariant-loop-place : goal.invariant-loop-place
invariant-loop-place l = (k : ℕ) (d : Found) → k < l.place → (get_or l.tables k d).seeds.first < l.seed
