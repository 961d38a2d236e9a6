use Rattle.std.proofs.Common.{◌≡◌, ◌+◌, ◌-◌, get_or, map, take}
use Rattle.table_merge.specs.Seeds.{AreInTurn}
use Rattle.table_merge.specs.declared.finding.Found.{Found}
use Rattle.table_merge.proofs.ordering.seeds_of_all.Given as goal

-- the tables so far follow one another, up to the last of them
abbrev pub invariant-loop-place : goal.invariant-loop-place
invariant-loop-place l = record {
  at : (d : Found) → l.last ≡ get_or l.tables (l.place - 1) d;
  turn : AreInTurn l.first (map (λ (f : Found). f.seeds) (take l.place l.tables)) (l.last.seeds.last + 1);
}
