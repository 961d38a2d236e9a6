use Rattle.std.proofs.Common.{take}
use Rattle.std.specs.Prelude.{All}
use Rattle.table_merge.specs.Found.{ShareSeed}
use Rattle.table_merge.specs.declared.finding.Found.{Found}
use Rattle.table_merge.proofs.ordering.sharing.Given as goal

-- the tables so far have no such seed
abbrev pub invariant-loop-found : goal.invariant-loop-found
invariant-loop-found l = All (λ (f : Found). ¬ (ShareSeed f.seeds l.seeds)) (take l.found-index l.tables)
