use Rattle.table_merge.specs.Found.{AreFound}
use Rattle.table_merge.proofs.finding.tables_of.Given as goal

-- the texts so far are tables
abbrev pub invariant-loop-place : goal.invariant-loop-place
invariant-loop-place l = AreFound l.texts l.first.head.mark.now l.first.head.columns l.first.head.plan l.tables.items l.place
