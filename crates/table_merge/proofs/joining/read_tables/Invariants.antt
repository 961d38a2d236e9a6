use Rattle.std.proofs.Common.{take}
use Rattle.table_merge.specs.Tables.{AreRead}
use Rattle.table_merge.proofs.joining.read_tables.Given as goal

-- the first tables are read
abbrev pub invariant-loop-one : goal.invariant-loop-one
invariant-loop-one l = AreRead l.texts l.first.head.mark.now l.first.head.columns l.first.head.plan (take l.one-index l.found) l.tables.items
