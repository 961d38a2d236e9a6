use Rattle.std.proofs.Common.{◌≡◌, ◌++◌, take}
use Rattle.reports.proofs.tallies.Tallies.add_all.Given as goal

-- the rows so far are added
abbrev pub invariant-loop-row : goal.invariant-loop-row
invariant-loop-row l = l.self ≡ l.fn.self ++ take l.row-index l.rows
