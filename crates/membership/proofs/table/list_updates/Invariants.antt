use Rattle.std.proofs.Common.{◌≡◌, map, take}
use Rattle.membership.specs.Numbers.{numbers_of}
use Rattle.membership.specs.Table.{update_by}
use Rattle.membership.specs.Columns.{entries_from}
use Rattle.membership.specs.Held.{claims_in}
use Rattle.membership.proofs.table.list_updates.Given as goal

abbrev pub invariant-loop-number : goal.invariant-loop-number
invariant-loop-number l = l.updates.items ≡ map (update_by l.accuser) (entries_from 0 (claims_in (take l.number l.claims)) (numbers_of l.incs))
