use Rattle.std.proofs.Common.{◌≡◌, ℕ, ◌&&◌, not, nat_eq, List, map, filter, take}
use Rattle.membership.specs.Table.{is_alive}
use Rattle.membership.specs.Columns.{entries_from}
use Rattle.membership.specs.Held.{claims_in}
use Rattle.membership.proofs.table.list_alive_but.Given as goal

abbrev pub invariant-loop-number : goal.invariant-loop-number
invariant-loop-number l = (incs : List ℕ) → l.members.items ≡ map (λ e. e.0) (filter (λ e. is_alive e.1.0 && not (nat_eq e.0 l.member)) (entries_from 0 (claims_in (take l.number l.claims)) incs))
