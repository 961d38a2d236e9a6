use Rattle.std.proofs.Common.{◌≡◌, ◌+◌, [], length, take, sum_by}
use Rattle.membership.specs.Columns.{entries_from, claim_weight, known_weight}
use Rattle.membership.specs.Table.{known_of, all_alive}
use Rattle.membership.specs.Held.{claims_in}
use Rattle.membership.proofs.table.hold_alive.Given as goal

abbrev pub invariant-loop-member : goal.invariant-loop-member
invariant-loop-member l = record {
  held : known_of (entries_from 0 (claims_in l.claims.items) []) ≡ all_alive (take l.member-index l.members);
  long : length l.claims.items ≡ length l.fn.claims.items;
  counted : l.count ≡ sum_by claim_weight (claims_in l.claims.items) + 1;
  all : l.count ≡ sum_by known_weight (claims_in l.claims.items) + 1;
}
