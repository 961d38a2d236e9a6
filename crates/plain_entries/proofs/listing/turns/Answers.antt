use Rattle.std.proofs.Common.{◌≡◌, refl}
use Rattle.std.specs.List.Sorted.{IsSorted}
use Rattle.std.specs.Ordering.{nat_cmp}
use Rattle.plain_entries.specs.Who.{in_order}
use Rattle.plain_entries.proofs.InOrder.{sorted_is_in_order}
use Rattle.plain_entries.proofs.listing.turns.Goals as goal
use Rattle.plain_entries.proofs.listing.turns.Goals.{then-recurs+in_ok-sort, else-recurs}

pub returns-clause-made : goal.returns-clause-made
returns-clause-made c =
    elim c.if-recurs.branch [
      | then-recurs+in_ok-sort w ↦
          let sorted : IsSorted nat_cmp w.sort.new.self.items = w.in_ok-sort.ensures.sorted in
          let made : w.sort.new.self.items ≡ in_order c.args.members.items = sorted_is_in_order c.args.members.items w.sort.new.self.items w.sort.ensures.permutation sorted in
          rw (w.members-is, w.if-recurs.true) made
      | else-recurs w ↦ rw (w.members-is, w.if-recurs.false) refl
    ]
