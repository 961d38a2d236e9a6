use Rattle.std.proofs.Common.{rules}
use Rattle.trace.specs.contracts.row.RowOrd.TheImpl.Laws.{total-law}
use Rattle.trace.specs.contracts.row.RowOrd.TheImpl.{ghosts}
use Rattle.windows.proofs.Order.{by_place}
use Rattle.turns.proofs.RowOrders.{in_order_already}
use Rattle.turns.proofs.rows.in_row_order.Goals as goal

pub returns-then-ordered : goal.returns-then-ordered
returns-then-ordered g c =
    in_order_already ghosts.cmp total-law (λ a b before. by_place a b _ before) c.args.rows.items (search rules)

pub returns : goal.returns
returns g c = (
  ghosts.cmp,
  record { total = total-law; agrees = λ a b before. by_place a b _ before },
  c.sort.ensures.same,
  c.in_ok-sort.ensures.sorted,
)
