-- The order of rows agrees with the order of the events that wrote them.
use Rattle.std.specs.declared.cmp.Ordering.{Ordering}
use Rattle.trace.specs.declared.row.Row.{Row}
use Rattle.trace.specs.contracts.row.RowOrd.TheImpl.Laws.{total-law}
use Rattle.trace.specs.contracts.row.RowOrd.TheImpl.{ghosts}
use Rattle.windows.specs.Cluster.{IsRowOrder}
use Rattle.windows.proofs.Order.{by_place}

abbrev pub cmp : Row → Row → Ordering
cmp = ghosts.cmp

pub row_order : IsRowOrder cmp
row_order = record { total = total-law; agrees = λ a b before. by_place a b _ before }
