use Rattle.trace.specs.contracts.row.RowOrd.TheImpl.Laws.{total-law}
use Rattle.windows.proofs.Order.{by_place}
use Rattle.windows.proofs.laws.rows_are_in_order_of_places.Goals as goal

pub returns : goal.returns
returns c = record { total = total-law; agrees = λ a b before. by_place a b _ before }
