use Rattle.windows.proofs.RowOrders.{part_rows_rise}
use Rattle.windows.proofs.laws.a_part_writes_in_row_order.Goals as goal

pub returns : goal.returns
returns c = λ s owns bound p after keys out rows sound run. part_rows_rise s sound owns bound keys p after out rows run
