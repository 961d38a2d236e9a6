use Rattle.std.proofs.Common.{append_assoc, refl}
use Rattle.run_page.specs.Traffic.{traffic_table}
use Rattle.run_page.proofs.traffic.push_table.Goals as goal

pub returns : goal.returns
unfolding traffic_table
returns c = simp (c.in_ok-push_str-2.ensures.bytes, c.in_ok-push_spans.ensures, c.in_ok-push_all_columns.ensures, c.in_ok-push_str.ensures.bytes, append_assoc) refl
