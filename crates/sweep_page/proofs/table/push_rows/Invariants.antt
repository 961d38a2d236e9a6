use Rattle.std.proofs.Common.{◌≡◌, ◌++◌}
use Rattle.std.specs.List.{flat_map, range_with_len}
use Rattle.std.specs.String.{string_bytes}
use Rattle.sweep_page.specs.Table.{row_at}
use Rattle.sweep_page.proofs.table.push_rows.Given as goal

abbrev pub invariant-loop-place : goal.invariant-loop-place
invariant-loop-place l = string_bytes l.text ≡ string_bytes l.fn.text ++ flat_map (row_at l.time l.crashed l.counted l.plan.swept_keys l.settings l.front) (range_with_len 0 l.place)
