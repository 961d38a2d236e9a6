use Rattle.std.proofs.Common.{◌≡◌, ◌++◌}
use Rattle.std.specs.List.{flat_map, range_with_len}
use Rattle.std.specs.String.{string_bytes}
use Rattle.sweep_page.specs.Question.{open_item_at}
use Rattle.sweep_page.proofs.question.push_each_open.Given as goal

abbrev pub invariant-loop-place : goal.invariant-loop-place
invariant-loop-place l = string_bytes l.text ≡ string_bytes l.fn.text ++ flat_map (open_item_at l.plan.swept_keys l.wants l.settings) (range_with_len 0 l.place)
