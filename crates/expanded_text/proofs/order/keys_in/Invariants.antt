use Rattle.std.proofs.Common.{◌≡◌, ◌++◌}
use Rattle.toml.specs.View.{table_view}
use Rattle.schema.specs.Tree.{keys_in}
use Rattle.plain_document.specs.Order.{words}
use Rattle.expanded_text.proofs.order.keys_in.Given as goal

-- those so far, and those that are left
abbrev pub invariant-loop-key : goal.invariant-loop-key
invariant-loop-key l = words l.made.items ++ words l.key-iterator ≡ keys_in (table_view l.table)
