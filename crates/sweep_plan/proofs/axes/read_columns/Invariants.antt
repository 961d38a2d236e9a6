use Rattle.std.proofs.Common.{length, take}
use Rattle.decimals.specs.Items.{list_items}
use Rattle.sweep_plan.specs.Asked.{AreColumns}
use Rattle.sweep_plan.proofs.axes.read_columns.Given as goal

abbrev pub invariant-loop-place : goal.invariant-loop-place
invariant-loop-place l = AreColumns (length l.keys) (take l.place l.keys) (list_items l.list) l.axis.items
