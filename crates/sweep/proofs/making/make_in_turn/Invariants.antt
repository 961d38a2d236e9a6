use Rattle.std.proofs.Common.{◌≤◌, ◌-◌, max}
use Rattle.std.specs.List.{AllZip, range_with_len}
use Rattle.toml.specs.View.{view}
use Rattle.sweep.specs.Table.{IsMadeOf}
use Rattle.sweep.proofs.making.make_in_turn.Given as goal

-- the first runs of the share were made
abbrev pub invariant-loop-number : goal.invariant-loop-number
invariant-loop-number g l = record {
  low : l.fn.share.from ≤ l.number;
  high : l.number ≤ max l.fn.share.from l.fn.share.till;
  made : AllZip (IsMadeOf (view l.document) l.plan l.key) (range_with_len l.fn.share.from (l.number - l.fn.share.from)) l.runs.items;
}
