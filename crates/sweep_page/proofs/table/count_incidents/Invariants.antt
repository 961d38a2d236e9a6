use Rattle.std.proofs.Common.{◌≡◌, false, take}
use Rattle.std.specs.List.{list_any}
use Rattle.sweep_page.specs.Table.{counts_incidents}
use Rattle.sweep_page.proofs.table.count_incidents.Given as goal

-- none so far counts them
abbrev pub invariant-loop-setting : goal.invariant-loop-setting
invariant-loop-setting l = list_any counts_incidents (take l.setting-index l.settings) ≡ false
