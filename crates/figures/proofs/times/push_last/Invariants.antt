use Rattle.std.proofs.Common.{◌≡◌, ◌++◌, take}
use Rattle.std.specs.List.{filter_map}
use Rattle.figures.specs.Settings.{last_in}
use Rattle.figures.proofs.times.push_last.Given as goal

-- the times of the crashes so far are added
abbrev pub invariant-loop-crash : goal.invariant-loop-crash
invariant-loop-crash l = l.times.items ≡ l.fn.times.items ++ filter_map last_in (take l.crash-index l.crashes)
