use Rattle.std.proofs.Common.{◌≡◌, ◌++◌, take, flat_map}
use Rattle.std.specs.String.{string_bytes}
use Rattle.reports.specs.Text.{crash_line}
use Rattle.reports.proofs.text.push_crashes.Given as goal

-- the lines of the crashes so far
abbrev pub invariant-loop-crash : goal.invariant-loop-crash
invariant-loop-crash l = string_bytes l.text ≡ string_bytes l.initial.text ++ flat_map (crash_line l.scenario) (take l.crash-index l.crashes)
