use Rattle.std.proofs.Common.{◌≡◌, ◌++◌, take, flat_map}
use Rattle.std.specs.String.{string_bytes}
use Rattle.reports.specs.Text.{return_line}
use Rattle.reports.proofs.return_text.push_returns.Given as goal

-- the lines of the restarts so far
abbrev pub invariant-loop-told : goal.invariant-loop-told
invariant-loop-told l = string_bytes l.text ≡ string_bytes l.initial.text ++ flat_map (return_line l.scenario) (take l.told-index l.returns)
