use Rattle.std.proofs.Common.{◌≡◌, ◌++◌, flat_map}
use Rattle.std.specs.String.{string_bytes}
use Rattle.std.specs.List.{range_with_len}
use Rattle.run_spread.specs.Spread.{watched_crash}
use Rattle.run_spread.proofs.spread.push_crashes.Given as goal

-- what is shown of those so far
abbrev pub invariant-loop-number : goal.invariant-loop-number
invariant-loop-number l = string_bytes l.text ≡ string_bytes l.initial.text ++ flat_map (watched_crash l.run.tick l.run.scenario.now l.run.tallies.now l.step) (range_with_len 0 l.number)
