use Rattle.std.proofs.Common.{◌≡◌, ◌++◌, take, flat_map}
use Rattle.std.specs.String.{string_bytes}
use Rattle.run_settings.specs.Events.{cut_entry}
use Rattle.run_settings.proofs.events.push_cuts.Given as goal

-- those so far
abbrev pub invariant-loop-cut : goal.invariant-loop-cut
invariant-loop-cut l = string_bytes l.text ≡ string_bytes l.initial.text ++ flat_map (cut_entry l.scenario) (take l.cut-index l.cuts)
