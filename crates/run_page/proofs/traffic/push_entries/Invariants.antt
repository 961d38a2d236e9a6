use Rattle.std.proofs.Common.{◌≡◌, ◌++◌, take, flat_map}
use Rattle.std.specs.String.{string_bytes}
use Rattle.run_page.specs.Traffic.{kind_entry}
use Rattle.run_page.proofs.traffic.push_entries.Given as goal

-- the entries of the kinds so far
abbrev pub invariant-loop-kind : goal.invariant-loop-kind
invariant-loop-kind l = string_bytes l.text ≡ string_bytes l.initial.text ++ flat_map (kind_entry l.run.tallies.now) (take l.kind-index l.kinds)
