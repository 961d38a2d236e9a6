use Rattle.std.proofs.Common.{◌≡◌, ◌++◌, take, flat_map}
use Rattle.std.specs.String.{string_bytes}
use Rattle.run_page.specs.Traffic.{column}
use Rattle.run_page.proofs.traffic.push_columns.Given as goal

-- the columns of the kinds so far
abbrev pub invariant-loop-kind : goal.invariant-loop-kind
invariant-loop-kind l = string_bytes l.text ≡ string_bytes l.initial.text ++ flat_map (column l.run.tallies.now) (take l.kind-index l.kinds)
