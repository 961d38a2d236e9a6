use Rattle.std.proofs.Common.{◌≡◌, ◌++◌, take, flat_map}
use Rattle.std.specs.String.{string_bytes}
use Rattle.reports.specs.Text.{message_line}
use Rattle.reports.proofs.text.push_messages.Given as goal

-- the lines of the kinds so far
abbrev pub invariant-loop-kind : goal.invariant-loop-kind
invariant-loop-kind l = string_bytes l.text ≡ string_bytes l.initial.text ++ flat_map (message_line l.tallies) (take l.kind-index l.kinds)
