use Rattle.std.proofs.Common.{◌≡◌, ◌≤◌, length, take}
use Rattle.plain_entries.specs.Departures.{returns_of}
use Rattle.script_summary.proofs.summary.count_back.Given as goal

-- those so far are counted
abbrev pub invariant-loop-gone : goal.invariant-loop-gone
invariant-loop-gone l = (l.count ≡ length (returns_of (take l.gone-index l.entries))) × (l.count ≤ l.gone-index)
