use Rattle.std.proofs.Common.{◌≡◌, false, take, length}
use Rattle.std.specs.List.{list_any}
use Rattle.plain_entries.specs.Entries.{start_in}
use Rattle.written_entries.specs.Bad.{is_bad_departure}
use Rattle.written_entries.proofs.departures.first_bad_departure.Given as goal

abbrev pub invariant-loop-place : goal.invariant-loop-place
invariant-loop-place l = list_any (is_bad_departure (start_in l.starts) (length l.starts)) (take l.place l.entries) ≡ false
