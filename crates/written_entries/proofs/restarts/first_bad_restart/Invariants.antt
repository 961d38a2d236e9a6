use Rattle.std.proofs.Common.{◌≡◌, false, take}
use Rattle.std.specs.List.{list_any}
use Rattle.plain_entries.specs.Entries.{start_in}
use Rattle.written_entries.specs.Bad.{is_bad_restart}
use Rattle.written_entries.proofs.restarts.first_bad_restart.Given as goal

abbrev pub invariant-loop-place : goal.invariant-loop-place
invariant-loop-place l = list_any (is_bad_restart (start_in l.starts)) (take l.place l.entries) ≡ false
