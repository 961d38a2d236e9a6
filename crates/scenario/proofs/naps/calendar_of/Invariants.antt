use Rattle.std.proofs.Common.{◌≡◌, ℕ, true, take}
use Rattle.std.specs.List.{list_any}
use Rattle.scenario.specs.Setup.{is_in_pause}
use Rattle.scenario.specs.Calendar.{may_be_in}
use Rattle.scenario.proofs.naps.calendar_of.Given as goal

abbrev pub invariant-loop-pause : goal.invariant-loop-pause
invariant-loop-pause l = (m t : ℕ) → list_any (is_in_pause m t) (take l.pause-index l.pauses) ≡ true → may_be_in l.calendar m t ≡ true
