use Rattle.std.proofs.Common.{◌≡◌, ℕ, true, take}
use Rattle.std.specs.List.{list_any}
use Rattle.scenario.specs.Setup.{cuts_off}
use Rattle.scenario.specs.Calendar.{may_be_in}
use Rattle.links.specs.Entries.{pair_number}
use Rattle.links.proofs.outages.calendar_of_cuts.Given as goal

-- the cuts so far are noted
abbrev pub invariant-loop-cut : goal.invariant-loop-cut
invariant-loop-cut l = (from to t : ℕ) → list_any (cuts_off from to t) (take l.cut-index l.cuts) ≡ true → may_be_in l.calendar (pair_number from to) t ≡ true
