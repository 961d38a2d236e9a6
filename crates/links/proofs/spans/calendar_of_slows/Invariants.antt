use Rattle.std.proofs.Common.{◌≡◌, ℕ, true, take}
use Rattle.std.specs.List.{list_any}
use Rattle.scenario.specs.Setup.{is_slow}
use Rattle.scenario.specs.Calendar.{may_be_in}
use Rattle.links.proofs.spans.calendar_of_slows.Given as goal

-- the slow times so far are noted
abbrev pub invariant-loop-slow : goal.invariant-loop-slow
invariant-loop-slow l = (m t : ℕ) → list_any (is_slow m t) (take l.slow-index l.slows) ≡ true → may_be_in l.calendar m t ≡ true
