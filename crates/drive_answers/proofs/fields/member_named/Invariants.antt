use Rattle.std.proofs.Common.{◌≡◌, ◌<◌, ℕ}
use Rattle.scenario.specs.Setup.{name_of}
use Rattle.drive_answers.proofs.fields.member_named.Given as goal

-- nobody so far has the name
abbrev pub invariant-loop-number : goal.invariant-loop-number
invariant-loop-number l = (m : ℕ) → m < l.number → ¬ (name_of l.scenario m ≡ l.name)
