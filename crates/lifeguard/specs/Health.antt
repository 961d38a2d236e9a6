-- Lifeguard's local health multiplier (LHA-Probe), and what changes it.
use Rattle.std.specs.Prelude.{ℕ, ◌+◌, ◌-◌, ◌*◌, min, List, [], ◌∷◌}

-- a counter, 0 in full health, and the ceiling that it doesn't pass
pub record LocalHealth : Type 0 where
  pub counter : ℕ
  pub ceiling : ℕ

-- no sign of a slow member yet
abbrev pub full_health : ℕ → LocalHealth
full_health ceiling = record { counter = 0; ceiling = ceiling }

-- after a probe that was answered: one less, not below 0
abbrev pub lowered : LocalHealth → LocalHealth
lowered h = record h { counter = h.counter - 1 }

-- after a number of failures: one more for each, not above the ceiling. A failure is a failed probe,
-- nacks that were missed in one, or a suspicion of the member itself that it refuted
abbrev pub raised : LocalHealth → ℕ → LocalHealth
raised h failures = record h { counter = min (h.counter + failures) h.ceiling }

-- a time of the protocol, multiplied by the counter plus 1
abbrev pub scaled : LocalHealth → ℕ → ℕ
scaled h base = base * (h.counter + 1)

-- what a member learns of its health: a probe was answered, or something failed
pub data Sign : Type 0 where
  answered : Sign
  failed : Sign

-- the health after a list of signs
abbrev pub after_signs : LocalHealth → List Sign → LocalHealth
after_signs h [] = h
after_signs h (answered ∷ signs) = after_signs (lowered h) signs
after_signs h (failed ∷ signs) = after_signs (raised h 1) signs
