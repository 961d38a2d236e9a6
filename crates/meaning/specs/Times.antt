-- The times of a member by its health.
use Rattle.std.specs.Prelude.{ℕ, ◌+◌, ◌*◌, if◌then◌else◌}
use Rattle.base.specs.declared.profile.Profile.{Profile}
use Rattle.base.specs.declared.profile.Profile.TheVariants.{Papers, Memberlist, Hashicorp}
use Rattle.scenario.specs.Setup.{Setup}
use Rattle.scenario.specs.Profile.{profile_of}
use Rattle.lifeguard.specs.Health.{LocalHealth, scaled}
use Rattle.meaning.specs.declared.times.Pace.{Pace}

-- without LHA-Probe health stays full
abbrev pub worst_health : Setup → ℕ
worst_health s = if s.lifeguard.probe then s.lifeguard.ceiling else 0

-- the health whose counter stands so
abbrev pub health_at : Setup → ℕ → LocalHealth
health_at s counter = record { counter = counter; ceiling = s.lifeguard.ceiling }

-- how many times the timeout is taken of a member whose health counter stands so: by memberlist's rules bad health doesn't lengthen it
abbrev pub timeouts_at : Profile → ℕ → ℕ
timeouts_at Papers counter = counter + 1
timeouts_at Memberlist counter = 1
timeouts_at Hashicorp counter = 1

-- the period scaled by that health, and the timeout as the version has it
abbrev pub pace_at : Setup → ℕ → Pace
pace_at s counter = record { period = scaled (health_at s counter) s.swim.period; timeout = s.swim.timeout * timeouts_at (profile_of s) counter }
