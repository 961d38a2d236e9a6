-- The text's own restarts.
use Rattle.std.specs.Prelude.{◌≤◌, ℕ, ◌+◌, ◌*◌, ◌^◌, false, List, [], ◌∷◌}
use Rattle.streams.specs.Draw.{Words}
use Rattle.plain_entries.specs.declared.restarts.Restart.{Restart}
use Rattle.plain_entries.specs.declared.restarts.RestartTime.{RestartTime}
use Rattle.plain_entries.specs.Entries.{Timing}

-- the k-th member restarts k times `each` after the first
abbrev pub restart_times : RestartTime → ℕ → ℕ → Words → List Restart × Words
restart_times time k start words = (record { at = time.at + k * time.each; contact = time.contact } ∷ [], words)

abbrev pub restart_timing : Timing RestartTime Restart
restart_timing = record { recurs = λ time. false; times = restart_times }

-- what the format allows
pub record IsRestartTime (time : RestartTime) : Type 0 where
  pub at : time.at ≤ 2 ^ 40
  pub each : time.each ≤ 2 ^ 40
