-- Moments that are a whole number of intervals apart.
use Rattle.std.specs.Prelude.{◌≡◌, ℕ, ◌+◌, ◌-◌, ◌%◌, ◌<◌, ◌≤◌}

-- the first moment later than now that is a whole number of intervals from a beat
abbrev pub next_in_step : ℕ → ℕ → ℕ → ℕ
next_in_step beat interval now = now + interval - (now + interval - beat % interval) % interval

-- it is the least such moment
pub record IsNextInStep (beat interval now at : ℕ) : Type 0 where
  pub later : now < at
  pub in_step : at % interval ≡ beat % interval
  pub least : (other : ℕ) → now < other → other % interval ≡ beat % interval → at ≤ other
