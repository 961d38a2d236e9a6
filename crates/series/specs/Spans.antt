-- The spans into which the time of a run is divided.
use Rattle.std.specs.Prelude.{ℕ, ◌+◌, ◌/◌, min}
use Rattle.scenario.specs.Setup.{Setup}

-- the least width of which 120 spans hold the moments from 0 to the end: so there are 60 to 120 of them, or fewer where
-- there are fewer than 120 moments
abbrev pub span_width : Setup → ℕ
span_width s = (s.end + 120) / 120

-- the span of a moment, from 0, where spans are so wide; what comes later than all of them belongs to the last one
abbrev pub span_in : ℕ → ℕ → ℕ
span_in width at = min 119 (at / width)

-- the span of a moment of the scenario
abbrev pub span_at : Setup → ℕ → ℕ
span_at s at = span_in (span_width s) at

-- how many spans the moments from 0 to the end take
abbrev pub span_count : Setup → ℕ
span_count s = s.end / span_width s + 1
