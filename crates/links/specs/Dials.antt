-- How a connection is opened by memberlist 0.5.0's rules (net.go: sendAndReceiveState): by a trip to the receiver and one back, which the systems make
-- also for a process that doesn't run, within a limit of time.
use Rattle.std.specs.Prelude.{ℕ, ◌+◌, nat_le, if◌then◌else◌, Option, Some, None}
use Rattle.streams.specs.Draw.{Words}
use Rattle.scenario.specs.Setup.{Setup}
use Rattle.links.specs.Trips.{trip_of, and_then}

-- a moment that isn't over the limit
abbrev pub up_to : ℕ → Option ℕ × Words → Option ℕ × Words
up_to most (None, words) = (None, words)
up_to most (Some at, words) = (if nat_le at most then Some at else None, words)

-- A dial: when the connection is there, if it is within so many ticks.
unfoldable pub dial_of : Setup → ℕ → ℕ → ℕ → ℕ → Words → Option ℕ × Words
dial_of s from to now limit words =
    let begun = trip_of s from to now s.stream.connect words in
    up_to (now + limit) (and_then (λ there. trip_of s to from there s.stream.connect) begun)
