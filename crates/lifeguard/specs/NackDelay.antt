-- When a helper answers by a nack (LHA-Probe).
use Rattle.std.specs.Prelude.{ℕ, ◌*◌, ◌/◌, max}

-- a share of the probe timeout, in percent and rounded down, and at least one tick
abbrev pub nack_delay_of : ℕ → ℕ → ℕ
nack_delay_of nack_percent timeout = max 1 (nack_percent * timeout / 100)
