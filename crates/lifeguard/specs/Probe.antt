-- What comes of a probe (SWIM), and what its end says of the member that probed (LHA-Probe).
use Rattle.std.specs.Prelude.{◌≡◌, ℕ, zero, suc, ◌+◌, ◌-◌, ◌<◌, ◌≤◌, true, false, nat_lt, if◌then◌else◌}
use Rattle.lifeguard.specs.declared.probe.Probe.{Probe}
use Rattle.lifeguard.specs.Health.{LocalHealth, lowered, raised}

-- a probe that begins
abbrev pub fresh_probe : ℕ → ℕ → Probe
fresh_probe seq target =
    record { seq = seq; target = target; expected = 0; nacks = 0; acked = false; reached = false; number = 0; deadline = 0 }

-- after a nack: one more, up to 16
abbrev pub with_nack : Probe → Probe
with_nack p = record p { nacks = (if nat_lt p.nacks 16 then p.nacks + 1 else p.nacks) }

-- after a number of nacks
abbrev pub with_nacks : Probe → ℕ → Probe
with_nacks p zero = p
with_nacks p (suc n) = with_nack (with_nacks p n)

-- fewer nacks came than were expected
abbrev pub MissedNacks : Probe → Type 0
MissedNacks p = p.nacks < p.expected

-- a probe without an ack counts as one failure, and as two where it missed nacks
abbrev pub failures_of : Probe → ℕ
failures_of p = (if nat_lt p.nacks p.expected then 2 else 1)

-- the health after the end of a probe
abbrev pub after_probe : LocalHealth → Probe → LocalHealth
after_probe h p = (if p.acked then lowered h else raised h (failures_of p))

-- a probe without an ack, of a member whose ceiling leaves room for two more
abbrev pub FailsWithRoom : LocalHealth → Probe → Type 0
FailsWithRoom h p = (p.acked ≡ false) × (h.counter + 2 ≤ h.ceiling)

-- ---- by memberlist's rules

-- a probe that begins, of a target that the table holds at this number, with a moment at which it ends
abbrev pub timed_probe : ℕ → ℕ → ℕ → ℕ → Probe
timed_probe seq target number deadline = record (fresh_probe seq target) { number = number; deadline = deadline }

-- a call reached its target
abbrev pub with_reach : Probe → Probe
with_reach p = record p { reached = true }

-- a probe that failed counts as often as nacks that were expected did not come, and once where none was expected
abbrev pub misses_of : Probe → ℕ
misses_of p = (if nat_lt 0 p.expected then p.expected - p.nacks else 1)

-- the health after a probe that was still under way at its deadline
abbrev pub after_deadline : LocalHealth → Probe → LocalHealth
after_deadline h p = (if p.reached then lowered h else raised h (misses_of p))
