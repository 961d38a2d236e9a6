-- What becomes of a probe, one's own or one for another member, whatever the rules of memberlist's version.
use Rattle.std.specs.Prelude.{ℕ, Bool, false, nat_eq, nat_lt, if◌then◌else◌, Option, Some, None}
use Rattle.std.specs.FinMap.{get}
use Rattle.std.specs.FinSet as set
use Rattle.base.specs.declared.key.Key.{Key}
use Rattle.scenario.specs.Setup.{Setup}
use Rattle.trace.specs.declared.row.What.TheVariants as what
use Rattle.incarnation.specs.declared.Claim.{Claim}
use Rattle.incarnation.specs.declared.Claim.TheVariants.{Suspect}
use Rattle.lifeguard.specs.declared.probe.Probe.{Probe}
use Rattle.lifeguard.specs.NackDelay.{nack_delay_of}
use Rattle.lifeguard.specs.Probe.{after_deadline}
use Rattle.member.specs.declared.event_kind.EventKind.TheVariants.{NackTimer}
use Rattle.member.specs.declared.announce.Announce.TheVariants.{Aloud}
use Rattle.membership.specs.Table.{is_confirm}
use Rattle.member.specs.Effects.{Effect, on_state, with_row, with_timer}
use Rattle.member.specs.Send.{nack_sent}
use Rattle.member.specs.Apply.{with_health, applied}

-- whether this is the number of the probe that is under way
abbrev pub is_under_way : ℕ → Option Probe → Bool
is_under_way seq None = false
is_under_way seq (Some probe) = nat_eq probe.seq seq

-- whether a probe is under way whose deadline is still to come
abbrev pub has_time : ℕ → Option Probe → Bool
has_time now None = false
has_time now (Some probe) = nat_lt now probe.deadline

-- whom a failed probe suspects: the target at the number at which it was held when the probe began, if the table does not hold it as confirmed now
abbrev pub suspected_at : Setup → Key → Probe → Option (Claim × ℕ) → Effect → Effect
suspected_at s k probe None o = o
suspected_at s k probe (Some held) o =
    if is_confirm held.0 then o else applied s Aloud k (record { subject = probe.target; claim = Suspect; inc = probe.number; accuser = k.to }) o

-- A probe that nothing reached has failed.
unfoldable pub timed_probe_failed : Setup → Key → Probe → Effect → Effect
timed_probe_failed s k probe o =
    let told = with_row k what.Fail (Some probe.target) probe.seq false o in
    let weighed = with_health k (after_deadline told.state.health probe) told in
    suspected_at s k probe (get weighed.state.table probe.target) weighed

-- A probe that is still under way ends. One that a call reached is good; else it has failed.
unfoldable pub probe_settled : Setup → Key → Option Probe → Effect → Effect
probe_settled s k None o = o
probe_settled s k (Some probe) o =
    let ended = on_state (λ t. record t { probe = None }) o in
    if probe.reached then with_health k (after_deadline ended.state.health probe) ended else timed_probe_failed s k probe ended

-- LHA-Probe: a helper owes the initiator an answer: the ack that it passes on, or a nack once the nack delay is over.
abbrev pub with_relay : Setup → Key → ℕ → Effect → Effect
with_relay s k seq o =
    with_timer s k (nack_delay_of s.lifeguard.nack_percent s.swim.timeout) (NackTimer k.from seq)
    (on_state (λ t. record t { relays = set.insert t.relays (k.from, seq) }) o)

-- The target has not answered the helper in time (LHA-Probe).
unfoldable pub nack_due : Setup → Key → ℕ → ℕ → Effect → Effect
nack_due s k initiator seq o =
    if set.contains o.state.relays (initiator, seq)
    then nack_sent s k initiator seq (on_state (λ t. record t { relays = set.remove t.relays (initiator, seq) }) o)
    else o
