-- What a member keeps.
use Rattle.std.specs.Prelude.{ℕ, Bool, false, not, Option, Some, None}
use Rattle.lifeguard.specs.declared.probe.Probe.{Probe}
use Rattle.lifeguard.specs.Health.{LocalHealth}
use Rattle.lifeguard.specs.Relays.{RelaySet}
use Rattle.piggyback.specs.Picked as piggyback
use Rattle.probing.specs.ProbeOrder.{ProbeOrder}
use Rattle.streams.specs.Draw.{Words}
use Rattle.suspicion.specs.Suspicions as suspicion
use Rattle.incarnation.specs.declared.Claim.{Claim}
use Rattle.membership.specs.Table.{Known, is_confirm}
use Rattle.membership.specs.Deaths.{Since}
use Rattle.lives.specs.Lives.{LifeState}
use Rattle.member.specs.declared.member.Phase.{Phase}

pub record State : Type 0 where
  pub phase : Phase
  -- the number of the next event that it makes
  pub next_number : ℕ
  -- the sequence number of its last probe
  pub sequence : ℕ
  -- its own incarnation number (SWIM, section 4.2)
  pub incarnation : ℕ
  -- whether it heard that it was confirmed to have failed
  pub heard_dead : Bool
  -- whether a probe that is still under way keeps the next one waiting; this and the next three are of memberlist's rules
  pub waits : Bool
  -- whether its gossip timer is set
  pub gossips : Bool
  -- the moment for which its first period timer was set, 0 before
  pub beat : ℕ
  -- since when it holds others as confirmed
  pub since : Since
  pub health : LocalHealth
  -- the probe of the present period
  pub probe : Option Probe
  -- what it holds of others
  pub table : Known
  -- the updates that are still to be sent
  pub buffer : piggyback.HeldUpdates
  -- whom to probe next
  pub rota : ProbeOrder
  pub suspicions : suspicion.HeldSuspicions
  -- the probes that it made for others and has not answered yet
  pub relays : RelaySet
  -- what it keeps through one life by memberlist 0.5.0's rules
  pub life : LifeState
  -- the words that are left of its stream
  pub words : Words

-- whether a member is probed that is held so: not where nothing is held of it, nor where it is confirmed
abbrev pub is_probed : Option (Claim × ℕ) → Bool
is_probed None = false
is_probed (Some held) = not (is_confirm held.0)
