-- Gossip by memberlist 0.5.0's and Serf's rules: as long as claims or intents are left to send. The next round comes once what this one sends has departed.
use Rattle.std.specs.Prelude.{◌-◌, true, false, if◌then◌else◌, Option, Some, None}
use Rattle.base.specs.Beats.{next_in_step}
use Rattle.base.specs.declared.key.Key.{Key}
use Rattle.scenario.specs.Setup.{Setup}
use Rattle.scenario.specs.declared.settings.Gossip.{Gossip}
use Rattle.member.specs.declared.event_kind.EventKind.TheVariants.{GossipTimer}
use Rattle.member.specs.Effects.{Effect, on_state, with_event}
use Rattle.member.specs.Blocks.{departs_at}
use Rattle.member.specs.Riding.{is_all_told}
use Rattle.member.specs.Choices.{gossip_spread}

-- the next round of gossip
abbrev pub next_round_set : Setup → Key → Gossip → Effect → Effect
next_round_set s k gossip o =
    with_event s k (next_in_step (o.state.beat - 1) gossip.interval (departs_at s k)) k.to GossipTimer (on_state (λ t. record t { gossips = true }) o)

-- where anything is left to send
abbrev pub round_set_again : Setup → Key → Gossip → Effect → Effect
round_set_again s k gossip o = if is_all_told s o.state then o else next_round_set s k gossip o

-- a round of gossip, where there is anything to send
abbrev pub whole_round : Setup → Key → Gossip → Effect → Effect
whole_round s k gossip o = if is_all_told s o.state then o else round_set_again s k gossip (gossip_spread s k gossip o)

-- Claims and intents go out by themselves.
abbrev pub whole_gossip_due : Setup → Key → Option Gossip → Effect → Effect
whole_gossip_due s k None o = o
whole_gossip_due s k (Some gossip) o = whole_round s k gossip (on_state (λ t. record t { gossips = false }) o)
