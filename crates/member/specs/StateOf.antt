-- What a member in memory, and the effects of its step, stand for.
use Rattle.std.specs.Prelude.{map}
use Rattle.base.specs.declared.key.Key.{Key}
use Rattle.membership.specs.Deaths.{since_of}
use Rattle.streams.specs.Draw.{words_of}
use Rattle.lives.specs.Lives.{life_of}
use Rattle.member.specs.declared.event_kind.EventKind.{EventKind}
use Rattle.member.specs.declared.event.Effects.{Effects}
use Rattle.member.specs.declared.event.Event.{Event}
use Rattle.member.specs.declared.member.Member.{Member}
use Rattle.member.specs.State.{State}
use Rattle.member.specs.Effects.{Effect}

-- the state of a member in memory
abbrev pub state_of : Member → State
state_of m = record {
  phase = m.phase;
  next_number = m.next_number;
  sequence = m.sequence;
  incarnation = m.incarnation;
  heard_dead = m.heard_dead;
  waits = m.waits;
  gossips = m.gossips;
  beat = m.beat;
  since = since_of m.deaths;
  health = m.health;
  probe = m.probe;
  table = m.table;
  buffer = m.buffer;
  rota = m.rota;
  suspicions = m.suspicions;
  relays = m.relays;
  life = life_of m.life;
  words = words_of m.stream;
}

-- an event as the pair of its key and its content
abbrev pub pair_of : Event → Key × EventKind
pair_of e = (e.key, e.content)

-- what a member and the effects of its step have made so far
abbrev pub effect_of : Member → Effects → Effect
effect_of m effects = record { state = state_of m; events = map pair_of effects.events.items; rows = effects.rows.items }
