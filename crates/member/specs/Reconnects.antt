-- How those that failed are tried again (Serf, serf.go: reconnect, reap): each about once in the time between two tries of a member, by the whole cluster.
use Rattle.std.specs.Prelude.{ℕ, ◌+◌, nat_lt, if◌then◌else◌, length, slice_index, List, [], ◌∷◌, Option, Some, None}
use Rattle.base.specs.declared.key.Key.{Key}
use Rattle.scenario.specs.Setup.{Setup, member_count}
use Rattle.scenario.specs.declared.settings.Serf.{Serf}
use Rattle.streams.specs.Draw.{below_of}
use Rattle.trace.specs.declared.row.What.TheVariants as what
use Rattle.membership.specs.Table.{live_count}
use Rattle.lives.specs.Regards.{failed_among, reaped}
use Rattle.member.specs.declared.event_kind.EventKind.TheVariants.{ReconnectTimer}
use Rattle.member.specs.State.{State}
use Rattle.member.specs.Effects.{Effect, on_state, with_event}
use Rattle.member.specs.Connections.{with_words, dial_drawn, dial_done, dialed}

-- those that failed too long ago are tried no more
abbrev pub failures_reaped : ℕ → ℕ → State → State
failures_reaped now ticks t = record t { life = record t.life { regards = λ m. reaped now ticks (t.life.regards m) } }

-- the next try, so long after this one is done
abbrev pub next_try_set : Setup → Key → Serf → ℕ → Effect → Effect
next_try_set s k serf done o = with_event s k (done + serf.reconnect) k.to ReconnectTimer o

-- a connection is opened to a member that failed
unfoldable pub failed_dialed : Setup → Key → Serf → ℕ → Effect → Effect
failed_dialed s k serf to o =
    let drawn = dial_drawn s k to o.state in
    next_try_set s k serf (dial_done s k drawn.0) (dialed s k what.Reconnect to drawn.0 (on_state (with_words drawn.1) o))

-- to one of these, by chance
abbrev pub one_dialed : Setup → Key → Serf → List ℕ → Effect → Effect
one_dialed s k serf failed o =
    let place = below_of o.state.words (length failed) in
    failed_dialed s k serf (slice_index failed place.0) (on_state (with_words place.1) o)

-- whether one of them is tried at all, by chance: the more surely the fewer members are up beside those that failed
abbrev pub failed_tried : Setup → Key → Serf → List ℕ → Effect → Effect
failed_tried s k serf failed o =
    let chance = below_of o.state.words (live_count o.state.table) in
    let drawn = on_state (with_words chance.1) o in
    if nat_lt chance.0 (length failed) then one_dialed s k serf failed drawn else next_try_set s k serf k.at drawn

abbrev pub any_tried : Setup → Key → Serf → List ℕ → Effect → Effect
any_tried s k serf [] o = next_try_set s k serf k.at o
any_tried s k serf (m ∷ failed) o = failed_tried s k serf (m ∷ failed) o

-- One of those that failed is tried.
unfoldable pub reconnect_due : Setup → Key → Option Serf → Effect → Effect
reconnect_due s k None o = o
reconnect_due s k (Some serf) o =
    let reaped = on_state (failures_reaped k.at serf.reap) o in
    any_tried s k serf (failed_among (member_count s) reaped.state.life.regards) reaped
