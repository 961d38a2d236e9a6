-- How a member leaves by memberlist 0.5.0's and Serf's rules (memberlist.go: Leave; Serf, serf.go: Leave): with Serf it tells others first that it is about to leave, then that it has left,
-- each until that was sent as often as any update is; then it goes on for a while, and ends. Meanwhile it goes on with all else.
use Rattle.std.specs.Prelude.{ℕ, ◌&&◌, Bool, true, false, not, nat_lt, if◌then◌else◌, Option, Some, None}
use Rattle.std.specs.Option.{is_some}
use Rattle.std.specs.FinMap.{contains_key}
use Rattle.base.specs.declared.key.Key.{Key}
use Rattle.scenario.specs.Setup.{Setup}
use Rattle.scenario.specs.declared.settings.Serf.{Serf}
use Rattle.trace.specs.declared.row.What.TheVariants as what
use Rattle.incarnation.specs.declared.Claim.TheVariants.{Left, Intent}
use Rattle.incarnation.specs.declared.Update.{Update}
use Rattle.membership.specs.Table.{live_count}
use Rattle.lives.specs.declared.leaving.Leaving.{Leaving}
use Rattle.lives.specs.declared.leaving.Leaving.TheVariants.{Intends, Says, Lingers}
use Rattle.lives.specs.Lives.{does_stay, does_intend, does_say}
use Rattle.member.specs.declared.event_kind.EventKind.TheVariants.{ExitTimer}
use Rattle.member.specs.declared.member.Phase.{Phase}
use Rattle.member.specs.declared.member.Phase.TheVariants.{Waiting, Joining, Running, Down}
use Rattle.member.specs.State.{State}
use Rattle.member.specs.Effects.{Effect, on_state, with_row, with_timer}
use Rattle.member.specs.Intents.{with_intent}
use Rattle.member.specs.News.{gossip_set, with_put}
use Rattle.member.specs.Riding.{is_claim_held}
use Rattle.member.specs.Choices.{downed}

-- whether anybody else is held to be up, or suspected
abbrev pub is_anybody_up : State → Bool
is_anybody_up t = nat_lt 1 (live_count t.table)

-- the leave is so far
abbrev pub with_leaving : Leaving → State → State
with_leaving leaving t = record t { life = record t.life { leaving = leaving } }

-- one's own word that one is about to leave
abbrev pub own_intent : ℕ → Update
own_intent me = record { subject = me; claim = Intent; inc = 0; accuser = me }

-- one's own word that one has left, at one's own number
abbrev pub own_left : ℕ → ℕ → Update
own_left me number = record { subject = me; claim = Left; inc = number; accuser = me }

-- how long a member goes on that has told others that it has left
abbrev pub linger_of : Option Serf → ℕ
linger_of None = 1
linger_of (Some serf) = serf.linger

-- It goes on for a while.
abbrev pub lingered : Setup → Key → Effect → Effect
lingered s k o = with_timer s k (linger_of s.serf) ExitTimer (on_state (with_leaving Lingers) o)

-- It tells others that it has left, if there are any.
unfoldable pub left_said : Setup → Key → Effect → Effect
left_said s k o =
    let told = with_row k what.Left (Some k.to) o.state.incarnation false (on_state (with_leaving Says) o) in
    if is_anybody_up told.state then with_put s k (own_left k.to told.state.incarnation) told else lingered s k told

-- it tells others that it is about to leave
abbrev pub leave_intended : Setup → Key → Effect → Effect
leave_intended s k o = gossip_set s k s.gossip (on_state (λ t. with_intent (own_intent k.to) (with_leaving Intends t)) o)

abbrev pub leave_told : Setup → Key → Effect → Effect
leave_told s k o = if is_some s.serf && is_anybody_up o.state then leave_intended s k o else left_said s k o

-- A member leaves, unless it leaves already.
unfoldable pub leave_begun : Setup → Key → Effect → Effect
leave_begun s k o = if does_stay o.state.life.leaving then leave_told s k (with_row k what.Leave None 0 false o) else o

-- one that was about to leave says that it has left, once it has told that often enough
abbrev pub intent_sent : Setup → Key → Effect → Effect
intent_sent s k o =
    if does_intend o.state.life.leaving && not (contains_key o.state.life.intents k.to) then left_said s k o else o

-- one that said that it has left lingers, once it has told that often enough
abbrev pub left_sent : Setup → Key → Effect → Effect
left_sent s k o = if does_say o.state.life.leaving && not (is_claim_held s.queue k.to o.state) then lingered s k o else o

abbrev pub is_running : Phase → Bool
is_running Waiting = false
is_running Joining = false
is_running Running = true
is_running Down = false

-- The end of each event of a member that runs: its leave goes on.
unfoldable pub leave_gone_on : Setup → Key → Effect → Effect
leave_gone_on s k o = if is_running o.state.phase then left_sent s k (intent_sent s k o) else o

-- A member that has left ends.
unfoldable pub exited : Key → Effect → Effect
exited k o = on_state downed (with_row k what.Exit None 0 false o)
