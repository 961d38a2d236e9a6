-- What a member that is down, or that waits, makes of an event: nothing.
use Rattle.std.proofs.Common.{◌≡◌, Bool, true, false, cond, refl, sym, ap, ◌∙◌}
use Rattle.std.proofs.lemmas.Bool.{false≢true}
use Rattle.base.specs.declared.profile.Profile.{Profile}
use Rattle.base.specs.declared.profile.Profile.TheVariants.{Papers, Memberlist, Hashicorp}
use Rattle.member.specs.Processes.{is_of_former_life, start_handled, restart_handled}
use Rattle.member_laws.specs.Words.{is_restart}
use Rattle.base.specs.declared.key.Key.{Key}
use Rattle.scenario.specs.Setup.{Setup}
use Rattle.member.specs.declared.member.Phase.TheVariants.{Waiting, Down}
use Rattle.member.specs.declared.event_kind.EventKind.{EventKind}
use Rattle.member.specs.declared.event_kind.EventKind.TheVariants.{Start, Crash, Leave, Restart, SettingTimer, ConnectedTimer, ReconnectTimer, ExitTimer, JoinTimer, PeriodTimer, TimeoutTimer, NackTimer, SuspicionTimer, Join, Welcome, Ping, PingReq, Ack, Nack, Bye, DeadlineTimer, GossipTimer, PushTimer, Call, Answer, Gossip, Push, Pull}
use Rattle.member.specs.State.{State}
use Rattle.member.specs.Effects.{Effect, unchanged}
use Rattle.scenario.specs.Profile.{profile_of}
use Rattle.member.specs.Step.{plain_handled, handled, handled_by, process_lived, step}

down : (s : Setup) (k : Key) (c : EventKind) (o : Effect) → handled s k c Down o ≡ o
unfolding handled plain_handled
down s k Start o = refl
down s k Crash o = refl
down s k JoinTimer o = refl
down s k PeriodTimer o = refl
down s k (TimeoutTimer seq) o = refl
down s k (NackTimer initiator seq) o = refl
down s k (SuspicionTimer subject) o = refl
down s k Join o = refl
down s k (Welcome entries) o = refl
down s k (Ping initiator seq updates) o = refl
down s k (PingReq target seq updates) o = refl
down s k (Ack initiator seq updates) o = refl
down s k (Nack seq) o = refl
down s k Leave o = refl
down s k Bye o = refl
down s k (DeadlineTimer seq) o = refl
down s k GossipTimer o = refl
down s k PushTimer o = refl
down s k (Call seq) o = refl
down s k (Answer seq) o = refl
down s k (Gossip updates) o = refl
down s k (Push entries) o = refl
down s k (Pull entries) o = refl
down s k (Restart contact) o = refl
down s k SettingTimer o = refl
down s k (ConnectedTimer to) o = refl
down s k ReconnectTimer o = refl
down s k ExitTimer o = refl

waiting : (s : Setup) (k : Key) (c : EventKind) (o : Effect) → ¬ (c ≡ Start) → handled s k c Waiting o ≡ o
unfolding handled plain_handled
waiting s k Start o other = absurd (other refl)
waiting s k Crash o other = refl
waiting s k JoinTimer o other = refl
waiting s k PeriodTimer o other = refl
waiting s k (TimeoutTimer seq) o other = refl
waiting s k (NackTimer initiator seq) o other = refl
waiting s k (SuspicionTimer subject) o other = refl
waiting s k Join o other = refl
waiting s k (Welcome entries) o other = refl
waiting s k (Ping initiator seq updates) o other = refl
waiting s k (PingReq target seq updates) o other = refl
waiting s k (Ack initiator seq updates) o other = refl
waiting s k (Nack seq) o other = refl
waiting s k Leave o other = refl
waiting s k Bye o other = refl
waiting s k (DeadlineTimer seq) o other = refl
waiting s k GossipTimer o other = refl
waiting s k PushTimer o other = refl
waiting s k (Call seq) o other = refl
waiting s k (Answer seq) o other = refl
waiting s k (Gossip updates) o other = refl
waiting s k (Push entries) o other = refl
waiting s k (Pull entries) o other = refl
waiting s k (Restart contact) o other = refl
waiting s k SettingTimer o other = refl
waiting s k (ConnectedTimer to) o other = refl
waiting s k ReconnectTimer o other = refl
waiting s k ExitTimer o other = refl

-- by memberlist 0.5.0's rules

either_same : (b : Bool) (o p : Effect) → p ≡ o → cond b o p ≡ o
either_same true o p same = refl
either_same false o p same = same

no_restart : (s : Setup) (k : Key) (c : EventKind) (o : Effect) → is_restart c ≡ false → restart_handled s k c o ≡ o
no_restart s k (Restart contact) o other = absurd (false≢true (sym other))
no_restart s k _ o other = refl

no_start : (s : Setup) (k : Key) (c : EventKind) (o : Effect) → ¬ (c ≡ Start) → start_handled s k c o ≡ o
no_start s k Start o other = absurd (other refl)
no_start s k _ o other = refl

down_by : (profile : Profile) (s : Setup) (k : Key) (c : EventKind) (o : Effect) → is_restart c ≡ false → handled_by Down profile s k c o ≡ o
unfolding process_lived
down_by Papers s k c o other = down s k c o
down_by Memberlist s k c o other = down s k c o
down_by Hashicorp s k c o other = either_same (is_of_former_life k c o.state.life.birth) o (restart_handled s k c o) (no_restart s k c o other)

down_before : (profile : Profile) (s : Setup) (k : Key) (c : EventKind) (o : Effect) → ¬ (profile ≡ Hashicorp) → handled_by Down profile s k c o ≡ o
down_before Papers s k c o older = down s k c o
down_before Memberlist s k c o older = down s k c o
down_before Hashicorp s k c o older = absurd (older refl)

waiting_by : (profile : Profile) (s : Setup) (k : Key) (c : EventKind) (o : Effect) → ¬ (c ≡ Start) → handled_by Waiting profile s k c o ≡ o
unfolding process_lived
waiting_by Papers s k c o other = waiting s k c o other
waiting_by Memberlist s k c o other = waiting s k c o other
waiting_by Hashicorp s k c o other = either_same (is_of_former_life k c o.state.life.birth) o (start_handled s k c o) (no_start s k c o other)

pub down_step : (s : Setup) (k : Key) (c : EventKind) (t : State) → t.phase ≡ Down → is_restart c ≡ false → step s k c t ≡ unchanged t
unfolding step
down_step s k c t is other = ap (λ phase. handled_by phase (profile_of s) s k c (unchanged t)) is ∙ down_by (profile_of s) s k c (unchanged t) other

pub down_for_good : (s : Setup) (k : Key) (c : EventKind) (t : State) → ¬ (profile_of s ≡ Hashicorp) → t.phase ≡ Down → step s k c t ≡ unchanged t
unfolding step
down_for_good s k c t older is = ap (λ phase. handled_by phase (profile_of s) s k c (unchanged t)) is ∙ down_before (profile_of s) s k c (unchanged t) older

pub waiting_step : (s : Setup) (k : Key) (c : EventKind) (t : State) → t.phase ≡ Waiting → ¬ (c ≡ Start) → step s k c t ≡ unchanged t
unfolding step
waiting_step s k c t is other = ap (λ phase. handled_by phase (profile_of s) s k c (unchanged t)) is ∙ waiting_by (profile_of s) s k c (unchanged t) other
