-- A counter past its limit stays so through what a process does (memberlist 0.5.0's and Serf's rules), and so through every step.
use Rattle.std.proofs.Common.{◌≡◌, ℕ, ◌+◌, ◌<◌, ◌^◌, ◌&&◌, nat_eq, nat_lt, Bool, true, false, cond, List, [], ◌∷◌, length, Option, Some, None, ap, sym, subst, refl, arith, inl, inr}
use Rattle.std.specs.Option.{is_some}
use Rattle.std.proofs.lemmas.Bool.{lt-ltb}
use Rattle.base.specs.declared.key.Key.{Key}
use Rattle.base.specs.declared.profile.Profile.{Profile}
use Rattle.base.specs.declared.profile.Profile.TheVariants.{Papers, Memberlist, Hashicorp}
use Rattle.scenario.specs.Setup.{Setup, start_of, contact_of, member_count}
use Rattle.scenario.specs.Profile.{profile_of}
use Rattle.scenario.specs.declared.settings.Gossip.{Gossip}
use Rattle.scenario.specs.declared.settings.Serf.{Serf}
use Rattle.streams.specs.Draw.{below_of}
use Rattle.trace.specs.declared.row.What.TheVariants as what
use Rattle.incarnation.specs.declared.Update.{Update}
use Rattle.membership.specs.Table.{live_count, size_by}
use Rattle.lives.specs.Lives.{does_stay}
use Rattle.lives.specs.Regards.{failed_among}
use Rattle.lives.specs.declared.leaving.Leaving.TheVariants.{Says, Intends}
use Rattle.member.specs.declared.member.Phase.{Phase}
use Rattle.member.specs.declared.member.Phase.TheVariants.{Waiting, Joining, Running, Down}
use Rattle.member.specs.declared.event_kind.EventKind.{EventKind}
use Rattle.member.specs.declared.event_kind.EventKind.TheVariants.{Start, Crash, Leave, Restart, SettingTimer, ConnectedTimer, ReconnectTimer, ExitTimer, JoinTimer, PeriodTimer, TimeoutTimer, NackTimer, SuspicionTimer, Join, Welcome, Ping, PingReq, Ack, Nack, Bye, DeadlineTimer, GossipTimer, PushTimer, Call, Answer, Push, Pull}
use Rattle.member.specs.declared.event_kind.EventKind.TheVariants as event
use Rattle.member.specs.State.{State}
use Rattle.member.specs.Opening.{opening_state}
use Rattle.member.specs.Effects.{Effect, unchanged, on_state, with_row, with_event, with_timer}
use Rattle.member.specs.Send.{pull_sent}
use Rattle.member.specs.Connections.{with_words, dial_drawn, dial_done, dialed, push_dialed}
use Rattle.member.specs.Beginnings.{contact_reached, alone_begun, pushes_set, founder_begun, latecomer_begun, process_started, past_limit, reborn, restarted}
use Rattle.member.specs.DialedPushes.{push_opened, push_opened_to, dialed_push, dialed_push_due}
use Rattle.member.specs.Merges.{push_merged}
use Rattle.member.specs.Leaves.{is_anybody_up, with_leaving, own_left, left_said, leave_intended, leave_told, leave_begun, lingered, exited}
use Rattle.member.specs.Reconnects.{failures_reaped, next_try_set, failed_dialed, one_dialed, failed_tried, any_tried, reconnect_due}
use Rattle.member.specs.WholeGossip.{whole_round, whole_gossip_due}
use Rattle.member.specs.Riding.{is_all_told}
use Rattle.member.specs.Choices.{gossip_spread}
use Rattle.member.specs.Processes.{is_of_former_life, pull_merged, start_handled, restart_handled}
use Rattle.member.specs.Step.{began, process_handled, phase_handled, process_lived, phase_timed, handled_by, step}
use Rattle.member.specs.CounterOverflow.{IsOverflowed}
use Rattle.member.proofs.CounterOverflow.{kept_row, kept_event, kept_timer, kept_put, kept_push, kept_pull, kept_gossip_set}
use Rattle.member.proofs.ProcessOverflow.{kept_asked, kept_setting, kept_reconnect, kept_founders_reconnect, kept_table, kept_gone_on, kept_round_again}
use Rattle.member_laws.specs.Words.{WaitsAsOpened}
use Rattle.turns.proofs.Wearing.{either_overflow, kept_began, kept_handled, kept_timed, kept_single, kept_spread}

-- a number past its limit stays so through a restart
number_stays : (number : ℕ) → 2 ^ 63 < number → 2 ^ 63 < past_limit number
number_stays number past = subst (λ (b : Bool). 2 ^ 63 < cond b number 0) (sym (lt-ltb (2 ^ 63) number past)) past

kept_reborn : (s : Setup) (m : ℕ) (contact : Option ℕ) (t : State) → IsOverflowed t → IsOverflowed (reborn s m contact t)
kept_reborn s m contact t overflow =
    elim overflow [ inl h ↦ inl h | inr more ↦ elim more [ inl h ↦ inr (inl h) | inr h ↦ inr (inr (number_stays t.incarnation h)) ] ]

module _ (s : Setup) (k : Key) where
  -- ---- beginnings

  kept_alone : (contact : Option ℕ) (o : Effect) → IsOverflowed o.state → IsOverflowed (alone_begun s k contact o).state
  unfolding alone_begun
  kept_alone contact o overflow = kept_asked s k contact _ (kept_reconnect s k s.serf _ (kept_setting s k s.gossip _ (kept_timer s k _ _ _ overflow)))

  kept_founder : (o : Effect) → ¬ (2 ^ 63 < o.state.incarnation) → IsOverflowed o.state → IsOverflowed (founder_begun s k o).state
  kept_founder o within overflow = kept_founders_reconnect s k s.serf (began s k o) (kept_began s k o within overflow)

  kept_latecomer : (contact : Option ℕ) (o : Effect) → IsOverflowed o.state → IsOverflowed (latecomer_begun s k contact o).state
  kept_latecomer contact o overflow = kept_alone contact _ overflow

  kept_process_started : (o : Effect) → ¬ (2 ^ 63 < o.state.incarnation) → IsOverflowed o.state → IsOverflowed (process_started s k o).state
  unfolding process_started with_row
  kept_process_started o within overflow =
      let told : Effect = with_row k what.Start None 0 false o in
      either_overflow (nat_eq (start_of s k.to) 0) (founder_begun s k told) (latecomer_begun s k (contact_of s k.to) told) (kept_founder told within overflow) (kept_latecomer (contact_of s k.to) told overflow)

  kept_restarted : (contact : Option ℕ) (o : Effect) → IsOverflowed o.state → IsOverflowed (restarted s k contact o).state
  unfolding restarted
  kept_restarted contact o overflow = kept_alone contact _ (kept_row k _ _ _ _ _ (kept_reborn s k.to contact o.state overflow))

  kept_pushes : (gossip : Option Gossip) (o : Effect) → IsOverflowed o.state → IsOverflowed (pushes_set s k gossip o).state
  kept_pushes None o overflow = overflow
  kept_pushes (Some gossip) o overflow = either_overflow (nat_eq gossip.push 0) _ _ overflow (kept_timer s k _ _ _ overflow)

  -- ---- leaves

  kept_left_said : (o : Effect) → IsOverflowed o.state → IsOverflowed (left_said s k o).state
  unfolding left_said
  kept_left_said o overflow =
      let told = with_row k what.Left (Some k.to) o.state.incarnation false (on_state (with_leaving Says) o) in
      let overflowed : IsOverflowed told.state = kept_row k what.Left (Some k.to) o.state.incarnation false (on_state (with_leaving Says) o) overflow in
      either_overflow (is_anybody_up told.state) _ _ (kept_put s k (own_left k.to told.state.incarnation) told overflowed) (kept_timer s k _ _ _ overflowed)

  kept_told : (o : Effect) → IsOverflowed o.state → IsOverflowed (leave_told s k o).state
  kept_told o overflow = either_overflow (is_some s.serf && is_anybody_up o.state) _ _ (kept_gossip_set s k s.gossip _ overflow) (kept_left_said o overflow)

  kept_leave_begun : (o : Effect) → IsOverflowed o.state → IsOverflowed (leave_begun s k o).state
  unfolding leave_begun
  kept_leave_begun o overflow = either_overflow (does_stay o.state.life.leaving) _ _ (kept_told _ (kept_row k _ _ _ _ o overflow)) overflow

  kept_exited : (o : Effect) → IsOverflowed o.state → IsOverflowed (exited k o).state
  unfolding exited
  kept_exited o overflow = kept_row k _ _ _ _ o overflow

  -- ---- dials

  kept_push_dialed : (to : ℕ) (there : Option ℕ) (o : Effect) → IsOverflowed o.state → IsOverflowed (push_dialed s k to there o).state
  kept_push_dialed to None o overflow = kept_row k _ _ _ _ o overflow
  kept_push_dialed to (Some there) o overflow = kept_event s k _ _ _ o overflow

  kept_opened : (period to : ℕ) (o : Effect) → IsOverflowed o.state → IsOverflowed (push_opened s k period to o).state
  unfolding push_opened
  kept_opened period to o overflow = kept_event s k _ _ _ _ (kept_push_dialed to _ _ overflow)

  kept_opened_to : (period : ℕ) (others : List ℕ) (o : Effect) → IsOverflowed o.state → IsOverflowed (push_opened_to s k period others o).state
  kept_opened_to period [] o overflow = kept_timer s k _ _ o overflow
  kept_opened_to period (to ∷ others) o overflow = kept_opened period to o overflow

  kept_dialed_push : (push : ℕ) (o : Effect) → IsOverflowed o.state → IsOverflowed (dialed_push s k push o).state
  unfolding dialed_push
  kept_dialed_push push o overflow = kept_opened_to _ _ _ overflow

  kept_dialed_due : (gossip : Option Gossip) (o : Effect) → IsOverflowed o.state → IsOverflowed (dialed_push_due s k gossip o).state
  kept_dialed_due None o overflow = overflow
  kept_dialed_due (Some gossip) o overflow = either_overflow (nat_eq gossip.push 0) _ _ overflow (kept_dialed_push gossip.push o overflow)

  -- ---- reconnects

  kept_dialed : (to : ℕ) (there : Option ℕ) (o : Effect) → IsOverflowed o.state → IsOverflowed (dialed s k what.Reconnect to there o).state
  kept_dialed to None o overflow = kept_row k _ _ _ _ o overflow
  kept_dialed to (Some there) o overflow = kept_event s k _ _ _ _ (kept_row k _ _ _ _ o overflow)

  kept_failed_dialed : (serf : Serf) (to : ℕ) (o : Effect) → IsOverflowed o.state → IsOverflowed (failed_dialed s k serf to o).state
  unfolding failed_dialed
  kept_failed_dialed serf to o overflow = kept_event s k _ _ _ _ (kept_dialed to _ _ overflow)

  kept_tried : (serf : Serf) (failed : List ℕ) (o : Effect) → IsOverflowed o.state → IsOverflowed (failed_tried s k serf failed o).state
  kept_tried serf failed o overflow =
      let chance = below_of o.state.words (live_count o.state.table) in
      let drawn = on_state (with_words chance.1) o in
      either_overflow (nat_lt chance.0 (length failed)) (one_dialed s k serf failed drawn) (next_try_set s k serf k.at drawn) (kept_failed_dialed serf _ _ overflow) (kept_event s k _ _ _ drawn overflow)

  kept_any_tried : (serf : Serf) (failed : List ℕ) (o : Effect) → IsOverflowed o.state → IsOverflowed (any_tried s k serf failed o).state
  kept_any_tried serf [] o overflow = kept_event s k _ _ _ o overflow
  kept_any_tried serf (m ∷ failed) o overflow = kept_tried serf (m ∷ failed) o overflow

  kept_reconnect_due : (serf : Option Serf) (o : Effect) → IsOverflowed o.state → IsOverflowed (reconnect_due s k serf o).state
  unfolding reconnect_due
  kept_reconnect_due None o overflow = overflow
  kept_reconnect_due (Some serf) o overflow =
      let reaped = on_state (failures_reaped k.at serf.reap) o in
      kept_any_tried serf (failed_among (member_count s) reaped.state.life.regards) reaped overflow

  -- ---- merges and gossip

  kept_push_merged : (entries : List Update) (o : Effect) → IsOverflowed o.state → IsOverflowed (push_merged s k entries o).state
  unfolding push_merged
  kept_push_merged entries o overflow = kept_table s k entries _ (kept_pull s k k.from o overflow)

  kept_reached : (entries : List Update) (o : Effect) → IsOverflowed o.state → IsOverflowed (contact_reached k entries o).state
  kept_reached entries o overflow = either_overflow _ _ _ (kept_row k _ _ _ _ _ overflow) overflow

  kept_pull_merged : (entries : List Update) (o : Effect) → IsOverflowed o.state → IsOverflowed (pull_merged s k entries o).state
  kept_pull_merged entries o overflow = kept_table s k entries _ (kept_reached entries o overflow)

  kept_whole_round : (gossip : Gossip) (o : Effect) → IsOverflowed o.state → IsOverflowed (whole_round s k gossip o).state
  kept_whole_round gossip o overflow = either_overflow (is_all_told s o.state) _ _ overflow (kept_round_again s k gossip _ (kept_spread s k gossip o overflow))

  kept_whole_due : (gossip : Option Gossip) (o : Effect) → IsOverflowed o.state → IsOverflowed (whole_gossip_due s k gossip o).state
  kept_whole_due None o overflow = overflow
  kept_whole_due (Some gossip) o overflow = kept_whole_round gossip _ overflow

  -- ---- any event

  kept_process : (c : EventKind) (o : Effect) → IsOverflowed o.state → IsOverflowed (process_handled s k c o).state
  unfolding process_handled
  kept_process (Restart contact) o overflow = kept_restarted contact o overflow
  kept_process Leave o overflow = kept_leave_begun o overflow
  kept_process JoinTimer o overflow = kept_asked s k o.state.life.contact o overflow
  kept_process SettingTimer o overflow = kept_pushes s.gossip o overflow
  kept_process (ConnectedTimer to) o overflow = kept_push s k to o overflow
  kept_process PushTimer o overflow = kept_dialed_due s.gossip o overflow
  kept_process (Push entries) o overflow = kept_push_merged entries o overflow
  kept_process (Pull entries) o overflow = kept_pull_merged entries o overflow
  kept_process GossipTimer o overflow = kept_whole_due s.gossip o overflow
  kept_process ReconnectTimer o overflow = kept_reconnect_due s.serf o overflow
  kept_process ExitTimer o overflow = kept_exited o overflow
  kept_process Join o overflow = overflow
  kept_process (Welcome entries) o overflow = overflow
  kept_process Bye o overflow = overflow
  kept_process c o overflow = kept_single s k c o overflow

  kept_start : (c : EventKind) (o : Effect) → ¬ (2 ^ 63 < o.state.incarnation) → IsOverflowed o.state → IsOverflowed (start_handled s k c o).state
  kept_start Start o within overflow = kept_process_started o within overflow
  kept_start _ o within overflow = overflow

  kept_restart : (c : EventKind) (o : Effect) → IsOverflowed o.state → IsOverflowed (restart_handled s k c o).state
  kept_restart (Restart contact) o overflow = kept_restarted contact o overflow
  kept_restart _ o overflow = overflow

  kept_phase : (c : EventKind) (phase : Phase) (o : Effect) → (phase ≡ Waiting → ¬ (2 ^ 63 < o.state.incarnation)) → IsOverflowed o.state → IsOverflowed (phase_handled phase s k c o).state
  kept_phase c Waiting o waits overflow = kept_start c o (waits refl) overflow
  kept_phase c Joining o waits overflow = overflow
  kept_phase c Running o waits overflow = kept_gone_on s k _ (kept_process c o overflow)
  kept_phase c Down o waits overflow = kept_restart c o overflow

  kept_lived : (c : EventKind) (phase : Phase) (o : Effect) → (phase ≡ Waiting → ¬ (2 ^ 63 < o.state.incarnation)) → IsOverflowed o.state → IsOverflowed (process_lived phase s k c o).state
  unfolding process_lived
  kept_lived c phase o waits overflow = either_overflow (is_of_former_life k c o.state.life.birth) _ _ overflow (kept_phase c phase o waits overflow)

  kept_by_phase : (c : EventKind) (phase : Phase) (o : Effect) → (phase ≡ Waiting → ¬ (2 ^ 63 < o.state.incarnation)) → IsOverflowed o.state → IsOverflowed (phase_timed phase s k c o).state
  kept_by_phase c Running o waits overflow = kept_timed s k c o overflow
  kept_by_phase c Waiting o waits overflow = kept_handled s k c Waiting o waits overflow
  kept_by_phase c Joining o waits overflow = kept_handled s k c Joining o waits overflow
  kept_by_phase c Down o waits overflow = kept_handled s k c Down o waits overflow

  kept_by : (c : EventKind) (phase : Phase) (profile : Profile) (o : Effect) → (phase ≡ Waiting → ¬ (2 ^ 63 < o.state.incarnation)) → IsOverflowed o.state → IsOverflowed (handled_by phase profile s k c o).state
  kept_by c phase Papers o waits overflow = kept_handled s k c phase o waits overflow
  kept_by c phase Memberlist o waits overflow = kept_by_phase c phase o waits overflow
  kept_by c phase Hashicorp o waits overflow = kept_lived c phase o waits overflow

opened_within : (s : Setup) (m : ℕ) → ¬ (2 ^ 63 < (opening_state s m).incarnation)
unfolding opening_state
opened_within s m past = omega (arith, past)

pub overflow_stays : (s : Setup) (k : Key) (c : EventKind) (t : State) → WaitsAsOpened s k.to t → IsOverflowed t → IsOverflowed (step s k c t).state
unfolding step
overflow_stays s k c t waits overflow =
    kept_by s k c t.phase (profile_of s) (unchanged t) (λ is past. opened_within s k.to (subst (λ (u : State). 2 ^ 63 < u.incarnation) (waits is) past)) overflow
