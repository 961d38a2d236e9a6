-- By memberlist's rules a beat ends a probe at its deadline, so that a timer for it would do nothing.
use Rattle.std.proofs.Common.{◌≡◌, ℕ, ◌+◌, ◌-◌, ◌*◌, ◌%◌, ◌<◌, ◌≤◌, Bool, true, false, cond, Option, Some, None, refl, ap, ◌∙◌, arith}
use Rattle.std.proofs.lemmas.Bool.{eqb-true, ne_eqb, le-ltb, ltb-false}
use Rattle.base.specs.Beats.{next_in_step}
use Rattle.base.specs.declared.key.Key.{Key}
use Rattle.base.specs.declared.profile.Profile.{Profile}
use Rattle.base.specs.declared.profile.Profile.TheVariants.{Papers, Memberlist, Hashicorp}
use Rattle.scenario.specs.Setup.{Setup}
use Rattle.scenario.specs.Profile.{profile_of}
use Rattle.incarnation.specs.declared.Update.{Update}
use Rattle.lifeguard.specs.declared.probe.Probe.{Probe}
use Rattle.lifeguard.specs.Health.{LocalHealth, scaled}
use Rattle.probing.specs.ProbeOrder.{next_of}
use Rattle.member.specs.declared.member.Phase.{Phase}
use Rattle.member.specs.declared.member.Phase.TheVariants.{Waiting, Joining, Running, Down}
use Rattle.member.specs.declared.event_kind.EventKind.{EventKind}
use Rattle.member.specs.declared.event_kind.EventKind.TheVariants.{PeriodTimer, TimeoutTimer, DeadlineTimer, GossipTimer, ExitTimer}
use Rattle.member.specs.State.{State}
use Rattle.member.specs.Effects.{Effect, unchanged, on_state, with_row, with_number, with_event, with_timer}
use Rattle.member.specs.Send.{sent_off, posted, ping_sent}
use Rattle.member.specs.Apply.{claim_kept_by, without_suspicion}
use Rattle.member.specs.LoneBuddy.{lone_buddy_of, plain_ping_sent, ping_with_lone, probe_ping_sent}
use Rattle.member.specs.Forgetting.{round_ended}
use Rattle.member.specs.SingleBeat.{is_in_step, both_timers_set, single_probe_begun, single_target_probed, turn_probed, next_single_probed, single_beat_taken, single_beaten, single_deadline_over}
use Rattle.base.proofs.InStep.{is_next}
use Rattle.member.specs.Step.{single_handled, probe_settled, needs_timer, probe_timers_set, timed_probe_begun, timed_target_probed, next_timed_probed, has_time, probed_in_turn, period_beaten, is_under_way, deadline_over, plain_handled, handled, timed_handled, handled_by, step}
use Rattle.member.specs.Step.{process_handled, process_lived}
use Rattle.std.specs.FinMap.{contains_key}
use Rattle.std.proofs.Common.{not, ◌&&◌, nat_lt}
use Rattle.scenario.specs.declared.settings.Gossip as settings
use Rattle.scenario.specs.declared.settings.Queue.{Queue}
use Rattle.trace.specs.declared.row.What.TheVariants as what
use Rattle.lives.specs.Lives.{does_intend, does_say}
use Rattle.lives.specs.declared.leaving.Leaving.TheVariants.{Says}
use Rattle.member.specs.Apply.{gossip_set, with_put}
use Rattle.member.specs.Blocks.{departs_at}
use Rattle.member.specs.Riding.{put_up, without_claims, without_both, without_riding_by, room_of, is_claim_held}
use Rattle.member.specs.Leaves.{is_anybody_up, with_leaving, own_left, lingered, left_said, intent_sent, left_sent, is_running, leave_gone_on}
use Rattle.member.specs.SingleBeat.{blocked_probe_begun}
use Rattle.member_laws.proofs.Moves.{NewsMoves, Moves, Anyone, kept_either, death_either, put_either}
use Rattle.member_laws.proofs.Walk.{on_settled, on_round_ended}

-- ---- the number of the last probe never falls

module _ (s : Setup) (k : Key) (n : ℕ) where
  abbrev IsFrom : State → Type 0
  IsFrom t = n ≤ t.sequence

  kept_from : (t : State) (u : Update) → IsFrom t → IsFrom (claim_kept_by (profile_of s) u t)
  kept_from t u h = kept_either IsFrom (profile_of s) u t h h h h

  news : NewsMoves s k Anyone IsFrom
  news = record {
    counted = λ t h. h;
    put = λ t u named h. put_either IsFrom s s.queue u t (λ buffer. h) (λ queue. h);
    regarding = λ t regards h. h;
    intended = λ t u named h. h;
    alive = λ t u named says is h. kept_from t u h;
    suspect = λ t u x named says is begins h. kept_from t u h;
    confirm = λ t u named says is h. death_either IsFrom (profile_of s) u.subject k.at (without_suspicion u.subject (claim_kept_by (profile_of s) u t)) (kept_from t u h) (kept_from t u h);
    accused = λ t u h. h;
    gossiping = λ t set h. h;
  }

  rides : (queue : Option Queue) (room : ℕ) (t : State) → IsFrom t → IsFrom (without_claims s queue room t)
  rides None room t h = h
  rides (Some q) room t h = h

  rides_both : (t : State) (bearer : _) → IsFrom t → IsFrom (without_both s k.to bearer t)
  unfolding without_both
  rides_both t bearer h = rides s.queue (room_of s k.to bearer s.queue) t h

  moves : Moves s k Anyone IsFrom
  moves = record {
    own = tt;
    known = λ t q held h at. tt;
    drawn = λ t rest is h. h;
    picked = λ t buddy h. h;
    aimed = λ t probe h is. tt;
    targets = λ t target h is. tt;
    probing = λ t seq probe up aim h. omega (arith, up, h);
    turned = λ t h. h;
    forgotten = λ t q held rules here dead h. h;
    mixed = λ t h. h;
    relay_added = λ t relay on h. h;
    relay_removed = λ t relay h. h;
    waiting = λ t waits h. h;
    beaten = λ t beat h. h;
    heard_dead = λ t h. h;
    refuted = λ t claim number refutes h. h;
    weakened = λ t failures h. h;
    mended = λ t h. h;
    welcomed = λ t h. h;
    downed = λ t h. h;
    began = λ t waits h. h;
    late = λ t waits h. h;
    ridden = rides_both;
    asked = λ t contact h is. tt;
    answered = λ t h. h;
    leaving = λ t leaving h. h;
    alone = λ t waits rules h. h;
    again = λ t contact rules named h. h;
  }

  settled_from : (probe : Option Probe) (o : Effect) → IsFrom o.state → IsFrom (probe_settled s k probe o).state
  settled_from probe o h = on_settled s k Anyone IsFrom news moves probe o h

-- ---- the probe that is begun is the one under way

either_probe : (b : Bool) (o p : Effect) (probe : Option Probe) → o.state.probe ≡ probe → p.state.probe ≡ probe → (cond b o p).state.probe ≡ probe
either_probe true o p probe a b = a
either_probe false o p probe a b = b

module _ (s : Setup) (k : Key) where
  event_probe : (at to : ℕ) (content : EventKind) (o : Effect) → (with_event s k at to content o).state.probe ≡ o.state.probe
  unfolding with_event
  event_probe at to content o = refl

  off_probe : (to : ℕ) (content : EventKind) (arrival : Option ℕ) (o : Effect) → (sent_off s k to content arrival o).state.probe ≡ o.state.probe
  unfolding with_number
  off_probe to content None o = refl
  off_probe to content (Some at) o = event_probe at to content o

  ping_probe : (to initiator seq : ℕ) (o : Effect) → (ping_sent s k to initiator seq o).state.probe ≡ o.state.probe
  unfolding ping_sent posted with_row
  ping_probe to initiator seq o = off_probe to _ _ _

  timers_probe : (next_beat : Option ℕ) (seq timeout deadline : ℕ) (o : Effect) → (probe_timers_set s k next_beat seq timeout deadline o).state.probe ≡ o.state.probe
  unfolding with_timer with_number
  timers_probe next_beat seq timeout deadline o =
      let timed = event_probe _ k.to _ o in
      either_probe (needs_timer next_beat deadline) _ _ o.state.probe (event_probe deadline k.to (DeadlineTimer seq) _ ∙ timed) timed

  -- a new probe has a number above all before it
  begun_over : (n : ℕ) (next_beat : Option ℕ) (target : ℕ) (o : Effect) → n ≤ o.state.sequence → is_under_way n (timed_probe_begun s k next_beat target o).state.probe ≡ false
  unfolding timed_probe_begun
  begun_over n next_beat target o h =
      ap (is_under_way n) (timers_probe next_beat _ _ _ _ ∙ ping_probe target k.to _ _) ∙ ne_eqb (o.state.sequence + 1) n (λ same. omega (arith, same, h))

  target_over : (n : ℕ) (next_beat target : Option ℕ) (o : Effect) → n ≤ o.state.sequence → is_under_way n (timed_target_probed s k next_beat target o).state.probe ≡ false
  target_over n next_beat None o h = refl
  target_over n next_beat (Some target) o h = begun_over n next_beat target o h

  next_over : (n : ℕ) (next_beat : Option ℕ) (o : Effect) → n ≤ o.state.sequence → is_under_way n (next_timed_probed s k next_beat o).state.probe ≡ false
  unfolding next_timed_probed
  next_over n next_beat o h = target_over n next_beat (next_of o.state.words o.state.rota).0 _ h

  over_otherwise : (n : ℕ) (b : Bool) (o p : Effect) → b ≡ false → is_under_way n p.state.probe ≡ false → is_under_way n (cond b o p).state.probe ≡ false
  over_otherwise n true o p is h = absurd (let e = is in cc)
  over_otherwise n false o p is h = h

  turn_over : (next_beat : ℕ) (probe : Probe) (o : Effect) → o.state.probe ≡ Some probe → probe.deadline ≤ k.at → probe.seq ≤ o.state.sequence
      → is_under_way probe.seq (probed_in_turn s k next_beat o).state.probe ≡ false
  turn_over next_beat probe o here due known =
      over_otherwise probe.seq (has_time k.at o.state.probe) _ _ (ap (has_time k.at) here ∙ le-ltb k.at probe.deadline due)
      (next_over probe.seq (Some next_beat) (probe_settled s k o.state.probe o) (settled_from s k probe.seq o.state.probe o known))

  beat_over : (probe : Probe) (o : Effect) → o.state.probe ≡ Some probe → probe.deadline ≤ k.at → probe.seq ≤ o.state.sequence
      → is_under_way probe.seq (period_beaten s k o).state.probe ≡ false
  unfolding period_beaten with_event
  beat_over probe o here due known = turn_over _ probe _ here due known

  -- ---- and by memberlist 0.5.0's rules

  claims_probe : (queue : Option Queue) (room : ℕ) (t : State) → (without_claims s queue room t).probe ≡ t.probe
  claims_probe None room t = refl
  claims_probe (Some q) room t = refl

  riding_probe : (profile : Profile) (bearer : _) (t : State) → (without_riding_by profile s k.to bearer t).probe ≡ t.probe
  unfolding without_both
  riding_probe Papers bearer t = refl
  riding_probe Memberlist bearer t = refl
  riding_probe Hashicorp bearer t = claims_probe s.queue (room_of s k.to bearer s.queue) t

  lone_probe : (to seq : ℕ) (buddy : Option Update) (o : Effect) → (ping_with_lone s k to seq buddy o).state.probe ≡ o.state.probe
  unfolding plain_ping_sent posted with_row
  lone_probe to seq None o = off_probe to _ _ _ ∙ riding_probe (profile_of s) _ o.state
  lone_probe to seq (Some buddy) o = off_probe to _ _ _

  probe_ping_probe : (to seq : ℕ) (o : Effect) → (probe_ping_sent s k to seq o).state.probe ≡ o.state.probe
  unfolding probe_ping_sent
  probe_ping_probe to seq o = lone_probe to seq (lone_buddy_of s k.to to o.state) o

  both_probe : (seq timeout deadline : ℕ) (o : Effect) → (both_timers_set s k seq timeout deadline o).state.probe ≡ o.state.probe
  unfolding with_timer with_number
  both_probe seq timeout deadline o =
      let timed = event_probe _ k.to _ o in
      either_probe (is_in_step (with_timer s k timeout (TimeoutTimer seq) o).state.beat s.swim.period deadline) _ _ o.state.probe timed (event_probe deadline k.to (DeadlineTimer seq) _ ∙ timed)

  single_begun_over : (n target : ℕ) (o : Effect) → n ≤ o.state.sequence → is_under_way n (single_probe_begun s k target o).state.probe ≡ false
  unfolding single_probe_begun
  single_begun_over n target o h =
      ap (is_under_way n) (both_probe _ _ _ _ ∙ probe_ping_probe target _ _) ∙ ne_eqb (o.state.sequence + 1) n (λ same. omega (arith, same, h))

  blocked_begun_over : (n target departs : ℕ) (o : Effect) → n ≤ o.state.sequence → is_under_way n (blocked_probe_begun s k target departs o).state.probe ≡ false
  unfolding blocked_probe_begun
  blocked_begun_over n target departs o h =
      ap (is_under_way n) (event_probe _ k.to _ _ ∙ event_probe _ k.to _ _ ∙ probe_ping_probe target _ _) ∙ ne_eqb (o.state.sequence + 1) n (λ same. omega (arith, same, h))

  either_over : (n : ℕ) (b : Bool) (o p : Effect) → is_under_way n o.state.probe ≡ false → is_under_way n p.state.probe ≡ false → is_under_way n (cond b o p).state.probe ≡ false
  either_over n true o p h g = h
  either_over n false o p h g = g

  single_target_over : (n : ℕ) (target : Option ℕ) (o : Effect) → n ≤ o.state.sequence → is_under_way n (single_target_probed s k target o).state.probe ≡ false
  single_target_over n None o h = refl
  single_target_over n (Some target) o h =
      either_over n (nat_lt k.at (departs_at s k)) (blocked_probe_begun s k target (departs_at s k) o) (single_probe_begun s k target o) (blocked_begun_over n target (departs_at s k) o h) (single_begun_over n target o h)

  turned_over : (n : ℕ) (o : Effect) → n ≤ o.state.sequence → is_under_way n (turn_probed s k o).state.probe ≡ false
  unfolding turn_probed
  turned_over n o h = single_target_over n (next_of o.state.words o.state.rota).0 _ h

  next_single_over : (n : ℕ) (o : Effect) → n ≤ o.state.sequence → is_under_way n (next_single_probed s k o).state.probe ≡ false
  unfolding next_single_probed
  next_single_over n o h = turned_over n (round_ended s k o) (on_round_ended s k Anyone (IsFrom s k n) (news s k n) (moves s k n) (λ t q held here dead r. r) o h)

  taken_over : (probe : Probe) (o : Effect) → o.state.probe ≡ Some probe → probe.deadline ≤ k.at → probe.seq ≤ o.state.sequence
      → is_under_way probe.seq (single_beat_taken s k o).state.probe ≡ false
  taken_over probe o here due known =
      let free : Effect = on_state (λ t. record t { waits = false }) o in
      over_otherwise probe.seq (has_time k.at o.state.probe) _ _ (ap (has_time k.at) here ∙ le-ltb k.at probe.deadline due)
      (next_single_over probe.seq (probe_settled s k o.state.probe free) (settled_from s k probe.seq o.state.probe free known))

  single_beat_over : (probe : Probe) (o : Effect) → o.state.probe ≡ Some probe → probe.deadline ≤ k.at → probe.seq ≤ o.state.sequence
      → is_under_way probe.seq (single_beaten s k o).state.probe ≡ false
  unfolding single_beaten with_event
  single_beat_over probe o here due known = taken_over probe (with_event s k (next_in_step o.state.beat s.swim.period k.at) k.to PeriodTimer o) here due known

-- ---- what a leave that goes on makes of it

module _ (s : Setup) (k : Key) where
  put_up_probe : (queue : Option Queue) (u : Update) (t : State) → (put_up s queue u t).probe ≡ t.probe
  put_up_probe None u t = refl
  put_up_probe (Some q) u t = refl

  gossip_probe : (gossip : Option settings.Gossip) (o : Effect) → (gossip_set s k gossip o).state.probe ≡ o.state.probe
  gossip_probe None o = refl
  gossip_probe (Some gossip) o = either_probe o.state.gossips o _ o.state.probe refl (event_probe s k _ k.to GossipTimer _)

  put_probe : (u : Update) (o : Effect) → (with_put s k u o).state.probe ≡ o.state.probe
  unfolding with_put
  put_probe u o = gossip_probe s.gossip (on_state (put_up s s.queue u) o) ∙ put_up_probe s.queue u o.state

  lingered_probe : (o : Effect) → (lingered s k o).state.probe ≡ o.state.probe
  unfolding with_timer
  lingered_probe o = event_probe s k _ k.to ExitTimer _

  said_probe : (o : Effect) → (left_said s k o).state.probe ≡ o.state.probe
  unfolding left_said with_row
  said_probe o =
      let told = with_row k what.Left (Some k.to) o.state.incarnation false (on_state (with_leaving Says) o) in
      either_probe (is_anybody_up told.state) (with_put s k (own_left k.to told.state.incarnation) told) (lingered s k told) o.state.probe (put_probe (own_left k.to told.state.incarnation) told) (lingered_probe told)

  gone_on_probe : (o : Effect) → (leave_gone_on s k o).state.probe ≡ o.state.probe
  unfolding leave_gone_on
  gone_on_probe o =
      let sent = intent_sent s k o in
      let same : sent.state.probe ≡ o.state.probe =
      either_probe (does_intend o.state.life.leaving && not (contains_key o.state.life.intents k.to)) (left_said s k o) o o.state.probe (said_probe o) refl in
      either_probe (is_running o.state.phase) (left_sent s k sent) o o.state.probe
      (either_probe (does_say sent.state.life.leaving && not (is_claim_held s.queue k.to sent.state)) (lingered s k sent) sent o.state.probe (lingered_probe sent ∙ same) same) refl

pub ended_by_single : (s : Setup) (k : Key) (probe : Probe) (t : State) → profile_of s ≡ Hashicorp → t.phase ≡ Running → t.life.birth ≤ k.number → t.probe ≡ Some probe → probe.deadline ≤ k.at → probe.seq ≤ t.sequence
    → is_under_way probe.seq (step s k PeriodTimer t).state.probe ≡ false
unfolding step process_lived process_handled single_handled
ended_by_single s k probe t rules runs alive here due known =
    let after : Phase → Profile → Bool = λ phase profile. is_under_way probe.seq (handled_by phase profile s k PeriodTimer (unchanged t)).state.probe in
    ap (λ phase. after phase (profile_of s)) runs ∙ ap (after Running) rules
    ∙ over_otherwise s k probe.seq (nat_lt k.number t.life.birth) (unchanged t) (leave_gone_on s k (single_beaten s k (unchanged t))) (le-ltb k.number t.life.birth alive)
    (ap (is_under_way probe.seq) (gone_on_probe s k (single_beaten s k (unchanged t))) ∙ single_beat_over s k probe (unchanged t) here due known)

-- a deadline in step with the beat comes no sooner than the next period timer
pub spared_in_step : (beat period now deadline : ℕ) → 0 < period → now < deadline → is_in_step beat period deadline ≡ true → next_in_step beat period now ≤ deadline
spared_in_step beat period now deadline some later in_step = (is_next beat period now some).least deadline later (eqb-true (deadline % period) (beat % period) in_step)

pub ended_step : (s : Setup) (k : Key) (probe : Probe) (t : State) → profile_of s ≡ Memberlist → t.phase ≡ Running → t.probe ≡ Some probe → probe.deadline ≤ k.at → probe.seq ≤ t.sequence
    → is_under_way probe.seq (step s k PeriodTimer t).state.probe ≡ false
unfolding step timed_handled
ended_step s k probe t by_list runs here due known =
    let after : Phase → Profile → Bool = λ phase profile. is_under_way probe.seq (handled_by phase profile s k PeriodTimer (unchanged t)).state.probe in
    ap (λ phase. after phase (profile_of s)) runs ∙ ap (after Running) by_list ∙ beat_over s k probe (unchanged t) here due known

-- ---- the timer of another probe

otherwise : (b : Bool) (o p : Effect) → b ≡ false → cond b o p ≡ p
otherwise true o p is = absurd (let e = is in cc)
otherwise false o p is = refl

same_either : (b : Bool) (o p : Effect) → p ≡ o → cond b o p ≡ o
same_either true o p same = refl
same_either false o p same = same

idle : (s : Setup) (k : Key) (seq : ℕ) (phase : Phase) (profile : Profile) (o : Effect) → is_under_way seq o.state.probe ≡ false → (profile ≡ Hashicorp → leave_gone_on s k o ≡ o)
    → handled_by phase profile s k (DeadlineTimer seq) o ≡ o
unfolding process_lived process_handled single_handled single_deadline_over timed_handled deadline_over handled plain_handled
idle s k seq Waiting Papers o other gone = refl
idle s k seq Joining Papers o other gone = refl
idle s k seq Running Papers o other gone = refl
idle s k seq Down Papers o other gone = refl
idle s k seq Waiting Memberlist o other gone = refl
idle s k seq Joining Memberlist o other gone = refl
idle s k seq Running Memberlist o other gone = otherwise (is_under_way seq o.state.probe) _ o other
idle s k seq Down Memberlist o other gone = refl
idle s k seq Waiting Hashicorp o other gone = same_either (nat_lt k.number o.state.life.birth) o o refl
idle s k seq Joining Hashicorp o other gone = same_either (nat_lt k.number o.state.life.birth) o o refl
idle s k seq Running Hashicorp o other gone =
    same_either (nat_lt k.number o.state.life.birth) o (leave_gone_on s k (single_deadline_over s k seq o)) (ap (leave_gone_on s k) (otherwise (is_under_way seq o.state.probe) _ o other) ∙ gone refl)
idle s k seq Down Hashicorp o other gone = same_either (nat_lt k.number o.state.life.birth) o o refl

pub idle_step : (s : Setup) (k : Key) (seq : ℕ) (t : State) → is_under_way seq t.probe ≡ false → (profile_of s ≡ Hashicorp → leave_gone_on s k (unchanged t) ≡ unchanged t)
    → step s k (DeadlineTimer seq) t ≡ unchanged t
unfolding step
idle_step s k seq t other gone = idle s k seq t.phase (profile_of s) (unchanged t) other gone

-- ---- the beat that spares a timer

spared_late : (now period worse x : ℕ) → now + period * (worse + 1) ≤ now + period - x → now + period - x ≡ now + period * (worse + 1)
spared_late now period worse x h =
    let base : period ≤ period * (worse + 1) = at_least period worse in
    omega (arith, base, h)
  where
    at_least : (period worse : ℕ) → period ≤ period * (worse + 1)
    at_least period worse = grind arith

pub spared : (beat period now : ℕ) (health : LocalHealth) → needs_timer (Some (next_in_step beat period now)) (now + scaled health period) ≡ false
    → next_in_step beat period now ≡ now + scaled health period
spared beat period now health is = spared_late now period health.counter ((now + period - beat % period) % period) (ltb-false _ _ is)
