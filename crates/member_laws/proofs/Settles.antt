-- By memberlist 0.5.0's rules each event ends with what its member's leave still does, of which nothing is left for the next.
use Rattle.std.proofs.Common.{◌≡◌, ℕ, ◌+◌, Bool, true, false, cond, not, ◌&&◌, nat_eq, List, [], ◌∷◌, Option, Some, None, refl, sym, ap, subst, ◌∙◌}
use Rattle.std.specs.List.{AllByRecursion}
use Rattle.std.specs.FinMap.{get, contains_key}
use Rattle.base.specs.declared.key.Key.{Key}
use Rattle.base.specs.declared.profile.Profile.{Profile}
use Rattle.base.specs.declared.profile.Profile.TheVariants.{Papers, Memberlist, Hashicorp}
use Rattle.scenario.specs.Setup.{Setup, contact_of, start_of}
use Rattle.scenario.specs.Profile.{profile_of}
use Rattle.scenario.specs.declared.settings.Gossip as settings
use Rattle.scenario.specs.declared.settings.Queue.{Queue}
use Rattle.scenario.specs.declared.settings.Serf.{Serf}
use Rattle.trace.specs.declared.row.What.{What}
use Rattle.trace.specs.declared.row.What.TheVariants as what
use Rattle.incarnation.specs.declared.Update.{Update}
use Rattle.lives.specs.Lives.{does_intend, does_say}
use Rattle.lives.specs.declared.leaving.Leaving.{Leaving}
use Rattle.lives.specs.declared.leaving.Leaving.TheVariants.{Stays, Says, Lingers}
use Rattle.member.specs.declared.member.Phase.{Phase}
use Rattle.member.specs.declared.member.Phase.TheVariants.{Waiting, Joining, Running, Down}
use Rattle.member.specs.declared.event_kind.EventKind.{EventKind}
use Rattle.member.specs.declared.event_kind.EventKind.TheVariants.{Start, Restart, DeadlineTimer, GossipTimer}
use Rattle.member.specs.State.{State}
use Rattle.member.specs.Opening.{opening_state, opening, numbers}
use Rattle.member.specs.Effects.{Effect, unchanged, on_state, with_row, with_event, with_timer}
use Rattle.member.specs.Apply.{gossip_set, with_put}
use Rattle.member.specs.Riding.{put_up, is_claim_held}
use Rattle.member.specs.FirstRounds.{first_round}
use Rattle.member.specs.Connections.{with_words, dial_drawn, dialed}
use Rattle.member.specs.Beginnings.{contact_dialed, contact_asked, setting_set, reconnect_set, own_beats_set, alone_begun, founders_reconnect_set, founder_begun, latecomer_begun, process_started, reborn, restarted}
use Rattle.member.specs.Leaves.{is_anybody_up, with_leaving, own_left, lingered, left_said, intent_sent, left_sent, is_running, leave_gone_on}
use Rattle.member.specs.Processes.{is_of_former_life, start_handled, restart_handled}
use Rattle.member.specs.Step.{push_begun, even_push_begun, push_begun_by, first_push_set, first_period_set, began, is_under_way, phase_handled, process_lived, process_handled, handled_by, step}
use Rattle.member_laws.specs.Words.{WaitsAsOpened, HasSettledLeave}
use Rattle.member_laws.specs.Runs.{Cluster, IsReached}
use Rattle.member_laws.proofs.Deadlines.{idle_step}
use Rattle.member_laws.proofs.Healths.{waits_step}
use Rattle.member_laws.proofs.Runs.{run_kept, opened}

-- ---- how far a leave is, which few parts of a step change

either_leaving : (b : Bool) (o p : Effect) (leaving : Leaving) → o.state.life.leaving ≡ leaving → p.state.life.leaving ≡ leaving → (cond b o p).state.life.leaving ≡ leaving
either_leaving true o p leaving a b = a
either_leaving false o p leaving a b = b

module _ (s : Setup) (k : Key) where
  event_leaving : (at to : ℕ) (content : EventKind) (o : Effect) → (with_event s k at to content o).state.life.leaving ≡ o.state.life.leaving
  unfolding with_event
  event_leaving at to content o = refl

  timer_leaving : (ticks : ℕ) (content : EventKind) (o : Effect) → (with_timer s k ticks content o).state.life.leaving ≡ o.state.life.leaving
  unfolding with_timer
  timer_leaving ticks content o = event_leaving (k.at + ticks) k.to content o

  row_leaving : (tells : What) (about : Option ℕ) (value : ℕ) (lost : Bool) (o : Effect) → (with_row k tells about value lost o).state.life.leaving ≡ o.state.life.leaving
  unfolding with_row
  row_leaving tells about value lost o = refl

  put_up_leaving : (queue : Option Queue) (u : Update) (t : State) → (put_up s queue u t).life.leaving ≡ t.life.leaving
  put_up_leaving None u t = refl
  put_up_leaving (Some q) u t = refl

  gossip_leaving : (gossip : Option settings.Gossip) (o : Effect) → (gossip_set s k gossip o).state.life.leaving ≡ o.state.life.leaving
  gossip_leaving None o = refl
  gossip_leaving (Some gossip) o = either_leaving o.state.gossips o _ o.state.life.leaving refl (event_leaving _ k.to GossipTimer _)

  put_leaving : (u : Update) (o : Effect) → (with_put s k u o).state.life.leaving ≡ o.state.life.leaving
  unfolding with_put
  put_leaving u o = gossip_leaving s.gossip (on_state (put_up s s.queue u) o) ∙ put_up_leaving s.queue u o.state

  -- ---- starts

  dialed_leaving : (tells : What) (to : ℕ) (there : Option ℕ) (o : Effect) → (dialed s k tells to there o).state.life.leaving ≡ o.state.life.leaving
  dialed_leaving tells to None o = row_leaving tells (Some to) 0 true o
  dialed_leaving tells to (Some there) o = event_leaving there k.to _ _ ∙ row_leaving tells (Some to) 0 false o

  asked_leaving : (contact : Option ℕ) (o : Effect) → (contact_asked s k contact o).state.life.leaving ≡ o.state.life.leaving
  unfolding contact_dialed
  asked_leaving None o = refl
  asked_leaving (Some contact) o =
      let drawn = dial_drawn s k contact o.state in
      event_leaving _ k.to _ _ ∙ dialed_leaving what.Join contact drawn.0 (on_state (with_words drawn.1) o)

  setting_leaving : (gossip : Option settings.Gossip) (o : Effect) → (setting_set s k gossip o).state.life.leaving ≡ o.state.life.leaving
  setting_leaving None o = refl
  setting_leaving (Some gossip) o = either_leaving (nat_eq gossip.push 0) o _ o.state.life.leaving refl (timer_leaving _ _ _)

  reconnect_leaving : (serf : Option Serf) (o : Effect) → (reconnect_set s k serf o).state.life.leaving ≡ o.state.life.leaving
  reconnect_leaving None o = refl
  reconnect_leaving (Some serf) o = timer_leaving serf.reconnect _ o

  beats_leaving : (o : Effect) → (own_beats_set s k o).state.life.leaving ≡ o.state.life.leaving
  beats_leaving o = timer_leaving s.swim.period _ _

  alone_leaving : (contact : Option ℕ) (o : Effect) → (alone_begun s k contact o).state.life.leaving ≡ o.state.life.leaving
  unfolding alone_begun
  alone_leaving contact o = asked_leaving contact _ ∙ reconnect_leaving s.serf _ ∙ setting_leaving s.gossip _ ∙ beats_leaving o

  push_leaving : (profile : Profile) (beat push : ℕ) (o : Effect) → (push_begun_by profile s k beat push o).state.life.leaving ≡ o.state.life.leaving
  unfolding push_begun even_push_begun
  push_leaving Papers beat push o = event_leaving _ k.to _ _
  push_leaving Memberlist beat push o = event_leaving _ k.to _ _
  push_leaving Hashicorp beat push o = event_leaving _ k.to _ _

  first_push_leaving : (beat : ℕ) (gossip : Option settings.Gossip) (o : Effect) → (first_push_set s k beat gossip o).state.life.leaving ≡ o.state.life.leaving
  first_push_leaving beat None o = refl
  first_push_leaving beat (Some gossip) o = either_leaving (nat_eq gossip.push 0) o _ o.state.life.leaving refl (push_leaving (profile_of s) beat gossip.push o)

  round_leaving : (profile : Profile) (t : State) → (first_round profile t).life.leaving ≡ t.life.leaving
  round_leaving Papers t = refl
  round_leaving Memberlist t = refl
  round_leaving Hashicorp t = refl

  began_leaving : (o : Effect) → (began s k o).state.life.leaving ≡ o.state.life.leaving
  unfolding began first_period_set
  began_leaving o = first_push_leaving _ s.gossip _ ∙ timer_leaving _ _ _ ∙ round_leaving (profile_of s) _

  founders_leaving : (serf : Option Serf) (o : Effect) → (founders_reconnect_set s k serf o).state.life.leaving ≡ o.state.life.leaving
  founders_leaving None o = refl
  founders_leaving (Some serf) o = event_leaving _ k.to _ _

  started_leaving : (o : Effect) → (process_started s k o).state.life.leaving ≡ o.state.life.leaving
  unfolding process_started
  started_leaving o =
      let told = with_row k what.Start None 0 false o in
      let same : told.state.life.leaving ≡ o.state.life.leaving = row_leaving what.Start None 0 false o in
      either_leaving (nat_eq (start_of s k.to) 0) (founder_begun s k told) (latecomer_begun s k (contact_of s k.to) told) o.state.life.leaving
      (founders_leaving s.serf (began s k told) ∙ began_leaving told ∙ same) (alone_leaving (contact_of s k.to) _ ∙ same)

  restarted_leaving : (contact : Option ℕ) (o : Effect) → (restarted s k contact o).state.life.leaving ≡ Stays
  unfolding restarted
  restarted_leaving contact o = alone_leaving contact _ ∙ row_leaving what.Restart None 0 false (on_state (reborn s k.to contact) o)

-- ---- what is left to do

-- it is to say that it has left
abbrev is_to_say : ℕ → State → Bool
is_to_say m t = does_intend t.life.leaving && not (contains_key t.life.intents m)

-- it is to go on for a while
abbrev is_to_linger : Setup → ℕ → State → Bool
is_to_linger s m t = does_say t.life.leaving && not (is_claim_held s.queue m t)

-- neither, if it runs
abbrev HasNoneLeft : Setup → ℕ → State → Type 0
HasNoneLeft s m t = is_running t.phase ≡ true → (is_to_say m t ≡ false) × (is_to_linger s m t ≡ false)

none_of_staying : (s : Setup) (m : ℕ) (t : State) → t.life.leaving ≡ Stays → HasNoneLeft s m t
none_of_staying s m t stays runs =
    (ap (λ leaving. does_intend leaving && not (contains_key t.life.intents m)) stays, ap (λ leaving. does_say leaving && not (is_claim_held s.queue m t)) stays)

otherwise : (b : Bool) (o p : Effect) → b ≡ false → cond b o p ≡ p
otherwise true o p is = absurd (let e = is in cc)
otherwise false o p is = refl

none_done : (s : Setup) (k : Key) (o : Effect) (b : Bool) → (b ≡ true → (is_to_say k.to o.state ≡ false) × (is_to_linger s k.to o.state ≡ false)) → cond b (left_sent s k (intent_sent s k o)) o ≡ o
none_done s k o true none =
    ap (left_sent s k) (otherwise (is_to_say k.to o.state) (left_said s k o) o (none refl).0) ∙ otherwise (is_to_linger s k.to o.state) (lingered s k o) o (none refl).1
none_done s k o false none = refl

-- where nothing is left to do, nothing is done
settled : (s : Setup) (m : ℕ) (t : State) → HasNoneLeft s m t → HasSettledLeave s m t
unfolding leave_gone_on
settled s m t none k is = none_done s k (unchanged t) (is_running t.phase) (subst (λ m. HasNoneLeft s m t) (sym is) none)

-- ---- each event

module _ (s : Setup) (k : Key) where
  -- one that has said that it has left intends to no more
  said : (b : Bool) (o p : Effect) → does_intend o.state.life.leaving ≡ false → does_intend p.state.life.leaving ≡ false → does_intend (cond b o p).state.life.leaving ≡ false
  said true o p a b = a
  said false o p a b = b

  left_said_said : (o : Effect) → does_intend (left_said s k o).state.life.leaving ≡ false
  unfolding left_said
  left_said_said o =
      let told = with_row k what.Left (Some k.to) o.state.incarnation false (on_state (with_leaving Says) o) in
      let says : told.state.life.leaving ≡ Says = row_leaving s k what.Left (Some k.to) o.state.incarnation false (on_state (with_leaving Says) o) in
      said (is_anybody_up told.state) (with_put s k (own_left k.to told.state.incarnation) told) (lingered s k told)
      (ap does_intend (put_leaving s k (own_left k.to told.state.incarnation) told ∙ says)) (ap does_intend (timer_leaving s k _ _ (on_state (with_leaving Lingers) told)))

  said_none : (o : Effect) (b : Bool) → is_to_say k.to o.state ≡ b → is_to_say k.to (cond b (left_said s k o) o).state ≡ false
  said_none o true is = ap (λ intends. intends && not (contains_key (left_said s k o).state.life.intents k.to)) (left_said_said o)
  said_none o false is = is

  linger_none : (o : Effect) (b : Bool) → is_to_say k.to o.state ≡ false → is_to_linger s k.to o.state ≡ b
      → (is_to_say k.to (cond b (lingered s k o) o).state ≡ false) × (is_to_linger s k.to (cond b (lingered s k o) o).state ≡ false)
  unfolding with_timer with_event
  linger_none o true none is = (refl, refl)
  linger_none o false none is = (none, is)

  gone_none : (o : Effect) (b : Bool) → is_running o.state.phase ≡ b → HasNoneLeft s k.to (cond b (left_sent s k (intent_sent s k o)) o).state
  gone_none o true runs up =
      let sent = intent_sent s k o in
      linger_none sent (is_to_linger s k.to sent.state) (said_none o (is_to_say k.to o.state) refl) refl
  gone_none o false down up = absurd (let e = down in let f = up in cc)

  gone_on_none : (o : Effect) → HasNoneLeft s k.to (leave_gone_on s k o).state
  unfolding leave_gone_on
  gone_on_none o = gone_none o (is_running o.state.phase) refl

  none_once_started : (content : EventKind) (t : State) → t ≡ opening_state s k.to → HasSettledLeave s k.to t → HasSettledLeave s k.to (start_handled s k content (unchanged t)).state
  unfolding opening_state
  none_once_started Start t is before =
      settled s k.to _ (none_of_staying s k.to _ (started_leaving s k (unchanged t) ∙ ap (λ (t : State). t.life.leaving) is))
  none_once_started _ t is before = before

  none_once_again : (content : EventKind) (t : State) → HasSettledLeave s k.to t → HasSettledLeave s k.to (restart_handled s k content (unchanged t)).state
  none_once_again (Restart contact) t before = settled s k.to _ (none_of_staying s k.to _ (restarted_leaving s k contact (unchanged t)))
  none_once_again _ t before = before

  by_phase : (content : EventKind) (t : State) (phase : Phase) → t.phase ≡ phase → WaitsAsOpened s k.to t → HasSettledLeave s k.to t → HasSettledLeave s k.to (phase_handled phase s k content (unchanged t)).state
  by_phase content t Waiting is waits before = none_once_started content t (waits is) before
  by_phase content t Joining is waits before = before
  by_phase content t Running is waits before = settled s k.to _ (gone_on_none (process_handled s k content (unchanged t)))
  by_phase content t Down is waits before = none_once_again content t before

  settled_either : (b : Bool) (o p : Effect) → HasSettledLeave s k.to o.state → HasSettledLeave s k.to p.state → HasSettledLeave s k.to (cond b o p).state
  settled_either true o p a b = a
  settled_either false o p a b = b

  pub settled_step : (content : EventKind) (t : State) → profile_of s ≡ Hashicorp → WaitsAsOpened s k.to t → HasSettledLeave s k.to t → HasSettledLeave s k.to (step s k content t).state
  unfolding step process_lived
  settled_step content t rules waits before =
      subst (λ profile. HasSettledLeave s k.to (handled_by t.phase profile s k content (unchanged t)).state) (sym rules)
      (settled_either (is_of_former_life k content t.life.birth) (unchanged t) (phase_handled t.phase s k content (unchanged t)) before (by_phase content t t.phase refl waits before))

-- ---- runs

pub settled_opening : (s : Setup) (m : ℕ) → HasSettledLeave s m (opening_state s m)
unfolding opening_state leave_gone_on
settled_opening s m k is = refl

abbrev AnyEvent : Key → EventKind → Type 0
AnyEvent k c = Unit {0}

all_any : (es : List (Key × EventKind)) → AllByRecursion (λ e. AnyEvent e.0 e.1) es
all_any [] = tt
all_any (e ∷ es) = (tt, all_any es)

pub settled_run : (s : Setup) (w : Cluster) (m : ℕ) (t : State) → profile_of s ≡ Hashicorp → IsReached s w → get w.members m ≡ Some t → HasSettledLeave s m t
settled_run s w m t rules reached here =
    ((run_kept (step s) (λ m t. WaitsAsOpened s m t × HasSettledLeave s m t) AnyEvent s.end
    (λ k c t _ _ h. ((waits_step s k c t h.0, settled_step s k c t rules h.0 h.1), all_any _)) reached.0 (opening s) w reached.1 reached.2
    (record {
      members = λ n u at. let first : u ≡ opening_state s n = opened s (numbers s) n u at in (λ _. first, subst (HasSettledLeave s n) (sym first) (settled_opening s n));
      events = λ k c here. tt;
    })).members m t here).1

pub idle_run : (s : Setup) (w : Cluster) (k : Key) (seq : ℕ) (t : State) → IsReached s w → get w.members k.to ≡ Some t → is_under_way seq t.probe ≡ false → step s k (DeadlineTimer seq) t ≡ unchanged t
idle_run s w k seq t reached here other = idle_step s k seq t other (λ rules. settled_run s w k.to t rules reached here k refl)
