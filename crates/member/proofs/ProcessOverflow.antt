-- What a counter at its limit makes of what processes do (memberlist 0.5.0's and Serf's rules).
use Rattle.std.proofs.Common.{◌≡◌, ℕ, Bool, true, false, cond, nat_eq, ◌&&◌, not, sym, subst, List, [], ◌∷◌, Option, Some, None}
use Rattle.std.specs.FinMap.{contains_key}
use Rattle.base.specs.declared.key.Key.{Key}
use Rattle.scenario.specs.Setup.{Setup}
use Rattle.scenario.specs.declared.settings.Gossip.{Gossip}
use Rattle.scenario.specs.declared.settings.Serf.{Serf}
use Rattle.trace.specs.declared.row.What.{What}
use Rattle.trace.specs.declared.row.What.TheVariants as what
use Rattle.incarnation.specs.declared.Update.{Update}
use Rattle.lives.specs.declared.leaving.Leaving.TheVariants.{Says}
use Rattle.lives.specs.declared.regards.Regard.TheVariants.{Marked}
use Rattle.lives.specs.Lives.{does_intend, does_say}
use Rattle.member.specs.declared.announce.Announce.TheVariants.{Aloud}
use Rattle.member.specs.State.{State}
use Rattle.member.specs.Effects.{Effect, on_state, with_row}
use Rattle.member.specs.Apply.{applied}
use Rattle.member.specs.Riding.{is_all_told, is_claim_held}
use Rattle.member.specs.Intents.{with_regard}
use Rattle.streams.specs.Draw.{Words}
use Rattle.member.specs.Connections.{with_words, dial_drawn, dialed, push_dialed}
use Rattle.member.specs.Beginnings.{contact_dialed, contact_asked, setting_set, reconnect_set, founders_reconnect_set}
use Rattle.member.specs.Merges.{entry_claim, is_left_and_not_up, leave_noted, entry_merged, table_merged}
use Rattle.member.specs.Leaves.{is_anybody_up, with_leaving, own_left, is_running, lingered, left_said, intent_sent, left_sent, leave_gone_on}
use Rattle.member.specs.Choices.{gossip_spread}
use Rattle.member.specs.WholeGossip.{round_set_again, whole_round}
use Rattle.member.specs.CounterOverflow.{IsOverflowed}
use Rattle.member.proofs.CounterOverflow.{kept_choice, kept_state, kept_row, kept_event, kept_timer, kept_put, kept_applied}

module _ (s : Setup) (k : Key) where
  -- ---- dials

  kept_dialed : (tells : What) (to : ℕ) (there : Option ℕ) (o : Effect) → IsOverflowed o.state → IsOverflowed (dialed s k tells to there o).state
  kept_dialed tells to None o overflow = kept_row k _ _ _ _ _ overflow
  kept_dialed tells to (Some there) o overflow = kept_event s k _ _ _ _ (kept_row k _ _ _ _ _ overflow)

  -- a counter that overflows with a dial that was drawn
  pub overflow_dialed : (tells : What) (to : ℕ) (there : Option ℕ) (t : State) (o : Effect) (drawn : Option ℕ × Words) → there ≡ drawn.0 → t ≡ with_words drawn.1 o.state
      → IsOverflowed (dialed s k tells to there (record { state = t; events = o.events; rows = o.rows })).state → IsOverflowed (dialed s k tells to drawn.0 (on_state (with_words drawn.1) o)).state
  overflow_dialed tells to there t o drawn first rest overflow =
      subst (λ (v : State). IsOverflowed (dialed s k tells to drawn.0 (record { state = v; events = o.events; rows = o.rows })).state) rest
      (subst (λ (a : Option ℕ). IsOverflowed (dialed s k tells to a (record { state = t; events = o.events; rows = o.rows })).state) first overflow)

  pub overflow_push_dialed : (to : ℕ) (there : Option ℕ) (t : State) (o : Effect) (drawn : Option ℕ × Words) → there ≡ drawn.0 → t ≡ with_words drawn.1 o.state
      → IsOverflowed (push_dialed s k to there (record { state = t; events = o.events; rows = o.rows })).state → IsOverflowed (push_dialed s k to drawn.0 (on_state (with_words drawn.1) o)).state
  overflow_push_dialed to there t o drawn first rest overflow =
      subst (λ (v : State). IsOverflowed (push_dialed s k to drawn.0 (record { state = v; events = o.events; rows = o.rows })).state) rest
      (subst (λ (a : Option ℕ). IsOverflowed (push_dialed s k to a (record { state = t; events = o.events; rows = o.rows })).state) first overflow)

  kept_contact_dialed : (contact : ℕ) (o : Effect) → IsOverflowed o.state → IsOverflowed (contact_dialed s k contact o).state
  unfolding contact_dialed
  kept_contact_dialed contact o overflow =
      let drawn = dial_drawn s k contact o.state in
      kept_event s k _ _ _ _ (kept_dialed what.Join contact drawn.0 (on_state (with_words drawn.1) o) overflow)

  -- ---- beginnings

  pub kept_asked : (contact : Option ℕ) (o : Effect) → IsOverflowed o.state → IsOverflowed (contact_asked s k contact o).state
  kept_asked None o overflow = overflow
  kept_asked (Some contact) o overflow = kept_contact_dialed contact o overflow

  pub kept_setting : (gossip : Option Gossip) (o : Effect) → IsOverflowed o.state → IsOverflowed (setting_set s k gossip o).state
  kept_setting None o overflow = overflow
  kept_setting (Some gossip) o overflow = kept_choice (nat_eq gossip.push 0) _ _ overflow (kept_timer s k _ _ _ overflow)

  pub kept_reconnect : (serf : Option Serf) (o : Effect) → IsOverflowed o.state → IsOverflowed (reconnect_set s k serf o).state
  kept_reconnect None o overflow = overflow
  kept_reconnect (Some serf) o overflow = kept_timer s k _ _ _ overflow

  pub kept_founders_reconnect : (serf : Option Serf) (o : Effect) → IsOverflowed o.state → IsOverflowed (founders_reconnect_set s k serf o).state
  kept_founders_reconnect None o overflow = overflow
  kept_founders_reconnect (Some serf) o overflow = kept_event s k _ _ _ _ overflow

  -- ---- merges

  kept_noted : (serf : Option Serf) (u : Update) (t : State) → IsOverflowed t → IsOverflowed (leave_noted serf k.to u t)
  kept_noted None u t overflow = overflow
  kept_noted (Some serf) u t overflow = kept_state (is_left_and_not_up k.to u t) (with_regard u.subject Marked t) t overflow overflow

  -- an entry whose claim brought a counter past its limit
  pub kept_note : (u : Update) (o : Effect) → IsOverflowed (applied s Aloud k (entry_claim k.to u) o).state → IsOverflowed (entry_merged s k u o).state
  kept_note u o overflow = kept_noted s.serf u (applied s Aloud k (entry_claim k.to u) o).state overflow

  kept_entry : (u : Update) (o : Effect) → IsOverflowed o.state → IsOverflowed (entry_merged s k u o).state
  kept_entry u o overflow = kept_note u o (kept_applied s Aloud k (entry_claim k.to u) o overflow)

  pub kept_table : (us : List Update) (o : Effect) → IsOverflowed o.state → IsOverflowed (table_merged s k us o).state
  unfolding table_merged
  kept_table [] o overflow = overflow
  kept_table (u ∷ us) o overflow = kept_table us (entry_merged s k u o) (kept_entry u o overflow)

  -- ---- leaves

  kept_lingered : (o : Effect) → IsOverflowed o.state → IsOverflowed (lingered s k o).state
  kept_lingered o overflow = kept_timer s k _ _ _ overflow

  kept_left_said : (o : Effect) → IsOverflowed o.state → IsOverflowed (left_said s k o).state
  unfolding left_said
  kept_left_said o overflow =
      let told = with_row k what.Left (Some k.to) o.state.incarnation false (on_state (with_leaving Says) o) in
      let overflowed : IsOverflowed told.state = kept_row k what.Left (Some k.to) o.state.incarnation false (on_state (with_leaving Says) o) overflow in
      kept_choice (is_anybody_up told.state) _ _ (kept_put s k (own_left k.to told.state.incarnation) told overflowed) (kept_lingered told overflowed)

  kept_intent_sent : (o : Effect) → IsOverflowed o.state → IsOverflowed (intent_sent s k o).state
  kept_intent_sent o overflow =
      kept_choice (does_intend o.state.life.leaving && not (contains_key o.state.life.intents k.to)) _ _ (kept_left_said o overflow) overflow

  pub kept_left_sent : (o : Effect) → IsOverflowed o.state → IsOverflowed (left_sent s k o).state
  kept_left_sent o overflow =
      kept_choice (does_say o.state.life.leaving && not (is_claim_held s.queue k.to o.state)) _ _ (kept_lingered o overflow) overflow

  -- where the first of both brought a counter past its limit
  pub kept_running : (o : Effect) → is_running o.state.phase ≡ true → IsOverflowed (intent_sent s k o).state → IsOverflowed (leave_gone_on s k o).state
  unfolding leave_gone_on
  kept_running o runs overflow =
      subst (λ (b : Bool). IsOverflowed (cond b (left_sent s k (intent_sent s k o)) o).state) (sym runs) (kept_left_sent (intent_sent s k o) overflow)

  pub kept_gone_on : (o : Effect) → IsOverflowed o.state → IsOverflowed (leave_gone_on s k o).state
  unfolding leave_gone_on
  kept_gone_on o overflow = kept_choice (is_running o.state.phase) _ _ (kept_left_sent (intent_sent s k o) (kept_intent_sent o overflow)) overflow

  -- ---- gossip

  pub kept_round_again : (gossip : Gossip) (o : Effect) → IsOverflowed o.state → IsOverflowed (round_set_again s k gossip o).state
  kept_round_again gossip o overflow = kept_choice (is_all_told s o.state) _ _ overflow (kept_event s k _ _ _ _ overflow)

  -- where the round itself brought a counter past its limit
  pub kept_round : (gossip : Gossip) (o : Effect) → is_all_told s o.state ≡ false → IsOverflowed (gossip_spread s k gossip o).state → IsOverflowed (whole_round s k gossip o).state
  kept_round gossip o some overflow =
      subst (λ (b : Bool). IsOverflowed (cond b o (round_set_again s k gossip (gossip_spread s k gossip o))).state) (sym some) (kept_round_again gossip (gossip_spread s k gossip o) overflow)
