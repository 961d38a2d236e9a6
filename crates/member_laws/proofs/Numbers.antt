-- A member's own incarnation number.
use Rattle.std.proofs.Common.{◌≡◌, ℕ, ◌+◌, ◌-◌, ◌≤◌, Bool, true, false, not, cond, nat_eq, Option, Some, None, refl, sym, ap, ◌∙◌, arith}
use Rattle.std.proofs.lemmas.Bool.{eq-eqb, eqb-true, eqb-false, false≢true, and_parts}
use Rattle.std.specs.FinMap.{get}
use Rattle.base.specs.declared.key.Key.{Key}
use Rattle.scenario.specs.Setup.{Setup}
use Rattle.scenario.specs.Profile.{profile_of}
use Rattle.scenario.specs.declared.settings.Gossip as settings
use Rattle.base.specs.Beats.{next_in_step}
use Rattle.base.specs.declared.profile.Profile.TheVariants.{Papers, Memberlist, Hashicorp}
use Rattle.incarnation.specs.Refutations.{does_refute}
use Rattle.trace.specs.declared.row.What.{What}
use Rattle.incarnation.specs.declared.Claim.{Claim}
use Rattle.incarnation.specs.declared.Claim.TheVariants.{Alive, Suspect, Confirm, Left, Intent}
use Rattle.incarnation.specs.declared.Update.{Update}
use Rattle.lifeguard.specs.Health.{LocalHealth}
use Rattle.member.specs.declared.event_kind.EventKind.{EventKind}
use Rattle.membership.specs.Table.{Known}
use Rattle.member.specs.declared.member.Phase.{Phase}
use Rattle.member.specs.declared.member.Phase.TheVariants.{Waiting}
use Rattle.member.specs.State.{State}
use Rattle.member.specs.declared.event_kind.EventKind.TheVariants.{GossipTimer}
use Rattle.member.specs.declared.announce.Announce.{Announce}
use Rattle.member.specs.Effects.{Effect, on_state, with_row, with_event}
use Rattle.member.specs.Opening.{opening_state}
use Rattle.member.specs.Apply.{gossip_set, with_put, with_health, refuted, heard_dead, is_own_death, is_refuted, own_applied, other_applied, intent_applied, claim_applied, applied}
use Rattle.member.specs.Step.{step}
use Rattle.member.proofs.CounterOverflow.{refutes_over}
use Rattle.base.specs.declared.profile.Profile.{Profile}
use Rattle.scenario.specs.declared.settings.Queue.{Queue}
use Rattle.lives.specs.Lives.{has_said}
use Rattle.membership.specs.Table.{is_intent}
use Rattle.member.specs.Riding.{put_up}
use Rattle.member_laws.specs.Words.{AccusesOneself, IsRefuted, WaitsAsOpened, IsBorn}
use Rattle.member_laws.proofs.Lives.{life_step}
use Rattle.member_laws.proofs.Moves.{NewsMoves, FactOf, LifeMoves, OwnMoves, keeps_news, keeps_moves, Anyone}
use Rattle.member_laws.proofs.Walk.{on_other, on_intent, on_step, anyone_named}

-- ---- an update

abbrev Same : ℕ → Phase → ℕ → LocalHealth → Known → Type 0
Same n phase number health table = number ≡ n

same_news : (s : Setup) (k : Key) (n : ℕ) → NewsMoves s k Anyone (FactOf (Same n))
same_news s k n = keeps_news s k (Same n) (λ t u says h. h)

after_row : (k : Key) (tells : What) (about : Option ℕ) (value : ℕ) (lost : Bool) (o : Effect) → (with_row k tells about value lost o).state ≡ o.state
unfolding with_row
after_row k tells about value lost o = refl

after_health : (k : Key) (h : LocalHealth) (o : Effect) → (with_health k h o).state.incarnation ≡ o.state.incarnation
unfolding with_health
after_health k h o = either (nat_eq h.counter o.state.health.counter)
  where
    either : (b : Bool) → (cond b (on_state (λ t. record t { health = h }) o) (with_row k What.Health None h.counter false (on_state (λ t. record t { health = h }) o))).state.incarnation ≡ o.state.incarnation
    either true = refl
    either false = ap (λ (t : State). t.incarnation) (after_row k _ _ h.counter false (on_state (λ t. record t { health = h }) o))

after_event : (s : Setup) (k : Key) (at to : ℕ) (content : EventKind) (o : Effect) → (with_event s k at to content o).state.incarnation ≡ o.state.incarnation
unfolding with_event
after_event s k at to content o = refl

after_gossip : (s : Setup) (k : Key) (gossip : Option settings.Gossip) (o : Effect) → (gossip_set s k gossip o).state.incarnation ≡ o.state.incarnation
after_gossip s k None o = refl
after_gossip s k (Some gossip) o = either o.state.gossips
  where
    set : Effect
    set = with_event s k (next_in_step (o.state.beat - 1) gossip.interval k.at) k.to GossipTimer (on_state (λ t. record t { gossips = true }) o)

    either : (b : Bool) → (cond b o set).state.incarnation ≡ o.state.incarnation
    either true = refl
    either false = after_event s k (next_in_step (o.state.beat - 1) gossip.interval k.at) k.to GossipTimer (on_state (λ t. record t { gossips = true }) o)

after_put : (s : Setup) (queue : Option Queue) (u : Update) (t : State) → (put_up s queue u t).incarnation ≡ t.incarnation
after_put s None u t = refl
after_put s (Some q) u t = refl

one_more : (s : Setup) (k : Key) (number : ℕ) (o : Effect) → (refuted s k number o).state.incarnation ≡ number
unfolding refuted with_put
one_more s k number o = after_gossip s k s.gossip _ ∙ after_put s s.queue _ _ ∙ after_health k _ _ ∙ ap (λ (t : State). t.incarnation) (after_row k _ _ _ false _)

own_same : (s : Setup) (k : Key) (claim : Claim) (number : ℕ) (b : Bool) (o : Effect) → (cond b (heard_dead k number o) o).state.incarnation ≡ o.state.incarnation
unfolding heard_dead
own_same s k claim number true o = ap (λ (t : State). t.incarnation) (after_row k _ _ number false _)
own_same s k claim number false o = refl

own_either : (s : Setup) (k : Key) (claim : Claim) (number : ℕ) (b : Bool) (o : Effect) → b ≡ false
    → (cond b (refuted s k (number + 1) o) (cond (is_own_death (profile_of s) claim o.state.heard_dead) (heard_dead k number o) o)).state.incarnation ≡ o.state.incarnation
own_either s k claim number true o is = absurd (false≢true (sym is))
own_either s k claim number false o is = own_same s k claim number (is_own_death (profile_of s) claim o.state.heard_dead) o

not_true : (b : Bool) → ¬ (b ≡ true) → b ≡ false
not_true true never = absurd (never refl)
not_true false never = refl

refutes_claim : (profile : Profile) (t : State) (claim : Claim) (number : ℕ) → is_refuted profile t claim number ≡ true → is_intent claim ≡ false
refutes_claim profile t Alive number h = refl
refutes_claim profile t Suspect number h = refl
refutes_claim profile t Confirm number h = refl
refutes_claim profile t Left number h = refl
refutes_claim Papers t Intent number h = absurd (false≢true h)
refutes_claim Memberlist t Intent number h = absurd (false≢true h)
refutes_claim Hashicorp t Intent number h = absurd (false≢true (and_parts (not (has_said t.life.leaving)) false h).1)

pub refutes : (s : Setup) (telling : Announce) (k : Key) (u : Update) (o : Effect) → IsRefuted (profile_of s) k.to o.state u
    → (applied s telling k u o).state.incarnation ≡ u.inc + 1
unfolding applied claim_applied
refutes s telling k u o is = rw (refutes_claim (profile_of s) o.state u.claim u.inc is.refutes, eq-eqb u.subject k.to is.own, is.refutes) (one_more s k (u.inc + 1) o)

pub else_same : (s : Setup) (telling : Announce) (k : Key) (u : Update) (o : Effect) → ¬ (IsRefuted (profile_of s) k.to o.state u)
    → (applied s telling k u o).state.incarnation ≡ o.state.incarnation
unfolding applied claim_applied
else_same s telling k u o other = spoken (is_intent u.claim) refl
  where
    either : (b : Bool) → is_intent u.claim ≡ false → nat_eq u.subject k.to ≡ b
        → (cond b (own_applied s k u.claim u.inc o) (other_applied s telling k u (get o.state.table u.subject) o)).state.incarnation ≡ o.state.incarnation
    either true says e =
        own_either s k u.claim u.inc (is_refuted (profile_of s) o.state u.claim u.inc) o
        (not_true _ (λ yes. other (record { own = eqb-true u.subject k.to e; refutes = yes })))
    either false says e =
        on_other s k Anyone (FactOf (Same o.state.incarnation)) (same_news s k o.state.incarnation) telling u (get o.state.table u.subject) o tt (eqb-false u.subject k.to e) says refl refl

    spoken : (b : Bool) → is_intent u.claim ≡ b
        → (cond b (intent_applied s k u s.serf o) (cond (nat_eq u.subject k.to) (own_applied s k u.claim u.inc o) (other_applied s telling k u (get o.state.table u.subject) o))).state.incarnation ≡ o.state.incarnation
    spoken true e = on_intent s k Anyone (FactOf (Same o.state.incarnation)) (same_news s k o.state.incarnation) u s.serf o tt refl
    spoken false e = either (nat_eq u.subject k.to) e refl

-- by the papers' rules what is refuted is a suspicion at one's present number
pub refuted_by_papers : (me : ℕ) (t : State) (u : Update) → AccusesOneself me t u → IsRefuted Papers me t u
refuted_by_papers me t u is = record { own = is.own; refutes = rw is.claim (eq-eqb u.inc t.incarnation is.present) }

pub papers_refute : (me : ℕ) (t : State) (u : Update) → IsRefuted Papers me t u → AccusesOneself me t u
papers_refute me t u is = by_claim u.claim refl is.refutes
  where
    by_claim : (claim : Claim) → u.claim ≡ claim → does_refute Papers t.incarnation claim u.inc ≡ true → AccusesOneself me t u
    by_claim Alive e h = absurd (false≢true h)
    by_claim Suspect e h = record { own = is.own; claim = e; present = eqb-true u.inc t.incarnation h }
    by_claim Confirm e h = absurd (false≢true h)
    by_claim Left e h = absurd (false≢true h)
    by_claim Intent e h = absurd (false≢true h)

-- ---- a step

-- it is no less than it was at first, when only a waiting member was at 0 for sure
abbrev NoLess : ℕ → Phase → ℕ → LocalHealth → Known → Type 0
NoLess n phase number health table = (n ≤ number) × (phase ≡ Waiting → n ≡ 0)

moves : (s : Setup) (k : Key) (n : ℕ) → LifeMoves s k (FactOf (NoLess n))
moves s k n = record {
  refuted = λ t claim number refutes h. (let over = refutes_over (profile_of s) t.incarnation claim number refutes in let low = h.0 in omega arith, h.1);
  weakened = λ t failures h. h;
  mended = λ t h. h;
  welcomed = λ t h. (h.0, λ is. absurd (let e = is in cc));
  downed = λ t h. (h.0, λ is. absurd (let e = is in cc));
  forgotten = λ t q held rules here dead h. h;
  began = λ t waits h. (let none = h.1 waits in omega arith, λ is. h.1 waits);
  late = λ t waits h. (h.0, λ is. h.1 waits);
  alone = λ t waits rules h. (h.0, λ is. h.1 waits);
}

opened : (s : Setup) (m : ℕ) → (opening_state s m).incarnation ≡ 0
unfolding opening_state
opened s m = refl

-- in one life
pub never_falls : (s : Setup) (k : Key) (c : EventKind) (t : State) → WaitsAsOpened s k.to t → IsBorn t → (step s k c t).state.life.birth ≡ t.life.birth → t.incarnation ≤ (step s k c t).state.incarnation
never_falls s k c t waits born same =
    ((life_step s k t (NoLess t.incarnation) (λ t u says h. h) (moves s k t.incarnation) c born (omega arith, λ is. ap (λ (t : State). t.incarnation) (waits is) ∙ opened s k.to)).2 same).0

-- by the older rules nobody starts again
older_moves : (s : Setup) (k : Key) (n : ℕ) → ¬ (profile_of s ≡ Hashicorp) → OwnMoves s k (FactOf (NoLess n))
older_moves s k n older =
    let own = moves s k n in
    record {
      refuted = own.refuted;
      weakened = own.weakened;
      mended = own.mended;
      welcomed = own.welcomed;
      downed = own.downed;
      forgotten = own.forgotten;
      began = own.began;
      late = own.late;
      alone = own.alone;
      again = λ t contact rules h. absurd (older rules);
    }

pub never_falls_by_older : (s : Setup) (k : Key) (c : EventKind) (t : State) → ¬ (profile_of s ≡ Hashicorp) → WaitsAsOpened s k.to t → t.incarnation ≤ (step s k c t).state.incarnation
never_falls_by_older s k c t older waits =
    (on_step s k Anyone (FactOf (NoLess t.incarnation)) (keeps_news s k (NoLess t.incarnation) (λ t u says h. h)) (keeps_moves s k (NoLess t.incarnation) (older_moves s k t.incarnation older)) c t tt (anyone_named c)
    (omega arith, λ is. ap (λ (t : State). t.incarnation) (waits is) ∙ opened s k.to)).0
