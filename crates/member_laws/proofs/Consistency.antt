-- What every state keeps.
use Rattle.member.specs.declared.event_kind.EventKind.TheVariants.{Start, Crash, Leave, Restart, JoinTimer, PeriodTimer, TimeoutTimer, NackTimer, SuspicionTimer, Join, Welcome, Ping, PingReq, Ack, Nack, Bye, DeadlineTimer, GossipTimer, PushTimer, Call, Answer, Gossip, Push, Pull, SettingTimer, ConnectedTimer, ReconnectTimer, ExitTimer}
use Rattle.std.proofs.lemmas.List.Elements.{All-from_recursion, recursion_from_All}
use Rattle.std.specs.List.{AllByRecursion}
use Rattle.member.specs.Here.{MentionsMembers}
use Rattle.piggyback.specs.Picked.{HeldUpdates}
use Rattle.std.proofs.Common.{◌≡◌, ℕ, zero, suc, ◌+◌, ◌<◌, ◌≤◌, Bool, true, false, cond, ◌&&◌, length, Option, Some, None, refl, sym, ap, subst, ◌∙◌, arith, All, List}
use Rattle.std.specs.Option.{is_some, option_map_or, IfSome}
use Rattle.std.specs.Ordering.{nat_cmp}
use Rattle.std.specs.FinMap.{get, insert, remove, empty, get-empty}
use Rattle.std.specs.FinSet as set
use Rattle.std.specs.FinSet.{contains-empty, contains-remove}
use Rattle.std.proofs.lemmas.Bool.{false≢true}
use Rattle.base.specs.declared.key.Key.{Key}
use Rattle.scenario.specs.Setup.{Setup, IsSound, member_count, start_of, contact_of}
use Rattle.scenario.specs.declared.settings.Queue.{Queue}
use Rattle.lives.specs.Lives.{LifeState, life_begun}
use Rattle.broadcast_queue.specs.Items.{those_that_fit}
use Rattle.member.specs.Riding.{put_up, claim_bytes, measure_of, room_of, without_claims, intents_behind, without_both}
use Rattle.member.specs.Intents.{with_intent}
use Rattle.member_laws.proofs.Queued.{put_about, pick_about, fit_about}
use Rattle.streams.specs.Draw.{Words, AreWords, IsRestOf}
use Rattle.streams.proofs.PlaceLemmas.{below_rest}
use Rattle.streams.proofs.RangeLemmas.{rest_fits, words_of_fit}
use Rattle.incarnation.specs.declared.Claim.{Claim}
use Rattle.incarnation.specs.declared.Claim.TheVariants.{Alive, Suspect, Confirm, Left, Intent}
use Rattle.incarnation.specs.declared.Update.{Update}
use Rattle.lifeguard.specs.Health.{LocalHealth, lowered, raised}
use Rattle.lifeguard.specs.Relays.{relay_cmp}
use Rattle.lifeguard.proofs.RelaySets.{relays_total}
use Rattle.probing.specs.ProbeOrder.{ProbeOrder, insert_of, next_of, remove_of, IsSoundOrder as IsSoundOrder}
use Rattle.probing.specs.Mixed.{mixed_of}
use Rattle.probing.proofs.RoundLemmas.{is_probe}
use Rattle.probing.specs.Displaced.{displaced_of}
use Rattle.probing.proofs.MixedLemmas.{mixed_rest}
use Rattle.probing.proofs.DisplacedLemmas.{displaced_rest}
use Rattle.suspicion.specs.Settings.{terms_of}
use Rattle.suspicion.specs.Suspicions.{HeldSuspicion}
use Rattle.member.specs.declared.event_kind.EventKind.{EventKind}
use Rattle.member.specs.declared.member.Phase.TheVariants.{Waiting}
use Rattle.member.specs.State.{State, is_probed}
use Rattle.base.specs.declared.profile.Profile.{Profile}
use Rattle.base.specs.declared.profile.Profile.TheVariants.{Papers, Memberlist, Hashicorp}
use Rattle.scenario.specs.Profile.{profile_of}
use Rattle.membership.specs.Table.{is_suspect, is_confirm, all_alive}
use Rattle.member.specs.Send.{limit_of}
use Rattle.member.specs.Apply.{with_claim, with_place, with_newcomer, with_turn_of, claim_kept, newcomer_kept, claim_kept_by, without_suspicion, death_kept}
use Rattle.member.specs.Opening.{opening_state, opening_health}
use Rattle.member.specs.Step.{step, first_others}
use Rattle.member_laws.specs.Words.{has_relays, holds, is_live, IsConsistent, IsAmongMembers, SendsOfMembers, ProbesAMember, LivesAmongMembers}
use Rattle.member_laws.proofs.Moves.{IsNews, Begins, NewsMoves, Moves, at_once, at_late, at_alone, at_again}
use Rattle.member.proofs.Members.{few_members}
use Rattle.member_laws.proofs.Walk.{on_any_step, NamesOnly}
use Rattle.member_laws.proofs.Carried.{all_put, all_left, all_left_after}
use Rattle.member_laws.proofs.Tables.{HoldsOthers, others_put, others_left, SuspectsAlike, suspects_left, probes_left, suspected, cleared, accusation, ProbesAlike, next_probes, mixed_probes, placed, displaced, stays_probed, taken_out, first_known, first_suspected, first_probed, none_known, none_suspects, none_probed, known_held}

-- ---- health

pub record IsHealthy (ceiling : ℕ) (h : LocalHealth) : Type 0 where
  pub within : h.counter ≤ h.ceiling
  pub same : h.ceiling ≡ ceiling

pub healthy_raised : (c : ℕ) (h : LocalHealth) (n : ℕ) → IsHealthy c h → IsHealthy c (raised h n)
healthy_raised c h n is = record { within = omega arith; same = is.same }

pub healthy_lowered : (c : ℕ) (h : LocalHealth) → IsHealthy c h → IsHealthy c (lowered h)
healthy_lowered c h is = record { within = let low = is.within in omega arith; same = is.same }

-- ---- relays

pub relay_gone : (a b : Bool) → b ≡ false → (a && b) ≡ false
relay_gone true b h = h
relay_gone false b h = refl

-- ---- a member that has started

pub record Keeps (s : Setup) (m : ℕ) (t : State) : Type 0 where
  pub up : ¬ (t.phase ≡ Waiting)
  pub others : HoldsOthers (member_count s) m t.table
  pub suspects : SuspectsAlike t.table t.suspicions (terms_of s)
  pub probes : ProbesAlike t.table t.rota
  pub health : IsHealthy (opening_health s).ceiling t.health
  pub relays : has_relays s ≡ false → (relay : ℕ × ℕ) → set.contains t.relays relay ≡ false
  pub words : AreWords t.words
  pub buffer : SendsOfMembers s t
  pub target : ProbesAMember s t
  pub life : LivesAmongMembers s t.life

inserted : (words : Words) (member : ℕ) (order : ProbeOrder) → IsRestOf words (insert_of words member order).1
unfolding insert_of
inserted words member order = below_rest words (length order.members + 1)

next_rest : (words : Words) (order : ProbeOrder) → AreWords words → IsSoundOrder order → IsRestOf words (next_of words order).2
next_rest words order fit sound = (is_probe words order fit sound).rest

-- whether what is held of a member holds it as live
abbrev live_held : Option (Claim × ℕ) → Bool
live_held held = option_map_or (λ (held : Claim × ℕ). is_live held.0) held false

-- and as suspected
abbrev suspect_held : Option (Claim × ℕ) → Bool
suspect_held held = option_map_or (λ (held : Claim × ℕ). is_suspect held.0) held false

no_suspect : (c : Claim) → is_confirm c ≡ true → is_suspect c ≡ false
no_suspect Alive h = absurd (false≢true h)
no_suspect Suspect h = absurd (false≢true h)
no_suspect Confirm h = refl
no_suspect Left h = refl
no_suspect Intent h = refl

-- who is probed is held as live
probed_live : (held : Option (Claim × ℕ)) → is_probed held ≡ option_map_or (λ (held : Claim × ℕ). is_live held.0) held false
probed_live None = refl
probed_live (Some held) = refl

live_known : (s : Setup) (m : ℕ) (t : State) (q : ℕ) (b : Bool) → holds is_live t.table q ≡ b → Keeps s m t → 1 ≤ cond b 1 0 → q < member_count s
live_known s m t q true e h one = (h.others.others q (known_held is_live (get t.table q) e)).0
live_known s m t q false e h one = absurd (omega arith)

-- the next probe goes to a member
probed_member : (s : Setup) (m : ℕ) (t : State) (q : ℕ) → Keeps s m t → (next_of t.words t.rota).0 ≡ Some q → q < member_count s
probed_member s m t q h is =
    live_known s m t q (holds is_live t.table q) refl h (subst (λ n. 1 ≤ n) (h.probes.probes q) ((is_probe t.words t.rota h.words h.probes.sound).some q is))

-- a life that has begun
fresh_life : (s : Setup) (birth : ℕ) (contact : Option ℕ) → IfSome contact (λ c. c < member_count s) → LivesAmongMembers s (life_begun birth contact)
fresh_life s birth contact named = record { asked = named; intents = λ q it here. absurd (false≢true (sym (ap is_some (get-empty nat_cmp q)) ∙ ap is_some here)); queue = tt }

-- one that starts again
born_again : (s : Setup) (k : Key) (contact : Option ℕ) (t : State) → IfSome contact (λ c. c < member_count s) → Keeps s k.to t → Keeps s k.to (at_again s k contact t)
unfolding opening_state
born_again s k contact t named h = record {
  up = λ is. absurd (let e = is in cc);
  others = none_known (member_count s) k.to;
  suspects = none_suspects (terms_of s);
  probes = none_probed;
  health = record { within = omega arith; same = refl };
  relays = λ off relay. contains-empty relay_cmp relay;
  words = h.words;
  buffer = λ q it here. absurd (false≢true (sym (ap is_some (get-empty nat_cmp q)) ∙ ap is_some here));
  target = λ probe is. absurd (false≢true (ap is_some is));
  life = fresh_life s t.next_number contact named;
}

-- whom one asks that starts later
pub contact_named : (s : Setup) → IsSound s → (m : ℕ) → m < member_count s → IfSome (contact_of s m) (λ c. c < member_count s)
contact_named s sound m here = by_start (start_of s m) refl
  where
    by_start : (start : ℕ) → start_of s m ≡ start → IfSome (contact_of s m) (λ c. c < member_count s)
    by_start zero e = subst (λ o. IfSome o (λ c. c < member_count s)) (sym ((sound.contacts m here).none e)) tt
    by_start (suc start) e =
        let contact = (sound.contacts m here).some (omega arith) in
        subst (λ o. IfSome o (λ c. c < member_count s)) (sym contact.1) contact.2

module _ (s : Setup) (sound : IsSound s) (k : Key) where
  abbrev pub Named : ℕ → Type 0
  Named q = q < member_count s

  -- the rota and the words after a claim that does not confirm is kept
  not_confirm : (c : Claim) → is_live c ≡ true → is_confirm c ≡ false
  not_confirm Alive h = refl
  not_confirm Suspect h = refl
  not_confirm Confirm h = absurd (false≢true h)
  not_confirm Left h = absurd (false≢true h)
  not_confirm Intent h = refl

  confirms_not : (c : Claim) → is_confirm c ≡ false → is_live c ≡ true
  confirms_not Alive h = refl
  confirms_not Suspect h = refl
  confirms_not Confirm h = absurd (false≢true (sym h))
  confirms_not Left h = absurd (false≢true (sym h))
  confirms_not Intent h = refl

  confirms : (c : Claim) → is_confirm c ≡ true → is_live c ≡ false
  confirms Alive h = absurd (false≢true h)
  confirms Suspect h = absurd (false≢true h)
  confirms Confirm h = refl
  confirms Left h = refl
  confirms Intent h = absurd (false≢true h)

  -- what may come of it: the subject stays in the rota, comes to a drawn place, or takes the place of another
  module _ (t : State) (u : Update) (named : Named u.subject) (live : is_live u.claim ≡ true) (fit : AreWords t.words) (probes : ProbesAlike t.table t.rota)
      (P : State → Type 0) (plain : AreWords t.words → ProbesAlike (insert t.table u.subject (u.claim, u.inc)) t.rota → P (with_claim u t))
      (place : AreWords (insert_of t.words u.subject t.rota).1 → ProbesAlike (insert t.table u.subject (u.claim, u.inc)) (insert_of t.words u.subject t.rota).0 → P (with_place u.subject (with_claim u t)))
      (new : AreWords (displaced_of t.words u.subject t.rota).1 → ProbesAlike (insert t.table u.subject (u.claim, u.inc)) (displaced_of t.words u.subject t.rota).0 → P (with_newcomer u.subject (with_claim u t))) where
    stays : holds is_live t.table u.subject ≡ true → P (with_claim u t)
    stays was = plain fit (stays_probed t.table t.rota u.subject (u.claim, u.inc) was live probes)

    comes : holds is_live t.table u.subject ≡ false → P (with_place u.subject (with_claim u t))
    comes none =
        place (rest_fits t.words (insert_of t.words u.subject t.rota).1 fit (inserted t.words u.subject t.rota))
        (placed t.table t.rota t.words u.subject (u.claim, u.inc) fit (let few = few_members s sound in omega arith) none live probes)

    takes : holds is_live t.table u.subject ≡ false → P (with_newcomer u.subject (with_claim u t))
    takes none =
        new (rest_fits t.words (displaced_of t.words u.subject t.rota).1 fit (displaced_rest t.words u.subject t.rota))
        (displaced t.table t.rota t.words u.subject (u.claim, u.inc) fit (let few = few_members s sound in omega arith) none live probes)

    by_turn : (b : Bool) → is_probed (get t.table u.subject) ≡ b → P (cond b (with_claim u t) (with_place u.subject (with_claim u t)))
    by_turn true was = stays (sym (probed_live (get t.table u.subject)) ∙ was)
    by_turn false was = comes (sym (probed_live (get t.table u.subject)) ∙ was)

    by_held : (held : Claim × ℕ) (b : Bool) → get t.table u.subject ≡ Some held → is_confirm held.0 ≡ b → P (cond b (with_place u.subject (with_claim u t)) (with_claim u t))
    by_held held true here is = comes (ap live_held here ∙ confirms held.0 is)
    by_held held false here is = stays (ap live_held here ∙ confirms_not held.0 is)

    by_known : (held : Option (Claim × ℕ)) → get t.table u.subject ≡ held → P (with_turn_of held u.subject (with_claim u t))
    by_known None none = takes (ap live_held none)
    by_known (Some held) here = by_held held (is_confirm held.0) here refl

    by_claim : (out turn : State) (b : Bool) → b ≡ false → P turn → P (cond b out turn)
    by_claim out turn true is h = absurd (false≢true (sym is))
    by_claim out turn false is h = h

    claimed_by : (profile : Profile) → P (claim_kept_by profile u t)
    unfolding claim_kept newcomer_kept
    claimed_by Papers = by_claim _ _ (is_confirm u.claim) (not_confirm u.claim live) (by_turn (is_probed (get t.table u.subject)) refl)
    claimed_by Memberlist = by_claim _ _ (is_confirm u.claim) (not_confirm u.claim live) (by_turn (is_probed (get t.table u.subject)) refl)
    claimed_by Hashicorp = by_claim _ _ (is_confirm u.claim) (not_confirm u.claim live) (by_known (get t.table u.subject) refl)

  claimed : (t : State) (u : Update) → Named u.subject → is_live u.claim ≡ true → AreWords t.words → ProbesAlike t.table t.rota
      → (P : State → Type 0) → (AreWords t.words → ProbesAlike (insert t.table u.subject (u.claim, u.inc)) t.rota → P (with_claim u t))
      → (AreWords (insert_of t.words u.subject t.rota).1 → ProbesAlike (insert t.table u.subject (u.claim, u.inc)) (insert_of t.words u.subject t.rota).0 → P (with_place u.subject (with_claim u t)))
      → (AreWords (displaced_of t.words u.subject t.rota).1 → ProbesAlike (insert t.table u.subject (u.claim, u.inc)) (displaced_of t.words u.subject t.rota).0 → P (with_newcomer u.subject (with_claim u t)))
      → P (claim_kept_by (profile_of s) u t)
  claimed t u named live fit probes P plain place new = claimed_by t u named live fit probes P plain place new (profile_of s)

  claimed_confirm : (t : State) (u : Update) (P : State → Type 0) → is_confirm u.claim ≡ true → P (record (with_claim u t) { rota = remove_of u.subject t.rota }) → P (claim_kept_by (profile_of s) u t)
  unfolding claim_kept newcomer_kept
  claimed_confirm t u P e out = by_profile (profile_of s)
    where
      by_out : (turn : State) (b : Bool) → b ≡ true → P (cond b (record (with_claim u t) { rota = remove_of u.subject t.rota }) turn)
      by_out turn true is = out
      by_out turn false is = absurd (false≢true is)

      by_profile : (profile : Profile) → P (claim_kept_by profile u t)
      by_profile Papers = by_out _ (is_confirm u.claim) e
      by_profile Memberlist = by_out _ (is_confirm u.claim) e
      by_profile Hashicorp = by_out _ (is_confirm u.claim) e

  put_others : (t : State) (u : Update) → Named u.subject → IsNews (profile_of s) k.to t u → Keeps s k.to t → HoldsOthers (member_count s) k.to (insert t.table u.subject (u.claim, u.inc))
  put_others t u named says h = others_put (member_count s) k.to t.table u.subject (u.claim, u.inc) named says.other h.others

  with_death : (profile : Profile) (subject now : ℕ) (t : State) → Keeps s k.to t → Keeps s k.to (death_kept profile subject now t)
  with_death Papers subject now t h = h
  with_death Memberlist subject now t h = record { up = h.up; others = h.others; suspects = h.suspects; probes = h.probes; health = h.health; relays = h.relays; words = h.words; buffer = h.buffer; target = h.target; life = h.life }
  with_death Hashicorp subject now t h = record { up = h.up; others = h.others; suspects = h.suspects; probes = h.probes; health = h.health; relays = h.relays; words = h.words; buffer = h.buffer; target = h.target; life = h.life }

  -- with the rest of the words and of the rota
  put_alive : (t : State) (u : Update) → Named u.subject → IsNews (profile_of s) k.to t u → u.claim ≡ Alive → Keeps s k.to t
      → Keeps s k.to (record (claim_kept_by (profile_of s) u t) { suspicions = remove (claim_kept_by (profile_of s) u t).suspicions u.subject })
  put_alive t u named says e h =
      let suspects = cleared t.table t.suspicions (terms_of s) u.subject (u.claim, u.inc) (ap is_suspect e) h.suspects in
      claimed t u named (ap is_live e) h.words h.probes
      (λ v. Keeps s k.to (record v { suspicions = remove v.suspicions u.subject }))
      (λ fit probes. record { up = h.up; others = put_others t u named says h; suspects = suspects; probes = probes; health = h.health; relays = h.relays; words = fit; buffer = h.buffer; target = h.target; life = h.life })
      (λ fit probes. record { up = h.up; others = put_others t u named says h; suspects = suspects; probes = probes; health = h.health; relays = h.relays; words = fit; buffer = h.buffer; target = h.target; life = h.life })
      (λ fit probes. record { up = h.up; others = put_others t u named says h; suspects = suspects; probes = probes; health = h.health; relays = h.relays; words = fit; buffer = h.buffer; target = h.target; life = h.life })

  put_suspect : (t : State) (u : Update) (x : HeldSuspicion) → Named u.subject → IsNews (profile_of s) k.to t u → u.claim ≡ Suspect → Begins s k (claim_kept_by (profile_of s) u t) x → Keeps s k.to t
      → Keeps s k.to (record (claim_kept_by (profile_of s) u t) { suspicions = insert (claim_kept_by (profile_of s) u t).suspicions u.subject x })
  put_suspect t u x named says e begins h =
      let suspects = suspected t.table t.suspicions (terms_of s) u.subject (u.claim, u.inc) x (ap is_suspect e) begins.terms h.suspects in
      claimed t u named (ap is_live e) h.words h.probes
      (λ v. Keeps s k.to (record v { suspicions = insert v.suspicions u.subject x }))
      (λ fit probes. record { up = h.up; others = put_others t u named says h; suspects = suspects; probes = probes; health = h.health; relays = h.relays; words = fit; buffer = h.buffer; target = h.target; life = h.life })
      (λ fit probes. record { up = h.up; others = put_others t u named says h; suspects = suspects; probes = probes; health = h.health; relays = h.relays; words = fit; buffer = h.buffer; target = h.target; life = h.life })
      (λ fit probes. record { up = h.up; others = put_others t u named says h; suspects = suspects; probes = probes; health = h.health; relays = h.relays; words = fit; buffer = h.buffer; target = h.target; life = h.life })

  put_confirm : (t : State) (u : Update) → Named u.subject → IsNews (profile_of s) k.to t u → is_confirm u.claim ≡ true → Keeps s k.to t
      → Keeps s k.to (death_kept (profile_of s) u.subject k.at (without_suspicion u.subject (claim_kept_by (profile_of s) u t)))
  put_confirm t u named says e h =
      claimed_confirm t u (λ v. Keeps s k.to (death_kept (profile_of s) u.subject k.at (without_suspicion u.subject v))) e
      (with_death (profile_of s) u.subject k.at (without_suspicion u.subject (record (with_claim u t) { rota = remove_of u.subject t.rota })) (record {
        up = h.up;
        others = put_others t u named says h;
        suspects = cleared t.table t.suspicions (terms_of s) u.subject (u.claim, u.inc) (no_suspect u.claim e) h.suspects;
        probes = taken_out t.table t.rota u.subject (u.claim, u.inc) (confirms u.claim e) h.probes;
        health = h.health;
        relays = h.relays;
        words = h.words;
        buffer = h.buffer;
        target = h.target;
        life = h.life;
      }))

  -- the life alone changes
  with_life : (t : State) (life : LifeState) → LivesAmongMembers s life → Keeps s k.to t → Keeps s k.to (record t { life = life })
  with_life t life is h = record { up = h.up; others = h.others; suspects = h.suspects; probes = h.probes; health = h.health; relays = h.relays; words = h.words; buffer = h.buffer; target = h.target; life = is }

  -- the buffer alone changes
  with_buffer : (t : State) (buffer : HeldUpdates) → SendsOfMembers s (record t { buffer = buffer }) → Keeps s k.to t → Keeps s k.to (record t { buffer = buffer })
  with_buffer t buffer is h = record { up = h.up; others = h.others; suspects = h.suspects; probes = h.probes; health = h.health; relays = h.relays; words = h.words; buffer = is; target = h.target; life = h.life }

  puts : (queue : Option Queue) (t : State) (u : Update) → Named u.subject → Keeps s k.to t → Keeps s k.to (put_up s queue u t)
  puts None t u named h = with_buffer t _ (all_put (λ q. q < member_count s) t.buffer u named h.buffer) h
  puts (Some q) t u named h =
      with_life t _ (record { asked = h.life.asked; intents = h.life.intents; queue = put_about (λ q. q < member_count s) true u (claim_bytes s q u) t.life.queue named h.life.queue }) h

  rides : (queue : Option Queue) (room : ℕ) (t : State) → Keeps s k.to t → Keeps s k.to (without_claims s queue room t)
  rides None room t h = with_buffer t _ (all_left (λ q. q < member_count s) t.buffer room (limit_of s t) None h.buffer) h
  rides (Some q) room t h =
      with_life t _ (record {
        asked = h.life.asked;
        intents = h.life.intents;
        queue = pick_about (λ q. q < member_count s) true (those_that_fit (measure_of (Some q)) room t.life.queue.items) (limit_of s t) t.life.queue (fit_about (λ q. q < member_count s) (measure_of (Some q)) room t.life.queue.items h.life.queue) h.life.queue;
      }) h

  rides_both : (t : State) (bearer : _) → Keeps s k.to t → Keeps s k.to (without_both s k.to bearer t)
  unfolding without_both
  rides_both t bearer h =
      let left = without_claims s s.queue (room_of s k.to bearer s.queue) t in
      let there = rides s.queue (room_of s k.to bearer s.queue) t h in
      with_life left _ (record { asked = there.life.asked; intents = all_left_after (λ q. q < member_count s) left.life.intents (intents_behind s k.to bearer t) (limit_of s left) there.life.intents; queue = there.life.queue }) there

  intends : (t : State) (u : Update) → Named u.subject → Keeps s k.to t → Keeps s k.to (with_intent u t)
  intends t u named h = with_life t _ (record { asked = h.life.asked; intents = all_put (λ q. q < member_count s) t.life.intents u named h.life.intents; queue = h.life.queue }) h

  pub news : NewsMoves s k Named (Keeps s k.to)
  news = record {
    counted = λ t h. record { up = h.up; others = h.others; suspects = h.suspects; probes = h.probes; health = h.health; relays = h.relays; words = h.words; buffer = h.buffer; target = h.target; life = h.life };
    put = puts s.queue;
    regarding = λ t regards h. with_life t _ (record { asked = h.life.asked; intents = h.life.intents; queue = h.life.queue }) h;
    intended = intends;
    alive = put_alive;
    suspect = put_suspect;
    confirm = put_confirm;
    accused = λ t u h. record {
      up = h.up;
      others = h.others;
      suspects = accusation t.table t.suspicions (terms_of s) u.subject h.suspects u.accuser t.next_number;
      probes = h.probes;
      health = h.health;
      relays = h.relays;
      words = h.words;
      buffer = h.buffer;
      target = h.target;
      life = h.life;
    };
    gossiping = λ t set h. record { up = h.up; others = h.others; suspects = h.suspects; probes = h.probes; health = h.health; relays = h.relays; words = h.words; buffer = h.buffer; target = h.target; life = h.life };
  }

  with_health : (t : State) (h : LocalHealth) → IsHealthy (opening_health s).ceiling h → Keeps s k.to t → Keeps s k.to (record t { health = h })
  with_health t g is h = record { up = h.up; others = h.others; suspects = h.suspects; probes = h.probes; health = is; relays = h.relays; words = h.words; buffer = h.buffer; target = h.target; life = h.life }

  pub moves : k.to < member_count s → Moves s k Named (Keeps s k.to)
  moves here = record {
    own = here;
    aimed = λ t probe h is. h.target probe is;
    targets = λ t target h is. probed_member s k.to t target h is;
    known = λ t q held h at. (h.others.others q (ap is_some at)).0;
    drawn = λ t rest is h. record { up = h.up; others = h.others; suspects = h.suspects; probes = h.probes; health = h.health; relays = h.relays; words = rest_fits t.words rest h.words is; buffer = h.buffer; target = h.target; life = h.life };
    picked = λ t buddy h. record { up = h.up; others = h.others; suspects = h.suspects; probes = h.probes; health = h.health; relays = h.relays; words = h.words; buffer = all_left (λ q. q < member_count s) t.buffer s.swim.carry (limit_of s t) buddy h.buffer; target = h.target; life = h.life };
    probing = λ t seq probe up aim h. record { up = h.up; others = h.others; suspects = h.suspects; probes = h.probes; health = h.health; relays = h.relays; words = h.words; buffer = h.buffer; target = aim; life = h.life };
    turned = λ t h. record {
      up = h.up;
      others = h.others;
      suspects = h.suspects;
      probes = next_probes t.table t.rota t.words h.words h.probes;
      health = h.health;
      relays = h.relays;
      words = rest_fits t.words (next_of t.words t.rota).2 h.words (next_rest t.words t.rota h.words h.probes.sound);
      buffer = h.buffer;
      target = h.target;
      life = h.life;
    };
    forgotten = λ t q held rules here dead h. record {
      up = h.up;
      others = others_left (member_count s) k.to t.table q h.others;
      suspects = suspects_left t.table t.suspicions (terms_of s) q (ap suspect_held here ∙ no_suspect held.0 dead) h.suspects;
      probes = probes_left t.table t.rota q (ap live_held here ∙ confirms held.0 dead) h.probes;
      health = h.health;
      relays = h.relays;
      words = h.words;
      buffer = h.buffer;
      target = h.target;
      life = h.life;
    };
    mixed = λ t h. record {
      up = h.up;
      others = h.others;
      suspects = h.suspects;
      probes = mixed_probes t.table t.rota t.words h.words h.probes;
      health = h.health;
      relays = h.relays;
      words = rest_fits t.words (mixed_of t.words t.rota).1 h.words (mixed_rest t.words t.rota);
      buffer = h.buffer;
      target = h.target;
      life = h.life;
    };
    relay_added = λ t relay on h. record {
      up = h.up;
      others = h.others;
      suspects = h.suspects;
      probes = h.probes;
      health = h.health;
      relays = λ off. absurd (false≢true (sym off ∙ on));
      words = h.words;
      buffer = h.buffer;
      target = h.target;
      life = h.life;
    };
    relay_removed = λ t relay h. record {
      up = h.up;
      others = h.others;
      suspects = h.suspects;
      probes = h.probes;
      health = h.health;
      relays = λ off other. contains-remove relays_total t.relays relay other ∙ relay_gone _ _ (h.relays off other);
      words = h.words;
      buffer = h.buffer;
      target = h.target;
      life = h.life;
    };
    heard_dead = λ t h. record { up = h.up; others = h.others; suspects = h.suspects; probes = h.probes; health = h.health; relays = h.relays; words = h.words; buffer = h.buffer; target = h.target; life = h.life };
    waiting = λ t waits h. record { up = h.up; others = h.others; suspects = h.suspects; probes = h.probes; health = h.health; relays = h.relays; words = h.words; buffer = h.buffer; target = h.target; life = h.life };
    beaten = λ t beat h. record { up = h.up; others = h.others; suspects = h.suspects; probes = h.probes; health = h.health; relays = h.relays; words = h.words; buffer = h.buffer; target = h.target; life = h.life };
    refuted = λ t claim number refutes h. record { up = h.up; others = h.others; suspects = h.suspects; probes = h.probes; health = h.health; relays = h.relays; words = h.words; buffer = h.buffer; target = h.target; life = h.life };
    weakened = λ t failures h. with_health t _ (healthy_raised (opening_health s).ceiling t.health failures h.health) h;
    mended = λ t h. with_health t _ (healthy_lowered (opening_health s).ceiling t.health h.health) h;
    welcomed = λ t h. record {
      up = λ is. absurd (let e = is in cc);
      others = h.others;
      suspects = h.suspects;
      probes = h.probes;
      health = h.health;
      relays = h.relays;
      words = h.words;
      buffer = h.buffer;
      target = h.target;
      life = h.life;
    };
    downed = λ t h. record {
      up = λ is. absurd (let e = is in cc);
      others = h.others;
      suspects = h.suspects;
      probes = h.probes;
      health = h.health;
      relays = h.relays;
      words = h.words;
      buffer = h.buffer;
      target = h.target;
      life = h.life;
    };
    began = λ t waits h. absurd (h.up waits);
    late = λ t waits h. absurd (h.up waits);
    ridden = rides_both;
    asked = λ t contact h is. subst (λ o. IfSome o Named) is h.life.asked;
    answered = λ t h. with_life t _ (record { asked = tt; intents = h.life.intents; queue = h.life.queue }) h;
    leaving = λ t leaving h. with_life t _ (record { asked = h.life.asked; intents = h.life.intents; queue = h.life.queue }) h;
    alone = λ t waits rules h. absurd (h.up waits);
    again = λ t contact rules named h. born_again s k contact t named h;
  }

-- ---- the opening state, and what a start makes of it

pub opening_consistent : (s : Setup) (m : ℕ) → IsConsistent s m (opening_state s m)
unfolding opening_state
opening_consistent s m = record {
  waits = λ is. refl;
  others = (none_known (member_count s) m).others;
  suspects = (none_suspects (terms_of s)).alike;
  probes = none_probed.probes;
  order = none_probed.sound;
  terms = (none_suspects (terms_of s)).settled;
  health = omega arith;
  ceiling = refl;
  relays = λ off relay. contains-empty relay_cmp relay;
  words = words_of_fit _;
  buffer = λ q it here. absurd (false≢true (sym (ap is_some (get-empty nat_cmp q)) ∙ ap is_some here));
  target = λ probe is. absurd (false≢true (ap is_some is));
  life = fresh_life s 0 None tt;
}

none_opened : (s : Setup) (m : ℕ) → (opening_state s m).suspicions ≡ empty
unfolding opening_state
none_opened s m = refl

module _ (s : Setup) (sound : IsSound s) (k : Key) (t : State) (h : IsConsistent s k.to t) where
  pub started_at_once : t.phase ≡ Waiting → Keeps s k.to (at_once s k t)
  started_at_once waits = record {
    up = λ is. absurd (let e = is in cc);
    others = first_known s k.to;
    suspects = subst (λ v. SuspectsAlike (all_alive (first_others s k.to)) v (terms_of s)) (sym (ap (λ (t : State). t.suspicions) (h.waits waits) ∙ none_opened s k.to)) (first_suspected s k.to (terms_of s));
    probes = first_probed s k.to (few_members s sound);
    health = record { within = h.health; same = h.ceiling };
    relays = h.relays;
    words = h.words;
    buffer = h.buffer;
    target = h.target;
    life = h.life;
  }

  pub started_late : t.phase ≡ Waiting → Keeps s k.to (at_late t)
  started_late waits = record {
    up = λ is. absurd (let e = is in cc);
    others = none_known (member_count s) k.to;
    suspects = subst (λ v. SuspectsAlike empty v (terms_of s)) (sym (ap (λ (t : State). t.suspicions) (h.waits waits) ∙ none_opened s k.to)) (none_suspects (terms_of s));
    probes = none_probed;
    health = record { within = h.health; same = h.ceiling };
    relays = h.relays;
    words = h.words;
    buffer = h.buffer;
    target = h.target;
    life = h.life;
  }

  pub started_alone : k.to < member_count s → t.phase ≡ Waiting → profile_of s ≡ Hashicorp → Keeps s k.to (at_alone s k t)
  started_alone here waits rules = record {
    up = λ is. absurd (let e = is in cc);
    others = record { others = h.others };
    suspects = record { alike = h.suspects; settled = h.terms };
    probes = record { probes = h.probes; sound = h.order };
    health = record { within = h.health; same = h.ceiling };
    relays = h.relays;
    words = h.words;
    buffer = h.buffer;
    target = h.target;
    life = record { asked = contact_named s sound k.to here; intents = h.life.intents; queue = h.life.queue };
  }

  pub keeps : ¬ (t.phase ≡ Waiting) → Keeps s k.to t
  keeps up = record {
    up = up;
    others = record { others = h.others };
    suspects = record { alike = h.suspects; settled = h.terms };
    probes = record { probes = h.probes; sound = h.order };
    health = record { within = h.health; same = h.ceiling };
    relays = h.relays;
    words = h.words;
    buffer = h.buffer;
    target = h.target;
    life = h.life;
  }

consistent : (s : Setup) (m : ℕ) (t : State) → Keeps s m t → IsConsistent s m t
consistent s m t h = record {
  waits = λ is. absurd (h.up is);
  others = h.others.others;
  suspects = h.suspects.alike;
  probes = h.probes.probes;
  order = h.probes.sound;
  terms = h.suspects.settled;
  health = h.health.within;
  ceiling = h.health.same;
  relays = h.relays;
  words = h.words;
  buffer = h.buffer;
  target = h.target;
  life = h.life;
}

all_named : (n : ℕ) (us : List Update) → All (λ (u : Update). u.subject < n) us → AllByRecursion (λ (u : Update). u.subject < n) us
all_named n us h = recursion_from_All (λ (u : Update). u.subject < n) us h

pub names_only : (n : ℕ) (c : EventKind) → MentionsMembers n c → NamesOnly (λ q. q < n) (Unit {0}) c
names_only n Start h = tt
names_only n Crash h = tt
names_only n JoinTimer h = tt
names_only n PeriodTimer h = tt
names_only n (TimeoutTimer seq) h = tt
names_only n (NackTimer initiator seq) h = h
names_only n (SuspicionTimer subject) h = tt
names_only n Join h = tt
names_only n (Welcome entries) h = all_named n entries h
names_only n (Ping initiator seq updates) h = (h.0, all_named n updates h.1)
names_only n (PingReq target seq updates) h = (h.0, all_named n updates h.1)
names_only n (Ack initiator seq updates) h = (h.0, all_named n updates h.1)
names_only n (Nack seq) h = tt
names_only n Leave h = tt
names_only n Bye h = tt
names_only n (DeadlineTimer seq) h = tt
names_only n GossipTimer h = tt
names_only n PushTimer h = tt
names_only n (Call seq) h = tt
names_only n (Answer seq) h = tt
names_only n (Gossip updates) h = all_named n updates h
names_only n (Push entries) h = all_named n entries h
names_only n (Pull entries) h = all_named n entries h
names_only n (Restart contact) h = h
names_only n SettingTimer h = tt
names_only n (ConnectedTimer to) h = h
names_only n ReconnectTimer h = tt
names_only n ExitTimer h = tt

pub names_members : (n : ℕ) (c : EventKind) → NamesOnly (λ q. q < n) (Unit {0}) c → MentionsMembers n c
names_members n Start h = tt
names_members n Crash h = tt
names_members n JoinTimer h = tt
names_members n PeriodTimer h = tt
names_members n (TimeoutTimer seq) h = tt
names_members n (NackTimer initiator seq) h = h
names_members n (SuspicionTimer subject) h = tt
names_members n Join h = tt
names_members n (Welcome entries) h = All-from_recursion (λ (u : Update). u.subject < n) entries h
names_members n (Ping initiator seq updates) h = (h.0, All-from_recursion (λ (u : Update). u.subject < n) updates h.1)
names_members n (PingReq target seq updates) h = (h.0, All-from_recursion (λ (u : Update). u.subject < n) updates h.1)
names_members n (Ack initiator seq updates) h = (h.0, All-from_recursion (λ (u : Update). u.subject < n) updates h.1)
names_members n (Nack seq) h = tt
names_members n Leave h = tt
names_members n Bye h = tt
names_members n (DeadlineTimer seq) h = tt
names_members n GossipTimer h = tt
names_members n PushTimer h = tt
names_members n (Call seq) h = tt
names_members n (Answer seq) h = tt
names_members n (Gossip updates) h = All-from_recursion (λ (u : Update). u.subject < n) updates h
names_members n (Push entries) h = All-from_recursion (λ (u : Update). u.subject < n) entries h
names_members n (Pull entries) h = All-from_recursion (λ (u : Update). u.subject < n) entries h
names_members n (Restart contact) h = h
names_members n SettingTimer h = tt
names_members n (ConnectedTimer to) h = h
names_members n ReconnectTimer h = tt
names_members n ExitTimer h = tt

pub step_consistent : (s : Setup) (k : Key) (c : EventKind) (t : State) → IsSound s → IsAmongMembers s k c → IsConsistent s k.to t → IsConsistent s k.to (step s k c t).state
step_consistent s k c t sound among h =
    on_any_step s k (λ q. q < member_count s) (Keeps s k.to) (news s sound k) (moves s sound k among.receiver)
    (IsConsistent s k.to) c t (consistent s k.to) h (keeps s sound k t h) (started_at_once s sound k t h) (started_late s sound k t h) (started_alone s sound k t h among.receiver) among.sender (names_only (member_count s) c among.names)
