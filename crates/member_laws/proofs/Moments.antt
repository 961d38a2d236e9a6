-- No moment of a run reaches 2^42.
use Rattle.std.proofs.Common.{◌≡◌, ℕ, ◌+◌, ◌-◌, ◌*◌, ◌/◌, ◌%◌, ◌<◌, ◌≤◌, ◌^◌, Bool, true, false, cond, nat_lt, List, [], ◌∷◌, ◌++◌, flat_map, Option, Some, None, All, refl, sym, ap, subst, ◌∙◌, arith}
use Rattle.std.proofs.lemmas.Option.{same_Some}
use Rattle.std.specs.Option.{is_some, IfSome}
use Rattle.std.specs.List.{AllByRecursion, range_with_len}
use Rattle.std.proofs.lemmas.List.Sums.{count_by-le-length}
use Rattle.std.proofs.lemmas.List.FromFn.{length-range_with_len}
use Rattle.std.specs.Ordering.{nat_cmp}
use Rattle.std.specs.FinMap.{get, insert, remove, empty, get-empty}
use Rattle.std.proofs.lemmas.Bool.{false≢true, ltb-true, ltb-false, leb-true}
use Rattle.std.proofs.lemmas.List.Elements.{All-from_recursion}
use Rattle.std.proofs.lemmas.Nat.{mul-le}
use Rattle.base.specs.declared.key.Key.{Key}
use Rattle.base.proofs.Rising.{all_append}
use Rattle.base.proofs.Kept.{all_with_events}
use Rattle.base.specs.Beats.{next_in_step}
use Rattle.scenario.specs.Setup.{Setup, IsSound, IsSoundGossip, IsSoundSerf, IsSoundEvent, member_count, start_of, crash_of, leave_of, link_between, extra_of, awake, free}
use Rattle.scenario.specs.Setup as setup
use Rattle.scenario.specs.declared.settings.Serf.{Serf}
use Rattle.scenario.specs.declared.settings.Queue.{Queue}
use Rattle.scenario.specs.declared.script.ScriptEvent.{ScriptEvent}
use Rattle.base.specs.declared.profile.Profile.{Profile}
use Rattle.base.specs.declared.profile.Profile.TheVariants.{Papers, Memberlist, Hashicorp}
use Rattle.links.specs.Dials.{up_to, dial_of}
use Rattle.links.specs.Trips.{and_then, trip_of}
use Rattle.member.specs.Blocks.{Way, departs_at, departs_by, got_through_by, on_its_way}
use Rattle.member.specs.Connections.{dial_drawn, dial_done}
use Rattle.member.specs.Riding.{without_claims, without_both, room_of}
use Rattle.member.proofs.Times.{linger_short}
use Rattle.member_laws.proofs.Scripts.{events_so}
use Rattle.std.specs.Prelude.{max, nat_le, unwrap_or}
use Rattle.scenario.specs.Profile.{profile_of}
use Rattle.scenario.specs.declared.settings.Gossip as settings
use Rattle.scenario.proofs.Pauses.{is_awake_at, awake_small, small_by, with_blocks, free_is}
use Rattle.streams.specs.Draw.{Words, AreWords, below_of, lost_of}
use Rattle.streams.proofs.PlaceLemmas.{lost_rest}
use Rattle.streams.proofs.RangeLemmas.{rest_fits, below_fits}
use Rattle.links.specs.Arrival.{uncut_arrival_of, arrival_of}
use Rattle.links.specs.Trips.{call_of, answer_of, kept_arrival_of}
use Rattle.links.proofs.Arrivals.{whether_cut}
use Rattle.incarnation.specs.declared.Update.{Update}
use Rattle.lifeguard.specs.Health.{scaled}
use Rattle.lifeguard.specs.NackDelay.{nack_delay_of}
use Rattle.suspicion.specs.declared.terms.Terms.{Terms}
use Rattle.suspicion.specs.Ranges.{AreSound}
use Rattle.suspicion.specs.Settings.{terms_of}
use Rattle.suspicion.specs.Suspicions.{HeldSuspicion, accusers_counted, accused_of, due_of}
use Rattle.suspicion.specs.Times.{size_log, min_timeout, timeout}
use Rattle.suspicion.proofs.Tables.{size_log-le}
use Rattle.suspicion.proofs.Timeouts.{min_timeout-lt, max_timeout-le, timeout-le-max}
use Rattle.member.specs.declared.event_kind.EventKind.{EventKind}
use Rattle.member.specs.declared.event_kind.EventKind.TheVariants.{Crash, Leave}
use Rattle.member.specs.State.{State}
use Rattle.membership.specs.Table.{size_by}
use Rattle.membership.proofs.Few.{size-le, size-positive}
use Rattle.member.specs.Effects.{Effect, with_row, with_event}
use Rattle.member.proofs.Members.{few_members}
use Rattle.member.proofs.Fair.{positive, long_period}
use Rattle.member.proofs.Doublings.{few_doublings}
use Rattle.member.specs.Apply.{claim_kept_by, without_suspicion}
use Rattle.member.specs.Opening.{opening_state, opening, numbers, ending_event, numbered_from, script_by}
use Rattle.member.specs.Step.{step, doublings_to, push_period}
use Rattle.member_laws.specs.Words.{IsTimely, IsConsistent, IsAmongMembers}
use Rattle.member_laws.specs.Runs.{Cluster, IsReached}
use Rattle.member_laws.proofs.Moves.{NewsMoves, Moves, at_again, kept_either, death_either, put_either}
use Rattle.member_laws.proofs.Trips.{IsUpTo, call_low, answer_low, stream_low}
use Rattle.member_laws.proofs.Walk.{on_any_step}
use Rattle.member_laws.proofs.Tables.{OfAll, of_put, of_left, of_confirmed, of_accused}
use Rattle.member_laws.proofs.Made.{Carries, Times, Makes, by_step}
use Rattle.member_laws.proofs.Consistency.{Keeps, news, moves, started_at_once, started_late, started_alone, keeps, names_only}
use Rattle.member_laws.proofs.Reached.{Below, AnyRow, any_row, carries, none_pending, IsMember, kept_step, kept_opening}
use Rattle.member_laws.proofs.Runs.{IsKept, run_kept, opened}

-- what every moment of a run keeps below
abbrev Soon : ℕ → Type 0
Soon at = at < 2 ^ 42

-- ---- times

-- no suspicion lasts longer
timeout-le : (terms : Terms) (n c : ℕ) → AreSound terms → n ≤ 16384 → timeout terms n c ≤ 2 ^ 40
timeout-le terms n c sound few =
    let shortest = min_timeout-lt terms.alpha (size_log terms.profile n) terms.period sound.alpha (size_log-le terms.profile n few) sound.period in
    let longest = max_timeout-le terms.beta (min_timeout terms n) sound.beta.1 shortest in
    omega (arith, longest, timeout-le-max terms n c sound)

ceiling-le : (b : Bool) (ceiling : ℕ) → ceiling ≤ 16 → cond b ceiling 0 ≤ 16
ceiling-le true ceiling h = h
ceiling-le false ceiling h = omega arith

arrives_soon : (lost : Bool) (rest last : Words) (coming at : ℕ) → Soon coming → (cond {A = Option ℕ × Words} lost (None, rest) (Some coming, last)).0 ≡ Some at → Soon at
arrives_soon true rest last coming at h is = absurd (false≢true (ap is_some is))
arrives_soon false rest last coming at h is = subst Soon (same_Some coming at is) h

no_later : (now n r : ℕ) → now + n - r ≤ now + n
no_later now n r = omega arith

-- ---- a step, up to the end

-- a suspicion that began up to the end, among some members
abbrev Began : Setup → HeldSuspicion → Type 0
Began s x = (x.since ≤ s.end) × (1 ≤ x.members) × (x.members ≤ member_count s)

-- what holds of a member once it has started, its suspicions too
abbrev InTime : Setup → ℕ → State → Type 0
InTime s m t = Keeps s m t × IsTimely s t

-- a connection that is in time, and when a dial is done
up_low : (most : ℕ) (p : Option ℕ × Words) → IfSome (up_to most p).0 (λ a. a ≤ most)
up_low most (None, words) = tt
up_low most (Some at, words) = by_test (nat_le at most) refl
  where
    by_test : (b : Bool) → nat_le at most ≡ b → IfSome (cond {A = Option ℕ} b (Some at) None) (λ a. a ≤ most)
    by_test true e = leb-true at most e
    by_test false e = tt

done_le : (o : Option ℕ) (d : ℕ) → IfSome o (λ a. a ≤ d) → unwrap_or o d ≤ d
done_le None d h = omega arith
done_le (Some at) d h = h

module _ (s : Setup) (sound : IsSound s) (k : Key) (here : k.to < member_count s) (in_time : k.at ≤ s.end) where
  now_small : k.at ≤ 2 ^ 40
  now_small = omega (arith, in_time, sound.end)

  uncut_soon : (words : Words) (to now at : ℕ) → now ≤ 2 ^ 40 → AreWords words → (uncut_arrival_of s k.to to now words).0 ≡ Some at → Soon at
  unfolding uncut_arrival_of
  uncut_soon words to now at small fit =
      let link = link_between s k.to to in
      let lost = lost_of words link.loss in
      let bounds = sound.between k.to to in
      let jitter = below_of lost.1 (link.jitter + 1) in
      let drawn = below_fits lost.1 (link.jitter + 1) (rest_fits words lost.1 fit (lost_rest words link.loss)) (omega arith) (omega (arith, bounds.jitter)) in
      let coming = now + link.delay + jitter.0 + extra_of s k.to now in
      arrives_soon lost.0 lost.1 jitter.1 (coming + extra_of s to coming) at
      (omega (arith, small, bounds.delay.1, bounds.jitter, drawn, sound.extras k.to now, sound.extras to coming))

  arrival_soon : (words : Words) (to now at : ℕ) → now ≤ 2 ^ 40 → AreWords words → (arrival_of s k.to to now words).0 ≡ Some at → Soon at
  arrival_soon words to now at small fit =
      whether_cut (λ p. p.0 ≡ Some at → Soon at) s k.to to now words (λ is. absurd (false≢true (ap is_some is))) (uncut_soon words to now at small fit)

  -- what waits for the end of a block
  free_soon : (to at : ℕ) → Soon at → Soon (free s to at)
  free_soon to at soon = subst Soon (free_is s to at) (by_order (nat_lt at (awake (with_blocks s) to at)) refl)
    where
      by_order : (b : Bool) → nat_lt at (awake (with_blocks s) to at) ≡ b → Soon (awake (with_blocks s) to at)
      by_order true later =
          omega (arith, awake_small (with_blocks s) sound.blocks to at (awake (with_blocks s) to at) (is_awake_at (with_blocks s) to at) (ltb-true at (awake (with_blocks s) to at) later))
      by_order false once = omega (arith, soon, ltb-false at (awake (with_blocks s) to at) once)

  blocked_small : departs_at s k ≤ 2 ^ 40
  blocked_small =
      subst (λ u. u ≤ 2 ^ 40) (free_is s k.to k.at) (small_by (with_blocks s) sound.blocks k.to k.at (awake (with_blocks s) k.to k.at) (is_awake_at (with_blocks s) k.to k.at) now_small)

  departs_small : (profile : Profile) → departs_by profile s k ≤ 2 ^ 40
  departs_small Papers = now_small
  departs_small Memberlist = now_small
  departs_small Hashicorp = blocked_small

  through_soon : (profile : Profile) (to at : ℕ) (o : Option ℕ) → ((a : ℕ) → o ≡ Some a → Soon a) → got_through_by profile s to o ≡ Some at → Soon at
  through_soon Papers to at o h is = h at is
  through_soon Memberlist to at o h is = h at is
  through_soon Hashicorp to at None h is = absurd (false≢true (ap is_some is))
  through_soon Hashicorp to at (Some a) h is = subst Soon (same_Some (free s to a) at is) (free_soon to a (h a refl))

  way_soon : (way : Way) (words : Words) (to at : ℕ) → ((now a : ℕ) → now ≤ 2 ^ 40 → (way now words).0 ≡ Some a → Soon a) → (on_its_way (profile_of s) s k to way words).0 ≡ Some at → Soon at
  way_soon way words to at h is =
      let departs = departs_by (profile_of s) s k in
      through_soon (profile_of s) to at (way departs words).0 (λ a. h departs a (departs_small (profile_of s))) is

  -- a dial is done within its limit
  dial_low : (to : ℕ) (t : State) → IfSome (dial_drawn s k to t).0 (λ a. a ≤ departs_at s k + s.dial.limit)
  unfolding dial_of
  dial_low to t = up_low (departs_at s k + s.dial.limit) (and_then (λ there. trip_of s to k.to there s.stream.connect) (trip_of s k.to to (departs_at s k) s.stream.connect t.words))

  done_low : (to : ℕ) (t : State) → dial_done s k (dial_drawn s k to t).0 ≤ 2 ^ 40 + 2 ^ 24
  done_low to t = omega (arith, done_le (dial_drawn s k to t).0 (departs_at s k + s.dial.limit) (dial_low to t), blocked_small, sound.limit.1)

  dial_soon : (to at : ℕ) (t : State) → (dial_drawn s k to t).0 ≡ Some at → Soon at
  dial_soon to at t is =
      let least : at ≤ departs_at s k + s.dial.limit = subst (λ (o : Option ℕ). IfSome o (λ a. a ≤ departs_at s k + s.dial.limit)) is (dial_low to t) in
      omega (arith, least, blocked_small, sound.limit.1)

  serf_settings : (serf : Serf) → s.serf ≡ Some serf → IsSoundSerf serf
  serf_settings serf is = subst (λ (o : Option Serf). IfSome o IsSoundSerf) is sound.serf

  max_soon : (a b : ℕ) → Soon a → Soon b → Soon (max a b)
  max_soon a b h g = omega (arith, h, g)

  scaled_soon : (t : State) (base : ℕ) → base ≤ 2 ^ 24 → Keeps s k.to t → Soon (k.at + scaled t.health base)
  scaled_soon t base short r =
      let counter : t.health.counter + 1 ≤ 17 = omega (arith, r.health.within, r.health.same, ceiling-le s.lifeguard.probe s.lifeguard.ceiling sound.ceiling) in
      omega (arith, in_time, sound.end, mul-le base (t.health.counter + 1) (2 ^ 24) 17 short counter)

  nack_soon : Soon (k.at + nack_delay_of s.lifeguard.nack_percent s.swim.timeout)
  nack_soon =
      let share = mul-le s.lifeguard.nack_percent s.swim.timeout 100 (2 ^ 24) sound.nack_percent.1 (omega (arith, sound.timeout.1, sound.period)) in
      let part : s.lifeguard.nack_percent * s.swim.timeout / 100 ≤ 2 ^ 24 = omega (arith, share) in
      omega (arith, in_time, sound.end, part)

  terms_sound : AreSound (terms_of s)
  terms_sound = record { period = sound.period; alpha = sound.alpha.1; beta = sound.beta; accusers_wanted = sound.confirmations }

  few : (t : State) → Keeps s k.to t → size_by (profile_of s) t.table ≤ member_count s
  few t r = size-le (profile_of s) (member_count s) k.to t.table here r.others.others

  accused_soon : (t : State) (u : Update) (x : HeldSuspicion) → InTime s k.to t → accused_of t.suspicions u.subject u.accuser t.next_number ≡ Some x → Soon (due_of x k.at)
  accused_soon t u x r is =
      let began : Began s x = of_confirmed (Began s) (λ x accuser g h. h) (get t.suspicions u.subject) u.accuser t.next_number (r.1 u.subject) x is in
      let settled : x.terms ≡ terms_of s =
      of_confirmed (λ x. x.terms ≡ terms_of s) (λ x accuser g h. h) (get t.suspicions u.subject) u.accuser t.next_number (r.0.suspects.settled u.subject) x is in
      let lasts = timeout-le x.terms x.members (accusers_counted x) (subst AreSound (sym settled) terms_sound) (omega (arith, began.2, few_members s sound)) in
      omega (arith, in_time, sound.end, began.0, lasts)

  come_soon : (p : Option ℕ × Words) (now at : ℕ) → now ≤ 2 ^ 40 → IsUpTo (now + 2 ^ 34) p → p.0 ≡ Some at → Soon at
  come_soon p now at small low is =
      let least : at ≤ now + 2 ^ 34 = subst (λ (o : Option ℕ). IfSome o (λ a. a ≤ now + 2 ^ 34)) is low in
      omega (arith, small, least)

  -- what waits for the end of a pause
  awake_soon : (to at : ℕ) → Soon at → Soon (awake s to at)
  awake_soon to at soon = by_order (nat_lt at (awake s to at)) refl
    where
      by_order : (b : Bool) → nat_lt at (awake s to at) ≡ b → Soon (awake s to at)
      by_order true later = omega (arith, awake_small s sound.pauses to at (awake s to at) (is_awake_at s to at) (ltb-true at (awake s to at) later))
      by_order false once = omega (arith, soon, ltb-false at (awake s to at) once)

  in_step_soon : (beat interval now : ℕ) → now ≤ 2 ^ 40 → interval ≤ 2 ^ 24 → Soon (next_in_step beat interval now)
  in_step_soon beat interval now small short = omega (arith, small, short, no_later now interval ((now + interval - beat % interval) % interval))

  -- no push period is longer
  push_soon : (push n : ℕ) → push ≤ 2 ^ 24 → n ≤ 16384 → push_period push n ≤ 2 ^ 24 * 16385
  push_soon push n short few =
      let most : doublings_to n ≤ 16384 = omega (arith, few, count_by-le-length (λ m. nat_lt (32 * 2 ^ m) n) (range_with_len 0 n), length-range_with_len 0 n) in
      mul-le push (1 + doublings_to n) (2 ^ 24) 16385 short (omega (arith, most))

  push_short : (push n : ℕ) → push ≤ 2 ^ 24 → n ≤ 16384 → push_period push n ≤ 2 ^ 24 * 10
  push_short push n short few = mul-le push (1 + doublings_to n) (2 ^ 24) 10 short (omega (arith, few_doublings n few))

  few_live : (t : State) → Keeps s k.to t → size_by (profile_of s) t.table ≤ 16384
  few_live t r = omega (arith, few t r, few_members s sound)

  push_settings : (gossip : settings.Gossip) → s.gossip ≡ Some gossip → IsSoundGossip gossip
  push_settings gossip is = subst (λ (o : Option settings.Gossip). IfSome o IsSoundGossip) is sound.gossip

  times : Times s k Soon (InTime s k.to)
  times = record {
    arrival = λ t to at r is. way_soon (arrival_of s k.to to) t.words to at (λ now a small there. arrival_soon t.words to now a small r.0.words there) is;
    join_timer = omega (arith, in_time, sound.end, sound.period);
    first_period = λ t r.
        let drawn = below_fits t.words s.swim.spread r.0.words sound.spread.0 (omega (arith, sound.spread.1)) in omega (arith, in_time, sound.end, sound.spread.1, drawn);
    period_timer = λ t r. scaled_soon t s.swim.period sound.period r.0;
    timeout_timer = λ t r. scaled_soon t s.swim.timeout (omega (arith, sound.timeout.1, sound.period)) r.0;
    call = λ t to at r is. way_soon (call_of s k.to to) t.words to at (λ now a small there. come_soon (call_of s k.to to now t.words) now a small (call_low s sound k.to to now t.words r.0.words) there) is;
    answer = λ t to at r is. way_soon (answer_of s k.to to) t.words to at (λ now a small there. come_soon (answer_of s k.to to now t.words) now a small (answer_low s sound k.to to now t.words r.0.words) there) is;
    stream = λ t to at r is. way_soon (kept_arrival_of s k.to to) t.words to at (λ now a small there. come_soon (kept_arrival_of s k.to to now t.words) now a small (stream_low s sound k.to to now t.words r.0.words) there) is;
    plain_timeout = omega (arith, in_time, sound.end, sound.timeout.1, sound.period);
    beat = λ beat. in_step_soon beat s.swim.period k.at now_small sound.period;
    gossip_timer = λ gossip is beat. in_step_soon beat gossip.interval k.at now_small (push_settings gossip is).interval.1;
    first_push = λ gossip is some t v r r'.
        let settings = push_settings gossip is in
        let first = below_fits t.words s.swim.spread r.0.words sound.spread.0 (omega (arith, sound.spread.1)) in
        let second = below_fits v.words gossip.push r'.0.words (positive gossip.push some) (omega (arith, settings.push)) in
        omega (arith, in_time, sound.end, sound.spread.1, first, second, settings.push, push_soon gossip.push (size_by (profile_of s) v.table) settings.push (few_live v r'.0));
    even_push = λ gossip is some t v r r'.
        let settings = push_settings gossip is in
        let first = below_fits t.words s.swim.spread r.0.words sound.spread.0 (omega (arith, sound.spread.1)) in
        let period = push_short gossip.push (size_by (profile_of s) v.table) settings.push (few_live v r'.0) in
        let least = long_period gossip.push (doublings_to (size_by (profile_of s) v.table)) (positive gossip.push some) in
        let second = below_fits v.words (push_period gossip.push (size_by (profile_of s) v.table)) r'.0.words (omega (arith, least)) (omega (arith, period)) in
        omega (arith, in_time, sound.end, sound.spread.1, first, second, period);
    push_timer = λ gossip is t r. omega (arith, in_time, sound.end, push_soon gossip.push (size_by (profile_of s) t.table) (push_settings gossip is).push (few_live t r.0));
    nack_timer = nack_soon;
    suspicion_timer = λ t r. omega (arith, in_time, sound.end, timeout-le (terms_of s) (size_by (profile_of s) t.table) 0 terms_sound (omega (arith, few t r.0, few_members s sound)));
    accusation_timer = accused_soon;
    dial = λ t to at r is. dial_soon to at t is;
    retry = λ t to r. omega (arith, done_low to t, sound.retry.1);
    next_push = λ gossip is t v to r r'. omega (arith, done_low to t, push_short gossip.push (size_by (profile_of s) v.table) (push_settings gossip is).push (few_live v r'.0));
    next_try = λ serf is t to r. omega (arith, done_low to t, (serf_settings serf is).reconnect.1);
    try_timer = λ serf is. omega (arith, now_small, (serf_settings serf is).reconnect.1);
    founders_try = λ serf is t v r r'.
        let settings = serf_settings serf is in
        let first = below_fits t.words s.swim.spread r.0.words sound.spread.0 (omega (arith, sound.spread.1)) in
        let second = below_fits v.words serf.reconnect r'.0.words settings.reconnect.0 (omega (arith, settings.reconnect.1)) in
        omega (arith, now_small, sound.spread.1, first, second, settings.reconnect.1);
    setting_timer = λ gossip is some t r.
        let settings = push_settings gossip is in
        let drawn = below_fits t.words gossip.push r.0.words (positive gossip.push some) (omega (arith, settings.push)) in
        omega (arith, now_small, drawn, settings.push);
    exit_timer = omega (arith, now_small, linger_short s.serf sound.serf);
    next_round = λ gossip is beat. in_step_soon beat gossip.interval (departs_at s k) blocked_small (push_settings gossip is).interval.1;
    blocked_deadline = λ t r. max_soon (k.at + scaled t.health s.swim.period) (departs_at s k) (scaled_soon t s.swim.period sound.period r.0) (omega (arith, blocked_small));
    blocked_timeout = λ t r. omega (arith, blocked_small, sound.timeout.1, sound.period);
  }

  -- each change keeps the suspicions in time

  timely_news : NewsMoves s k (Below s) (InTime s k.to)
  timely_news = record {
    counted = λ t r. (kept.counted t r.0, r.1);
    put = λ t u named r. (kept.put t u named r.0, put_either (IsTimely s) s s.queue u t (λ buffer. r.1) (λ queue. r.1));
    regarding = λ t regards r. (kept.regarding t regards r.0, r.1);
    intended = λ t u named r. (kept.intended t u named r.0, r.1);
    alive = λ t u named says e r. (kept.alive t u named says e r.0, ended t u r.1);
    suspect = λ t u x named says e begins r.
        let there = kept.suspect t u x named says e begins r.0 in
        let live = size-le (profile_of s) (member_count s) k.to (claim_kept_by (profile_of s) u t).table here there.others.others in
        (there, begun t u x (omega (arith, begins.since, in_time), omega (arith, begins.members, size-positive (profile_of s) (claim_kept_by (profile_of s) u t).table), omega (arith, begins.members, live)) r.1);
    confirm = λ t u named says e r. (kept.confirm t u named says e r.0, death_either (λ v. OfAll (Began s) v.suspicions) (profile_of s) u.subject k.at (without_suspicion u.subject (claim_kept_by (profile_of s) u t)) (ended t u r.1) (ended t u r.1));
    accused = λ t u r. (kept.accused t u r.0, of_accused (Began s) (λ x accuser g h. h) t.suspicions u.subject u.accuser t.next_number r.1);
    gossiping = λ t set r. (kept.gossiping t set r.0, r.1);
  }
    where
      kept : NewsMoves s k (Below s) (Keeps s k.to)
      kept = news s sound k

      ended : (t : State) (u : Update) → IsTimely s t → OfAll (Began s) (remove (claim_kept_by (profile_of s) u t).suspicions u.subject)
      ended t u h = kept_either (λ v. OfAll (Began s) (remove v.suspicions u.subject)) (profile_of s) u t (of_left (Began s) t.suspicions u.subject h) (of_left (Began s) t.suspicions u.subject h) (of_left (Began s) t.suspicions u.subject h) (of_left (Began s) t.suspicions u.subject h)

      begun : (t : State) (u : Update) (x : HeldSuspicion) → Began s x → IsTimely s t → OfAll (Began s) (insert (claim_kept_by (profile_of s) u t).suspicions u.subject x)
      begun t u x own h =
          kept_either (λ v. OfAll (Began s) (insert v.suspicions u.subject x)) (profile_of s) u t (of_put (Began s) t.suspicions u.subject x own h) (of_put (Began s) t.suspicions u.subject x own h) (of_put (Began s) t.suspicions u.subject x own h) (of_put (Began s) t.suspicions u.subject x own h)

  rides : (queue : Option Queue) (room : ℕ) (t : State) → IsTimely s t → IsTimely s (without_claims s queue room t)
  rides None room t h = h
  rides (Some q) room t h = h

  rides_both : (t : State) (bearer : _) → IsTimely s t → IsTimely s (without_both s k.to bearer t)
  unfolding without_both
  rides_both t bearer h = rides s.queue (room_of s k.to bearer s.queue) t h

  born_again : (t : State) (contact : Option ℕ) → IsTimely s (at_again s k contact t)
  unfolding opening_state
  born_again t contact q x at = absurd (false≢true (sym (ap is_some (get-empty nat_cmp q)) ∙ ap is_some at))

  timely_moves : Moves s k (Below s) (InTime s k.to)
  timely_moves = record {
    own = here;
    known = λ t q held r at. kept.known t q held r.0 at;
    drawn = λ t rest is r. (kept.drawn t rest is r.0, r.1);
    picked = λ t buddy r. (kept.picked t buddy r.0, r.1);
    aimed = λ t probe r is. kept.aimed t probe r.0 is;
    targets = λ t target r is. kept.targets t target r.0 is;
    probing = λ t seq probe up aim r. (kept.probing t seq probe up aim r.0, r.1);
    turned = λ t r. (kept.turned t r.0, r.1);
    forgotten = λ t q held rules here dead r. (kept.forgotten t q held rules here dead r.0, r.1);
    mixed = λ t r. (kept.mixed t r.0, r.1);
    relay_added = λ t relay on r. (kept.relay_added t relay on r.0, r.1);
    relay_removed = λ t relay r. (kept.relay_removed t relay r.0, r.1);
    heard_dead = λ t r. (kept.heard_dead t r.0, r.1);
    waiting = λ t waits r. (kept.waiting t waits r.0, r.1);
    beaten = λ t beat r. (kept.beaten t beat r.0, r.1);
    refuted = λ t claim number refutes r. (kept.refuted t claim number refutes r.0, r.1);
    weakened = λ t failures r. (kept.weakened t failures r.0, r.1);
    mended = λ t r. (kept.mended t r.0, r.1);
    welcomed = λ t r. (kept.welcomed t r.0, r.1);
    downed = λ t r. (kept.downed t r.0, r.1);
    began = λ t waits r. (kept.began t waits r.0, r.1);
    late = λ t waits r. (kept.late t waits r.0, r.1);
    ridden = λ t bearer r. (kept.ridden t bearer r.0, rides_both t bearer r.1);
    asked = λ t contact r is. kept.asked t contact r.0 is;
    answered = λ t r. (kept.answered t r.0, r.1);
    leaving = λ t leaving r. (kept.leaving t leaving r.0, r.1);
    alone = λ t waits rules r. (kept.alone t waits rules r.0, r.1);
    again = λ t contact rules named r. (kept.again t contact rules named r.0, born_again t contact);
  }
    where
      kept : Moves s k (Below s) (Keeps s k.to)
      kept = moves s sound k here

  timely_carries : Carries s k (Below s) (InTime s k.to)
  timely_carries = record {
    plain = λ t bearer r. kept.plain t bearer r.0;
    known = λ t r. kept.known t r.0;
    failed = λ t m place failed r are. kept.failed t m place failed r.0 are;
    ping = λ t to r. kept.ping t to r.0;
    contact = kept.contact;
    helpers = λ t but count r. kept.helpers t but count r.0;
    sample = λ t fitting count r. kept.sample t fitting count r.0;
    whole = λ t r. kept.whole t r.0;
  }
    where
      kept : Carries s k (Below s) (Keeps s k.to)
      kept = carries s sound k here

  abbrev AllSoon : Effect → Type 0
  AllSoon o = AllByRecursion (λ e. Soon e.0.at) o.events

  makes : Makes s k (Below s) (Unit {0}) AnyRow Soon AllSoon
  unfolding with_row with_event
  makes = record {
    row = λ tells about value lost o told named h. h;
    event = λ at to content o soon there named h. all_append (λ e. Soon e.0.at) o.events _ h (awake_soon to at soon, tt);
    lost = λ o h. h;
    state = λ t o same h. h;
  }

  module _ (c : EventKind) (t : State) (ours : IsAmongMembers s k c) (h : IsConsistent s k.to t) (timely : IsTimely s t) where
    pub step_soon : AllSoon (step s k c t)
    step_soon =
        by_step s k (Below s) (InTime s k.to) timely_news timely_moves (Unit {0}) AnyRow (any_row s (InTime s k.to) (Unit {0})) timely_carries Soon times AllSoon makes c t ours.sender (names_only (member_count s) c ours.names)
        (λ up. (keeps s sound k t h up, timely)) (λ waits. (started_at_once s sound k t h waits, timely)) (λ waits. (started_late s sound k t h waits, timely)) (λ waits rules. (started_alone s sound k t h here waits rules, timely)) tt

    pub step_timely : IsTimely s (step s k c t).state
    step_timely =
        on_any_step s k (Below s) (InTime s k.to) timely_news timely_moves (IsTimely s) c t (λ v r. r.1) timely
        (λ up. (keeps s sound k t h up, timely)) (λ waits. (started_at_once s sound k t h waits, timely)) (λ waits. (started_late s sound k t h waits, timely)) (λ waits rules. (started_alone s sound k t h here waits rules, timely))
        ours.sender (names_only (member_count s) c ours.names)

pub all_soon : (s : Setup) (k : Key) (c : EventKind) (t : State) → IsSound s → IsAmongMembers s k c → k.at ≤ s.end → IsConsistent s k.to t → IsTimely s t
    → All (λ (e : Key × EventKind). Soon e.0.at) (step s k c t).events
all_soon s k c t sound ours in_time h timely =
    All-from_recursion (λ (e : Key × EventKind). Soon e.0.at) (step s k c t).events (step_soon s sound k ours.receiver in_time c t ours h timely)

-- ---- runs

pub both : {A : Type 0} (P Q : A → Type 0) (xs : List A) → AllByRecursion P xs → AllByRecursion Q xs → AllByRecursion (λ x. P x × Q x) xs
both P Q [] h g = tt
both P Q (x ∷ xs) h g = ((h.0, g.0), both P Q xs h.1 g.1)

opening_timely : (s : Setup) (m : ℕ) → IsTimely s (opening_state s m)
unfolding opening_state
opening_timely s m q x at = absurd (false≢true (sym (ap is_some (get-empty nat_cmp q)) ∙ ap is_some at))

ending_soon : (s : Setup) (m : ℕ) (content : EventKind) (at : Option ℕ) → IfSome at (λ t. (start_of s m < t) × (t ≤ 2 ^ 40)) → AllByRecursion (λ e. Soon e.0.at) (ending_event content m at)
ending_soon s m content None h = tt
ending_soon s m content (Some at) h = (omega (arith, h.1), tt)

endings_soon : (s : Setup) → IsSound s → (m : ℕ) → AllByRecursion (λ e. Soon e.0.at) (ending_event Crash m (crash_of s m) ++ ending_event Leave m (leave_of s m))
endings_soon s sound m =
    all_append (λ e. Soon e.0.at) (ending_event Crash m (crash_of s m)) (ending_event Leave m (leave_of s m))
    (ending_soon s m Crash (crash_of s m) (sound.crashes m)) (ending_soon s m Leave (leave_of s m) (sound.leaves m))

numbered_soon : (s : Setup) (m number : ℕ) (es : List ScriptEvent) → AllByRecursion (λ (e : ScriptEvent). (e.member ≡ m) × IsSoundEvent s e) es → AllByRecursion (λ e. Soon e.0.at) (numbered_from m number es)
numbered_soon s m number [] h = tt
numbered_soon s m number (e ∷ es) h = (let small = h.0.1.small in omega arith, numbered_soon s m (number + 1) es h.1)

script_soon_by : (s : Setup) → IsSound s → (profile : Profile) (x : ℕ) → AllByRecursion (λ e. Soon e.0.at) (script_by profile s x)
script_soon_by s sound Papers x = (omega (arith, sound.starts x), endings_soon s sound x)
script_soon_by s sound Memberlist x = (omega (arith, sound.starts x), endings_soon s sound x)
script_soon_by s sound Hashicorp x = (omega (arith, sound.starts x), numbered_soon s x 1 (setup.script_of s x) (events_so (IsSoundEvent s) s sound.events x))

script_soon : (s : Setup) → IsSound s → (xs : List ℕ) → AllByRecursion (λ e. Soon e.0.at) (flat_map (script_by (profile_of s) s) xs)
script_soon s sound [] = tt
script_soon s sound (x ∷ xs) =
    all_append (λ e. Soon e.0.at) (script_by (profile_of s) s x) (flat_map (script_by (profile_of s) s) xs) (script_soon_by s sound (profile_of s) x) (script_soon s sound xs)

abbrev IsInTime : Setup → ℕ → State → Type 0
IsInTime s m t = IsMember s m t × IsTimely s t

abbrev ComesSoon : Setup → Key → EventKind → Type 0
ComesSoon s k c = IsAmongMembers s k c × Soon k.at

module _ (s : Setup) (sound : IsSound s) where
  soon_step : (k : Key) (c : EventKind) (t : State) → k.at ≤ s.end → ComesSoon s k c → IsInTime s k.to t
      → IsInTime s k.to (step s k c t).state × AllByRecursion (λ e. ComesSoon s e.0 e.1) (step s k c t).events
  soon_step k c t in_time ours h =
      let made = kept_step s sound k c t in_time ours.0 h.0 in (
        (made.0, step_timely s sound k ours.0.receiver in_time c t ours.0 h.0.1 h.1),
        both (λ e. IsAmongMembers s e.0 e.1) (λ e. Soon e.0.at) (step s k c t).events made.1 (step_soon s sound k ours.0.receiver in_time c t ours.0 h.0.1 h.1),
      )

  soon_opening : IsKept (step s) (IsInTime s) (ComesSoon s) s.end soon_step (opening s)
  soon_opening =
      let first = kept_opening s sound in
      let soon = all_with_events (λ k c. Soon k.at) (flat_map (script_by (profile_of s) s) (numbers s)) empty (none_pending (λ k c. Soon k.at)) (script_soon s sound (numbers s)) in
      record {
        members = λ m t at. (first.members m t at, subst (IsTimely s) (sym (opened s (numbers s) m t at)) (opening_timely s m));
        events = λ k c at. (first.events k c at, soon k c at);
      }

  soon_reached : (w : Cluster) → IsReached s w → IsKept (step s) (IsInTime s) (ComesSoon s) s.end soon_step w
  soon_reached w reached = run_kept (step s) (IsInTime s) (ComesSoon s) s.end soon_step reached.0 (opening s) w reached.1 reached.2 soon_opening

  pub pending_soon : (w : Cluster) (k : Key) (c : EventKind) → IsReached s w → get w.pending k ≡ Some c → Soon k.at
  pending_soon w k c reached at = ((soon_reached w reached).events k c at).1

  pub timely_reached : (w : Cluster) (m : ℕ) (t : State) → IsReached s w → get w.members m ≡ Some t → IsTimely s t
  timely_reached w m t reached at = ((soon_reached w reached).members m t at).1
