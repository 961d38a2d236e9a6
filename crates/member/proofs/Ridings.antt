-- What rides on a message behind what was taken before: the claims leave the intents as they were.
use Rattle.std.proofs.Common.{◌≡◌, ℕ, Bool, true, false, ◌&&◌, nat_eq, List, [], ◌∷◌, ◌++◌, length, map, take, Option, Some, None, refl, sym, ap, ◌∙◌, arith}
use Rattle.std.specs.FinMap.{empty, len, empty_of_len}
use Rattle.std.proofs.lemmas.Bool.{eqb-true, false≢true}
use Rattle.scenario.specs.Setup.{Setup}
use Rattle.scenario.specs.declared.settings.Queue.{Queue}
use Rattle.incarnation.specs.declared.Update.{Update}
use Rattle.piggyback.specs.Picked.{HeldUpdates, picked, waiting}
use Rattle.piggyback.proofs.Holding.{picked-empty, left-empty}
use Rattle.broadcast_queue.specs.Broadcasts.{Queue as Broadcasts, after_pick}
use Rattle.broadcast_queue.specs.Items.{those_that_fit}
use Rattle.broadcast_queue.specs.declared.items.Item.{Item}
use Rattle.broadcast_queue.specs.declared.items.Measure.{Measure}
use Rattle.broadcast_queue.specs.declared.items.Measure.TheVariants.{Items, Bytes}
use Rattle.member.specs.declared.riding.Bearer.{Bearer}
use Rattle.member.specs.State.{State}
use Rattle.member.specs.Picks.{limit_of}
use Rattle.member.specs.Riding.{measure_of, room_of, has_no_claims, is_all_told, claims_for, without_claims, room_behind, intents_that_fit, intents_for, without_intents, intents_behind, both_for, without_both}

pub same_intents : (s : Setup) (queue : Option Queue) (room : ℕ) (measure : Measure) (left : ℕ) (t : State) → intents_for s measure left (without_claims s queue room t) ≡ intents_for s measure left t
same_intents s None room Items left t = refl
same_intents s None room Bytes left t = refl
same_intents s (Some q) room Items left t = refl
same_intents s (Some q) room Bytes left t = refl

pub same_held : (s : Setup) (queue : Option Queue) (room : ℕ) (t : State) → (without_claims s queue room t).life.intents ≡ t.life.intents
same_held s None room t = refl
same_held s (Some q) room t = refl

-- ---- where there are none

take_whole : (xs : List Update) → take (length xs) xs ≡ xs
take_whole [] = refl
take_whole (x ∷ xs) = ap (λ l. x ∷ l) (take_whole xs)

none_waiting : (held : HeldUpdates) (limit : ℕ) → held ≡ empty → waiting held limit ≡ []
none_waiting held limit none = sym (take_whole (waiting held limit)) ∙ picked-empty held (length (waiting held limit)) limit None none refl

pub no_intents : (s : Setup) (measure : Measure) (room : ℕ) (t : State) → t.life.intents ≡ empty → intents_for s measure room t ≡ []
no_intents s Items room t none = picked-empty t.life.intents room (limit_of s t) None none refl
no_intents s Bytes room t none = ap (intents_that_fit s room) (none_waiting t.life.intents (limit_of s t) none)

pub without_none : (s : Setup) (intents : List Update) (t : State) → t.life.intents ≡ empty → without_intents s intents t ≡ t
without_none s intents t none = ap (λ (held : HeldUpdates). record t { life = record t.life { intents = held } }) (left-empty t.life.intents intents (limit_of s t) none)

nothing_behind : (xs : List Update) → xs ++ [] ≡ xs
nothing_behind [] = refl
nothing_behind (x ∷ xs) = ap (λ l. x ∷ l) (nothing_behind xs)

-- ---- both

module _ (s : Setup) (me : ℕ) (bearer : Bearer) (t : State) (queue : Option Queue) (room : ℕ) (is_queue : queue ≡ s.queue) (is_room : room ≡ room_of s me bearer queue) where
  -- what rides by the queue and the room
  behind : Option Queue → ℕ → List Update
  behind q r = intents_for s (measure_of q) (room_behind s q (measure_of q) r t) t

  pub all_claims : (claims : List Update) → claims ≡ claims_for s queue room t → claims ≡ claims_for s s.queue (room_of s me bearer s.queue) t
  all_claims claims are =
      are ∙ ap (λ r. claims_for s queue r t) is_room ∙ ap (λ (q : Option Queue). claims_for s q (room_of s me bearer q) t) is_queue

  left_claims : without_claims s queue room t ≡ without_claims s s.queue (room_of s me bearer s.queue) t
  left_claims = ap (λ r. without_claims s queue r t) is_room ∙ ap (λ (q : Option Queue). without_claims s q (room_of s me bearer q) t) is_queue

  pub all_intents : (left : ℕ) (v : State) (intents : List Update) → left ≡ room_behind s queue (measure_of queue) room t → v ≡ without_claims s queue room t
      → intents ≡ intents_for s (measure_of queue) left v → intents ≡ intents_behind s me bearer t
  unfolding behind
  all_intents left v intents is_left is_v are =
      are ∙ ap (λ (w : State). intents_for s (measure_of queue) left w) is_v
      ∙ same_intents s queue room (measure_of queue) left t
      ∙ ap (λ r. intents_for s (measure_of queue) r t) is_left
      ∙ ap (behind queue) is_room ∙ ap (λ (q : Option Queue). behind q (room_of s me bearer q)) is_queue

  pub both_made : (claims intents updates : List Update) → claims ≡ claims_for s queue room t → intents ≡ intents_behind s me bearer t → updates ≡ claims ++ intents → updates ≡ both_for s me bearer t
  unfolding both_for
  both_made claims intents updates are behind_them laid =
      laid ∙ ap (λ (l : List Update). l ++ intents) (all_claims claims are) ∙ ap (λ (l : List Update). claims_for s s.queue (room_of s me bearer s.queue) t ++ l) behind_them

  pub both_left : (intents : List Update) (v u : State) → v ≡ without_claims s queue room t → intents ≡ intents_behind s me bearer t → u ≡ without_intents s intents v → u ≡ without_both s me bearer t
  unfolding without_both
  both_left intents v u is_v are is_u =
      is_u ∙ ap (λ (l : List Update). without_intents s l v) are ∙ ap (λ (w : State). without_intents s (intents_behind s me bearer t) w) (is_v ∙ left_claims)

  -- where there are no intents the claims are all
  pub claims_alone : (claims : List Update) → claims ≡ claims_for s queue room t → t.life.intents ≡ empty → claims ≡ both_for s me bearer t
  claims_alone claims are none =
      both_made claims (intents_behind s me bearer t) claims are refl
      (sym (nothing_behind claims) ∙ ap (λ (l : List Update). claims ++ l) (sym (no_intents s (measure_of s.queue) (room_behind s s.queue (measure_of s.queue) (room_of s me bearer s.queue) t) t none)))

  pub left_alone : (v : State) → v ≡ without_claims s queue room t → t.life.intents ≡ empty → v ≡ without_both s me bearer t
  left_alone v is_v none =
      both_left (intents_behind s me bearer t) v v is_v refl
      (sym (without_none s (intents_behind s me bearer t) v (ap (λ (w : State). w.life.intents) is_v ∙ same_held s queue room t ∙ none)))

-- ---- where nothing waits

both_first : (a b : Bool) → (a && b) ≡ true → a ≡ true
both_first true b are = refl
both_first false b are = absurd (false≢true are)

both_second : (a b : Bool) → (a && b) ≡ true → b ≡ true
both_second true b are = are
both_second false b are = absurd (false≢true are)

none_of_length : {A : Type 0} (xs : List A) → length xs ≡ 0 → xs ≡ []
none_of_length [] none = refl
none_of_length (x ∷ xs) none = absurd (omega (arith, none))

none_queued : (t : State) → nat_eq (length t.life.queue.items) 0 ≡ true → t.life.queue.items ≡ []
none_queued t none = none_of_length t.life.queue.items (eqb-true (length t.life.queue.items) 0 none)

none_held : (held : HeldUpdates) → nat_eq (len held) 0 ≡ true → held ≡ empty
none_held held none = empty_of_len held (eqb-true (len held) 0 none)

no_claims : (s : Setup) (queue : Option Queue) (room : ℕ) (t : State) → has_no_claims queue t ≡ true → claims_for s queue room t ≡ []
no_claims s None room t none = picked-empty t.buffer room (limit_of s t) None (none_held t.buffer none) refl
no_claims s (Some q) room t none = ap (λ (items : List Item). map (λ it. it.update) (those_that_fit (measure_of (Some q)) room items)) (none_queued t none)

after_none : (limit : ℕ) (queue : Broadcasts) → after_pick true [] limit queue ≡ queue
unfolding after_pick
after_none limit queue = refl

without_no_claims : (s : Setup) (queue : Option Queue) (room : ℕ) (t : State) → has_no_claims queue t ≡ true → without_claims s queue room t ≡ t
without_no_claims s None room t none =
    ap (λ (held : HeldUpdates). record t { buffer = held }) (left-empty t.buffer (picked t.buffer room (limit_of s t) None) (limit_of s t) (none_held t.buffer none))
without_no_claims s (Some q) room t none =
    ap (λ (after : Broadcasts). record t { life = record t.life { queue = after } })
    (ap (λ (items : List Item). after_pick true (those_that_fit (measure_of (Some q)) room items) (limit_of s t) t.life.queue) (none_queued t none) ∙ after_none (limit_of s t) t.life.queue)

-- nothing rides there
pub nothing_rides : (s : Setup) (me : ℕ) (bearer : Bearer) (t : State) → is_all_told s t ≡ true → [] ≡ both_for s me bearer t
unfolding both_for
nothing_rides s me bearer t told =
    let room = room_of s me bearer s.queue in
    let measure = measure_of s.queue in
    sym (ap (λ (l : List Update). l ++ intents_behind s me bearer t) (no_claims s s.queue room t (both_first _ _ told))
    ∙ no_intents s measure (room_behind s s.queue measure room t) t (none_held t.life.intents (both_second _ _ told)))

-- and nothing changes
pub nothing_changes : (s : Setup) (me : ℕ) (bearer : Bearer) (t : State) → is_all_told s t ≡ true → t ≡ without_both s me bearer t
unfolding without_both
nothing_changes s me bearer t told =
    let room = room_of s me bearer s.queue in
    sym (without_none s (intents_behind s me bearer t) (without_claims s s.queue room t) (same_held s s.queue room t ∙ none_held t.life.intents (both_second _ _ told))
    ∙ without_no_claims s s.queue room t (both_first _ _ told))
