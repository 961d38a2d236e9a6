-- Members that come to a cluster one after the other, and the opening world.
use Rattle.std.proofs.Common.{◌≡◌, ◌≢◌, ◌⊎◌, inl, inr, ℕ, zero, suc, ◌+◌, ◌<◌, ◌≤◌, Bool, true, false, cond, eqb, List, [], ◌∷◌, ◌++◌, Option, Some, None, map, flat_map, append_assoc, append-nil, take, length, ap, ◌∙◌, sym, subst, refl, arith}
use Rattle.std.proofs.lemmas.List.FromFn.{map-range_with_len_more}
use Rattle.std.specs.List.{AllByRecursion, range_with_len, slice_get}
use Rattle.std.specs.Option.{is_some, IfSome, IfNone}
use Rattle.std.specs.Ordering.{nat_cmp}
use Rattle.std.specs.Cmp.{nat_cmp_total, unsigned_tied}
use Rattle.std.specs.FinMap.{FinMap, nat_cmp-IsAntisymmetric, from_entries, from_entries_push, find, empty, insert, contains_key, get-empty}
use Rattle.std.proofs.lemmas.Bool.{false≢true, eqb-true}
use Rattle.std.proofs.lemmas.Option.{same_Some}
use Rattle.base.specs.declared.key.Key.{Key}
use Rattle.base.specs.Order.{key_cmp}
use Rattle.base.specs.World.{World, with_events}
use Rattle.base.specs.Run.{holds-with_events}
use Rattle.base.proofs.Rising.{all_append}
use Rattle.base.specs.declared.profile.Profile.{Profile}
use Rattle.base.specs.declared.profile.Profile.TheVariants.{Papers, Memberlist, Hashicorp}
use Rattle.schema.specs.declared.schema.Version.{Version}
use Rattle.schema.specs.declared.schema.Version.TheVariants.{One, Two, Three, Four}
use Rattle.scenario.specs.Profile.{profile_of, profile_of_version}
use Rattle.scenario.specs.Setup as setup
use Rattle.scenario.specs.Setup.{Setup, IsSound, IsBeforeFourth, crash_of, leave_of}
use Rattle.scenario.specs.declared.script.ScriptEvent.{ScriptEvent}
use Rattle.member.specs.declared.event_kind.EventKind.{EventKind}
use Rattle.member.specs.declared.event_kind.EventKind.TheVariants.{Crash, Leave}
use Rattle.member.specs.declared.event.Event.{Event}
use Rattle.member.specs.State.{State}
use Rattle.member.specs.StateOf.{pair_of}
use Rattle.member.specs.Opening.{opening_state, script_of, script_by, numbered_from, ending_event, script_key, content_of as asked_of}
use Rattle.worker_queue.specs.Queue.{IsLeastKey}
use Rattle.worker_queue.proofs.Contents.{least_content, contents_by-empty}
use Rattle.windows.specs.Admitting.{AreFromBelow, with_member, opened_below}
use Rattle.windows.specs.WorldOf.{contents_in, content_of}

pub least_asked : (events : FinMap key_cmp Event) (least : Option Key) → IfSome least (IsLeastKey events) → IfSome least (IsLeastKey (contents_in events))
least_asked events None is = tt
least_asked events (Some k) is = least_content content_of events k is

pub none_asked : (events : FinMap key_cmp Event) (least : Option Key) → IfNone least (events ≡ empty) → IfNone least (contents_in events ≡ empty)
none_asked events None none = ap contents_in none ∙ contents_by-empty content_of
none_asked events (Some k) none = tt

pub with_pending : (members : FinMap nat_cmp State) (p q : FinMap key_cmp EventKind) → p ≡ q → ◌≡◌ {A = World State EventKind} (record { members = members; pending = p }) (record { members = members; pending = q })
with_pending members p q same = λ i. record { members = members; pending = same i }

-- ---- keys that no event has

module _ {C : Type 0} where
  absent_at : (events : FinMap key_cmp C) (k : Key) → ((q : Key) → contains_key events q ≡ true → q ≢ k) → (b : Bool) → contains_key events k ≡ b → b ≡ false
  absent_at events k others true here = absurd (others k here refl)
  absent_at events k others false here = refl

  -- the key of no event is absent
  pub absent : (events : FinMap key_cmp C) (k : Key) → ((q : Key) → contains_key events q ≡ true → q ≢ k) → contains_key events k ≡ false
  absent events k others = absent_at events k others (contains_key events k) refl

-- ---- the script

-- first these events, then those
pub with_events_append : (es fs : List (Key × EventKind)) (pending : FinMap key_cmp EventKind) → with_events pending (es ++ fs) ≡ with_events (with_events pending es) fs
with_events_append [] fs pending = refl
with_events_append (e ∷ es) fs pending = with_events_append es fs _

flat_append : (f : ℕ → List (Key × EventKind)) (a n : ℕ) → flat_map f (range_with_len a (n + 1)) ≡ flat_map f (range_with_len a n) ++ f (a + n)
flat_append f a zero = append-nil (f a) ∙ ap f (let e : a ≡ a + 0 = omega arith in e)
flat_append f a (suc n) =
    ap (λ k. flat_map f (range_with_len a k)) (let e : suc n + 1 ≡ suc (n + 1) = omega arith in e) ∙ ap (λ l. f a ++ l) (flat_append f (a + 1) n) ∙ sym (append_assoc (f a) (flat_map f (range_with_len (a + 1) n)) (f (a + 1 + n)))
    ∙ ap (λ k. (f a ++ flat_map f (range_with_len (a + 1) n)) ++ f k) (let e : a + 1 + n ≡ a + suc n = omega arith in e)

-- the script of one more member
pub one_more_script : (s : Setup) (i : ℕ) (before after : FinMap key_cmp EventKind) → before ≡ with_events empty (flat_map (script_by (profile_of s) s) (range_with_len 0 i))
    → after ≡ with_events before (script_by (profile_of s) s i) → after ≡ with_events empty (flat_map (script_by (profile_of s) s) (range_with_len 0 (i + 1)))
one_more_script s i before after so_far more =
    more ∙ ap (λ p. with_events p (script_by (profile_of s) s i)) so_far
    ∙ sym (with_events_append (flat_map (script_by (profile_of s) s) (range_with_len 0 i)) (script_by (profile_of s) s i) empty)
    ∙ ap (with_events empty) (ap (λ k. flat_map (script_by (profile_of s) s) (range_with_len 0 i) ++ script_by (profile_of s) s k) (let e : i ≡ 0 + i = omega arith in e) ∙ sym (flat_append (script_by (profile_of s) s) 0 i))

-- ---- senders

ending_from : (content : EventKind) (m bound : ℕ) (ending : Option ℕ) → m < bound → AllByRecursion {X = Key × EventKind} (λ e. e.0.from < bound) (ending_event content m ending)
ending_from content m bound None below = tt
ending_from content m bound (Some at) below = (below, tt)

endings_from : (s : Setup) (m bound : ℕ) → m < bound → AllByRecursion {X = Key × EventKind} (λ e. e.0.from < bound) (ending_event Crash m (crash_of s m) ++ ending_event Leave m (leave_of s m))
endings_from s m bound below =
    all_append (λ e. e.0.from < bound) (ending_event Crash m (crash_of s m)) (ending_event Leave m (leave_of s m)) (ending_from Crash m bound (crash_of s m) below) (ending_from Leave m bound (leave_of s m) below)

script_from : (s : Setup) (m bound : ℕ) → m < bound → AllByRecursion {X = Key × EventKind} (λ e. e.0.from < bound) (script_of s m)
script_from s m bound below = (below, endings_from s m bound below)

numbered_from_one : (m number bound : ℕ) (events : List ScriptEvent) → m < bound → AllByRecursion {X = Key × EventKind} (λ e. e.0.from < bound) (numbered_from m number events)
numbered_from_one m number bound [] below = tt
numbered_from_one m number bound (e ∷ es) below = (below, numbered_from_one m (number + 1) bound es below)

script_by_from : (profile : Profile) (s : Setup) (m bound : ℕ) → m < bound → AllByRecursion {X = Key × EventKind} (λ e. e.0.from < bound) (script_by profile s m)
script_by_from Papers s m bound below = script_from s m bound below
script_by_from Memberlist s m bound below = script_from s m bound below
script_by_from Hashicorp s m bound below = (below, numbered_from_one m 1 bound (setup.script_of s m) below)

scripts_from : (s : Setup) (a n bound : ℕ) → a + n ≤ bound → AllByRecursion {X = Key × EventKind} (λ e. e.0.from < bound) (flat_map (script_by (profile_of s) s) (range_with_len a n))
scripts_from s a zero bound h = tt
scripts_from s a (suc n) bound h =
    let own : a < bound = omega arith in
    all_append (λ e. e.0.from < bound) (script_by (profile_of s) s a) (flat_map (script_by (profile_of s) s) (range_with_len (a + 1) n)) (script_by_from (profile_of s) s a bound own) (scripts_from s (a + 1) n bound (omega arith))

-- the scripts of the first members are from these alone
pub scripts_from_below : (s : Setup) (n : ℕ) (events : FinMap key_cmp EventKind) → events ≡ with_events empty (flat_map (script_by (profile_of s) s) (range_with_len 0 n)) → AreFromBelow events n
scripts_from_below s n events is q here =
    holds-with_events (λ (r : Key). r.from < n) (flat_map (script_by (profile_of s) s) (range_with_len 0 n)) empty
    (λ r there. absurd (false≢true (ap is_some (sym (get-empty key_cmp r)) ∙ there))) (scripts_from s 0 n n (omega arith)) q (subst (λ m. contains_key m q ≡ true) is here)

-- so the script of the next has new keys
pub start_is_new : (events : FinMap key_cmp EventKind) (m : ℕ) (k : Key) → AreFromBelow events m → k.from ≡ m → contains_key events k ≡ false
start_is_new events m k earlier own = absent events k (λ q here same. let below = earlier q here in let one : q.from ≡ k.from = ap (λ (r : Key). r.from) same in omega arith)

pub ending_is_new : (events after : FinMap key_cmp EventKind) (m : ℕ) (start ending : Key) (c : EventKind) → AreFromBelow events m → after ≡ insert events start c → ending.from ≡ m → start.number < ending.number
    → contains_key after ending ≡ false
ending_is_new events after m start ending c earlier is own later =
    ap (λ p. contains_key p ending) is
    ∙ absent (insert events start c) ending (holds-with_events (λ q. q ≢ ending) ((start, c) ∷ []) events
    (λ q here same. let below = earlier q here in let one : q.from ≡ ending.from = ap (λ (r : Key). r.from) same in omega arith)
    (λ same. let one : start.number ≡ ending.number = ap (λ (r : Key). r.number) same in omega arith, tt))

-- the events of a member's script after its start are new beside it
pub script_is_new : (events after : FinMap key_cmp EventKind) (m : ℕ) (start : Key) (c : EventKind) → AreFromBelow events m → after ≡ insert events start c → start.number ≡ 0
    → (at number : ℕ) → 1 ≤ number → contains_key after (script_key m at number) ≡ false
script_is_new events after m start c earlier is first at number later = ending_is_new events after m start (script_key m at number) c earlier is refl (omega arith)

-- an event with a later number than these is none of them
numbered_below : (m number : ℕ) (events : List ScriptEvent) (k : Key) → number + length events ≤ k.number → AllByRecursion {X = Key × EventKind} (λ e. e.0 ≢ k) (numbered_from m number events)
numbered_below m number [] k low = tt
numbered_below m number (e ∷ es) k low =
    ((λ same. let one : number ≡ k.number = ap (λ (q : Key). q.number) same in omega (arith, one, low)), numbered_below m (number + 1) es k (omega (arith, low)))

pub numbered_new : (m number : ℕ) (events : List ScriptEvent) (pending : FinMap key_cmp EventKind) (k : Key) → contains_key pending k ≡ false → number + length events ≤ k.number
    → contains_key (with_events pending (numbered_from m number events)) k ≡ false
numbered_new m number events pending k none low =
    absent (with_events pending (numbered_from m number events)) k
    (holds-with_events (λ q. q ≢ k) (numbered_from m number events) pending
    (λ q here same. false≢true (sym none ∙ ap (contains_key pending) (sym same) ∙ here)) (numbered_below m number events k low))

-- one event more of a script
one_past : (m number place : ℕ) (events : List ScriptEvent) (e : ScriptEvent) → slice_get events place ≡ Some e
    → numbered_from m number (take (suc place) events) ≡ numbered_from m number (take place events) ++ (script_key m e.at (number + place), asked_of e.kind) ∷ []
one_past m number place [] e here = absurd (false≢true (ap is_some here))
one_past m number zero (x ∷ xs) e here =
    ap (λ (y : ScriptEvent). (script_key m y.at number, asked_of y.kind) ∷ []) (same_Some x e here)
    ∙ ap (λ n. (script_key m e.at n, asked_of e.kind) ∷ []) (let same : number ≡ number + 0 = omega arith in same)
one_past m number (suc place) (x ∷ xs) e here =
    ap (λ l. (script_key m x.at number, asked_of x.kind) ∷ l)
    (one_past m (number + 1) place xs e here
    ∙ ap (λ n. numbered_from m (number + 1) (take place xs) ++ (script_key m e.at n, asked_of e.kind) ∷ []) (let same : number + 1 + place ≡ number + suc place = omega arith in same))

pub one_more_numbered : (m place : ℕ) (events : List ScriptEvent) (e : ScriptEvent) → slice_get events place ≡ Some e
    → numbered_from m 1 (take (place + 1) events) ≡ numbered_from m 1 (take place events) ++ (script_key m e.at (place + 1), asked_of e.kind) ∷ []
one_more_numbered m place events e here =
    ap (λ n. numbered_from m 1 (take n events)) (let same : place + 1 ≡ suc place = omega arith in same)
    ∙ one_past m 1 place events e here
    ∙ ap (λ n. numbered_from m 1 (take place events) ++ (script_key m e.at n, asked_of e.kind) ∷ []) (let same : 1 + place ≡ place + 1 = omega arith in same)

-- who crashes by the script, and doesn't leave, has one ending
pub one_ending : (m at : ℕ) (crash leave : Option ℕ) → crash ≡ Some at → (is_some leave ≡ true → crash ≡ None)
    → ◌≡◌ {A = List (Key × EventKind)} ((script_key m at 1, Crash) ∷ []) (ending_event Crash m crash ++ ending_event Leave m leave)
one_ending m at None leave is once = absurd (false≢true (ap is_some is))
one_ending m at (Some t) None is once = ap (λ u. (script_key m u 1, Crash) ∷ []) (sym (same_Some t at is))
one_ending m at (Some t) (Some u) is once = absurd (false≢true (ap is_some (sym (once refl))))

-- before version 4 of the format nobody crashes and leaves
older_profile : (version : Version) → ¬ (profile_of_version version ≡ Hashicorp) → IsBeforeFourth version
older_profile One other = tt
older_profile Two other = tt
older_profile Three other = tt
older_profile Four other = absurd (other refl)

pub not_last : (profile : Profile) → (profile ≡ Papers) ⊎ (profile ≡ Memberlist) → ¬ (profile ≡ Hashicorp)
not_last profile (inl first) last = let is : Papers ≡ Hashicorp = sym first ∙ last in cc
not_last profile (inr second) last = let is : Memberlist ≡ Hashicorp = sym second ∙ last in cc

pub once_before_fourth : (s : Setup) → IsSound s → ¬ (profile_of s ≡ Hashicorp) → (m : ℕ) → is_some (leave_of s m) ≡ true → crash_of s m ≡ None
once_before_fourth s sound other m = (sound.before_fourth (older_profile s.version other)).once m

-- its key, where the script ends with it
ends : List (Key × EventKind) → Bool
ends [] = false
ends (e ∷ es) = true

ending_head : List (Key × EventKind) → Key → Key
ending_head [] k = k
ending_head (e ∷ es) k = e.0

pub ending_key : (m : ℕ) (crash leave : Option ℕ) (e : Event) → pair_of e ∷ [] ≡ ending_event Crash m crash ++ ending_event Leave m leave → (at : ℕ) × (e.key ≡ script_key m at 1)
unfolding ends ending_head
ending_key m None None e is = absurd (false≢true (sym (ap ends is)))
ending_key m None (Some at) e is = (at, ap (λ l. ending_head l e.key) is)
ending_key m (Some at) leave e is = (at, ap (λ l. ending_head l e.key) is)

-- ---- members

pub find_none : (s : Setup) (m a n : ℕ) → a + n ≤ m → find nat_cmp m (map (λ i. (i, opening_state s i)) (range_with_len a n)) ≡ None
find_none s m a zero past = refl
find_none s m a (suc n) past =
    ap (λ b. cond b (Some (opening_state s a)) (find nat_cmp m (map (λ i. (i, opening_state s i)) (range_with_len (a + 1) n)))) (unsigned_tied m a ∙ differs (eqb m a) refl)
    ∙ find_none s m (a + 1) n (omega arith)
  where
    differs : (b : Bool) → eqb m a ≡ b → b ≡ false
    differs true e = let same = eqb-true m a e in absurd (omega arith)
    differs false e = refl

-- one member more
pub one_more_opened : (s : Setup) (n : ℕ) → opened_below s (n + 1) ≡ with_member s n (opened_below s n)
one_more_opened s n =
    let members : (opened_below s (n + 1)).members ≡ insert (opened_below s n).members n (opening_state s n) =
    ap from_entries (map-range_with_len_more (λ m. (m, opening_state s m)) 0 n n (omega arith))
    ∙ from_entries_push nat_cmp_total nat_cmp-IsAntisymmetric (map (λ m. (m, opening_state s m)) (range_with_len 0 n)) n (opening_state s n) (find_none s n 0 n (omega arith)) in
    let pending : (opened_below s (n + 1)).pending ≡ with_events (opened_below s n).pending (script_by (profile_of s) s n) = sym (one_more_script s n (opened_below s n).pending _ refl refl) in
    λ i. record { members = members i; pending = pending i }
