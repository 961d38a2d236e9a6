-- What a turn of a drive comes to, by what becomes of the event.
use Rattle.std.proofs.Common.{◌≡◌, ◌≢◌, ◌++◌, ◌+◌, ◌-◌, ◌^◌, ◌<◌, ◌≤◌, ◌||◌, min, nat_eq, ℕ, length, Bool, true, false, not, List, [], ◌∷◌, take, Option, Some, None, inl, inr, ap, ◌∙◌, sym, subst, refl, append-nil, append_assoc, codes, arith}
use Rattle.std.specs.Option.{IfSome, IfNone, is_some}
use Rattle.std.proofs.lemmas.Bool.{false≢true}
use Rattle.std.proofs.lemmas.List.{length-append}
use Rattle.std.proofs.Math.Seq.{take-append_seam}
use Rattle.std.specs.List.{AllByRecursion}
use Rattle.std.specs.FinMap.{get}
use Rattle.base.specs.declared.key.Key.{Key}
use Rattle.base.specs.Order.{moments-from_not_before}
use Rattle.base.specs.World.{World, IsPending}
use Rattle.scenario.specs.Setup.{Setup, IsSound}
use Rattle.windows.specs.Cluster.{IsLeastDelay}
use Rattle.worker_queue.specs.Queue.{IsLeastKey}
use Rattle.drive_events.specs.declared.content.Content.{Content}
use Rattle.drive_events.specs.Line.{line_of, head_text, payload_of, payload_text}
use Rattle.drive_answers.specs.declared.action.Action.{Action}
use Rattle.drive_answers.specs.Answer.{IsAnswer}
use Rattle.drive_process.specs.Process.{Process}
use Rattle.drive_world.specs.declared.fate.Fate.{Fate}
use Rattle.drive_world.specs.declared.fate.Fate.TheVariants.{Untold, Told, Asked}
use Rattle.drive_world.specs.declared.world.World.{World as Held}
use Rattle.drive_world.specs.Telling.{Drive, fate_of, exits_in, IsNext, NoneMay}
use Rattle.drive_world.specs.Courses.{move_by, take as take_move}
use Rattle.drive_world.specs.WorldOf.{events_in}
use Rattle.drive_world.specs.DriveOf.{drive_of, world_of, Settles}
use Rattle.drive_world.specs.Turns.{counted, Comes, Turns}
use Rattle.drive_world.specs.declared.ends.Halt.{Halt}
use Rattle.drive_world.specs.declared.ends.Halt.TheVariants.{Stopped, Closed}
use Rattle.drive_world.specs.declared.ends.Stop.{Stop}
use Rattle.drive_world.specs.declared.ends.Stop.TheVariants as stop
use Rattle.drive_world.specs.declared.harness.NoLine.{NoLine}
use Rattle.drive_world.specs.declared.harness.NoLine.TheVariants as no
use Rattle.drive_world.specs.Drives.{IsUnanswered, IsCauseIn}
use Rattle.drive_world.specs.Halts.{IsHalted, ComesTo, StopsWith, HaltsFor}
use Rattle.drive_world.specs.Next.{has_one_for}
use Rattle.drive_world.proofs.Nexts.{free_by}

pub same_drive : (w v : World Process Content) (a b : List Key) (x y : Bool) → w ≡ v → a ≡ b → x ≡ y → ◌≡◌ {A = Drive} (record { world = w; waiting = a; begun = x }) (record { world = v; waiting = b; begun = y })
same_drive w v a b x y world waiting begun i = record { world = world i; waiting = waiting i; begun = begun i }

or_false : (b : Bool) → (b || false) ≡ b
or_false true = refl
or_false false = refl

or_true : (b : Bool) → (b || true) ≡ true
or_true true = refl
or_true false = refl

-- one answer more
counted_next : (a n : ℕ) → a ≡ counted n → min (a + 1) (2 ^ 64 - 1) ≡ counted (n + 1)
counted_next a n is = ap (λ x. min (x + 1) (2 ^ 64 - 1)) is ∙ omega arith

one_more : (gave : List (List ℕ)) (line : List ℕ) → length gave + 1 ≡ length (gave ++ line ∷ [])
one_more gave line = sym (length-append gave (line ∷ []))

counts_still : (a b : ℕ) (gave gave_new : List (List ℕ)) → b ≡ a → gave_new ≡ gave → a ≡ counted (length gave) → b ≡ counted (length gave_new)
counts_still a b gave gave_new same read is = same ∙ is ∙ ap (λ (g : List (List ℕ)). counted (length g)) (sym read)

counts_on : (a b : ℕ) (gave gave_new : List (List ℕ)) (line : List ℕ) → b ≡ min (a + 1) (2 ^ 64 - 1) → gave_new ≡ gave ++ line ∷ [] → a ≡ counted (length gave) → b ≡ counted (length gave_new)
counts_on a b gave gave_new line next read is =
    next ∙ counted_next a (length gave) is ∙ ap counted (one_more gave line) ∙ ap (λ (g : List (List ℕ)). counted (length g)) (sym read)

module _ (s : Setup) (least_delay : Option ℕ) (k : Key) (content : Content) (old new : Held) (told told_new : List ℕ) (gave gave_new : List (List ℕ)) where
  -- the next event has its fate
  pub turn_by : IsNext s least_delay (drive_of old) k → get (events_in old.pending) k ≡ Some content → (fate : Fate) → fate ≡ fate_of (world_of old) k content
      → Comes (move_by fate s (drive_of old) k content) old new told told_new gave gave_new → Turns s least_delay old new told told_new gave gave_new
  turn_by next here fate same comes = record {
    move = move_by fate s (drive_of old) k content;
    allowed = inl (record { key = k; content = content; next = next; here = here; move = ap (λ f. move_by f s (drive_of old) k content) same });
    comes = comes;
  }

  pub untold_comes : Settles s k content [] old new → new.waiting.keys.items ≡ old.waiting.keys.items → new.begun ≡ old.begun → new.answers ≡ old.answers → told_new ≡ told → gave_new ≡ gave
      → Comes (move_by Untold s (drive_of old) k content) old new told told_new gave gave_new
  untold_comes settles waiting begun answers lines read = record {
    drive = same_drive _ _ _ _ _ _ settles.world waiting (begun ∙ sym (or_false old.begun));
    lines = lines ∙ sym (append-nil told);
    read = read ∙ sym (append-nil gave);
    rows = settles.rows;
    counts = counts_still old.answers new.answers gave gave_new answers read;
  }

  pub told_comes : Settles s k content [] old new → new.waiting.keys.items ≡ old.waiting.keys.items → new.begun ≡ true → new.answers ≡ old.answers → told_new ≡ told ++ line_of s (not old.begun) k content → gave_new ≡ gave
      → Comes (move_by Told s (drive_of old) k content) old new told told_new gave gave_new
  told_comes settles waiting begun answers lines read = record {
    drive = same_drive _ _ _ _ _ _ settles.world waiting (begun ∙ sym (or_true old.begun));
    lines = lines;
    read = read ∙ sym (append-nil gave);
    rows = settles.rows;
    counts = counts_still old.answers new.answers gave gave_new answers read;
  }

  pub asked_comes : world_of new ≡ world_of old → new.rows.items ≡ old.rows.items → new.waiting.keys.items ≡ old.waiting.keys.items ++ k ∷ [] → new.begun ≡ true → new.answers ≡ old.answers
      → told_new ≡ told ++ line_of s (not old.begun) k content → gave_new ≡ gave → Comes (move_by Asked s (drive_of old) k content) old new told told_new gave gave_new
  asked_comes world rows waiting begun answers lines read = record {
    drive = same_drive _ _ _ _ _ _ world waiting begun;
    lines = lines;
    read = read ∙ sym (append-nil gave);
    rows = rows ∙ sym (append-nil old.rows.items);
    counts = counts_still old.answers new.answers gave gave_new answers read;
  }

  -- the first that waits takes the next answer
  pub taken_turn : NoneMay s least_delay (drive_of old) → (others : List Key) → old.waiting.keys.items ≡ k ∷ others → get (events_in old.pending) k ≡ Some content → (line : List ℕ) (actions : List Action)
      → IsAnswer s k.to (exits_in s (world_of old) k content) line actions → Settles s k content actions old new → new.waiting.keys.items ≡ others → new.begun ≡ old.begun → new.answers ≡ min (old.answers + 1) (2 ^ 64 - 1) → told_new ≡ told → gave_new ≡ gave ++ line ∷ []
      → Turns s least_delay old new told told_new gave gave_new
  taken_turn none others first here line actions answer settles waiting begun answers lines read = record {
    move = take_move s (drive_of old) k content others line actions;
    allowed = inr (record { none = none; key = k; others = others; first = first; content = content; here = here; line = line; actions = actions; answer = answer; move = refl });
    comes = record {
      drive = same_drive _ _ _ _ _ _ settles.world waiting begun;
      lines = lines ∙ sym (append-nil told);
      read = read;
      rows = settles.rows;
      counts = counts_on old.answers new.answers gave gave_new line answers read;
    };
  }

-- a line that was sent before changes nothing else
pub from_begun : (s : Setup) (k : Key) (content : Content) (actions : List Action) (old mid new : Held) → mid ≡ record old { begun = true } → Settles s k content actions mid new → Settles s k content actions old new
from_begun s k content actions old mid new same settles =
    let there = subst (λ m. Settles s k content actions m new) same settles in record { world = there.world; rows = there.rows }

-- what pends asks something
pub there_is : {C : Type 0} (o : Option C) → is_some o ≡ true → (c : C) × (o ≡ Some c)
there_is None there = absurd (false≢true there)
there_is (Some c) there = (c, refl)

pub popped_rest : (popped : Option Key) (old rest new : List Key) (k : Key) → old ≡ k ∷ rest → IfSome popped (λ q. old ≡ q ∷ new) → IfNone popped (old ≡ []) → new ≡ rest
popped_rest None old rest new k first one none = let no : [] ≡ k ∷ rest = sym none ∙ first in cc
popped_rest (Some q) old rest new k first one none = let both : q ∷ new ≡ k ∷ rest = sym one ∙ first in cc

-- ---- where an event up to the end pends, and none waits, one may be sent

positive : (s : Setup) (d : ℕ) → IsSound s → IsLeastDelay s (Some d) → 0 < d
positive s d sound least =
    let low = (sound.between least.0.0 least.0.1).delay.0 in
    let is = least.0.3 in omega (arith, low, is)

near_least : (s : Setup) (w : World Process Content) (k : Key) (d : Option ℕ) → IsSound s → IsLeastDelay s d → IsLeastKey w.pending k → IfSome d (λ d. (q : Key) → IsPending w q → k.at < q.at + d)
near_least s w k None sound alone least = tt
near_least s w k (Some d) sound is least =
    λ q here. let after = moments-from_not_before q k (least.least q here) in
    let high = positive s d sound is in omega (arith, after, high)

pub never_stuck : (s : Setup) (least_delay : Option ℕ) (w : Held) (k : Key) → IsSound s → IsLeastDelay s least_delay → IsLeastKey (events_in w.pending) k → k.at ≤ s.end → w.waiting.keys.items ≡ []
    → NoneMay s least_delay (drive_of w) → ⊥
never_stuck s least_delay w k sound is least in_time nobody none =
    none k (record {
      safe = record {
        first = record { here = least.here; least = λ q here same. least.least q here };
        in_time = in_time;
        near = near_least s (world_of w) k least_delay sound is least;
      };
      free = subst (AllByRecursion (λ (q : Key). q.to ≢ k.to)) (sym nobody) tt;
    })

-- the member of the least of all events has one that waits, where none may be sent
pub first_waits : (s : Setup) (least_delay : Option ℕ) (w : Held) (k : Key) → IsSound s → IsLeastDelay s least_delay → IsLeastKey (events_in w.pending) k → k.at ≤ s.end → NoneMay s least_delay (drive_of w)
    → has_one_for k.to w.waiting.keys.items ≡ true
first_waits s least_delay w k sound is least in_time none = either (has_one_for k.to w.waiting.keys.items) refl
  where
    either : (b : Bool) → has_one_for k.to w.waiting.keys.items ≡ b → b ≡ true
    either true has = refl
    either false has = absurd (none k (record {
      safe = record {
        first = record { here = least.here; least = λ q here same. least.least q here };
        in_time = in_time;
        near = near_least s (world_of w) k least_delay sound is least;
      };
      free = free_by k.to w.waiting.keys.items has;
    }))

-- ---- what the drive comes to where no answer came

-- the line feed stands last
pub ends_in_feed : (s : Setup) (is_first : Bool) (k : Key) (content : Content)
    → line_of s is_first k content ≡ (head_text s is_first k content ++ payload_text (payload_of content) ++ codes "}") ++ 10 ∷ []
unfolding line_of
ends_in_feed s is_first k content = sym (append_assoc (head_text s is_first k content ++ payload_text (payload_of content)) (codes "}") (10 ∷ []))

-- the line of an event without its line feed
pub popped_feed : (line front event : List ℕ) (count : ℕ) → count ≡ length line → line ≡ front ++ 10 ∷ [] → event ≡ take (count - 1) line → event ++ 10 ∷ [] ≡ line
popped_feed line front event count counted_is ends popped =
    let long : length line ≡ length front + 1 = ap length ends ∙ length-append front (10 ∷ []) in
    let shorter : count - 1 ≡ length front = omega (arith, counted_is, long) in
    ap (λ l. l ++ 10 ∷ []) (popped ∙ ap (λ n. take n line) shorter ∙ ap (take (length front)) ends ∙ take-append_seam front (10 ∷ [])) ∙ sym ends

module _ (s : Setup) (least_delay : Option ℕ) (w : Held) (k : Key) (others : List Key) (content : Content) (place : ℕ) (first : w.waiting.keys.items ≡ k ∷ others)
    (here : get (events_in w.pending) k ≡ Some content) (next : place ≡ min (w.answers + 1) (2 ^ 64 - 1)) (none : NoneMay s least_delay (drive_of w))
    (told_old told_new : List ℕ) (gave_old gave_new behind : List (List ℕ)) (told : told_new ≡ told_old) (gave : gave_new ≡ gave_old ++ behind) where
  is_halted : IsHalted s least_delay w w told_old told_new gave_old gave_new
  is_halted = record { none = none; same = refl; told = told; behind = behind; gave = gave }

  unanswered : (at : ℕ) (cause said : Stop) (event : List ℕ) → at ≡ place → said ≡ cause → event ++ 10 ∷ [] ≡ line_of s (nat_eq place 1) k content → IsCauseIn s k.to (exits_in s (world_of w) k content) behind cause
      → w.answers ≡ counted (length gave_old) → IsUnanswered s (drive_of w) gave_old behind at said event
  unanswered at cause said event same_place same_cause line why counts = record {
    key = k;
    others = others;
    first = first;
    content = content;
    here = here;
    nth = same_place ∙ next ∙ counted_next w.answers (length gave_old) counts;
    line = line ∙ ap (λ n. line_of s (nat_eq n 1) k content) (sym same_place);
    cause = subst (IsCauseIn s k.to (exits_in s (world_of w) k content) behind) (sym same_cause) why;
  }

  pub stops_with : (halt : Option Halt) (cause : Stop) → StopsWith s w k place cause halt → IsCauseIn s k.to (exits_in s (world_of w) k content) behind cause → ComesTo s least_delay halt w w told_old told_new gave_old gave_new
  unfolding is_halted
  stops_with None cause stops why = absurd stops
  stops_with (Some Closed) cause stops why = absurd stops
  stops_with (Some (Stopped at said event)) cause stops why =
      (is_halted, λ counts. unanswered at cause said event.items stops.0 stops.1 (stops.2 content here) why counts)

  pub comes_closed : (halt : Option Halt) → halt ≡ Some Closed → ComesTo s least_delay halt w w told_old told_new gave_old gave_new
  comes_closed halt is = subst (λ h. ComesTo s least_delay h w w told_old told_new gave_old gave_new) (sym is) (inl is_halted)

  pub no_line_comes : (why : NoLine) (halt : Option Halt) → HaltsFor s w k place why halt → behind ≡ [] → ComesTo s least_delay halt w w told_old told_new gave_old gave_new
  no_line_comes no.Long halt halts empty = stops_with halt stop.Long halts empty
  no_line_comes no.Ended halt halts empty = stops_with halt stop.Ended halts empty
  no_line_comes no.Closed halt halts empty = comes_closed halt halts
  no_line_comes no.Memory halt halts empty = absurd halts

-- what has no length has no items
pub no_items : {A : Type 0} (items : List A) → length items ≡ 0 → items ≡ []
no_items [] none = refl
no_items (x ∷ items) none = absurd (omega (arith, none))
