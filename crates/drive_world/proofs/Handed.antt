-- A drive stays under way while turns are made and rows are handed on, and what that comes to at the end.
use Rattle.std.proofs.Common.{◌≡◌, ◌++◌, ℕ, ◌≤◌, ◌<◌, Bool, true, false, not, filter, List, [], length, map, Option, Some, inl, inr, ap, ◌∙◌, sym, subst, refl, append_assoc, arith}
use Rattle.std.specs.Option.{is_some}
use Rattle.std.specs.List.{AllByRecursion}
use Rattle.std.specs.List.Sorted.{IsPermutation, IsSorted}
use Rattle.std.specs.Ordering.{is_lt, ordering_reverse}
use Rattle.std.specs.FinMap.{get}
use Rattle.std.specs.declared.cmp.Ordering.{Ordering}
use Rattle.std.specs.declared.cmp.Ordering.TheVariants.{Less, Equal, Greater}
use Rattle.std.proofs.lemmas.Bool.{false≢true}
use Rattle.std.proofs.lemmas.List.Elements.{All-from_recursion, recursion_from_All, All-filter, filter_passes}
use Rattle.std.proofs.lemmas.List.Sorted.{All-permutation, IsPermutation-refl, IsPermutation-trans, IsPermutation-append, IsPermutation-append_left, IsPermutation-filter_both}
use Rattle.base.specs.declared.key.Key.{Key}
use Rattle.base.specs.Order.{key_cmp, IsBefore}
use Rattle.base.specs.World.{World, IsPending, IsOver, settled, rows_of, events_of}
use Rattle.base.proofs.Rising.{all_append, all_weaker, rising_append}
use Rattle.scenario.specs.Setup.{Setup, IsSound}
use Rattle.trace.specs.declared.row.Row.{Row}
use Rattle.trace.specs.Text.{NamesMembers}
use Rattle.windows.specs.Cluster.{IsLeastDelay, IsRowOrder}
use Rattle.windows.proofs.Sorting.{IsAtMost, rising_from_sorted}
use Rattle.worker_queue.specs.Queue.{IsLeastKey}
use Rattle.drive_world.proofs.Firsts.{earlier-from_before_first}
use Rattle.drive_events.specs.declared.content.Content.{Content}
use Rattle.drive_answers.specs.declared.action.Action.{Action}
use Rattle.drive_process.specs.Answers.{AreSoundActions}
use Rattle.drive_process.specs.Process.{Process}
use Rattle.drive_world.specs.declared.ends.Stop.{Stop}
use Rattle.drive_world.specs.declared.fate.Fate.{Fate}
use Rattle.drive_world.specs.declared.fate.Fate.TheVariants.{Untold, Told, Asked}
use Rattle.drive_world.specs.declared.world.World.{World as Held}
use Rattle.drive_world.specs.Telling.{Drive, NoneMay}
use Rattle.drive_world.specs.Courses.{Move, Moves, move_by, outcome_by, begun_course, begins}
use Rattle.drive_world.specs.WorldOf.{events_in}
use Rattle.drive_world.specs.DriveOf.{drive_of, world_of, IsPeopled}
use Rattle.drive_world.specs.Drives.{DrivesTo, DrivesUpTo, BeginsDrive, IsUnanswered, StopsAt}
use Rattle.drive_world.specs.Rows.{key_of, is_row_before, rows_before, rows_from}
use Rattle.drive_world.specs.Turns.{Turns, HasCome, Waits, IsOnWay}
use Rattle.drive_world.specs.Next.{has_one_for}
use Rattle.drive_world.specs.UnderWay.{IsUnderWay}
use Rattle.drive_world.proofs.Beginnings.{runs_before, runs_all}
use Rattle.drive_world.proofs.Coming.{come_on}
use Rattle.drive_world.proofs.Cuts.{before_either, later_either}
use Rattle.drive_world.proofs.Naming.{rows_named}
use Rattle.drive_world.proofs.Sounds.{sound_answer}
use Rattle.drive_world.proofs.Turning.{first_waits}
use Rattle.drive_world.proofs.Way.{holds_after, events_later, rows_keyed}

-- ---- what a move adds is not before what pends

record IsMoved (s : Setup) (old new : World Process Content) (rows : List Row) : Type 0 where
  pub named : AllByRecursion (NamesMembers s) rows
  pub late : (low : Key) → ((q : Key) → IsPending old q → ¬ (IsBefore q low)) → AllByRecursion (λ row. ¬ (IsBefore (key_of row) low)) rows
  pub pending : (low : Key) → ((q : Key) → IsPending old q → ¬ (IsBefore q low)) → (q : Key) → IsPending new q → ¬ (IsBefore q low)

module _ (s : Setup) (sound : IsSound s) where
  over_moved : (w : World Process Content) (k : Key) (content : Content) (actions : List Action) → AreSoundActions s k.to actions → IsPeopled s w → get w.pending k ≡ Some content
      → IsMoved s w (settled w k (outcome_by s actions w k content)) (rows_of (outcome_by s actions w k content))
  over_moved w k content actions are people here =
      let there : IsPending w k = ap is_some here in
      let member = people.receivers k there in
      record {
        named = rows_named s k member (people.senders k there) content actions are w;
        late = λ low old.
            all_weaker (λ row. key_of row ≡ k) (λ row. ¬ (IsBefore (key_of row) low)) (λ row same before. old k there (subst (λ q. IsBefore q low) same before))
            (rows_of (outcome_by s actions w k content)) (rows_keyed s sound k content actions are member w);
        pending = λ low old.
            holds_after (λ q. ¬ (IsBefore q low)) w k (outcome_by s actions w k content) old
            (all_weaker (λ e. k.at < e.0.at) (λ e. ¬ (IsBefore e.0 low)) (λ e past. later_either e.0 k low past (old k there)) (events_of (outcome_by s actions w k content))
            (events_later s sound k content actions are member w));
      }

  fate_moved : (d : Drive) (k : Key) (content : Content) (fate : Fate) → IsPeopled s d.world → get d.world.pending k ≡ Some content
      → IsMoved s d.world (move_by fate s d k content).after.world (move_by fate s d k content).rows
  fate_moved d k content Untold people here = over_moved d.world k content [] tt people here
  fate_moved d k content Told people here = over_moved d.world k content [] tt people here
  fate_moved d k content Asked people here = record { named = tt; late = λ low old. tt; pending = λ low old. old }

  moved : (least_delay : Option ℕ) (d : Drive) (m : Move) → IsPeopled s d.world → Moves s least_delay d m → IsMoved s d.world m.after.world m.rows
  moved least_delay d m people (inl tells) =
      subst (λ (x : Move). IsMoved s d.world x.after.world x.rows) (sym tells.move) (fate_moved d tells.key tells.content _ people tells.here)
  moved least_delay d m people (inr takes) =
      subst (λ (x : Move). IsMoved s d.world x.after.world x.rows) (sym takes.move)
      (over_moved d.world takes.key takes.content takes.actions (sound_answer s takes.key.to _ takes.line takes.actions takes.answer) people takes.here)

-- ---- rows by a key

less_is : (o : Ordering) → is_lt o ≡ true → o ≡ Less
less_is Less e = refl
less_is Equal e = absurd (false≢true e)
less_is Greater e = absurd (false≢true e)

not_before : (b : Bool) → not b ≡ true → b ≡ true → ⊥
not_before true none is = false≢true none
not_before false none is = false≢true is

all_before : (key : Key) (rows : List Row) → AllByRecursion (λ row. IsBefore (key_of row) key) (rows_before key rows)
all_before key rows =
    all_weaker (λ row. is_row_before key row ≡ true) (λ row. IsBefore (key_of row) key) (λ row is. less_is (key_cmp (key_of row) key) is) (rows_before key rows)
    (recursion_from_All (λ row. is_row_before key row ≡ true) (rows_before key rows) (filter_passes (is_row_before key) rows))

all_from : (key : Key) (rows : List Row) → AllByRecursion (λ row. ¬ (IsBefore (key_of row) key)) (rows_from key rows)
all_from key rows =
    all_weaker (λ row. not (is_row_before key row) ≡ true) (λ row. ¬ (IsBefore (key_of row) key)) (λ row none before. not_before (is_row_before key row) none (ap is_lt before)) (rows_from key rows)
    (recursion_from_All (λ row. not (is_row_before key row) ≡ true) (rows_from key rows) (filter_passes (λ row. not (is_row_before key row)) rows))

pub kept : (P : Row → Type 0) (p : Row → Bool) (rows : List Row) → AllByRecursion P rows → AllByRecursion P (filter p rows)
kept P p rows all = recursion_from_All P (filter p rows) (All-filter p P rows (All-from_recursion P rows all))

pub resorted : (P : Row → Type 0) (rows sorted : List Row) → IsPermutation rows sorted → AllByRecursion P rows → AllByRecursion P sorted
resorted P rows sorted same all = recursion_from_All P sorted (All-permutation P rows sorted same (All-from_recursion P rows all))

-- ---- under way

module _ (cmp : Row → Row → Ordering) (order : IsRowOrder cmp) (s : Setup) (least_delay : Option ℕ) where
  first_key : Key
  first_key = record { at = 0; to = 0; from = 0; number = 0 }

  none_first : (q : Key) → ¬ (IsBefore q first_key)
  unfolding first_key
  none_first q before = let low = earlier-from_before_first q 0 before in omega (arith, low)

  pub under_way_first : (w : Held) (told : List ℕ) (gave : List (List ℕ)) → IsOnWay s w → HasCome s least_delay w told gave [] → w.rows.items ≡ [] → IsUnderWay cmp s least_delay w told gave []
  unfolding first_key
  under_way_first w told gave way come none = record {
    way = way;
    come = come;
    named = subst (AllByRecursion (NamesMembers s)) (sym none) tt;
    low = first_key;
    in_time = omega arith;
    early = tt;
    late = subst (AllByRecursion (λ row. ¬ (IsBefore (key_of row) first_key))) (sym none) tt;
    pending = λ q here. none_first q;
    written_named = tt;
    rising = tt;
  }

  -- no row is a beginning of the trace
  pub begins_none : IsSound s → IsLeastDelay s least_delay → BeginsDrive s []
  unfolding first_key
  begins_none sound least = record {
    least_delay = least_delay;
    least = least;
    course = begun_course s;
    is = begins;
    key = first_key;
    run = λ answers are agree.
        runs_before s sound least_delay least answers are (begun_course s) begins agree cmp order first_key (omega arith) [] [] (IsPermutation-refl []) tt tt (λ q here. none_first q) tt;
  }

  pub turned : (w v : Held) (told told_new : List ℕ) (gave gave_new : List (List ℕ)) (written : List Row) → IsSound s → IsUnderWay cmp s least_delay w told gave written
      → Turns s least_delay w v told told_new gave gave_new → IsOnWay s v → IsUnderWay cmp s least_delay v told_new gave_new written
  turned w v told told_new gave gave_new written sound under turn way =
      let there : IsMoved s (world_of w) turn.move.after.world turn.move.rows = moved s sound least_delay (drive_of w) turn.move under.way.people turn.allowed in
      record {
        way = way;
        come = come_on s least_delay w v told told_new gave gave_new written under.come turn;
        named = subst (AllByRecursion (NamesMembers s)) (sym turn.comes.rows) (all_append (NamesMembers s) w.rows.items turn.move.rows under.named there.named);
        low = under.low;
        in_time = under.in_time;
        early = under.early;
        late =
            subst (AllByRecursion (λ row. ¬ (IsBefore (key_of row) under.low))) (sym turn.comes.rows)
            (all_append (λ row. ¬ (IsBefore (key_of row) under.low)) w.rows.items turn.move.rows under.late (there.late under.low under.pending));
        pending =
            subst (λ (u : World Process Content). (q : Key) → IsPending u q → ¬ (IsBefore q under.low)) (sym (ap (λ (d : Drive). d.world) turn.comes.drive))
            (there.pending under.low under.pending);
        written_named = under.written_named;
        rising = under.rising;
      }

  in_order : (a b : Row) → IsBefore (key_of a) (key_of b) → IsAtMost cmp a b
  in_order a b before =
      let less : cmp a b ≡ Less = order.agrees a b (inl before) in
      by_turn (cmp b a) refl less
    where
      by_turn : (o : Ordering) → cmp b a ≡ o → cmp a b ≡ Less → is_lt o ≡ false
      by_turn Less e less = let both : Less ≡ Greater = sym e ∙ order.total.antisymm b a ∙ ap ordering_reverse less in cc
      by_turn Equal e less = refl
      by_turn Greater e less = refl

  -- the rows of the events before one that no other is left before are handed on
  module _ (w v : Held) (key : Key) (told : List ℕ) (gave : List (List ℕ)) (written sorted : List Row) (under : IsUnderWay cmp s least_delay w told gave written)
      (same : v ≡ record w { rows = v.rows; enough = v.enough }) (left : v.rows.items ≡ rows_from key w.rows.items) (items : IsPermutation (rows_before key w.rows.items) sorted)
      (up : IsSorted cmp sorted) (in_time : key.at ≤ s.end) (least : IsLeastKey (events_in w.pending) key) where
    same_drive : drive_of v ≡ drive_of w
    same_drive = ap drive_of same

    handed_rows : IsPermutation under.come.course.rows ((written ++ sorted) ++ v.rows.items)
    handed_rows =
        let parts = IsPermutation-filter_both (is_row_before key) (λ row. not (is_row_before key row)) (λ row. refl) w.rows.items in
        let front = IsPermutation-append_left (rows_from key w.rows.items) (rows_before key w.rows.items) sorted items in
        let mine = IsPermutation-trans w.rows.items (rows_before key w.rows.items ++ rows_from key w.rows.items) (sorted ++ rows_from key w.rows.items) parts front in
        let both = IsPermutation-append written written w.rows.items (sorted ++ rows_from key w.rows.items) (IsPermutation-refl written) mine in
        subst (λ l. IsPermutation under.come.course.rows ((written ++ sorted) ++ l)) (sym left)
        (subst (IsPermutation under.come.course.rows) (sym (append_assoc written sorted (rows_from key w.rows.items)))
        (IsPermutation-trans under.come.course.rows (written ++ w.rows.items) (written ++ (sorted ++ rows_from key w.rows.items)) under.come.rows both))

    sorted_early : AllByRecursion (λ row. IsBefore (key_of row) key) sorted
    sorted_early = resorted (λ row. IsBefore (key_of row) key) (rows_before key w.rows.items) sorted items (all_before key w.rows.items)

    sorted_named : AllByRecursion (NamesMembers s) sorted
    sorted_named = resorted (NamesMembers s) (rows_before key w.rows.items) sorted items (kept (NamesMembers s) (is_row_before key) w.rows.items under.named)

    pub handed : IsUnderWay cmp s least_delay v told gave (written ++ sorted)
    handed = record {
      way = record {
        people = subst (λ (d : Drive). IsPeopled s d.world) (sym same_drive) under.way.people;
        places = ap (λ (x : Held). length x.waiting.busy.items) same ∙ under.way.places;
        waits = subst (λ (d : Drive). AllByRecursion (Waits s.end d.world) d.waiting) (sym same_drive) under.way.waits;
      };
      come = record {
        course = under.come.course;
        is = under.come.is;
        last = under.come.last ∙ sym same_drive;
        lines = under.come.lines;
        read = under.come.read;
        rows = handed_rows;
        counts = ap (λ (x : Held). x.answers) same ∙ under.come.counts;
      };
      named = subst (AllByRecursion (NamesMembers s)) (sym left) (kept (NamesMembers s) (λ row. not (is_row_before key row)) w.rows.items under.named);
      low = key;
      in_time = in_time;
      early =
          all_append (λ row. IsBefore (key_of row) key) written sorted
          (all_weaker (λ row. IsBefore (key_of row) under.low) (λ row. IsBefore (key_of row) key) (λ row before. before_either (key_of row) key under.low before (under.pending key least.here)) written under.early)
          sorted_early;
      late = subst (AllByRecursion (λ row. ¬ (IsBefore (key_of row) key))) (sym left) (all_from key w.rows.items);
      pending = subst (λ (d : Drive). (q : Key) → IsPending d.world q → ¬ (IsBefore q key)) (sym same_drive) least.least;
      written_named = all_append (NamesMembers s) written sorted under.written_named sorted_named;
      rising = rising_append (IsAtMost cmp) written sorted under.rising (rising_from_sorted cmp order.total sorted up) across;
    }
      where
        across : AllByRecursion (λ a. AllByRecursion (IsAtMost cmp a) sorted) written
        across =
            all_weaker (λ row. IsBefore (key_of row) under.low) (λ a. AllByRecursion (IsAtMost cmp a) sorted)
            (λ a before.
            all_weaker (λ b. ¬ (IsBefore (key_of b) under.low)) (IsAtMost cmp a) (λ b after. in_order a b (before_either (key_of a) (key_of b) under.low before after)) sorted
            (resorted (λ b. ¬ (IsBefore (key_of b) under.low)) (rows_before key w.rows.items) sorted items (kept (λ b. ¬ (IsBefore (key_of b) under.low)) (is_row_before key) w.rows.items under.late)))
            written under.early

  -- ---- what it comes to

  -- what was handed on is a beginning of the trace
  pub begun : (w : Held) (told : List ℕ) (gave : List (List ℕ)) (written : List Row) → IsSound s → IsLeastDelay s least_delay → IsUnderWay cmp s least_delay w told gave written → BeginsDrive s written
  begun w told gave written sound least under = record {
    least_delay = least_delay;
    least = least;
    course = under.come.course;
    is = under.come.is;
    key = under.low;
    run = λ answers are agree.
        runs_before s sound least_delay least answers are under.come.course under.come.is agree cmp order under.low under.in_time written w.rows.items under.come.rows under.early under.late
        (subst (λ (d : Drive). (q : Key) → IsPending d.world q → ¬ (IsBefore q under.low)) (sym under.come.last) under.pending) under.rising;
  }

  -- nothing is left, and all rows were handed on
  pub ended : (w : Held) (told : List ℕ) (gave : List (List ℕ)) (written sorted : List Row) → IsSound s → IsLeastDelay s least_delay → IsUnderWay cmp s least_delay w told gave written → IsOver s.end (world_of w)
      → IsPermutation w.rows.items sorted → IsSorted cmp sorted → DrivesTo s gave told (written ++ sorted)
  ended w told gave written sorted sound least under over items up = record {
    least_delay = least_delay;
    least = least;
    course = under.come.course;
    is = under.come.is;
    over = subst (λ (d : Drive). IsOver s.end d.world) (sym under.come.last) over;
    read = under.come.read;
    lines = under.come.lines;
    run = λ answers are agree.
        runs_all s sound least_delay least answers are under.come.course under.come.is agree cmp order (written ++ sorted)
        (IsPermutation-trans under.come.course.rows (written ++ w.rows.items) (written ++ sorted) under.come.rows (IsPermutation-append written written w.rows.items sorted (IsPermutation-refl written) items))
        (subst (λ (d : Drive). IsOver s.end d.world) (sym under.come.last) over)
        (rising_append (IsAtMost cmp) written sorted under.rising (rising_from_sorted cmp order.total sorted up) (across_all items));
  }
    where
      across_all : IsPermutation w.rows.items sorted → AllByRecursion (λ a. AllByRecursion (IsAtMost cmp a) sorted) written
      across_all items =
          all_weaker (λ row. IsBefore (key_of row) under.low) (λ a. AllByRecursion (IsAtMost cmp a) sorted)
          (λ a before.
          all_weaker (λ b. ¬ (IsBefore (key_of b) under.low)) (IsAtMost cmp a) (λ b after. in_order a b (before_either (key_of a) (key_of b) under.low before after)) sorted
          (resorted (λ b. ¬ (IsBefore (key_of b) under.low)) w.rows.items sorted items under.late))
          written under.early

  -- the first of all events waits for an answer that doesn't come
  pub up_to : (w v : Held) (key : Key) (told : List ℕ) (gave came_in behind : List (List ℕ)) (written sorted : List Row) → IsSound s → IsLeastDelay s least_delay → (under : IsUnderWay cmp s least_delay w told gave written)
      → (same : v ≡ record w { rows = v.rows; enough = v.enough }) → (left : v.rows.items ≡ rows_from key w.rows.items) → (items : IsPermutation (rows_before key w.rows.items) sorted)
      → (up : IsSorted cmp sorted) → (in_time : key.at ≤ s.end) → (first : IsLeastKey (events_in w.pending) key) → NoneMay s least_delay (drive_of w) → came_in ≡ gave ++ behind
      → DrivesUpTo s came_in told (written ++ sorted)
  unfolding begun handed
  up_to w v key told gave came_in behind written sorted sound least under same left items up in_time first none read =
      let there = begun v told gave (written ++ sorted) sound least (handed w v key told gave written sorted under same left items up in_time first) in
      record {
        least_delay = least_delay;
        least = least;
        course = under.come.course;
        is = under.come.is;
        behind = behind;
        read = read ∙ ap (λ l. l ++ behind) (sym under.come.read);
        lines = under.come.lines;
        key = key;
        in_time = in_time;
        pends = subst (λ (d : Drive). IsPending d.world key) (sym under.come.last) first.here;
        first = subst (λ (d : Drive). (q : Key) → IsPending d.world q → ¬ (IsBefore q key)) (sym under.come.last) first.least;
        unanswered = ap (λ (d : Drive). has_one_for key.to d.waiting) under.come.last ∙ first_waits s least_delay w key sound least first in_time none;
        run = there.run;
      }

  -- and which answer that is, and why it is none
  pub stops_up_to : (w v : Held) (key : Key) (told : List ℕ) (gave came_in behind : List (List ℕ)) (written sorted : List Row) → (sound : IsSound s) → (least : IsLeastDelay s least_delay)
      → (under : IsUnderWay cmp s least_delay w told gave written) → (same : v ≡ record w { rows = v.rows; enough = v.enough }) → (left : v.rows.items ≡ rows_from key w.rows.items)
      → (items : IsPermutation (rows_before key w.rows.items) sorted) → (up : IsSorted cmp sorted) → (in_time : key.at ≤ s.end) → (first : IsLeastKey (events_in w.pending) key)
      → (none : NoneMay s least_delay (drive_of w)) → (read : came_in ≡ gave ++ behind) → (place : ℕ) (stop : Stop) (event : List ℕ) → IsUnanswered s (drive_of w) gave behind place stop event
      → StopsAt s place stop event came_in told (written ++ sorted)
  unfolding up_to
  stops_up_to w v key told gave came_in behind written sorted sound least under same left items up in_time first none read place stop event is = record {
    up_to = up_to w v key told gave came_in behind written sorted sound least under same left items up in_time first none read;
    unanswered =
        subst (λ (d : Drive). IsUnanswered s d (map (λ (t : List ℕ × List Action). t.0) under.come.course.taken) behind place stop event) (sym under.come.last)
        (subst (λ a. IsUnanswered s (drive_of w) a behind place stop event) (sym under.come.read) is);
  }
