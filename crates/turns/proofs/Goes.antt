-- How a run goes on turn after turn: what each loop that makes it keeps.
use Rattle.std.proofs.Common.{◌≡◌, ◌↔◌, All, ℕ, zero, suc, ◌+◌, ◌<◌, ◌≤◌, Bool, true, false, not, nat_lt, cond, map, List, [], ◌∷◌, ◌++◌, length, Option, Some, None, append_assoc, append-nil, ap, ◌∙◌, sym, subst, refl, arith}
use Rattle.std.specs.Option.{IfSome, is_some}
use Rattle.std.specs.List.{AllByRecursion, slice_get, flat_map, filter}
use Rattle.std.specs.List.Sorted.{IsSorted}
use Rattle.std.specs.declared.cmp.Ordering.{Ordering}
use Rattle.std.specs.Cmp.{nat_cmp_total}
use Rattle.std.specs.FinMap.{FinMap, get, contains_key, nat_cmp-IsAntisymmetric}
use Rattle.std.proofs.lemmas.List.{map-append}
use Rattle.std.proofs.lemmas.List.Sorted.{IsPermutation-sym, IsPermutation-append_left, IsPermutation-append_right}
use Rattle.std.proofs.lemmas.Bool.{false≢true, eq-eqb, le-ltb, ltb-true, ltb-false}
use Rattle.std.proofs.lemmas.Option.{same_Some, slice_get_within}
use Rattle.std.proofs.lemmas.List.Elements.{recursion_from_All, All-from_recursion}
use Rattle.base.specs.declared.key.Key.{Key}
use Rattle.base.specs.Order.{key_cmp, key_total, key_exact}
use Rattle.base.specs.World.{IsPending, IsOver, Run}
use Rattle.base.specs.Rising.{IsRising, IsPlaceBefore}
use Rattle.base.proofs.Rising.{all_weaker, rows_rise, all_front, all_back}
use Rattle.member.proofs.Fair.{steps_later, steps_counted}
use Rattle.links.specs.Least.{IsDelayOfAPair, IsNoGreater}
use Rattle.scenario.specs.Setup.{Setup, IsSound, member_count}
use Rattle.scenario.specs.Division.{Deal}
use Rattle.trace.specs.declared.row.Row.{Row}
use Rattle.member.specs.declared.event_kind.EventKind.{EventKind}
use Rattle.member.specs.declared.event.Event.{Event}
use Rattle.member.specs.State.{State}
use Rattle.member.specs.Places.{place_of}
use Rattle.member.specs.Step.{step}
use Rattle.member.specs.Opening.{opening}
use Rattle.member_laws.specs.Runs.{Cluster}
use Rattle.member_laws.proofs.Reached.{rows_named}
use Rattle.worker_queue.specs.Queue.{NoneIsBelow}
use Rattle.windows.specs.declared.bounded.Bounded.{Bounded}
use Rattle.windows.specs.declared.part.Part.{Part}
use Rattle.windows.specs.declared.part.Done.{Done}
use Rattle.trace.specs.Text.{NamesMembers}
use Rattle.windows.specs.Window.{is_own, IsConsistentPart}
use Rattle.windows.proofs.Members.{receiver_low}
use Rattle.windows.proofs.Horizons.{clear_met_in_part}
use Rattle.windows.proofs.Released.{rising_mapped, rows_from, rows_in_time}
use Rattle.member.specs.CounterOverflow.{IsOverflowed}
use Rattle.windows.specs.Parts.{PartRun, part_of, is_in}
use Rattle.windows.specs.Schedule.{MeetsState}
use Rattle.windows.specs.Cluster.{link_delay, IsLeastDelay, IsRowOrder, IsWholeCluster}
use Rattle.windows.specs.WorldOf.{world_of}
use Rattle.windows.proofs.Cuts.{get_retained}
use Rattle.member_laws.specs.Runs.{IsRunOf, CounterOverflows}
use Rattle.windows.specs.Several.{RanWindows, OneWears, parts_of}
use Rattle.lookahead.specs.Between.{part_number}
use Rattle.turns.specs.Parts.{is_before, IsUpTo, NonePendsBefore, StandFor, MayTurn, AreBounded, Came, HaveExchanged}
use Rattle.turns.specs.Bounds.{IsFirstMoment}
use Rattle.turns.specs.declared.turns.Course.{Course}
use Rattle.turns.specs.Course.{IsCourse}
use Rattle.turns.specs.Beginning.{BeginsRun}
use Rattle.turns.proofs.Coming.{behind}
use Rattle.turns.proofs.Releasing.{IsAmong, AreItemsOf, at_one, own_items, items_moved, no_items, rest_in_two, items_left}
use Rattle.turns.proofs.Turning.{all_places, at_parts, many, of_parts, world_at, parts_consistent, own_by_part}
use Rattle.turns.proofs.Lasting.{wears_nothing}
use Rattle.windows.proofs.Wholes.{pending_kept}
use Rattle.windows.proofs.Slots.{part_no_overflow}
use Rattle.windows.proofs.WholeOpening.{opening_whole}
use Rattle.turns.proofs.After.{led, sound_led, stand_after, whole_led, none_led, run_led, met_led}

-- ---- what pends in the parts pends in their world

module _ {Q : Type 0} (set : Q → FinMap key_cmp Event) (deal : Deal) (parts : List (Part Q)) (w : Cluster) (stand : StandFor set deal parts w) where
  place_of_all : (P : Part Q → Type 0) → ((i : ℕ) (p : Part Q) → slice_get parts i ≡ Some p → world_of set p ≡ part_of (is_in (part_number deal) i) w → P p) → AllByRecursion P parts
  place_of_all P each = all_places P parts (λ i p here. each i p here (world_at set deal parts w stand i p here))

  -- where nothing of the world pends before a moment, nothing of the parts does
  pub none_of_parts : (t : ℕ) → ((q : Key) → IsPending w q → t ≤ q.at) → NonePendsBefore set parts t
  none_of_parts t from =
      place_of_all (λ p. NoneIsBelow (world_of set p).pending t)
      (λ i p here is q there. from q (pending_kept (is_in (part_number deal) i) w q (subst (λ (x : Cluster). contains_key x.pending q ≡ true) is there)))

  at_place : (P : Part Q → Type 0) (xs : List (Part Q)) (i : ℕ) (p : Part Q) → slice_get xs i ≡ Some p → AllByRecursion P xs → P p
  at_place P [] i p here all = absurd (false≢true (ap is_some here))
  at_place P (x ∷ xs) zero p here all = subst P (same_Some x p here) all.0
  at_place P (x ∷ xs) (suc i) p here all = at_place P xs i p here all.1

  -- and the other way round
  pub none_of_world : (t : ℕ) → ((q : Key) → IsPending w q → part_number deal q.to < deal.parts) → NonePendsBefore set parts t
      → (q : Key) → IsPending w q → t ≤ q.at
  none_of_world t known none q here =
      let i = part_number deal q.to in
      let found = behind (world_of set) (slice_get parts i) (part_of (is_in (part_number deal) i) w) (stand.worlds i (known q here)) in
      let kept : contains_key (part_of (is_in (part_number deal) i) w).pending q ≡ true =
      ap is_some (get_retained key_total key_exact (λ r. is_in (part_number deal) i r.to) w.pending q) ∙ ap (λ b. is_some (cond b (get w.pending q) None)) (eq-eqb i i refl) ∙ here in
      at_place (λ p. NoneIsBelow (world_of set p).pending t) parts i found.0 found.1 none q (subst (λ (x : Cluster). contains_key x.pending q ≡ true) (sym found.2) kept)

-- ---- the run so far

-- The parts stand for a world of all members, and nothing pends there before a moment. After the rows so far come, in the
-- scenario's run, those that were kept and those of the run from there, which has the same end; nothing that still pends is
-- before one that was kept. What the run from there meets, the scenario's run meets.
pub record IsUnderWay {Q : Type 0} (set : Q → FinMap key_cmp Event) (s : Setup) (deal : Deal) (from : ℕ) (parts : List (Part Q)) (rows kept : List Row) : Type 0 where
  pub world : Cluster
  pub stand : StandFor set deal parts world
  pub whole : IsWholeCluster s world
  pub none : NonePendsBefore set parts from
  pub late : (t : ℕ) → NonePendsBefore set parts t → AllByRecursion (λ (row : Row). t ≤ row.at) kept
  pub follows : (keys : List Key) (left : List Row) (last : Cluster) → Run (step s) s.end world keys left last → IsOver s.end last
      → (all : List Key) × (rest : List Row) × Run (step s) s.end (opening s) all (rows ++ rest) last × AreItemsOf rest (kept ++ left)
  pub met : (m : ℕ) (t : State) → MeetsState (step s) s.end world m t → MeetsState (step s) s.end (opening s) m t

-- ---- what every turn goes by

-- what the links say of their least delay
pub is_least : (s : Setup) (d : Option ℕ) → IfSome d (IsDelayOfAPair (link_delay s) (member_count s)) → IfSome d (IsNoGreater (link_delay s) (member_count s)) → (d ≡ None ↔ member_count s ≡ 1) → IsLeastDelay s d
is_least s None reached least alone = alone.0 refl
is_least s (Some d) reached least alone = (reached, least)

-- ---- the opening

pub not_yet : {Q : Type 0} (set : Q → FinMap key_cmp Event) (course : Course) (is : IsCourse course) (parts : List (Part Q)) → StandFor set course.division.now parts (opening course.cluster.scenario.now)
    → IsUnderWay set course.cluster.scenario.now course.division.now 0 parts [] []
not_yet set course is parts stand = record {
  world = opening course.cluster.scenario.now;
  stand = stand;
  whole = opening_whole course.cluster.scenario.now is.sound;
  none = none_of_parts set course.division.now parts (opening course.cluster.scenario.now) stand 0 (λ q here. omega arith);
  late = λ t none. tt;
  follows = λ keys left last run over. (keys, left, run, own_items left);
  met = λ m t met. met;
}

-- ---- the rows of a run

module _ (s : Setup) (sound : IsSound s) where
  -- rows that follow others in a run rise by their places
  after_rise : (all : List Key) (rows rest : List Row) (last : Cluster) → Run (step s) s.end (opening s) all (rows ++ rest) last → IsRising (λ a b. IsPlaceBefore (place_of a) (place_of b)) rest
  after_rise all rows rest last run =
      rising_mapped place_of IsPlaceBefore (λ a b. IsPlaceBefore (place_of a) (place_of b)) (λ a b before. before) rest
      (rising_end (map place_of rows) (map place_of rest)
      (subst (IsRising IsPlaceBefore) (map-append place_of rows rest) (rows_rise (step s) (steps_later s sound) s.end place_of (steps_counted s sound) all (opening s) last (rows ++ rest) run)))
    where
      rising_end : (xs ys : List (Key × ℕ)) → IsRising IsPlaceBefore (xs ++ ys) → IsRising IsPlaceBefore ys
      rising_end [] ys up = up
      rising_end (x ∷ xs) ys up = rising_end xs ys up.1

  -- none is past the end
  pub after_in_time : (all : List Key) (rows rest : List Row) (last : Cluster) → Run (step s) s.end (opening s) all (rows ++ rest) last → AllByRecursion (λ (row : Row). row.at ≤ s.end) rest
  after_in_time all rows rest last run = all_end rows rest (rows_in_time (step s) (steps_later s sound) place_of (steps_counted s sound) s.end all (opening s) last (rows ++ rest) run)
    where
      all_end : (xs ys : List Row) → AllByRecursion (λ (row : Row). row.at ≤ s.end) (xs ++ ys) → AllByRecursion (λ (row : Row). row.at ≤ s.end) ys
      all_end [] ys all = all
      all_end (x ∷ xs) ys all = all_end xs ys all.1

  -- where the rows of a run that follow are these, sorted, and those of the run from a world, the ones before what
  -- pends there are the next
  next_rows : (all : List Key) (rows rest sorted left : List Row) (keys : List Key) (v last : Cluster) (least : Option ℕ) (cmp : Row → Row → Ordering) → IsRowOrder cmp
      → Run (step s) s.end (opening s) all (rows ++ rest) last → Run (step s) s.end v keys left last → ((t : ℕ) → IsUpTo least t → (q : Key) → IsPending v q → t ≤ q.at)
      → IsSorted cmp sorted → AreItemsOf rest (sorted ++ left)
      → (more : List Row) × (rest ≡ filter (is_before least) sorted ++ more) × AreItemsOf more (filter (λ (row : Row). not (is_before least row)) sorted ++ left)
  next_rows all rows rest sorted left keys v last least cmp order run from none up are =
      let rises = after_rise all rows rest last run in
      let late = left_late least (λ t upto. rows_from (step s) (steps_later s sound) place_of (steps_counted s sound) s.end t keys v last left (none t upto) from) in (
        filter (λ (row : Row). not (is_before least row)) rest,
        rest_in_two cmp order.total order.agrees least rest sorted left rises up are late,
        items_left cmp order.total order.agrees least rest sorted left rises up are late,
      )
    where
      left_late : (least : Option ℕ) → ((t : ℕ) → IsUpTo least t → AllByRecursion (λ (row : Row). t ≤ row.at) left) → AllByRecursion (λ row. is_before least row ≡ false) left
      left_late None late = no_left left (λ t. late t tt)
        where
          no_left : (xs : List Row) → ((t : ℕ) → AllByRecursion (λ (row : Row). t ≤ row.at) xs) → AllByRecursion (λ row. is_before None row ≡ false) xs
          no_left [] all = tt
          no_left (x ∷ xs) all = let past = (all (x.at + 1)).0 in absurd (omega arith)
      left_late (Some t) late = all_weaker _ (λ row. is_before (Some t) row ≡ false) (λ row from. le-ltb row.at t from) left (late t (omega arith))

-- those that aren't before what pends are late
kept_late : {P : ℕ → Type 0} (least : Option ℕ) (rows : List Row) → ((t : ℕ) → P t ↔ IsUpTo least t) → (t : ℕ) → P t → AllByRecursion (λ (row : Row). t ≤ row.at) (filter (λ (row : Row). not (is_before least row)) rows)
kept_late {P} least rows upto t here = by_least least ((upto t).0 here) rows
  where
    by_row : (m : ℕ) → t ≤ m → (row : Row) (rows : List Row) (b : Bool) → nat_lt row.at m ≡ b → AllByRecursion (λ (row : Row). t ≤ row.at) (filter (λ (row : Row). not (is_before (Some m) row)) rows)
        → AllByRecursion (λ (row : Row). t ≤ row.at) (cond (not b) (row ∷ filter (λ (row : Row). not (is_before (Some m) row)) rows) (filter (λ (row : Row). not (is_before (Some m) row)) rows))
    by_row m low row rows true e rest = rest
    by_row m low row rows false e rest = (let past = ltb-false row.at m e in omega arith, rest)

    by_least : (least : Option ℕ) → IsUpTo least t → (rows : List Row) → AllByRecursion (λ (row : Row). t ≤ row.at) (filter (λ (row : Row). not (is_before least row)) rows)
    by_least None low [] = tt
    by_least None low (row ∷ rows) = by_least None low rows
    by_least (Some m) low [] = tt
    by_least (Some m) low (row ∷ rows) = by_row m low row rows (nat_lt row.at m) refl (by_least (Some m) low rows)

-- ---- the next turn

module _ {Q : Type 0} (set : Q → FinMap key_cmp Event) (course : Course) (is : IsCourse course) (parts : List (Part Q)) (rows kept : List Row) (from : ℕ)
    (so_far : IsUnderWay set course.cluster.scenario.now course.division.now from parts rows kept) where
  abbrev s : Setup
  s = course.cluster.scenario.now

  abbrev deal : Deal
  deal = course.division.now

  receiver_below : (q : Key) → IsPending so_far.world q → q.to < member_count s
  receiver_below q here = by_value (get so_far.world.pending q) refl here
    where
      by_value : (o : Option EventKind) → get so_far.world.pending q ≡ o → is_some o ≡ true → q.to < member_count s
      by_value None same here = absurd (false≢true here)
      by_value (Some c) same here = (so_far.whole.sound.events q c same).receiver

  none_of_it : (t : ℕ) → NonePendsBefore set parts t → (q : Key) → IsPending so_far.world q → t ≤ q.at
  none_of_it t = none_of_world set deal parts so_far.world so_far.stand t (λ q here. is.below q.to (receiver_below q here))

  -- from the first moment that was found in the slice of these parts on
  pub further : (first : ℕ) (slice : List (Part Q)) → slice ≡ parts → IsFirstMoment set slice course.end first → (from ≤ first) × (first ≤ course.end)
  further first slice same found = (found.some from (subst (λ l. NonePendsBefore set l from) (sym same) so_far.none), found.in_time)

  -- the next windows, of the parts with bounds past the first moment
  module _ (first : ℕ) (bounded : List (Bounded Q)) (are : AreBounded set s deal parts first bounded) where
    abbrev may_turn : MayTurn set s deal bounded
    may_turn = record {
      world = so_far.world;
      stand = subst (λ l. StandFor set deal l so_far.world) (sym are.same) so_far.stand;
      whole = so_far.whole;
      horizons = are.horizons so_far.world so_far.stand so_far.whole;
    }

    pub consistent : AllByRecursion (λ (b : Bounded Q). IsConsistentPart s (world_of set b.part)) bounded
    consistent = of_parts (λ (p : Part Q). IsConsistentPart s (world_of set p)) bounded (parts_consistent set deal (parts_of bounded) so_far.world may_turn.stand s so_far.whole)

    pub came : (done : List (Done Q)) → RanWindows set s bounded done → Came set deal done
    came done windows = record { setup = s; sound = is.sound; divides = is.divides; before = bounded; ready = may_turn; windows = windows }

    pub goes_on : (done : List (Done Q)) → RanWindows set s bounded done → (after : List (Part Q)) (made still_kept : List Row) → HaveExchanged set deal done kept after made still_kept
        → IsUnderWay set s deal (first + 1) after (rows ++ made) still_kept
    goes_on done windows after made still_kept exchanged =
        let v = (led set s is.sound deal bounded done is.divides may_turn windows).0 in
        let stand = stand_after set s is.sound deal bounded done is.divides may_turn windows after exchanged.come in
        let named : (q : Key) → IsPending v q → part_number deal q.to < deal.parts =
        λ q here. is.below q.to (receiver_low s v q (get v.pending q) (sound_led set s is.sound deal bounded done is.divides may_turn windows) refl here) in
        record {
          world = v;
          stand = stand;
          whole = whole_led set s is.sound deal bounded done is.divides may_turn windows;
          none = none_of_parts set deal after v stand (first + 1)
              (none_led set s is.sound deal bounded done is.divides may_turn windows is.below (first + 1) (all_weaker _ (λ (b : Bounded Q). first + 1 ≤ b.bound) (λ b past. omega arith) bounded are.past));
          late = λ t none. subst (AllByRecursion (λ (row : Row). t ≤ row.at)) (sym exchanged.kept_are) (kept_late {P = NonePendsBefore set after} exchanged.least exchanged.sorted exchanged.first t none);
          follows = λ keys left last run over.
              let before = run_led set s is.sound deal bounded done is.divides may_turn windows left keys last run over in
              let all = so_far.follows before.0 before.1 last before.2 over in
              let wrote : List Row = flat_map (λ (d : Done Q). d.rows.items) done in
              let windows_left : AreItemsOf all.1 (kept ++ (wrote ++ left)) =
              items_moved all.1 (kept ++ before.1) (kept ++ (wrote ++ left)) (IsPermutation-append_right kept before.1 (wrote ++ left) (IsPermutation-sym (wrote ++ left) before.1 before.3)) all.3 in
              let in_order : AreItemsOf all.1 (exchanged.sorted ++ left) =
              items_moved all.1 ((kept ++ wrote) ++ left) (exchanged.sorted ++ left) (IsPermutation-append_left left (kept ++ wrote) exchanged.sorted exchanged.order.2)
              (subst (AreItemsOf all.1) (sym (append_assoc kept wrote left)) windows_left) in
              let next = next_rows s is.sound all.0 rows all.1 exchanged.sorted left keys v last exchanged.least exchanged.order.0 exchanged.order.1 all.2 run
              (λ t upto. none_of_world set deal after v stand t named ((exchanged.first t).1 upto)) exchanged.order.3 in_order in (
                all.0,
                next.0,
                subst (λ l. Run (step s) s.end (opening s) all.0 l last)
                    (ap (λ l. rows ++ l) (next.1 ∙ ap (λ l. l ++ next.0) (sym exchanged.released_are)) ∙ sym (append_assoc rows made next.0)) all.2,
                subst (λ l. AreItemsOf next.0 (l ++ left)) (sym exchanged.kept_are) next.2,
              );
          met = λ m t met. so_far.met m t (met_led set s is.sound deal bounded done is.divides may_turn windows m t met);
        }

    -- a counter that overflows in a window overflows in the run
    pub one_wears : OneWears set s bounded → CounterOverflows s
    one_wears one =
        let i = length one.before in
        let here : slice_get bounded i ≡ Some one.one = ap (λ l. slice_get l i) one.there ∙ after_front one.before one.one one.after in
        let low : i < deal.parts = let within = slice_get_within bounded i one.one here in omega (arith, within, may_turn.stand.count, many bounded) in
        let world = world_at set deal (parts_of bounded) so_far.world may_turn.stand i one.one.part (at_parts bounded i one.one here) in
        let owns = is_in (part_number deal) i in
        let p = part_of owns so_far.world in
        let bound : one.one.bound ≡ may_turn.horizons.bounds i = sym (may_turn.horizons.each i one.one here) in
        let run : PartRun (step s) owns (may_turn.horizons.bounds i) p one.wears.keys one.wears.out one.wears.rows one.wears.world =
        subst (λ b. PartRun (step s) owns b p one.wears.keys one.wears.out one.wears.rows one.wears.world) bound
        (subst (λ f. PartRun (step s) f one.one.bound p one.wears.keys one.wears.out one.wears.rows one.wears.world) (own_by_part s deal so_far.world i is.divides so_far.whole low)
        (subst (λ x. PartRun (step s) (is_own x) one.one.bound x one.wears.keys one.wears.out one.wears.rows one.wears.world) world one.wears.reached)) in
        let met = so_far.met one.wears.number one.wears.member
        (clear_met_in_part s (part_number deal) may_turn.horizons.between is.sound may_turn.horizons.lies may_turn.horizons.bounds so_far.world so_far.whole.sound may_turn.horizons.are
        i one.wears.world one.wears.keys one.wears.out one.wears.rows one.wears.number one.wears.member run one.wears.there) in
        record { keys = met.keys; rows = met.rows; world = met.world; reached = met.run; number = one.wears.number; member = one.wears.member; there = met.there; overflow = one.wears.overflow }
      where
        after_front : {A : Type 0} (xs : List A) (x : A) (ys : List A) → slice_get (xs ++ x ∷ ys) (length xs) ≡ Some x
        after_front [] x ys = refl
        after_front (y ∷ xs) x ys = after_front xs x ys

  -- where nothing is left up to the end, the run is whole, and wore no counter out
  is_over : NonePendsBefore set parts (s.end + 1) → IsOver s.end so_far.world
  is_over none q here = let low = none_of_it (s.end + 1) none q here in omega arith

  -- none is kept any more, since all rows of the run are up to the end
  none_kept : (rest : List Row) → AllByRecursion (λ (row : Row). row.at ≤ s.end) rest → AreItemsOf rest (kept ++ []) → AllByRecursion (λ (row : Row). s.end + 1 ≤ row.at) kept → rest ≡ []
  none_kept rest in_time items late = no_items rest (subst (AreItemsOf rest) (append-nil kept ∙ nothing kept late (subst (λ l. AllByRecursion (IsAmong rest) l) (append-nil kept) items.there)) items)
    where
      nothing : (xs : List Row) → AllByRecursion (λ (row : Row). s.end + 1 ≤ row.at) xs → AllByRecursion (IsAmong rest) xs → xs ≡ []
      nothing [] late among = refl
      nothing (x ∷ xs) late among = let low = at_one (λ (row : Row). row.at ≤ s.end) rest x in_time among.0 in let past = late.0 in absurd (omega arith)

  whole_run : NonePendsBefore set parts (s.end + 1) → IsOver s.end so_far.world → (all : List Key) × Run (step s) s.end (opening s) all rows so_far.world
  whole_run none over =
      let all = so_far.follows [] [] so_far.world (refl, refl) over in
      let nothing = none_kept all.1 (after_in_time s is.sound all.0 rows all.1 so_far.world all.2) all.3 (so_far.late (s.end + 1) none) in
      (all.0, subst (λ l. Run (step s) s.end (opening s) all.0 l so_far.world) (ap (λ l. rows ++ l) nothing ∙ append-nil rows) all.2)

  all_no_overflow : (m : ℕ) (t : State) → get so_far.world.members m ≡ Some t → ¬ (IsOverflowed t)
  all_no_overflow m t here =
      let low = ltb-true m (member_count s) (sym (so_far.whole.peopled m) ∙ ap is_some here) in
      let i = part_number deal m in
      let found = behind (world_of set) (slice_get parts i) (part_of (is_in (part_number deal) i) so_far.world) (so_far.stand.worlds i (is.below m low)) in
      let kept : get (part_of (is_in (part_number deal) i) so_far.world).members m ≡ Some t =
      get_retained nat_cmp_total nat_cmp-IsAntisymmetric (is_in (part_number deal) i) so_far.world.members m ∙ ap (λ b. cond b (get so_far.world.members m) None) (eq-eqb i i refl) ∙ here in
      part_no_overflow set found.0 m t (ap (λ (x : Cluster). get x.members m) found.2 ∙ kept)

  ends : NonePendsBefore set parts (s.end + 1) → IsRunOf s rows × (¬ (CounterOverflows s))
  ends none =
      let over = is_over none in
      let all = whole_run none over in
      ((all.0, record { last = so_far.world; run = all.1; over = over }), wears_nothing s is.sound all.0 rows so_far.world all.1 over all_no_overflow)

  -- it is where no next bound was found
  pub ends_here : (slice : List (Part Q)) → slice ≡ parts → NonePendsBefore set slice (course.end + 1) → IsRunOf s rows × (¬ (CounterOverflows s))
  ends_here slice same none = ends (subst (λ e. NonePendsBefore set parts (e + 1)) is.end (subst (λ l. NonePendsBefore set l (course.end + 1)) same none))

  -- and past the end
  pub ends_past : course.end < from → IsRunOf s rows × (¬ (CounterOverflows s))
  ends_past past = ends (none_of_parts set deal parts so_far.world so_far.stand (s.end + 1) (λ q here. let low = none_of_it from so_far.none q here in omega (arith, low, past, is.end)))

-- ---- the first rows of a run

module _ (s : Setup) (sound : IsSound s) where
  names_first : (rows : List Row) → BeginsRun s rows → AllByRecursion (NamesMembers s) rows
  names_first rows begun =
      let run = begun.1 in
      all_front (NamesMembers s) rows begun.2.0
      (recursion_from_All (NamesMembers s) (rows ++ begun.2.0) (subst (All (NamesMembers s)) begun.2.1 (rows_named s sound run.0 begun.0 run.1.last run.1.run)))

  -- they name members of the scenario
  pub names_next : (before made : List Row) → BeginsRun s (before ++ made) → All (NamesMembers s) made
  names_next before made begun = All-from_recursion (NamesMembers s) made (all_back (NamesMembers s) before made (names_first (before ++ made) begun))

  pub names_run : (rows : List Row) → IsRunOf s rows → All (NamesMembers s) rows
  names_run rows run = names_next [] rows (rows, run, ([], sym (append-nil rows)))
