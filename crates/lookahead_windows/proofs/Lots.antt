-- Lots: rows of the run of one part's members, from one moment up to another. Those of all parts, sorted, are the next rows of the run.
use Rattle.std.proofs.Common.{◌≡◌, ◌≢◌, ℕ, ◌+◌, ◌<◌, ◌≤◌, Bool, true, false, not, ◌&&◌, cond, nat_lt, nat_le, List, [], ◌∷◌, ◌++◌, None, append-nil, ap, inl, inr, ◌∙◌, sym, subst, refl, arith}
use Rattle.std.specs.List.{AllByRecursion, filter}
use Rattle.std.specs.List.Sorted.{IsPermutation, IsSorted}
use Rattle.std.specs.declared.cmp.Ordering.{Ordering}
use Rattle.std.proofs.Math.Bool.{and-true}
use Rattle.std.proofs.lemmas.Bool.{false≢true, eqb-true, eq-eqb, ne_eqb, ltb-true, ltb-false, leb-true, lt-ltb, le-ltb, le-leb, lt-leb, and_parts, and_from, false_from_ne_true}
use Rattle.std.proofs.lemmas.List.Elements.{filter-append, recursion_from_All}
use Rattle.std.proofs.lemmas.List.Sorted.{IsPermutation-refl, IsPermutation-sym, IsPermutation-trans, IsPermutation-append_right, IsPermutation-filter_both}
use Rattle.base.specs.declared.key.Key.{Key}
use Rattle.base.specs.Order.{moments-from_before}
use Rattle.base.specs.Run.{handled, trace, run-exists}
use Rattle.base.specs.Rising.{IsRising, IsPlaceBefore}
use Rattle.base.proofs.Rising.{all_weaker, rows_rise}
use Rattle.base.proofs.Joined.{run_joins}
use Rattle.scenario.specs.Setup.{Setup, IsSound, member_count}
use Rattle.trace.specs.declared.row.Row.{Row}
use Rattle.trace.specs.Text.{NamesMembers}
use Rattle.member.specs.Opening.{opening}
use Rattle.member.specs.Places.{place_of}
use Rattle.member.specs.Step.{step}
use Rattle.member.proofs.Fair.{steps_later, steps_counted}
use Rattle.member_laws.specs.Runs.{IsRunOf}
use Rattle.member_laws.proofs.Reached.{rows_named}
use Rattle.windows.specs.Safe.{IsSafe}
use Rattle.windows.specs.Parts.{is_in}
use Rattle.windows.specs.Cluster.{IsRowOrder}
use Rattle.windows.proofs.Cuts.{all_kept}
use Rattle.windows.proofs.Far.{all_both}
use Rattle.windows.proofs.Numbers.{rising_kept}
use Rattle.windows.proofs.Outs.{run_is_schedule}
use Rattle.windows.proofs.Released.{rising_mapped, schedule_keyed, rows_from}
use Rattle.windows.proofs.Sorting.{IsLess, rising_from_sorted, one_order}
use Rattle.lookahead_windows.specs.Before.{AreRowsBefore}
use Rattle.lookahead_windows.specs.Messages.{IsOneOf}
use Rattle.lookahead_windows.specs.Lots.{is_within, IsLot, PartRows, writer_of, every_row, AreLotsOfAll}
use Rattle.lookahead_windows.proofs.Worlds.{some_world, one_list, ends_before, all_before_end}

-- ---- what is kept of a list

module _ {A : Type 0} (p : A → Bool) where
  pub keeps_all : (xs : List A) → AllByRecursion (λ x. p x ≡ true) xs → filter p xs ≡ xs
  keeps_all [] all = refl
  keeps_all (x ∷ xs) all = ap (λ b. cond b (x ∷ filter p xs) (filter p xs)) all.0 ∙ ap (λ l. x ∷ l) (keeps_all xs all.1)

  pub keeps_none : (xs : List A) → AllByRecursion (λ x. p x ≡ false) xs → filter p xs ≡ []
  keeps_none [] all = refl
  keeps_none (x ∷ xs) all = ap (λ b. cond b (x ∷ filter p xs) (filter p xs)) all.0 ∙ keeps_none xs all.1

  passes_none : ((x : A) → p x ≡ false) → (xs : List A) → filter p xs ≡ []
  passes_none none [] = refl
  passes_none none (x ∷ xs) = ap (λ b. cond b (x ∷ filter p xs) (filter p xs)) (none x) ∙ passes_none none xs

module _ {A : Type 0} (p q b : A → Bool) (gives : (x : A) → p x ≡ true → q x ≡ true) (agree : (x : A) → q x ≡ true → p x ≡ b x) where
  -- what is kept is kept in two turns, where the second test counts for what the first let pass
  kept_in_turn : (xs : List A) → filter p xs ≡ filter b (filter q xs)
  kept_in_turn [] = refl
  kept_in_turn (x ∷ xs) = either (q x) refl (kept_in_turn xs)
    where
      either : (c : Bool) → q x ≡ c → filter p xs ≡ filter b (filter q xs) → cond (p x) (x ∷ filter p xs) (filter p xs) ≡ filter b (cond c (x ∷ filter q xs) (filter q xs))
      either true e rest = λ i. cond (agree x e i) (x ∷ rest i) (rest i)
      either false e rest =
          ap (λ c. cond c (x ∷ filter p xs) (filter p xs)) (false_from_ne_true (p x) (λ h. false≢true (sym e ∙ gives x h))) ∙ rest

-- ---- rows by their moments

abbrev is_before : ℕ → Row → Bool
is_before t row = nat_lt row.at t

abbrev is_between : ℕ → ℕ → Row → Bool
is_between from to row = nat_le from row.at && nat_lt row.at to

abbrev IsNoLater : Row → Row → Type 0
IsNoLater a b = a.at ≤ b.at

not_before : (from at : ℕ) → nat_le from at ≡ not (nat_lt at from)
not_before from at = either (nat_lt at from) refl
  where
    either : (b : Bool) → nat_lt at from ≡ b → nat_le from at ≡ not b
    either true e = lt-leb from at (ltb-true at from e)
    either false e = le-leb from at (ltb-false at from e)

-- rows that rise are those before a moment, and then the others
cut_at : (t : ℕ) (rows : List Row) → IsRising IsNoLater rows → filter (is_before t) rows ++ filter (λ row. not (is_before t row)) rows ≡ rows
cut_at t [] up = refl
cut_at t (row ∷ rows) up = either (nat_lt row.at t) refl (cut_at t rows up.1)
  where
    either : (b : Bool) → nat_lt row.at t ≡ b → filter (is_before t) rows ++ filter (λ row. not (is_before t row)) rows ≡ rows
        → cond (nat_lt row.at t) (row ∷ filter (is_before t) rows) (filter (is_before t) rows)
        ++ cond (not (nat_lt row.at t)) (row ∷ filter (λ row. not (is_before t row)) rows) (filter (λ row. not (is_before t row)) rows) ≡ row ∷ rows
    either true e rest =
        (λ i. cond (e i) (row ∷ filter (is_before t) rows) (filter (is_before t) rows)
        ++ cond (not (e i)) (row ∷ filter (λ row. not (is_before t row)) rows) (filter (λ row. not (is_before t row)) rows))
        ∙ ap (λ l. row ∷ l) rest
    either false e rest =
        let past : t ≤ row.at = ltb-false row.at t e in
        let late : AllByRecursion (λ (other : Row). nat_lt other.at t ≡ false) rows =
        all_weaker (IsNoLater row) (λ other. nat_lt other.at t ≡ false) (λ other up. le-ltb other.at t (omega arith)) rows up.0 in
        (λ i. cond (e i) (row ∷ filter (is_before t) rows) (filter (is_before t) rows)
        ++ cond (not (e i)) (row ∷ filter (λ row. not (is_before t row)) rows) (filter (λ row. not (is_before t row)) rows))
        ∙ (λ i. keeps_none (is_before t) rows late i ++ row ∷ filter (λ row. not (is_before t row)) rows)
        ∙ ap (λ l. row ∷ l) (keeps_all (λ row. not (is_before t row)) rows (all_weaker (λ (other : Row). nat_lt other.at t ≡ false) (λ other. not (nat_lt other.at t) ≡ true) (λ other h. ap not h) rows late))

-- those from one moment on and before another are what those before the other have not before the one
between_is : (from to : ℕ) (rows : List Row) → filter (is_between from to) rows ≡ filter (λ row. not (is_before from row)) (filter (is_before to) rows)
between_is from to =
    kept_in_turn (is_between from to) (is_before to) (λ row. not (is_before from row))
    (λ row h. (and_parts (nat_le from row.at) (nat_lt row.at to) h).1)
    (λ row h. ap (λ b. nat_le from row.at && b) h ∙ and-true (nat_le from row.at) ∙ not_before from row.at)

-- those before the one are of those before the other
before_is : (from to : ℕ) → from ≤ to → (rows : List Row) → filter (is_before from) rows ≡ filter (is_before from) (filter (is_before to) rows)
before_is from to low =
    kept_in_turn (is_before from) (is_before to) (is_before from) (λ row h. let early = ltb-true row.at from h in lt-ltb row.at to (omega arith)) (λ row h. refl)

module _ (division : ℕ → ℕ) (part : ℕ) where
  pub within_from : (from to : ℕ) (row : Row) → is_in division part row.member ≡ true → from ≤ row.at → row.at < to → is_within division part from to row ≡ true
  within_from from to row here low high =
      and_from (is_in division part row.member) (is_between from to row) here (and_from (nat_le from row.at) (nat_lt row.at to) (le-leb from row.at low) (lt-ltb row.at to high))

  pub within_parts : (from to : ℕ) (row : Row) → is_within division part from to row ≡ true → (is_in division part row.member ≡ true) × (from ≤ row.at) × (row.at < to)
  within_parts from to row h =
      let two = and_parts (is_in division part row.member) (is_between from to row) h in
      let moments = and_parts (nat_le from row.at) (nat_lt row.at to) two.1 in
      (two.0, leb-true from row.at moments.0, ltb-true row.at to moments.1)

  module _ (from mid to : ℕ) (low : from ≤ mid) (high : mid ≤ to) where
    -- a part's rows up to a moment within are those before it of all
    within_front : (rows : List Row) → filter (is_within division part from mid) rows ≡ filter (is_before mid) (filter (is_within division part from to) rows)
    within_front =
        kept_in_turn (is_within division part from mid) (is_within division part from to) (is_before mid)
        (λ row h. let there = within_parts from mid row h in let early = there.2 in within_from from to row there.0 there.1 (omega arith))
        (λ row h. let there = within_parts from to row h in λ i. there.0 i && (le-leb from row.at there.1 i && nat_lt row.at mid))

    -- and those from it on are the others
    within_back : (rows : List Row) → filter (is_within division part mid to) rows ≡ filter (λ row. not (is_before mid row)) (filter (is_within division part from to) rows)
    within_back =
        kept_in_turn (is_within division part mid to) (is_within division part from to) (λ row. not (is_before mid row))
        (λ row h. let there = within_parts mid to row h in let past = there.1 in within_from from to row there.0 (omega arith) there.2)
        (λ row h.
        let there = within_parts from to row h in
        (λ i. there.0 i && (nat_le mid row.at && lt-ltb row.at to there.2 i)) ∙ and-true (nat_le mid row.at) ∙ not_before mid row.at)

-- ---- each row is in one of the lots

module _ (division : ℕ → ℕ) where
  abbrev in_lot : ℕ → Row → Bool
  in_lot part row = is_in division part row.member

  other_lot : (part other : ℕ) → part ≢ other → (row : Row) → in_lot other row ≡ true → not (in_lot part row) ≡ true
  other_lot part other apart row here = ap not (ne_eqb (division row.member) part (λ same. apart (sym same ∙ eqb-true (division row.member) other here)))

  in_lots : (lots : List PartRows) (rows : List Row) → AllByRecursion (λ (lot : PartRows). lot.rows ≡ filter (in_lot lot.part) rows) lots → IsRising (λ (a b : PartRows). a.part ≢ b.part) lots
      → AllByRecursion (λ (row : Row). IsOneOf writer_of lots (division row.member)) rows → IsPermutation (every_row lots) rows
  in_lots [] [] each different all = IsPermutation-refl []
  in_lots [] (row ∷ rows) each different all = absurd all.0
  in_lots (lot ∷ lots) rows each different all =
      let mine : Row → Bool = in_lot lot.part in
      let rest : List Row = filter (λ row. not (mine row)) rows in
      let rest_each : AllByRecursion (λ (other : PartRows). other.rows ≡ filter (in_lot other.part) rest) lots =
      all_weaker _ (λ (other : PartRows). other.rows ≡ filter (in_lot other.part) rest)
      (λ other h. h.0 ∙ kept_in_turn (in_lot other.part) (λ row. not (mine row)) (in_lot other.part) (other_lot lot.part other.part h.1) (λ row out. refl) rows)
      lots (all_both (λ (other : PartRows). other.rows ≡ filter (in_lot other.part) rows) (λ (other : PartRows). lot.part ≢ other.part) lots each.1 different.0) in
      let rest_all : AllByRecursion (λ (row : Row). IsOneOf writer_of lots (division row.member)) rest =
      all_weaker _ (λ (row : Row). IsOneOf writer_of lots (division row.member)) (λ row h. left_over lot lots row h.0 h.1) rest
      (all_kept (λ row. not (mine row)) (λ (row : Row). IsOneOf writer_of (lot ∷ lots) (division row.member)) rows all) in
      IsPermutation-trans (lot.rows ++ every_row lots) (filter mine rows ++ rest) rows
      (subst (λ l. IsPermutation (lot.rows ++ every_row lots) (l ++ rest)) each.0 (IsPermutation-append_right lot.rows (every_row lots) rest (in_lots lots rest rest_each different.1 rest_all)))
      (IsPermutation-sym rows (filter mine rows ++ rest) (IsPermutation-filter_both mine (λ row. not (mine row)) (λ row. refl) rows))
    where
      left_over : (lot : PartRows) (lots : List PartRows) (row : Row) → not (in_lot lot.part row) ≡ true → IsOneOf writer_of (lot ∷ lots) (division row.member) → IsOneOf writer_of lots (division row.member)
      left_over lot lots row out (inl same) = absurd (false≢true (sym (ap not (eq-eqb (division row.member) lot.part (sym same))) ∙ out))
      left_over lot lots row out (inr more) = more

-- ---- the run's rows

no_later : (a b : Row) → IsPlaceBefore (place_of a) (place_of b) → a.at ≤ b.at
no_later a b (inl before) = moments-from_before (place_of a).0 (place_of b).0 before
no_later a b (inr same) = let at : a.at ≡ b.at = ap (λ (k : Key). k.at) same.0 in omega arith

module _ (s : Setup) (sound : IsSound s) where
  pub some_run : (run : List Row) × IsRunOf s run
  some_run = let is = some_world s sound (s.end + 1) (omega arith) in (is.1.1, ends_before s (s.end + 1) is.1.1 (is.1.0, is.0, is.1.2) (omega arith))

  pub one_run_of : (first second : List Row) → IsRunOf s first → IsRunOf s second → first ≡ second
  one_run_of first second a b = one_list s sound (s.end + 1) first second (all_before_end s first a) (all_before_end s second b)

  -- they stand by their places
  pub rows_by_place : (Q : Row → Row → Type 0) → ((a b : Row) → IsPlaceBefore (place_of a) (place_of b) → Q a b) → (run : List Row) → IsRunOf s run → IsRising Q run
  rows_by_place Q gives run is =
      rising_mapped place_of IsPlaceBefore Q gives run (rows_rise (step s) (steps_later s sound) s.end place_of (steps_counted s sound) is.0 (opening s) is.1.last run is.1.run)

  -- and name members
  rows_members : (run : List Row) → IsRunOf s run → AllByRecursion (λ (row : Row). row.member < member_count s) run
  rows_members run is =
      all_weaker (NamesMembers s) (λ (row : Row). row.member < member_count s) (λ row names. names.member) run
      (recursion_from_All (NamesMembers s) run (rows_named s sound is.0 run is.1.last is.1.run))

  -- those that are written before a moment are those before it of all
  rows_cut : (t : ℕ) (rows run : List Row) → AreRowsBefore s t rows → IsRunOf s run → rows ≡ filter (is_before t) run
  rows_cut t rows run is whole =
      let later = steps_later s sound in
      let more = trace (step s) later s.end is.1 in
      let left = run-exists (step s) later s.end is.1 in
      let early : AllByRecursion (λ (row : Row). nat_lt row.at t ≡ true) rows =
      all_weaker (λ (row : Row). row.at < t) (λ row. nat_lt row.at t ≡ true) (λ row h. lt-ltb row.at t h) rows
      (schedule_keyed (step s) later place_of (steps_counted s sound) (λ k. k.at < t) (IsSafe s.end None) is.0 (opening s) is.1 rows is.2.early
      (run_is_schedule (step s) s.end None tt is.0 (opening s) is.1 rows is.2.run)) in
      let late : AllByRecursion (λ (row : Row). nat_lt row.at t ≡ false) more =
      all_weaker (λ (row : Row). t ≤ row.at) (λ row. nat_lt row.at t ≡ false) (λ row h. le-ltb row.at t h) more
      (rows_from (step s) later place_of (steps_counted s sound) s.end t (handled (step s) later s.end is.1) is.1 left.last more is.2.none left.run) in
      let all : IsRunOf s (rows ++ more) = (
        is.0 ++ handled (step s) later s.end is.1,
        record { last = left.last; run = run_joins (step s) s.end is.0 (handled (step s) later s.end is.1) (opening s) is.1 left.last rows more is.2.run left.run; over = left.over },
      ) in
      sym
      (ap (filter (is_before t)) (one_run_of run (rows ++ more) whole all) ∙ filter-append (is_before t) rows more
      ∙ (λ i. keeps_all (is_before t) rows early i ++ keeps_none (is_before t) more late i) ∙ append-nil rows)

  -- those up to the one moment, and those from it up to the other
  rows_next : (from to : ℕ) (before run : List Row) → from ≤ to → to ≤ s.end + 1 → AreRowsBefore s from before → IsRunOf s run → AreRowsBefore s to (before ++ filter (is_between from to) run)
  rows_next from to before run ordered in_time known whole =
      let is = some_world s sound to in_time in
      let up : IsRising IsNoLater (filter (is_before to) run) = rising_kept IsNoLater (is_before to) run (rows_by_place IsNoLater no_later run whole) in
      let there : AreRowsBefore s to is.1.1 = (is.1.0, is.0, is.1.2) in
      subst (AreRowsBefore s to)
      (rows_cut to is.1.1 run there whole ∙ sym (cut_at from (filter (is_before to) run) up)
      ∙ (λ i. sym (rows_cut from before run known whole ∙ before_is from to ordered run) i ++ sym (between_is from to run) i))
      there

  -- ---- lots

  module _ (division : ℕ → ℕ) (part : ℕ) where
    -- a lot is what the run has there
    lot_is : (from to : ℕ) (rows run : List Row) → IsLot s division part from to rows → IsRunOf s run → rows ≡ filter (is_within division part from to) run
    lot_is from to rows run lot is = lot.same ∙ ap (filter (is_within division part from to)) (one_run_of lot.run run lot.is_run is)

    none_there : (t : ℕ) → t ≤ s.end + 1 → IsLot s division part t t []
    none_there t in_time = record {
      ordered = omega arith;
      in_time = in_time;
      run = some_run.0;
      is_run = some_run.1;
      same =
          sym (passes_none (is_within division part t t) (λ row. false_from_ne_true (is_within division part t t row) (λ h. let there = within_parts division part t t row h in let low = there.1 in let high = there.2 in omega arith)) some_run.0);
    }

    rises_there : (from to : ℕ) (rows : List Row) → IsLot s division part from to rows → IsRising (λ (a b : Row). a.at ≤ b.at) rows
    rises_there from to rows lot =
        subst (IsRising IsNoLater) (sym lot.same) (rising_kept IsNoLater (is_within division part from to) lot.run (rows_by_place IsNoLater no_later lot.run lot.is_run))

    joins_there : (from mid to : ℕ) (rows more : List Row) → IsLot s division part from mid rows → IsLot s division part mid to more → IsLot s division part from to (rows ++ more)
    joins_there from mid to rows more first second =
        let low = first.ordered in
        let high = second.ordered in
        let run = first.run in
        let front = first.same ∙ within_front division part from mid to low high run in
        let back = lot_is mid to more run second first.is_run ∙ within_back division part from mid to low high run in
        record {
          ordered = omega arith;
          in_time = second.in_time;
          run = run;
          is_run = first.is_run;
          same =
              (λ i. front i ++ back i)
              ∙ cut_at mid (filter (is_within division part from to) run) (rising_kept IsNoLater (is_within division part from to) run (rows_by_place IsNoLater no_later run first.is_run));
        }

    cut_there : (from mid to : ℕ) (front back : List Row) → from ≤ mid → mid ≤ to → IsLot s division part from to (front ++ back)
        → AllByRecursion (λ (row : Row). row.at < mid) front → AllByRecursion (λ (row : Row). mid ≤ row.at) back
        → IsLot s division part from mid front × IsLot s division part mid to back
    cut_there from mid to front back low high lot early late =
        let until = lot.in_time in
        let in_front : AllByRecursion (λ (row : Row). nat_lt row.at mid ≡ true) front =
        all_weaker (λ (row : Row). row.at < mid) (λ row. nat_lt row.at mid ≡ true) (λ row h. lt-ltb row.at mid h) front early in
        let in_back : AllByRecursion (λ (row : Row). nat_lt row.at mid ≡ false) back =
        all_weaker (λ (row : Row). mid ≤ row.at) (λ row. nat_lt row.at mid ≡ false) (λ row h. le-ltb row.at mid h) back late in (
          record {
            ordered = low;
            in_time = omega arith;
            run = lot.run;
            is_run = lot.is_run;
            same =
                sym
                (within_front division part from mid to low high lot.run ∙ ap (filter (is_before mid)) (sym lot.same) ∙ filter-append (is_before mid) front back
                ∙ (λ i. keeps_all (is_before mid) front in_front i ++ keeps_none (is_before mid) back in_back i) ∙ append-nil front);
          },
          record {
            ordered = high;
            in_time = lot.in_time;
            run = lot.run;
            is_run = lot.is_run;
            same =
                sym
                (within_back division part from mid to low high lot.run ∙ ap (filter (λ row. not (is_before mid row))) (sym lot.same) ∙ filter-append (λ row. not (is_before mid row)) front back
                ∙ (λ i. keeps_none (λ row. not (is_before mid row)) front (all_weaker (λ (row : Row). nat_lt row.at mid ≡ true) (λ row. not (nat_lt row.at mid) ≡ false) (λ row h. ap not h) front in_front) i
                ++ keeps_all (λ row. not (is_before mid row)) back (all_weaker (λ (row : Row). nat_lt row.at mid ≡ false) (λ row. not (nat_lt row.at mid) ≡ true) (λ row h. ap not h) back in_back) i));
          },
        )

  -- ---- the next rows

  module _ (division : ℕ → ℕ) (from to : ℕ) where
    -- what the run has there is in the lots
    lots_sorted : (run : List Row) → IsRunOf s run → (lots : List PartRows) → AreLotsOfAll s division from to lots
        → (sorted : List Row) (cmp : Row → Row → Ordering) → IsRowOrder cmp → IsPermutation (every_row lots) sorted → IsSorted cmp sorted → sorted ≡ filter (is_between from to) run
    lots_sorted run is lots are sorted cmp order items up =
        let between : List Row = filter (is_between from to) run in
        let each : AllByRecursion (λ (lot : PartRows). lot.rows ≡ filter (λ (row : Row). is_in division lot.part row.member) between) lots =
        all_weaker (λ (lot : PartRows). IsLot s division lot.part from to lot.rows) (λ lot. lot.rows ≡ filter (λ (row : Row). is_in division lot.part row.member) between)
        (λ lot h. lot_is division lot.part from to lot.rows run h is
        ∙ kept_in_turn (is_within division lot.part from to) (is_between from to) (λ row. is_in division lot.part row.member)
        (λ row there. (and_parts (is_in division lot.part row.member) (is_between from to row) there).1)
        (λ row there. ap (λ b. is_in division lot.part row.member && b) there ∙ and-true (is_in division lot.part row.member)) run)
        lots are.each in
        let named : AllByRecursion (λ (row : Row). IsOneOf writer_of lots (division row.member)) between =
        all_weaker _ (λ (row : Row). IsOneOf writer_of lots (division row.member)) (λ row h. are.complete row.member h.1) between
        (all_kept (is_between from to) (λ (row : Row). row.member < member_count s) run (rows_members run is)) in
        one_order cmp order.total between sorted (rising_kept (IsLess cmp) (is_between from to) run (rows_by_place (IsLess cmp) order.agrees run is))
        (IsPermutation-trans between (every_row lots) sorted (IsPermutation-sym (every_row lots) between (in_lots division lots between each are.different named)) items)
        (rising_from_sorted cmp order.total sorted up)

    some_lot : (lots : List PartRows) → AreLotsOfAll s division from to lots → (lot : PartRows) × IsLot s division lot.part from to lot.rows
    some_lot [] are = absurd (are.complete 0 sound.members.0)
    some_lot (lot ∷ lots) are = (lot, are.each.0)

    next_there : (lots : List PartRows) (before sorted : List Row) (cmp : Row → Row → Ordering) → AreRowsBefore s from before → AreLotsOfAll s division from to lots
        → IsRowOrder cmp → IsPermutation (every_row lots) sorted → IsSorted cmp sorted → AreRowsBefore s to (before ++ sorted)
    next_there lots before sorted cmp known are order items up =
        let lot = some_lot lots are in
        let run = lot.1.run in
        subst (λ l. AreRowsBefore s to (before ++ l)) (sym (lots_sorted run lot.1.is_run lots are sorted cmp order items up))
        (rows_next from to before run lot.1.ordered lot.1.in_time known lot.1.is_run)

-- ---- as the laws say it

-- where one moment is the other, the lot is empty
pub lot_none : (s : Setup) (division : ℕ → ℕ) (part t : ℕ) → IsSound s → t ≤ s.end + 1 → IsLot s division part t t []
lot_none s division part t sound = none_there s sound division part t

-- lots that follow each other join
pub lot_joins : (s : Setup) (division : ℕ → ℕ) (part from mid to : ℕ) (rows more : List Row) → IsSound s → IsLot s division part from mid rows → IsLot s division part mid to more
    → IsLot s division part from to (rows ++ more)
lot_joins s division part from mid to rows more sound = joins_there s sound division part from mid to rows more

-- a lot is cut at any moment within
pub lot_cut : (s : Setup) (division : ℕ → ℕ) (part from mid to : ℕ) (front back : List Row) → IsSound s → from ≤ mid → mid ≤ to → IsLot s division part from to (front ++ back)
    → AllByRecursion (λ (row : Row). row.at < mid) front → AllByRecursion (λ (row : Row). mid ≤ row.at) back
    → IsLot s division part from mid front × IsLot s division part mid to back
lot_cut s division part from mid to front back sound = cut_there s sound division part from mid to front back

-- its moments rise
pub lot_rises : (s : Setup) (division : ℕ → ℕ) (part from to : ℕ) (rows : List Row) → IsSound s → IsLot s division part from to rows → IsRising (λ (a b : Row). a.at ≤ b.at) rows
lot_rises s division part from to rows sound = rises_there s sound division part from to rows

-- the lots of all parts, sorted, are the next rows
pub lots_next : (s : Setup) (division : ℕ → ℕ) (from to : ℕ) (lots : List PartRows) (before sorted : List Row) (cmp : Row → Row → Ordering) → IsSound s → AreRowsBefore s from before
    → AreLotsOfAll s division from to lots → IsRowOrder cmp → IsPermutation (every_row lots) sorted → IsSorted cmp sorted → AreRowsBefore s to (before ++ sorted)
lots_next s division from to lots before sorted cmp sound = next_there s sound division from to lots before sorted cmp
