-- The windows of all parts against the windows of the world that they stand for.
use Rattle.std.proofs.Common.{◌≡◌, ◌≢◌, ◌⊎◌, ℕ, zero, suc, ◌+◌, ◌<◌, ◌≤◌, Bool, true, false, eqb, nat_lt, unwrap_or, List, [], ◌∷◌, ◌++◌, map, length, Some, ap, ◌∙◌, sym, subst, refl, arith, inl, inr}
use Rattle.std.specs.Option.{option_map, is_some}
use Rattle.std.specs.List.{AllByRecursion, slice_get, flat_map}
use Rattle.std.specs.FinMap.{FinMap}
use Rattle.std.proofs.lemmas.Bool.{false≢true, eqb-true, eqb-false, ltb-true, ltb-false}
use Rattle.std.proofs.lemmas.Option.{same_Some, slice_get-map, slice_get_within, slice_get_past}
use Rattle.std.proofs.lemmas.List.{map-append}
use Rattle.base.specs.declared.key.Key.{Key}
use Rattle.base.specs.Order.{key_cmp}
use Rattle.base.specs.Rising.{IsRising}
use Rattle.scenario.specs.Setup.{Setup, member_count}
use Rattle.scenario.specs.Division.{Deal}
use Rattle.trace.specs.declared.row.Row.{Row}
use Rattle.member.specs.declared.event_kind.EventKind.{EventKind}
use Rattle.member.specs.declared.event.Event.{Event}
use Rattle.member.specs.State.{State}
use Rattle.member.specs.Step.{step}
use Rattle.member.specs.StateOf.{pair_of}
use Rattle.member_laws.specs.Runs.{Cluster}
use Rattle.windows.specs.declared.bounded.Bounded.{Bounded}
use Rattle.windows.specs.declared.part.Part.{Part}
use Rattle.windows.specs.declared.part.Done.{Done}
use Rattle.windows.specs.Parts.{PartWindow, Window, IsWindowOfItsPart, IncludesPart, AreWindowsOfDifferentParts, part_of, is_in, all_rows, all_out}
use Rattle.windows.specs.WorldOf.{world_of}
use Rattle.windows.specs.Window.{is_own, IsConsistentPart}
use Rattle.windows.specs.Cluster.{IsWholeCluster}
use Rattle.windows.proofs.Wholes.{part_consistent, own_here, window_by_number}
use Rattle.windows.specs.Several.{RanWindow, RanWindows, parts_of, numbers_of}
use Rattle.lookahead.specs.Between.{part_number}
use Rattle.turns.specs.Parts.{StandFor}

pub all_places : {A : Type 0} (P : A → Type 0) (xs : List A) → ((i : ℕ) (x : A) → slice_get xs i ≡ Some x → P x) → AllByRecursion P xs
all_places P [] each = tt
all_places P (x ∷ xs) each = (each 0 x refl, all_places P xs (λ i y here. each (suc i) y here))

-- ---- parts of a world

module _ {Q : Type 0} (set : Q → FinMap key_cmp Event) (deal : Deal) (parts : List (Part Q)) (w : Cluster) (stand : StandFor set deal parts w) where
  pub world_at : (i : ℕ) (p : Part Q) → slice_get parts i ≡ Some p → world_of set p ≡ part_of (is_in (part_number deal) i) w
  world_at i p here =
      let within = slice_get_within parts i p here in
      same_Some (world_of set p) (part_of (is_in (part_number deal) i) w)
      (sym (ap (option_map (world_of set)) here) ∙ stand.worlds i (omega (arith, stand.count, within)))

  pub parts_consistent : (s : Setup) → IsWholeCluster s w → AllByRecursion (λ p. IsConsistentPart s (world_of set p)) parts
  parts_consistent s whole =
      all_places (λ p. IsConsistentPart s (world_of set p)) parts
      (λ i p here. subst (IsConsistentPart s) (sym (world_at i p here)) (part_consistent s w whole (is_in (part_number deal) i)))

-- whoever has a part below their number is a member
pub low_by_part : (deal : Deal) (m i : ℕ) → i < deal.parts → part_number deal m ≡ i → m < length deal.part_of
low_by_part deal m i low is = by_test (nat_lt m (length deal.part_of)) refl
  where
    by_test : (b : Bool) → nat_lt m (length deal.part_of) ≡ b → m < length deal.part_of
    by_test true h = ltb-true m (length deal.part_of) h
    by_test false h =
        let past = ltb-false m (length deal.part_of) h in
        let none : part_number deal m ≡ deal.parts = ap (λ o. unwrap_or o deal.parts) (slice_get_past deal.part_of m past) in
        absurd (omega (arith, none, is))

-- so a part's members are those whose part has its number
pub own_by_part : (s : Setup) (deal : Deal) (w : Cluster) (i : ℕ) → length deal.part_of ≡ member_count s → IsWholeCluster s w → i < deal.parts
    → ◌≡◌ {A = ℕ → Bool} (is_own (part_of (is_in (part_number deal) i) w)) (is_in (part_number deal) i)
own_by_part s deal w i divides whole low =
    own_here s w whole (is_in (part_number deal) i) (λ m mine. let below = low_by_part deal m i low (eqb-true (part_number deal m) i mine) in omega (arith, below, divides))

-- ---- parts with bounds

module _ {Q : Type 0} where
  pub at_parts : (bs : List (Bounded Q)) (i : ℕ) (b : Bounded Q) → slice_get bs i ≡ Some b → slice_get (parts_of bs) i ≡ Some b.part
  at_parts bs i b here = slice_get-map (λ (b : Bounded Q). b.part) bs i ∙ ap (option_map (λ (b : Bounded Q). b.part)) here

  pub many : (bs : List (Bounded Q)) → length (parts_of bs) ≡ length bs
  many [] = refl
  many (b ∷ bs) = ap suc (many bs)

  pub of_parts : (P : Part Q → Type 0) (bs : List (Bounded Q)) → AllByRecursion P (parts_of bs) → AllByRecursion (λ (b : Bounded Q). P b.part) bs
  of_parts P [] all = tt
  of_parts P (b ∷ bs) all = (all.0, of_parts P bs all.1)

-- ---- windows of all parts

module _ {Q : Type 0} (set : Q → FinMap key_cmp Event) (s : Setup) where
  pub one_window_more : (parts : List (Bounded Q)) (done : List (Done Q)) (part : Bounded Q) (last : Done Q) → RanWindows set s parts done
      → RanWindow set s part last → RanWindows set s (parts ++ part ∷ []) (done ++ last ∷ [])
  one_window_more [] [] part last had one = (one, tt)
  one_window_more [] (d ∷ done) part last had one = absurd had
  one_window_more (p ∷ parts) [] part last had one = absurd had
  one_window_more (p ∷ parts) (d ∷ done) part last had one = (had.0, one_window_more parts done part last had.1 one)

  pub same_count : (ps : List (Bounded Q)) (ds : List (Done Q)) → RanWindows set s ps ds → length ds ≡ length ps
  same_count [] [] had = refl
  same_count [] (d ∷ ds) had = absurd had
  same_count (p ∷ ps) [] had = absurd had
  same_count (p ∷ ps) (d ∷ ds) had = ap suc (same_count ps ds had.1)

  -- the parts have their numbers still
  pub numbers_stay : (ps : List (Bounded Q)) (ds : List (Done Q)) → RanWindows set s ps ds → numbers_of (map (λ (d : Done Q). d.part) ds) ≡ numbers_of (parts_of ps)
  numbers_stay [] [] had = refl
  numbers_stay [] (d ∷ ds) had = absurd had
  numbers_stay (p ∷ ps) [] had = absurd had
  numbers_stay (p ∷ ps) (d ∷ ds) had = ap (λ n. n ∷ numbers_of (map (λ (d : Done Q). d.part) ds)) had.0.1 ∙ ap (λ ns. p.part.number ∷ ns) (numbers_stay ps ds had.1)

  -- the windows of the parts, numbered from a on
  abbrev pub windows_from : (a : ℕ) (ps : List (Bounded Q)) (ds : List (Done Q)) → RanWindows set s ps ds → List (Window State EventKind Row)
  windows_from a [] [] had = []
  windows_from a [] (d ∷ ds) had = absurd had
  windows_from a (p ∷ ps) [] had = absurd had
  windows_from a (p ∷ ps) (d ∷ ds) had =
      record { part = a; keys = had.0.0.0; out = map pair_of d.out.items; rows = d.rows.items; after = world_of set d.part } ∷ windows_from (a + 1) ps ds had.1

  pub rows_same : (a : ℕ) (ps : List (Bounded Q)) (ds : List (Done Q)) (had : RanWindows set s ps ds) → all_rows (windows_from a ps ds had) ≡ flat_map (λ d. d.rows.items) ds
  rows_same a [] [] had = refl
  rows_same a [] (d ∷ ds) had = absurd had
  rows_same a (p ∷ ps) [] had = absurd had
  rows_same a (p ∷ ps) (d ∷ ds) had = ap (λ l. d.rows.items ++ l) (rows_same (a + 1) ps ds had.1)

  pub out_same : (a : ℕ) (ps : List (Bounded Q)) (ds : List (Done Q)) (had : RanWindows set s ps ds) → all_out (windows_from a ps ds had) ≡ map pair_of (flat_map (λ d. d.out.items) ds)
  out_same a [] [] had = refl
  out_same a [] (d ∷ ds) had = absurd had
  out_same a (p ∷ ps) [] had = absurd had
  out_same a (p ∷ ps) (d ∷ ds) had =
      ap (λ l. map pair_of d.out.items ++ l) (out_same (a + 1) ps ds had.1) ∙ sym (map-append pair_of d.out.items (flat_map (λ d. d.out.items) ds))

  numbers_past : (a b : ℕ) (ps : List (Bounded Q)) (ds : List (Done Q)) (had : RanWindows set s ps ds) → a < b → AllByRecursion (λ (e : Window State EventKind Row). a ≢ e.part) (windows_from b ps ds had)
  numbers_past a b [] [] had past = tt
  numbers_past a b [] (d ∷ ds) had past = absurd had
  numbers_past a b (p ∷ ps) [] had past = absurd had
  numbers_past a b (p ∷ ps) (d ∷ ds) had past = (λ same. omega arith, numbers_past a (b + 1) ps ds had.1 (omega arith))

  all_different : (a : ℕ) (ps : List (Bounded Q)) (ds : List (Done Q)) (had : RanWindows set s ps ds)
      → IsRising (λ (d e : Window State EventKind Row). d.part ≢ e.part) (windows_from a ps ds had)
  all_different a [] [] had = tt
  all_different a [] (d ∷ ds) had = absurd had
  all_different a (p ∷ ps) [] had = absurd had
  all_different a (p ∷ ps) (d ∷ ds) had = (numbers_past a (a + 1) ps ds had.1 (omega arith), all_different (a + 1) ps ds had.1)

  pub has_window : (a i : ℕ) (ps : List (Bounded Q)) (ds : List (Done Q)) (had : RanWindows set s ps ds) → a ≤ i → i < a + length ps → IncludesPart (windows_from a ps ds had) i
  has_window a i [] [] had from below = absurd (omega arith)
  has_window a i [] (d ∷ ds) had from below = absurd had
  has_window a i (p ∷ ps) [] had from below = absurd had
  has_window a i (p ∷ ps) (d ∷ ds) had from below = by_test (λ past. has_window (a + 1) i ps ds had.1 past (omega arith)) (eqb a i) refl
    where
      by_test : (a + 1 ≤ i → IncludesPart (windows_from (a + 1) ps ds had.1) i) → (b : Bool) → eqb a i ≡ b → (a ≡ i) ⊎ IncludesPart (windows_from (a + 1) ps ds had.1) i
      by_test later true h = inl (eqb-true a i h)
      by_test later false h = let other = eqb-false a i h in inr (later (omega arith))

  -- what is known of each window by its part's number is known of each part
  pub fact_by_number : (P : ℕ → Cluster → Type 0) (a : ℕ) (ps : List (Bounded Q)) (ds : List (Done Q)) (had : RanWindows set s ps ds)
      → AllByRecursion (λ (d : Window State EventKind Row). P d.part d.after) (windows_from a ps ds had)
      → (i : ℕ) (d : Done Q) → slice_get ds i ≡ Some d → P (a + i) (world_of set d.part)
  fact_by_number P a [] [] had all i d here = absurd (false≢true (ap is_some here))
  fact_by_number P a [] (e ∷ ds) had all i d here = absurd had
  fact_by_number P a (p ∷ ps) [] had all i d here = absurd had
  fact_by_number P a (p ∷ ps) (e ∷ ds) had all zero d here =
      let same : a ≡ a + 0 = omega arith in
      subst (λ n. P n (world_of set d.part)) same (subst (λ (x : Done Q). P a (world_of set x.part)) (same_Some e d here) all.0)
  fact_by_number P a (p ∷ ps) (e ∷ ds) had all (suc i) d here =
      let same : (a + 1) + i ≡ a + suc i = omega arith in
      subst (λ n. P n (world_of set d.part)) same (fact_by_number P (a + 1) ps ds had.1 all.1 i d here)

  module _ (deal : Deal) (divides : length deal.part_of ≡ member_count s) (w : Cluster) (whole : IsWholeCluster s w) (bounds : ℕ → ℕ) where
    abbrev owns : ℕ → ℕ → Bool
    owns i = is_in (part_number deal) i

    -- the parts from that number on, and their bounds
    abbrev Follow : ℕ → List (Bounded Q) → Type 0
    Follow a ps = (i : ℕ) (p : Bounded Q) → slice_get ps i ≡ Some p → (a + i < deal.parts) × (world_of set p.part ≡ part_of (owns (a + i)) w) × (bounds (a + i) ≡ p.bound)

    next_follow : (a : ℕ) (p : Bounded Q) (ps : List (Bounded Q)) → Follow a (p ∷ ps) → Follow (a + 1) ps
    next_follow a p ps follow i q here =
        let found = follow (suc i) q here in
        let same : a + suc i ≡ (a + 1) + i = omega arith in
        (let low = found.0 in omega arith, found.1 ∙ ap (λ n. part_of (owns n) w) same, ap bounds (sym same) ∙ found.2)

    first_run : (a : ℕ) (p : Bounded Q) (ps : List (Bounded Q)) (keys : List Key) (out : List (Key × EventKind)) (rows : List Row) (after : Cluster) → Follow a (p ∷ ps)
        → PartWindow (step s) (is_own (world_of set p.part)) p.bound (world_of set p.part) keys out rows after → PartWindow (step s) (owns a) (bounds a) (part_of (owns a) w) keys out rows after
    first_run a p ps keys out rows after follow is =
        let found = follow 0 p refl in
        let low = found.0 in
        let same : a + 0 ≡ a = omega arith in
        let here : world_of set p.part ≡ part_of (owns a) w = found.1 ∙ ap (λ n. part_of (owns n) w) same in
        let bound : p.bound ≡ bounds a = sym found.2 ∙ ap bounds same in
        window_by_number s (part_number deal) a (bounds a) w after keys out rows whole (λ m mine. let below = low_by_part deal m a (omega arith) mine in omega (arith, below, divides))
        (subst (λ b. PartWindow (step s) (is_own (part_of (owns a) w)) b (part_of (owns a) w) keys out rows after) bound
        (subst (λ x. PartWindow (step s) (is_own x) p.bound x keys out rows after) here is))

    all_windows : (a : ℕ) (ps : List (Bounded Q)) (ds : List (Done Q)) (had : RanWindows set s ps ds) → Follow a ps
        → AllByRecursion (IsWindowOfItsPart (step s) (part_number deal) bounds w) (windows_from a ps ds had)
    all_windows a [] [] had follow = tt
    all_windows a [] (d ∷ ds) had follow = absurd had
    all_windows a (p ∷ ps) [] had follow = absurd had
    all_windows a (p ∷ ps) (d ∷ ds) had follow =
        (first_run a p ps had.0.0.0 (map pair_of d.out.items) d.rows.items (world_of set d.part) follow had.0.0.1, all_windows (a + 1) ps ds had.1 (next_follow a p ps follow))

    follow_all : (ps : List (Bounded Q)) → StandFor set deal (parts_of ps) w → ((i : ℕ) (b : Bounded Q) → slice_get ps i ≡ Some b → bounds i ≡ b.bound) → Follow 0 ps
    follow_all ps stand each i p here =
        let within = slice_get_within ps i p here in
        let same : i ≡ 0 + i = omega arith in (
          omega (arith, stand.count, within, many ps),
          world_at set deal (parts_of ps) w stand i p.part (at_parts ps i p here) ∙ ap (λ n. part_of (owns n) w) same,
          ap bounds (sym same) ∙ each i p here,
        )

    pub are_windows : (ps : List (Bounded Q)) (ds : List (Done Q)) (had : RanWindows set s ps ds) → StandFor set deal (parts_of ps) w
        → ((i : ℕ) (b : Bounded Q) → slice_get ps i ≡ Some b → bounds i ≡ b.bound)
        → AreWindowsOfDifferentParts (step s) (part_number deal) bounds w (windows_from 0 ps ds had)
    are_windows ps ds had stand each = record { windows = all_windows 0 ps ds had (follow_all ps stand each); different = all_different 0 ps ds had }
