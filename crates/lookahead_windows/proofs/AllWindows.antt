-- A part's window below any bound: there is one, and one alone. And windows of all parts.
use Rattle.std.proofs.Common.{◌≡◌, ◌≢◌, ◌⊎◌, ℕ, zero, suc, ◌+◌, ◌<◌, ◌≤◌, Bool, true, false, eqb, List, [], ◌∷◌, ◌++◌, Option, Some, None, ap, inl, inr, ◌∙◌, sym, subst, refl, arith}
use Rattle.std.specs.Option.{option_map, is_some}
use Rattle.std.specs.List.{AllByRecursion, range_with_len}
use Rattle.std.specs.FinMap.{get}
use Rattle.std.proofs.lemmas.Bool.Decides.{eqb_tells}
use Rattle.std.proofs.lemmas.Option.{same_Some}
use Rattle.base.specs.declared.key.Key.{Key}
use Rattle.base.specs.World.{Run, NextStep, outcome, rows_of, events_of, settled}
use Rattle.base.specs.Rising.{IsRising}
use Rattle.base.specs.Run.{one_step}
use Rattle.base.proofs.Rising.{all_weaker}
use Rattle.scenario.specs.Setup.{Setup, IsSound}
use Rattle.trace.specs.declared.row.Row.{Row}
use Rattle.member.specs.declared.event_kind.EventKind.{EventKind}
use Rattle.member.specs.State.{State}
use Rattle.member.specs.Step.{step}
use Rattle.member.proofs.Fair.{steps_later}
use Rattle.member_laws.specs.Runs.{Cluster}
use Rattle.windows.specs.Parts.{Window, IsWindowOfItsPart, AreWindowsOfDifferentParts, IncludesPart, PartStep, PartRun, PartWindow, for_others, kept_by, part_of, is_in}
use Rattle.windows.proofs.PartRuns.{Kept, kept_later, next_of}
use Rattle.lookahead_windows.specs.Messages.{IsOneOf}
use Rattle.lookahead_windows.proofs.Until.{AreEarly, until_exists}

-- ---- a window of a part: there is one, and one alone

module _ (s : Setup) (sound : IsSound s) (owns : ℕ → Bool) (bound : ℕ) where
  part_stops : (p v : Cluster) (k : Key) (out : List (Key × EventKind)) (rows : List Row) (u : Cluster) → PartStep (step s) owns bound p k out rows v → u ≡ p → ((q : Key) → is_some (get u.pending q) ≡ true → bound ≤ q.at) → ⊥
  part_stops p v k out rows u is same done =
      let late : bound ≤ k.at = done k (ap (λ (x : Cluster). is_some (get x.pending k)) same ∙ ap is_some is.here) in
      let early = is.early in
      omega arith

  same_sent : (p v u : Cluster) (k l : Key) (out sent : List (Key × EventKind)) (made found : List Row) → PartStep (step s) owns bound p k out made v → PartStep (step s) owns bound p l sent found u → k ≡ l → out ≡ sent
  same_sent p v u k l out sent made found a b same =
      let content : a.content ≡ b.content = same_Some a.content b.content (sym a.here ∙ ap (get p.pending) same ∙ b.here) in
      a.sent ∙ (λ i. for_others owns (events_of (outcome (step s) p (same i) (content i)))) ∙ sym b.sent

  pub run_once : (ks ls : List Key) (p v u : Cluster) (out sent : List (Key × EventKind)) (rows all : List Row) → PartRun (step s) owns bound p ks out rows v → ((q : Key) → is_some (get v.pending q) ≡ true → bound ≤ q.at)
      → PartRun (step s) owns bound p ls sent all u → ((q : Key) → is_some (get u.pending q) ≡ true → bound ≤ q.at) → (v ≡ u) × (out ≡ sent) × (rows ≡ all)
  run_once [] [] p v u out sent rows all a first b second = (a.0 ∙ sym b.0, a.1 ∙ sym b.1, a.2 ∙ sym b.2)
  run_once [] (l ∷ ls) p v u out sent rows all a first b second = absurd (part_stops p b.0 l b.1 b.3 v b.5 a.0 first)
  run_once (k ∷ ks) [] p v u out sent rows all a first b second = absurd (part_stops p a.0 k a.1 a.3 u a.5 b.0 second)
  run_once (k ∷ ks) (l ∷ ls) p v u out sent rows all a first b second =
      let same = one_step (Kept (step s) owns) (kept_later (step s) owns (steps_later s sound)) bound p a.0 b.0 k l a.3 b.3 (next_of (step s) owns bound p a.0 k a.1 a.3 a.5) (next_of (step s) owns bound p b.0 l b.1 b.3 b.5) in
      let one : a.1 ≡ b.1 = same_sent p a.0 b.0 k l a.1 b.1 a.3 b.3 a.5 b.5 same.0 in
      let made : a.3 ≡ b.3 = same.2 in
      let rest = run_once ks ls a.0 v u a.2 b.2 a.4 b.4 a.6 first (subst (λ m. PartRun (step s) owns bound m ls b.2 b.4 u) (sym same.1) b.6) second in
      (rest.0, a.7 ∙ (λ i. one i ++ rest.1 i) ∙ sym b.7, a.8 ∙ (λ i. made i ++ rest.2 i) ∙ sym b.8)

  pub window_once : (p v u : Cluster) (ks ls : List Key) (out sent : List (Key × EventKind)) (rows all : List Row) → PartWindow (step s) owns bound p ks out rows v → PartWindow (step s) owns bound p ls sent all u
      → (v ≡ u) × (out ≡ sent) × (rows ≡ all)
  window_once p v u ks ls out sent rows all a b = run_once ks ls p v u out sent rows all a.run a.done b.run b.done

  same_outcome : (k : Key) (c : EventKind) (o : Option State) → option_map (Kept (step s) owns k c) o ≡ option_map (kept_by owns) (option_map (step s k c) o)
  same_outcome k c None = refl
  same_outcome k c (Some t) = refl

  same_made : (k : Key) (c : EventKind) (o : Option State) → rows_of (option_map (Kept (step s) owns k c) o) ≡ rows_of (option_map (step s k c) o)
  same_made k c None = refl
  same_made k c (Some t) = refl

  part_step : (p v : Cluster) (k : Key) (rows : List Row) → k.at < bound → NextStep (Kept (step s) owns) p k v rows → (out : List (Key × EventKind)) × PartStep (step s) owns bound p k out rows v
  part_step p v k rows early next = (
    for_others owns (events_of (outcome (step s) p k next.content)),
    record {
      content = next.content;
      here = next.here;
      least = next.least;
      early = early;
      world = next.world ∙ ap (settled p k) (same_outcome k next.content (get p.members k.to));
      sent = refl;
      made = next.made ∙ same_made k next.content (get p.members k.to);
    },
  )

  part_run : (ks : List Key) (p v : Cluster) (rows : List Row) → Run (Kept (step s) owns) bound p ks rows v → AreEarly bound ks → (out : List (Key × EventKind)) × PartRun (step s) owns bound p ks out rows v
  part_run [] p v rows run early = ([], (run.0, refl, run.1))
  part_run (k ∷ ks) p v rows run early =
      let first = part_step p run.0 k run.1 early.0 run.4 in
      let rest = part_run ks run.0 v run.2 run.5 early.1 in
      (first.0 ++ rest.0, (run.0, first.0, rest.0, run.1, run.2, first.1, rest.1, refl, run.6))

  pub some_window : (p : Cluster) → (keys : List Key) × (out : List (Key × EventKind)) × (rows : List Row) × (after : Cluster) × PartWindow (step s) owns bound p keys out rows after
  some_window p =
      let is = until_exists (Kept (step s) owns) bound (kept_later (step s) owns (steps_later s sound)) bound p (omega arith) in
      let run = part_run is.1.keys p is.0 is.1.rows is.1.run is.1.early in
      (is.1.keys, run.0, is.1.rows, is.0, record { run = run.1; done = is.2 })

-- ---- numbers in a row

pub is_in_range : (a n m : ℕ) → a ≤ m → m < a + n → IsOneOf (λ (k : ℕ). k) (range_with_len a n) m
is_in_range a zero m low high = absurd (omega arith)
is_in_range a (suc n) m low high = by_test (eqb_tells a m) (λ differ. is_in_range (a + 1) n m (omega (arith, differ)) (omega arith))
  where
    by_test : ((eqb a m ≡ true) × (a ≡ m)) ⊎ ((eqb a m ≡ false) × (a ≢ m)) → (a ≢ m → IsOneOf (λ (k : ℕ). k) (range_with_len (a + 1) n) m) → IsOneOf (λ (k : ℕ). k) (range_with_len a (suc n)) m
    by_test (inl here) rest = inl here.1
    by_test (inr other) rest = inr (rest other.1)

range_past : (b a n : ℕ) → b < a → AllByRecursion (λ (k : ℕ). b ≢ k) (range_with_len a n)
range_past b a zero past = tt
range_past b a (suc n) past = (λ same. omega arith, range_past b (a + 1) n (omega arith))

pub range_differs : (a n : ℕ) → IsRising (λ (k l : ℕ). k ≢ l) (range_with_len a n)
range_differs a zero = tt
range_differs a (suc n) = (range_past a (a + 1) n (omega arith), range_differs (a + 1) n)

pub range_below : (a n m : ℕ) → a + n ≤ m → AllByRecursion (λ (k : ℕ). k < m) (range_with_len a n)
range_below a zero m low = tt
range_below a (suc n) m low = (omega arith, range_below (a + 1) n m (omega arith))

-- ---- windows by the items that give them

-- items, each of which gives a window of its number
module _ {X : Type 0} (number : X → ℕ) (Is : X → Type 0) (window : (x : X) → Is x → Window State EventKind Row) (named : (x : X) (is : Is x) → (window x is).part ≡ number x) where
  abbrev pub windows_in : (xs : List X) → AllByRecursion Is xs → List (Window State EventKind Row)
  windows_in [] all = []
  windows_in (x ∷ xs) all = window x all.0 ∷ windows_in xs all.1

  pub numbers_in : (P : ℕ → Type 0) (xs : List X) (all : AllByRecursion Is xs) → AllByRecursion (λ x. P (number x)) xs → AllByRecursion (λ (w : Window State EventKind Row). P w.part) (windows_in xs all)
  numbers_in P [] all each = tt
  numbers_in P (x ∷ xs) all each = (subst P (sym (named x all.0)) each.0, numbers_in P xs all.1 each.1)

  pub windows_hold : (P : Window State EventKind Row → Type 0) → ((x : X) (is : Is x) → P (window x is)) → (xs : List X) (all : AllByRecursion Is xs) → AllByRecursion P (windows_in xs all)
  windows_hold P each [] all = tt
  windows_hold P each (x ∷ xs) all = (each x all.0, windows_hold P each xs all.1)

  pub differ_in : (xs : List X) (all : AllByRecursion Is xs) → IsRising (λ x y. number x ≢ number y) xs → IsRising (λ (v w : Window State EventKind Row). v.part ≢ w.part) (windows_in xs all)
  differ_in [] all up = tt
  differ_in (x ∷ xs) all up = (
    numbers_in (λ n. (window x all.0).part ≢ n) xs all.1
        (all_weaker (λ y. number x ≢ number y) (λ y. (window x all.0).part ≢ number y) (λ y other same. other (sym (named x all.0) ∙ same)) xs up.0),
    differ_in xs all.1 up.1,
  )

  pub included : (xs : List X) (all : AllByRecursion Is xs) (n : ℕ) → IsOneOf number xs n → IncludesPart (windows_in xs all) n
  included [] all n none = absurd none
  included (x ∷ xs) all n (inl same) = inl (named x all.0 ∙ same)
  included (x ∷ xs) all n (inr more) = inr (included xs all.1 n more)

abbrev pub units : {X : Type 0} (xs : List X) → AllByRecursion (λ (x : X). Unit {0}) xs
units [] = tt
units (x ∷ xs) = (tt, units xs)

-- ---- a window of each part below its bound

module _ (s : Setup) (sound : IsSound s) (division : ℕ → ℕ) (world : Cluster) (bounds : ℕ → ℕ) where
  pub window_at : ℕ → Window State EventKind Row
  window_at n =
      let is = some_window s sound (is_in division n) (bounds n) (part_of (is_in division n) world) in
      record { part = n; keys = is.0; out = is.1; rows = is.2; after = is.3 }

  pub named_at : (n : ℕ) → (window_at n).part ≡ n
  unfolding window_at
  named_at n = refl

  pub window_runs : (n : ℕ) → IsWindowOfItsPart (step s) division bounds world (window_at n)
  unfolding window_at
  window_runs n = (some_window s sound (is_in division n) (bounds n) (part_of (is_in division n) world)).4

  module _ (parts : ℕ) where
    abbrev pub windows_at : List (Window State EventKind Row)
    windows_at = windows_in (λ (k : ℕ). k) (λ k. Unit {0}) (λ k u. window_at k) (λ k u. named_at k) (range_with_len 0 parts) (units (range_with_len 0 parts))

    pub are_at : AreWindowsOfDifferentParts (step s) division bounds world windows_at
    are_at = record {
      windows = windows_hold (λ (k : ℕ). k) (λ k. Unit {0}) (λ k u. window_at k) (λ k u. named_at k) (IsWindowOfItsPart (step s) division bounds world) (λ k u. window_runs k)
          (range_with_len 0 parts) (units (range_with_len 0 parts));
      different = differ_in (λ (k : ℕ). k) (λ k. Unit {0}) (λ k u. window_at k) (λ k u. named_at k) (range_with_len 0 parts) (units (range_with_len 0 parts)) (range_differs 0 parts);
    }

    pub below_at : AllByRecursion (λ (d : Window State EventKind Row). d.part < parts) windows_at
    below_at =
        numbers_in (λ (k : ℕ). k) (λ k. Unit {0}) (λ k u. window_at k) (λ k u. named_at k) (λ n. n < parts) (range_with_len 0 parts) (units (range_with_len 0 parts)) (range_below 0 parts parts (omega arith))

    pub all_at : (part : ℕ) → part < parts → IncludesPart windows_at part
    all_at part low =
        included (λ (k : ℕ). k) (λ k. Unit {0}) (λ k u. window_at k) (λ k u. named_at k) (range_with_len 0 parts) (units (range_with_len 0 parts)) part (is_in_range 0 parts part (omega arith) (omega (arith, low)))
