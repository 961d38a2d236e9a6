-- The lines of all restarts, with one row more.
use Rattle.std.proofs.Common.{◌≡◌, ◌≢◌, ℕ, zero, suc, ◌+◌, ◌≤◌, ◌<◌, ◌^◌, Bool, true, false, cond, ◌&&◌, ◌||◌, ◌==◌, List, [], ◌∷◌, ◌++◌, Some, None, length, map, take, get_or, refl, sym, ap, subst, ◌∙◌, inl, inr, arith, append-nil, length-append}
use Rattle.std.specs.Prelude.{Result, Ok, Err, IfOk, Vec, if◌then◌else◌}
use Rattle.std.specs.Option.{option_map_or}
use Rattle.std.specs.declared.alloc.Global.{Global}
use Rattle.std.proofs.lemmas.Bool.{cases_eq, eq-eqb, ne_eqb, false≢true}
use Rattle.std.proofs.lemmas.List.{length-map, take_at, take-append-le}
use Rattle.std.proofs.lemmas.List.Folds.{list_any-append, list_any_more}
use Rattle.trace.specs.declared.row.What.TheVariants as what
use Rattle.trace.specs.declared.row.Row.{Row}
use Rattle.trace_rows.specs.Rows.{Placed, has_kind}
use Rattle.trace_rows.proofs.Places.{kept-push}
use Rattle.incidents.specs.declared.lines.Line.{Line}
use Rattle.incidents.specs.declared.lines.Lines.{Lines}
use Rattle.incidents.specs.Kept.{placed}
use Rattle.incidents.specs.Returns.{is_return, return_told, returns_in, returns_of}
use Rattle.incidents.specs.Lives.{ends}
use Rattle.incidents.specs.OpenPlaces.{places_in, places_of, is_among, ArePlaces}
use Rattle.incidents.specs.Lines.{and_later, whom, goes_on, IsLineOf, AreLinesAt, AreLinesOf, AreSeen, AreLeft}
use Rattle.incidents.proofs.Living.{line_over, line_apart, own_member, went_on, no_end_then}

-- ---- places of lists

pub same_default : {X : Type 0} (xs : List X) (i : ℕ) (d e : X) → i < length xs → get_or xs i d ≡ get_or xs i e
same_default [] i d e low = absurd (omega (arith, low))
same_default (x ∷ xs) zero d e low = refl
same_default (x ∷ xs) (suc i) d e low = same_default xs i d e (omega (arith, low))

get_before : {X : Type 0} (xs ys : List X) (k : ℕ) (d : X) → k < length xs → get_or (xs ++ ys) k d ≡ get_or xs k d
get_before [] ys k d low = absurd (omega (arith, low))
get_before (x ∷ xs) ys zero d low = refl
get_before (x ∷ xs) ys (suc k) d low = get_before xs ys k d (omega (arith, low))

get_last : {X : Type 0} (xs : List X) (x : X) (k : ℕ) (d : X) → k ≡ length xs → get_or (xs ++ x ∷ []) k d ≡ x
get_last [] x zero d is = refl
get_last [] x (suc k) d is = absurd (omega (arith, is))
get_last (y ∷ xs) x zero d is = absurd (omega (arith, is))
get_last (y ∷ xs) x (suc k) d is = get_last xs x k d (omega (arith, is))

get_mapped : (f : Placed → Placed) (ps : List Placed) (k : ℕ) (e : Placed) → k < length ps → get_or (map f ps) k e ≡ f (get_or ps k e)
get_mapped f [] k e low = absurd (omega (arith, low))
get_mapped f (p ∷ ps) zero e low = refl
get_mapped f (p ∷ ps) (suc k) e low = get_mapped f ps k e (omega (arith, low))

-- ---- places that are kept

pub none_more : (all : List (Vec ℕ Global)) (one : Vec ℕ Global) → one.items ≡ [] → ((m : ℕ) → places_in all m ≡ []) → (m : ℕ) → places_in (all ++ one ∷ []) m ≡ []
none_more [] one none were zero = none
none_more [] one none were (suc m) = refl
none_more (first ∷ all) one none were zero = were zero
none_more (first ∷ all) one none were (suc m) = none_more all one none (λ x. were (suc x)) m

places_none : (bound : ℕ) → ArePlaces bound []
places_none bound = record {
  low = λ i d here. absurd (omega (arith, here));
  apart = λ i d here. absurd (omega (arith, here));
}

places_wider : (bound more : ℕ) (places : List ℕ) → bound ≤ more → ArePlaces bound places → ArePlaces more places
places_wider bound more places wide are = record {
  low = λ i d here. let low = are.low i d here in omega (arith, low, wide);
  apart = are.apart;
}

-- a place past the bound isn't there
none_among : (k bound : ℕ) (places : List ℕ) → ((i d : ℕ) → i < length places → get_or places i d < bound) → bound ≤ k → is_among k places ≡ false
none_among k bound [] low past = refl
none_among k bound (q ∷ places) low past =
    let first : q < bound = low zero q (omega arith) in
    ap (λ b. b || is_among k places) (ne_eqb q k (λ is. absurd (omega (arith, first, past, is))))
    ∙ none_among k bound places (λ i d here. low (suc i) d (omega (arith, here))) past

-- the next place
places_more : (bound : ℕ) (places : List ℕ) → ArePlaces bound places → ArePlaces (bound + 1) (places ++ bound ∷ [])
places_more bound places are =
    let long : length (places ++ bound ∷ []) ≡ length places + 1 = length-append places (bound ∷ []) in
    record {
      low = λ i d here. elim (cases_eq i (length places)) [
        | inl last ↦ let is : get_or (places ++ bound ∷ []) i d ≡ bound = get_last places bound i d last in omega (arith, is)
        | inr other ↦
            let within : i < length places = omega (arith, here, long, other) in
            let is : get_or (places ++ bound ∷ []) i d ≡ get_or places i d = get_before places (bound ∷ []) i d within in
            let low = are.low i d within in
            omega (arith, is, low)
      ];
      apart = λ i d here. elim (cases_eq i (length places)) [
        | inl last ↦
            ap (λ q. is_among q (take i (places ++ bound ∷ []))) (get_last places bound i d last)
            ∙ ap (is_among bound) (take_at places (bound ∷ []) i (sym last))
            ∙ none_among bound bound places are.low (omega arith)
        | inr other ↦
            let within : i < length places = omega (arith, here, long, other) in
            ap (λ q. is_among q (take i (places ++ bound ∷ []))) (get_before places (bound ∷ []) i d within)
            ∙ ap (is_among (get_or places i d)) (take-append-le i places (bound ∷ []) (omega (arith, within)))
            ∙ are.apart i d within
      ];
    }

or-true : (b : Bool) → (b || true) ≡ true
or-true true = refl
or-true false = refl

among_more : (k q : ℕ) (places : List ℕ) → is_among k places ≡ true → is_among k (places ++ q ∷ []) ≡ true
among_more k q places is = list_any-append (λ place. place == k) places (q ∷ []) ∙ ap (λ b. b || ((q == k) || false)) is

among_last : (k : ℕ) (places : List ℕ) → is_among k (places ++ k ∷ []) ≡ true
among_last k places =
    list_any-append (λ place. place == k) places (k ∷ []) ∙ ap (λ b. is_among k places || (b || false)) (eq-eqb k k refl) ∙ or-true (is_among k places)

-- ---- a loop over places

or-first : (a b : Bool) → (a || b) ≡ false → a ≡ false
or-first false b none = refl
or-first true b none = none

or-rest : (a b : Bool) → (a || b) ≡ false → b ≡ false
or-rest false b none = none
or-rest true b none = absurd (false≢true (sym none))

or_left : (a b : Bool) → (a || b) ≡ true → b ≡ false → a ≡ true
or_left true b some none = refl
or_left false b some none = absurd (false≢true (sym none ∙ some))

pub seen_more : (row : Row) (these now new : List Line) (places : List ℕ) (i q : ℕ) → q ≡ get_or places i 0 → i < length places → is_among q (take i places) ≡ false
    → AreSeen row these now (take i places) → AreLeft these now (take i places)
    → ((count : ℕ) (p : Placed) (d : Line) → count ≤ 2 ^ 16 → row.member < count → IsLineOf count (get_or now q d) p → IsLineOf count (get_or new q d) (and_later row p))
    → ((k : ℕ) (d : Line) → k ≢ q → get_or new k d ≡ get_or now k d)
    → AreSeen row these new (take (i + 1) places)
seen_more row these now new places i q is here apart seen left sees others count p k d few low within among line =
    let split : (is_among k (take i places) || (get_or places i 0 == k)) ≡ true = sym (list_any_more (λ place. place == k) places i 0 here) ∙ among in
    elim (cases_eq k q) [
      | inl same ↦
          let before : IsLineOf count (get_or now q d) p = subst (λ l. IsLineOf count l p) (ap (λ n. get_or these n d) same ∙ sym (left q d apart)) line in
          subst (λ n. IsLineOf count (get_or new n d) (and_later row p)) (sym same) (sees count p d few low before)
      | inr other ↦
          let earlier : is_among k (take i places) ≡ true = or_left _ _ split (ne_eqb (get_or places i 0) k (λ at. other (sym (is ∙ at)))) in
          subst (λ l. IsLineOf count l (and_later row p)) (sym (others k d other)) (seen count p k d few low within earlier line)
    ]

pub left_more : (these now new : List Line) (places : List ℕ) (i q : ℕ) → q ≡ get_or places i 0 → i < length places → AreLeft these now (take i places)
    → ((k : ℕ) (d : Line) → k ≢ q → get_or new k d ≡ get_or now k d)
    → AreLeft these new (take (i + 1) places)
left_more these now new places i q is here left others k d none =
    let split : (is_among k (take i places) || (get_or places i 0 == k)) ≡ false = sym (list_any_more (λ place. place == k) places i 0 here) ∙ none in
    others k d (λ same. false≢true (sym (or-rest _ _ split) ∙ eq-eqb (get_or places i 0) k (sym is ∙ sym same)))
    ∙ left k d (or-first _ _ split)

-- ---- all lines

pub no_lines : (lines : Lines) (count : ℕ) → lines.lines.items ≡ [] → ((m : ℕ) → places_of lines.open_places m ≡ []) → length lines.open_places.of_members.items ≡ count → AreLinesOf lines count []
no_lines lines count empty none room =
    let long : length lines.lines.items ≡ 0 = ap length empty in
    record {
      long = long;
      each = λ k d e here. absurd (omega (arith, here, long));
      room = room;
      places = λ m. subst (ArePlaces (length lines.lines.items)) (sym (none m)) (places_none (length lines.lines.items));
      listed = λ k d here _. absurd (omega (arith, here, long));
    }

-- the same of as many members
pub of_as_many : (lines : Lines) (some count : ℕ) → AreLinesOf lines some [] → some ≡ count → AreLinesOf lines count []
of_as_many lines some count are is = subst (λ n. AreLinesOf lines n []) is are

returns-push : (rows : List Row) (row : Row) → returns_in (rows ++ row ∷ []) ≡ map (and_later row) (returns_in rows) ++ cond (has_kind what.Restart row) (placed rows row ∷ []) []
returns-push rows row = kept-push is_return rows row (λ p. refl)

-- a row that is no restart
pub lines_kept : (lines : Lines) (count : ℕ) (rows : List Row) (row : Row) → has_kind what.Restart row ≡ false → AreLinesAt lines count (map (and_later row) (returns_in rows)) → AreLinesOf lines count (rows ++ row ∷ [])
lines_kept lines count rows row none are =
    let is : returns_in (rows ++ row ∷ []) ≡ map (and_later row) (returns_in rows) =
    returns-push rows row ∙ ap (λ b. map (and_later row) (returns_in rows) ++ cond b (placed rows row ∷ []) []) none ∙ append-nil _ in
    subst (AreLinesAt lines count) (sym is) are

-- a restart
pub lines_with : (lines : Lines) (count : ℕ) (rows : List Row) (row : Row) → has_kind what.Restart row ≡ true
    → AreLinesAt lines count (map (and_later row) (returns_in rows) ++ placed rows row ∷ []) → AreLinesOf lines count (rows ++ row ∷ [])
lines_with lines count rows row restarts are =
    let is : returns_in (rows ++ row ∷ []) ≡ map (and_later row) (returns_in rows) ++ placed rows row ∷ [] =
    returns-push rows row ∙ ap (λ b. map (and_later row) (returns_in rows) ++ cond b (placed rows row ∷ []) []) restarts in
    subst (AreLinesAt lines count) (sym is) are

-- ---- a row more

-- one that tells nothing of anybody's
pub lines_silent : (lines : Lines) (count : ℕ) (returns : List Placed) (row : Row) → whom row ≡ None → AreLinesAt lines count returns → AreLinesAt lines count (map (and_later row) returns)
lines_silent lines count returns row none are =
    record {
      long = are.long ∙ sym (length-map returns (and_later row));
      each = λ k d e here.
          let there : k < length returns = omega (arith, here, are.long) in
          let p = get_or returns k e in
          subst (IsLineOf count (get_or lines.lines.items k d)) (sym (get_mapped (and_later row) returns k e there))
          (line_apart count (get_or lines.lines.items k d) p row (ap (λ o. option_map_or (λ (m : ℕ). m == p.row.member) o false) none) (are.each k d e here));
      room = are.room;
      places = are.places;
      listed = are.listed;
    }

-- a line that isn't among those of the member of which the row tells
unseen : (goes : Bool) (count : ℕ) (line : Line) (p : Placed) (row : Row) (m : ℕ) → line.is_open ≡ goes → whom row ≡ Some m → (line.is_open ≡ true → m ≡ line.told.member → ⊥)
    → IsLineOf count line p → IsLineOf count line (and_later row p)
unseen false count line p row m is_open whose other is = line_over count line p row is_open is
unseen true count line p row m is_open whose other is =
    let own : line.told.member ≡ p.row.member = own_member count line p is in
    line_apart count line p row (ap (λ o. option_map_or (λ (k : ℕ). k == p.row.member) o false) whose ∙ ne_eqb m p.row.member (λ same. other is_open (same ∙ sym own))) is

either_seen : (among : Bool) (old : Lines) (now : List Line) (count : ℕ) (row : Row) (m k : ℕ) (d : Line) (p : Placed) → is_among k (places_of old.open_places m) ≡ among
    → count ≤ 2 ^ 16 → row.member < count → whom row ≡ Some m → k < length old.lines.items
    → ((get_or old.lines.items k d).is_open ≡ true → is_among k (places_of old.open_places (get_or old.lines.items k d).told.member) ≡ true)
    → AreSeen row old.lines.items now (places_of old.open_places m) → AreLeft old.lines.items now (places_of old.open_places m)
    → IsLineOf count (get_or old.lines.items k d) p → IsLineOf count (get_or now k d) (and_later row p)
either_seen true old now count row m k d p among few low whose within listed seen left is = seen count p k d few low within among is
either_seen false old now count row m k d p among few low whose within listed seen left is =
    let line = get_or old.lines.items k d in
    subst (λ l. IsLineOf count l (and_later row p)) (sym (left k d among))
    (unseen line.is_open count line p row m refl whose
    (λ is_open same. false≢true (sym among ∙ ap (λ x. is_among k (places_of old.open_places x)) same ∙ listed is_open)) is)

closed_or : (b : Bool) (n : ℕ) (places : List ℕ) → ArePlaces n places → ArePlaces n (if b then [] else places)
closed_or true n places are = places_none n
closed_or false n places are = are

and_swap : (a b : Bool) → (a && b) ≡ false → (b && a) ≡ false
and_swap true true none = none
and_swap true false none = refl
and_swap false true none = refl
and_swap false false none = refl

-- one that tells something of a member's
pub lines_seen : (old new : Lines) (count : ℕ) (returns : List Placed) (row : Row) (m : ℕ) → count ≤ 2 ^ 16 → row.member < count → whom row ≡ Some m → AreLinesAt old count returns
    → length new.lines.items ≡ length old.lines.items
    → AreSeen row old.lines.items new.lines.items (places_of old.open_places m)
    → AreLeft old.lines.items new.lines.items (places_of old.open_places m)
    → length new.open_places.of_members.items ≡ length old.open_places.of_members.items
    → ((k : ℕ) → places_of new.open_places k ≡ (if ends row && (row.member == k) then [] else places_of old.open_places k))
    → AreLinesAt new count (map (and_later row) returns)
lines_seen old new count returns row m few low whose are long seen left room closed =
    let line : (k : ℕ) (d : Line) (e : Placed) → k < length old.lines.items → IsLineOf count (get_or new.lines.items k d) (and_later row (get_or returns k e)) =
    λ k d e within. either_seen (is_among k (places_of old.open_places m)) old new.lines.items count row m k d (get_or returns k e) refl few low whose within (are.listed k d within) seen left (are.each k d e within) in
    record {
      long = long ∙ are.long ∙ sym (length-map returns (and_later row));
      each = λ k d e here.
          let within : k < length old.lines.items = omega (arith, here, long) in
          let there : k < length returns = omega (arith, within, are.long) in
          subst (IsLineOf count (get_or new.lines.items k d)) (sym (get_mapped (and_later row) returns k e there)) (line k d e within);
      room = room ∙ are.room;
      places = λ k.
          subst (ArePlaces (length new.lines.items)) (sym (closed k))
          (closed_or (ends row && (row.member == k)) (length new.lines.items) (places_of old.open_places k)
          (subst (λ n. ArePlaces n (places_of old.open_places k)) (sym long) (are.places k)));
      listed = λ k d here is_open.
          let within : k < length old.lines.items = omega (arith, here, long) in
          let e = placed [] row in
          let p = get_or returns k e in
          let was : IsLineOf count (get_or old.lines.items k d) p = are.each k d e within in
          let now : IsLineOf count (get_or new.lines.items k d) (and_later row p) = line k d e within in
          let on : goes_on (and_later row p) ≡ true = sym now.lives ∙ is_open in
          let q = p.row.member in
          let lasts : (ends row && (row.member == q)) ≡ false = and_swap (row.member == q) (ends row) (no_end_then p row on) in
          ap (λ x. is_among k (places_of new.open_places x)) (own_member count (get_or new.lines.items k d) (and_later row p) now)
          ∙ ap (is_among k) (closed q ∙ ap (λ b. if b then [] else places_of old.open_places q) lasts)
          ∙ sym (ap (λ x. is_among k (places_of old.open_places x)) (own_member count (get_or old.lines.items k d) p was))
          ∙ are.listed k d within (was.lives ∙ went_on p row on);
    }

more_or_wider : (b : Bool) (n : ℕ) (places : List ℕ) → ArePlaces n places → ArePlaces (n + 1) (if b then places ++ n ∷ [] else places)
more_or_wider true n places are = places_more n places are
more_or_wider false n places are = places_wider n (n + 1) places (omega arith) are

still_among : (b : Bool) (k n : ℕ) (places : List ℕ) → is_among k places ≡ true → is_among k (if b then places ++ n ∷ [] else places) ≡ true
still_among true k n places is = among_more k n places is
still_among false k n places is = is

-- one return more
pub lines_added : (old new : Lines) (line : Line) (count : ℕ) (returns : List Placed) (p : Placed) → AreLinesAt old count returns → IsLineOf count line p
    → new.lines.items ≡ old.lines.items ++ line ∷ []
    → length new.open_places.of_members.items ≡ length old.open_places.of_members.items
    → ((m : ℕ) → places_of new.open_places m ≡ (if p.row.member == m then places_of old.open_places m ++ length old.lines.items ∷ [] else places_of old.open_places m))
    → AreLinesAt new count (returns ++ p ∷ [])
lines_added old new line count returns p are first added room now =
    let n = length old.lines.items in
    let q = p.row.member in
    let more : length new.lines.items ≡ n + 1 = ap length added ∙ length-append old.lines.items (line ∷ []) in
    let too : length (returns ++ p ∷ []) ≡ length returns + 1 = length-append returns (p ∷ []) in
    record {
      long = omega (arith, more, too, are.long);
      each = λ k d e here. elim (cases_eq k n) [
        | inl last ↦
            let new_line : line ≡ get_or new.lines.items k d = sym (ap (λ l. get_or l k d) added ∙ get_last old.lines.items line k d last) in
            let new_place : p ≡ get_or (returns ++ p ∷ []) k e = sym (get_last returns p k e (omega (arith, last, are.long))) in
            subst (λ l. IsLineOf count l (get_or (returns ++ p ∷ []) k e)) new_line (subst (IsLineOf count line) new_place first)
        | inr other ↦
            let within : k < n = omega (arith, here, more, other) in
            let old_line : get_or old.lines.items k d ≡ get_or new.lines.items k d = sym (ap (λ l. get_or l k d) added ∙ get_before old.lines.items (line ∷ []) k d within) in
            let old_place : get_or returns k e ≡ get_or (returns ++ p ∷ []) k e = sym (get_before returns (p ∷ []) k e (omega (arith, within, are.long))) in
            subst (λ l. IsLineOf count l (get_or (returns ++ p ∷ []) k e)) old_line (subst (IsLineOf count (get_or old.lines.items k d)) old_place (are.each k d e within))
      ];
      room = room ∙ are.room;
      places = λ m.
          subst (ArePlaces (length new.lines.items)) (sym (now m))
          (subst (λ b. ArePlaces b (if q == m then places_of old.open_places m ++ n ∷ [] else places_of old.open_places m)) (sym more)
          (more_or_wider (q == m) n (places_of old.open_places m) (are.places m)));
      listed = λ k d here is_open. elim (cases_eq k n) [
        | inl last ↦
            ap (λ (l : Line). is_among k (places_of new.open_places l.told.member)) (ap (λ l. get_or l k d) added ∙ get_last old.lines.items line k d last)
            ∙ ap (λ x. is_among k (places_of new.open_places x)) (own_member count line p first)
            ∙ ap (is_among k) (now q ∙ ap (λ b. if b then places_of old.open_places q ++ n ∷ [] else places_of old.open_places q) (eq-eqb q q refl))
            ∙ ap (λ x. is_among k (places_of old.open_places q ++ x ∷ [])) (sym last)
            ∙ among_last k (places_of old.open_places q)
        | inr other ↦
            let within : k < n = omega (arith, here, more, other) in
            let before = get_or old.lines.items k d in
            let same : get_or new.lines.items k d ≡ before = ap (λ l. get_or l k d) added ∙ get_before old.lines.items (line ∷ []) k d within in
            let there : is_among k (places_of old.open_places before.told.member) ≡ true = are.listed k d within (ap (λ (l : Line). l.is_open) (sym same) ∙ is_open) in
            ap (λ (l : Line). is_among k (places_of new.open_places l.told.member)) same
            ∙ ap (is_among k) (now before.told.member)
            ∙ still_among (q == before.told.member) k n (places_of old.open_places before.told.member) there
      ];
    }

told_each : (count : ℕ) (lines : List Line) (ps : List Placed) → length lines ≡ length ps
    → ((k : ℕ) (d : Line) (e : Placed) → k < length lines → IsLineOf count (get_or lines k d) (get_or ps k e)) → map (λ (l : Line). l.told) lines ≡ map (return_told count) ps
told_each count [] [] long each = refl
told_each count [] (p ∷ ps) long each = absurd (omega (arith, long))
told_each count (line ∷ lines) [] long each = absurd (omega (arith, long))
told_each count (line ∷ lines) (p ∷ ps) long each =
    let first : line.told ≡ return_told count p = (each zero line p (omega arith)).told in
    let rest = told_each count lines ps (omega (arith, long)) (λ k d e low. each (suc k) d e (omega (arith, low))) in
    ap (λ t. t ∷ map (λ (l : Line). l.told) lines) first ∙ ap (λ l. return_told count p ∷ l) rest

pub told_of_lines : (lines : Lines) (count : ℕ) (rows : List Row) → AreLinesOf lines count rows → map (λ (l : Line). l.told) lines.lines.items ≡ returns_of count rows
told_of_lines lines count rows are = told_each count lines.lines.items (returns_in rows) are.long are.each

pub if_ok_more : {A E : Type 0} (r : Result A E) {P Q : A → Type 0} → ((x : A) → P x → Q x) → IfOk r P → IfOk r Q
if_ok_more (Ok x) f held = f x held
if_ok_more (Err e) f held = tt
