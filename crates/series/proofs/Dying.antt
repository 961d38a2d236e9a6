-- What one row more makes of what is known of deaths.
use Rattle.std.proofs.Common.{◌≡◌, ℕ, zero, suc, ◌+◌, ◌<◌, ◌≤◌, Bool, true, false, cond, ◌&&◌, ◌||◌, ◌==◌, not, List, [], ◌∷◌, ◌++◌, length, map, Option, Some, None, refl, sym, ap, subst, ◌∙◌, arith, append-nil, append_assoc, length-append, true≢false, add-zero}
use Rattle.std.specs.Prelude.{filter, count_by, if◌then◌else◌, nat_le, nat_lt, nat_eq, take, replicate, slice_get, slice_set, slice_index_or}
use Rattle.std.proofs.lemmas.List.{length-map, length-set, length-replicate, get_or-replicate, get_or-set_same, get_or-set_other}
use Rattle.std.proofs.lemmas.List.Sums.{length-filter, count_by-le-length, fold-append}
use Rattle.std.proofs.lemmas.Option.{slice_get-get_or, slice_get_read, slice_get_within, get_or_from_slice_get}
use Rattle.std.proofs.Math.Seq.{get_or-append_seam, take-nil}
use Rattle.std.specs.Option.{option_map_or, is_some}
use Rattle.std.specs.List.{last_or, list_any}
use Rattle.trace.specs.declared.row.What.{What}
use Rattle.trace.specs.declared.row.What.TheVariants as what
use Rattle.trace.specs.declared.row.Row.{Row}
use Rattle.reports.specs.Rows.{placed_after, rows_in_place, has_kind, is_about, tells_of}
use Rattle.reports.proofs.Returning.{length-placed}
use Rattle.reports.proofs.Detections.{tells_of-it, tells_of-other}
use Rattle.series.specs.declared.lines.TraceLine.{TraceLine}
use Rattle.series.specs.declared.accusers.ProbeStory.{ProbeStory}
use Rattle.series.specs.declared.accusers.Accusation.{Accusation}
use Rattle.series.specs.declared.answers.Answers.{Answers}
use Rattle.series.specs.declared.standing.Refutation.{Refutation}
use Rattle.series.specs.declared.standing.Standing.{Standing}
use Rattle.series.specs.declared.deaths.Death.{Death}
use Rattle.series.specs.Accusers.{AreAccusers}
use Rattle.series.specs.Lines.{line_at}
use Rattle.series.specs.Deaths.{Reached, reached_at, reached, since, refutation_told, last_refutation, hears, hears_of, times_heard, begins_probe, probe_told, last_probe, answers_of, last_fail, reaches, is_new, is_line_of, accuses, accusation_told, accusations, begins_death, deaths_of, gone_by, gone_with, is_gone, IsGreatest, IsStandingOf, IsDeathOf, IsToldOf, AreToldOf, AreGoneOf, AreProbesOf}
use Rattle.series.proofs.Telling.{last_line-push, lines_other, count-push}
use denote.Enum.Bare.{sameb}
use Rattle.trace.specs.contracts.row.What.{the_type}

abbrev pub met : List Row → Row → Reached
met earlier row = record { earlier = earlier; row = row }

abbrev pub refutation : TraceLine → ℕ → Refutation
refutation line number = record { line = line; number = number }

abbrev pub charge : TraceLine → Option ProbeStory → Answers → Accusation
charge claim probe answers = record { claim = claim; probe = probe; answers = answers }

-- ---- lists

-- some of a list with one more pass a test
pub any-push : {X : Type 0} (test : X → Bool) (xs : List X) (x : X) → list_any test (xs ++ x ∷ []) ≡ (list_any test xs || test x)
any-push test [] x = last (test x)
  where
    last : (t : Bool) → (t || false) ≡ (false || t)
    last true = refl
    last false = refl
any-push test (y ∷ ys) x = ap (λ t. test y || t) (any-push test ys x) ∙ turned (test y) (list_any test ys) (test x)
  where
    turned : (a b c : Bool) → (a || (b || c)) ≡ ((a || b) || c)
    turned true b c = refl
    turned false b c = refl

pub filter-push : {X : Type 0} (test : X → Bool) (xs : List X) (x : X) → filter test (xs ++ x ∷ []) ≡ filter test xs ++ (if test x then x ∷ [] else [])
filter-push test [] x = here (test x)
  where
    here : (t : Bool) → cond t (x ∷ []) [] ≡ (if t then x ∷ [] else [])
    here true = refl
    here false = refl
filter-push {X = X} test (y ∷ ys) x = kept (test y) (filter test (ys ++ x ∷ [])) (filter test ys) (if test x then x ∷ [] else []) (filter-push test ys x)
  where
    kept : (t : Bool) (now old more : List X) → now ≡ old ++ more → cond t (y ∷ now) now ≡ cond t (y ∷ old) old ++ more
    kept true now old more is = ap (λ l. y ∷ l) is
    kept false now old more is = is

pub map-push : {X Y : Type 0} (f : X → Y) (xs more : List X) → map f (xs ++ more) ≡ map f xs ++ map f more
map-push f [] more = refl
map-push f (x ∷ xs) more = ap (λ l. f x ∷ l) (map-push f xs more)

pub map-if : {X Y : Type 0} (f : X → Y) (t : Bool) (x : X) → map f (if t then x ∷ [] else []) ≡ (if t then f x ∷ [] else [])
map-if f true x = refl
map-if f false x = refl

last-push : {X : Type 0} (o : Option X) (xs : List X) (x : X) → last_or o (xs ++ x ∷ []) ≡ Some x
last-push o [] x = refl
last-push o (y ∷ ys) x = last-push (Some y) ys x

pub last-if : {X : Type 0} (xs : List X) (t : Bool) (x : X) → last_or None (xs ++ (if t then x ∷ [] else [])) ≡ (if t then Some x else last_or None xs)
last-if xs true x = last-push None xs x
last-if xs false x = ap (last_or None) (append-nil xs)

pub since-push : {X : Type 0} (test : X → Bool) (xs : List X) (x : X) → since test (xs ++ x ∷ []) ≡ (if test x then [] else since test xs) ++ x ∷ []
since-push test [] x = here (test x)
  where
    here : (t : Bool) → x ∷ [] ≡ (if t then [] else []) ++ x ∷ []
    here true = refl
    here false = refl
since-push {X = X} test (y ∷ ys) x =
    ap (λ t. if t then since test (ys ++ x ∷ []) else y ∷ (ys ++ x ∷ [])) (any-push test ys x)
    ∙ by (list_any test ys) (test x) (since test (ys ++ x ∷ [])) (since test ys) (since-push test ys x)
  where
    by : (a t : Bool) (now old : List X) → now ≡ (if t then [] else old) ++ x ∷ []
        → (if a || t then now else y ∷ (ys ++ x ∷ [])) ≡ (if t then [] else (if a then old else y ∷ ys)) ++ x ∷ []
    by true true now old is = is
    by true false now old is = is
    by false true now old is = is
    by false false now old is = refl

-- ---- rows, each with those before it

placed-push : (earlier rows : List Row) (row : Row) → map reached_at (placed_after earlier (rows ++ row ∷ [])) ≡ map reached_at (placed_after earlier rows) ++ record { earlier = earlier ++ rows; row = row } ∷ []
placed-push earlier [] row = ap (λ l. met l row ∷ []) (sym (append-nil earlier))
placed-push earlier (first ∷ rows) row =
    ap (λ l. met earlier first ∷ l)
    (placed-push (earlier ++ first ∷ []) rows row
    ∙ ap (λ l. map reached_at (placed_after (earlier ++ first ∷ []) rows) ++ met l row ∷ []) (append_assoc earlier (first ∷ []) rows))

pub reached-push : (rows : List Row) (row : Row) → reached (rows ++ row ∷ []) ≡ reached rows ++ record { earlier = rows; row = row } ∷ []
reached-push rows row = placed-push [] rows row

-- ---- probes

pub probe-push : (member : ℕ) (rows : List Row) (row : Row) → last_probe member (rows ++ row ∷ []) ≡ (if begins_probe member row then Some (record { ping = line_at (length rows + 2) row; lost = row.lost; target = row.about; sequence = row.value }) else last_probe member rows)
probe-push member rows row =
    let test : Reached → Bool = λ r. begins_probe member r.row in
    ap (λ l. last_or None (map probe_told (filter test l))) (reached-push rows row)
    ∙ ap (λ l. last_or None (map probe_told l)) (filter-push test (reached rows) (record { earlier = rows; row = row }))
    ∙ ap (last_or None) (map-push probe_told (filter test (reached rows)) (if begins_probe member row then record { earlier = rows; row = row } ∷ [] else [])
    ∙ ap (λ l. map probe_told (filter test (reached rows)) ++ l) (map-if probe_told (begins_probe member row) (record { earlier = rows; row = row })))
    ∙ last-if (map probe_told (filter test (reached rows))) (begins_probe member row) (record { ping = line_at (length rows + 2) row; lost = row.lost; target = row.about; sequence = row.value })

-- ---- suspicions

or-greater : (n a b : ℕ) → nat_le a b ≡ true → nat_le n b ≡ (nat_le n b || nat_le n a)
or-greater n a b low = grind (arith, low)

or-less : (n a b : ℕ) → nat_le a b ≡ false → nat_le n a ≡ (nat_le n b || nat_le n a)
or-less n a b low = grind (arith, low)

or-no : (b : Bool) → b ≡ (b || false)
or-no true = refl
or-no false = refl

greatest-one : (n value : ℕ) (greatest : Option ℕ) (kind : Bool)
    → option_map_or (nat_le n) (if kind && not (option_map_or (nat_le value) greatest false) then Some value else greatest) false
    ≡ (option_map_or (nat_le n) greatest false || (kind && nat_le n value))
greatest-one n value None true = refl
greatest-one n value None false = refl
greatest-one n value (Some most) false = or-no (nat_le n most)
greatest-one n value (Some most) true = by (nat_le value most) refl
  where
    by : (t : Bool) → nat_le value most ≡ t → option_map_or (nat_le n) (if true && not t then Some value else Some most) false ≡ (nat_le n most || (true && nat_le n value))
    by true low = or-greater n value most low
    by false low = or-less n value most low

-- the greatest number of rows of a kind about a subject, with one row more about it
pub greatest-push : (kind : What) (subject : ℕ) (rows : List Row) (row : Row) (old new : Option ℕ) → is_about subject row ≡ true → IsGreatest kind subject old rows
    → new ≡ (if has_kind kind row && not (option_map_or (nat_le row.value) old false) then Some row.value else old) → IsGreatest kind subject new (rows ++ row ∷ [])
greatest-push kind subject rows row old new about was is n =
    any-push (reaches kind subject n) rows row
    ∙ ap (λ t. t || reaches kind subject n row) (was n)
    ∙ ap (λ t. option_map_or (nat_le n) old false || (t && nat_le n row.value)) (tells_of-it kind subject row about)
    ∙ sym (ap (λ o. option_map_or (nat_le n) o false) is ∙ greatest-one n row.value old (has_kind kind row))

pub greatest_other : (kind : What) (subject : ℕ) (rows : List Row) (row : Row) (greatest : Option ℕ) → is_about subject row ≡ false → IsGreatest kind subject greatest rows
    → IsGreatest kind subject greatest (rows ++ row ∷ [])
greatest_other kind subject rows row greatest other was n =
    any-push (reaches kind subject n) rows row
    ∙ ap (λ t. list_any (reaches kind subject n) rows || (t && nat_le n row.value)) (tells_of-other kind subject row other)
    ∙ sym (or-no (list_any (reaches kind subject n) rows)) ∙ was n

-- a row about the subject is of a kind with a number that is new
pub new-is : (kind : What) (subject : ℕ) (rows : List Row) (row : Row) (greatest : Option ℕ) → is_about subject row ≡ true → IsGreatest kind subject greatest rows
    → is_new kind subject (record { earlier = rows; row = row }) ≡ (has_kind kind row && not (option_map_or (nat_le row.value) greatest false))
new-is kind subject rows row greatest about was =
    ap (λ t. t && not (list_any (reaches kind subject row.value) rows)) (tells_of-it kind subject row about)
    ∙ ap (λ t. has_kind kind row && not t) (was row.value)

-- ---- accusations

pub accusations-push : (subject : ℕ) (rows : List Row) (row : Row) → accusations subject (rows ++ row ∷ [])
    ≡ (if is_new what.Suspect subject (record { earlier = rows; row = row }) then [] else accusations subject rows)
    ++ (if accuses subject (record { earlier = rows; row = row }) then accusation_told (record { earlier = rows; row = row }) ∷ [] else [])
accusations-push subject rows row =
    let r : Reached = record { earlier = rows; row = row } in
    let anew = is_new what.Suspect subject r in
    let before = since (is_new what.Suspect subject) (reached rows) in
    ap (λ l. map accusation_told (filter (accuses subject) (since (is_new what.Suspect subject) l))) (reached-push rows row)
    ∙ ap (λ l. map accusation_told (filter (accuses subject) l)) (since-push (is_new what.Suspect subject) (reached rows) r)
    ∙ ap (map accusation_told) (filter-push (accuses subject) (if anew then [] else before) r)
    ∙ map-push accusation_told (filter (accuses subject) (if anew then [] else before)) (if accuses subject r then r ∷ [] else [])
    ∙ ap (λ l. map accusation_told (filter (accuses subject) (if anew then [] else before)) ++ l) (map-if accusation_told (accuses subject r) r)
    ∙ ap (λ l. l ++ (if accuses subject r then accusation_told r ∷ [] else [])) (none anew before)
  where
    none : (t : Bool) (l : List Reached) → map accusation_told (filter (accuses subject) (if t then [] else l)) ≡ (if t then [] else map accusation_told (filter (accuses subject) l))
    none true l = refl
    none false l = refl

-- ---- refutations

pub refuted-push : (subject : ℕ) (rows : List Row) (row : Row) → last_refutation subject (rows ++ row ∷ [])
    ≡ (if tells_of what.Refute subject row then Some (record { line = line_at (length rows + 2) row; number = row.value }) else last_refutation subject rows)
refuted-push subject rows row =
    let test : Reached → Bool = λ r. tells_of what.Refute subject r.row in
    ap (λ l. last_or None (map refutation_told (filter test l))) (reached-push rows row)
    ∙ ap (λ l. last_or None (map refutation_told l)) (filter-push test (reached rows) (met rows row))
    ∙ ap (last_or None) (map-push refutation_told (filter test (reached rows)) (if tells_of what.Refute subject row then met rows row ∷ [] else [])
    ∙ ap (λ l. map refutation_told (filter test (reached rows)) ++ l) (map-if refutation_told (tells_of what.Refute subject row) (met rows row)))
    ∙ last-if (map refutation_told (filter test (reached rows))) (tells_of what.Refute subject row) (record { line = line_at (length rows + 2) row; number = row.value })

-- a refutation takes nobody for alive
no_hearing : (last : Option Refutation) (row : Row) → has_kind what.Refute row ≡ true → hears last row ≡ false
no_hearing None row is = refl
no_hearing (Some refutation) row is = ap (λ t. t && nat_le refutation.number row.value) (other_kind row.what is)
  where
    other_kind : (kind : What) → sameb the_type kind what.Refute ≡ true → sameb the_type kind what.Alive ≡ false
    other_kind what.Start h = refl
    other_kind what.Crash h = refl
    other_kind what.Joined h = refl
    other_kind what.Join h = refl
    other_kind what.Welcome h = refl
    other_kind what.Ping h = refl
    other_kind what.PingReq h = refl
    other_kind what.Ack h = refl
    other_kind what.Nack h = refl
    other_kind what.Fail h = refl
    other_kind what.Health h = refl
    other_kind what.Alive h = sym h
    other_kind what.Suspect h = refl
    other_kind what.Confirm h = refl
    other_kind what.Accuse h = refl
    other_kind what.Refute h = refl
    other_kind what.Dead h = refl
    other_kind what.Leave h = refl
    other_kind what.Bye h = refl
    other_kind what.Gossip h = refl
    other_kind what.Call h = refl
    other_kind what.Answer h = refl
    other_kind what.Push h = refl
    other_kind what.Pull h = refl
    other_kind what.Restart h = refl
    other_kind what.Exit h = refl
    other_kind what.Left h = refl
    other_kind what.Forget h = refl
    other_kind what.Reconnect h = refl

heard_more : (subject : ℕ) (rows : List Row) (row : Row) → times_heard subject (rows ++ row ∷ [])
    ≡ count_by (hears_of subject) (if tells_of what.Refute subject row then [] else since (λ r. tells_of what.Refute subject r.row) (reached rows)) + cond (hears_of subject (met rows row)) 1 0
heard_more subject rows row =
    let test : Reached → Bool = λ r. tells_of what.Refute subject r.row in
    ap (λ l. count_by (hears_of subject) (since test l)) (reached-push rows row)
    ∙ ap (count_by (hears_of subject)) (since-push test (reached rows) (met rows row))
    ∙ count-push (hears_of subject) (if tells_of what.Refute subject row then [] else since test (reached rows)) (met rows row)

and_true : (b : Bool) → (b && true) ≡ b
and_true true = refl
and_true false = refl

and_false : (b : Bool) → (b && false) ≡ false
and_false true = refl
and_false false = refl

pub heard-push : (subject : ℕ) (rows : List Row) (row : Row) → is_about subject row ≡ true
    → times_heard subject (rows ++ row ∷ []) ≡ (if has_kind what.Refute row then 0 else (times_heard subject rows + cond (hears (last_refutation subject rows) row) 1 0))
heard-push subject rows row about =
    heard_more subject rows row
    ∙ ap (λ t. count_by (hears_of subject) (if t then [] else since (λ r. tells_of what.Refute subject r.row) (reached rows)) + cond (hears_of subject (met rows row)) 1 0) (tells_of-it what.Refute subject row about)
    ∙ ap (λ t. count_by (hears_of subject) (if has_kind what.Refute row then [] else since (λ r. tells_of what.Refute subject r.row) (reached rows)) + cond t 1 0) (ap (λ t. hears (last_refutation subject rows) row && t) about ∙ and_true (hears (last_refutation subject rows) row))
    ∙ by (has_kind what.Refute row) refl
  where
    by : (t : Bool) → has_kind what.Refute row ≡ t
        → count_by (hears_of subject) (if t then [] else since (λ r. tells_of what.Refute subject r.row) (reached rows)) + cond (hears (last_refutation subject rows) row) 1 0
        ≡ (if t then 0 else (times_heard subject rows + cond (hears (last_refutation subject rows) row) 1 0))
    by true is = ap (λ h. 0 + cond h 1 0) (no_hearing (last_refutation subject rows) row is)
    by false is = refl

-- ---- what is known of a member

-- with one row more about it
pub stands : (subject number : ℕ) (old new : Standing) (probe : Option ProbeStory) (answers : Answers) (anew charges : Bool) (claim : TraceLine) (rows : List Row) (row : Row)
    → is_about subject row ≡ true → number ≡ length rows + 2 → probe ≡ last_probe row.member rows → answers ≡ answers_of row.member rows
    → IsStandingOf subject old rows
    → anew ≡ (has_kind what.Suspect row && not (option_map_or (nat_le row.value) old.suspected false))
    → charges ≡ ((has_kind what.Suspect row || has_kind what.Accuse row) && option_map_or (is_line_of row.member row.at) old.failed false)
    → claim ≡ line_at number row
    → ((list : List Accusation) → AreAccusers old.accusers list → AreAccusers new.accusers ((if anew then [] else list) ++ (if charges then charge claim probe answers ∷ [] else [])))
    → new.suspected ≡ (if has_kind what.Suspect row && not (option_map_or (nat_le row.value) old.suspected false) then Some row.value else old.suspected)
    → new.declared ≡ (if has_kind what.Confirm row && not (option_map_or (nat_le row.value) old.declared false) then Some row.value else old.declared)
    → new.failed ≡ (if has_kind what.Fail row then Some (line_at number row) else old.failed)
    → new.heard ≡ (if has_kind what.Refute row then 0 else (old.heard + cond (hears old.refuted row) 1 0))
    → new.refuted ≡ (if has_kind what.Refute row then Some (record { line = line_at number row; number = row.value }) else old.refuted)
    → IsStandingOf subject new (rows ++ row ∷ [])
stands subject number old new probe answers anew charges claim rows row about numbered probed answered is is_anew is_charge is_claim accusers suspected declared failed heard refuted =
    record {
      suspected = greatest-push what.Suspect subject rows row old.suspected new.suspected about is.suspected suspected;
      declared = greatest-push what.Confirm subject rows row old.declared new.declared about is.declared declared;
      failed = last_line-push what.Fail subject rows row number old.failed new.failed about numbered is.failed failed;
      accusers = subst (AreAccusers new.accusers) same (accusers (accusations subject rows) is.accusers);
      heard =
          heard ∙ ap (λ n. if has_kind what.Refute row then 0 else (n + cond (hears old.refuted row) 1 0)) is.heard
          ∙ ap (λ o. if has_kind what.Refute row then 0 else (times_heard subject rows + cond (hears o row) 1 0)) is.refuted
          ∙ sym (heard-push subject rows row about);
      refuted =
          refuted ∙ ap (λ o. if has_kind what.Refute row then Some (refutation (line_at number row) row.value) else o) is.refuted
          ∙ ap (λ n. if has_kind what.Refute row then Some (refutation (line_at n row) row.value) else last_refutation subject rows) numbered
          ∙ ap (λ t. if t then Some (refutation (line_at (length rows + 2) row) row.value) else last_refutation subject rows) (sym (tells_of-it what.Refute subject row about))
          ∙ sym (refuted-push subject rows row);
    }
  where
    r : Reached
    r = met rows row

    accusing : charges ≡ accuses subject r
    accusing =
        is_charge
        ∙ sym (ap (λ t. (t || tells_of what.Accuse subject row) && option_map_or (is_line_of row.member row.at) (last_fail subject rows) false) (tells_of-it what.Suspect subject row about)
        ∙ ap (λ t. (has_kind what.Suspect row || t) && option_map_or (is_line_of row.member row.at) (last_fail subject rows) false) (tells_of-it what.Accuse subject row about)
        ∙ ap (λ o. (has_kind what.Suspect row || has_kind what.Accuse row) && option_map_or (is_line_of row.member row.at) o false) (sym is.failed))

    told : charge claim probe answers ≡ accusation_told r
    told =
        ap (λ l. charge l probe answers) is_claim ∙ ap (λ n. charge (line_at n row) probe answers) numbered ∙ ap (λ p. charge (line_at (length rows + 2) row) p answers) probed
        ∙ ap (charge (line_at (length rows + 2) row) (last_probe row.member rows)) answered

    same : (if anew then [] else accusations subject rows) ++ (if charges then charge claim probe answers ∷ [] else []) ≡ accusations subject (rows ++ row ∷ [])
    same =
        ap (λ t. (if t then [] else accusations subject rows) ++ (if charges then charge claim probe answers ∷ [] else []))
        (is_anew ∙ sym (new-is what.Suspect subject rows row old.suspected about is.suspected))
        ∙ ap (λ t. (if is_new what.Suspect subject r then [] else accusations subject rows) ++ (if t then charge claim probe answers ∷ [] else [])) accusing
        ∙ ap (λ a. (if is_new what.Suspect subject r then [] else accusations subject rows) ++ (if accuses subject r then a ∷ [] else [])) told
        ∙ sym (accusations-push subject rows row)

-- a row about another member reports nothing of it
pub stands_on : (subject : ℕ) (standing : Standing) (rows : List Row) (row : Row) → is_about subject row ≡ false → IsStandingOf subject standing rows → IsStandingOf subject standing (rows ++ row ∷ [])
stands_on subject standing rows row other is =
    record {
      suspected = greatest_other what.Suspect subject rows row standing.suspected other is.suspected;
      declared = greatest_other what.Confirm subject rows row standing.declared other is.declared;
      failed = is.failed ∙ ap (last_or None) (lines_other (tells_of what.Fail subject) rows row (tells_of-other what.Fail subject row other));
      accusers = subst (AreAccusers standing.accusers) (sym same) is.accusers;
      heard =
          is.heard
          ∙ sym (heard_more subject rows row
          ∙ ap (λ t. count_by (hears_of subject) (if t then [] else since (λ q. tells_of what.Refute subject q.row) (reached rows)) + cond (hears_of subject r) 1 0) (tells_of-other what.Refute subject row other)
          ∙ ap (λ t. times_heard subject rows + cond t 1 0) (ap (λ t. hears (last_refutation subject rows) row && t) other ∙ and_false (hears (last_refutation subject rows) row))
          ∙ add-zero (times_heard subject rows));
      refuted =
          is.refuted
          ∙ sym (refuted-push subject rows row
          ∙ ap (λ t. if t then Some (refutation (line_at (length rows + 2) row) row.value) else last_refutation subject rows) (tells_of-other what.Refute subject row other));
    }
  where
    r : Reached
    r = record { earlier = rows; row = row }

    not_new : is_new what.Suspect subject r ≡ false
    not_new = ap (λ t. t && not (list_any (reaches what.Suspect subject row.value) rows)) (tells_of-other what.Suspect subject row other)

    no_accuser : accuses subject r ≡ false
    no_accuser =
        ap (λ t. (t || tells_of what.Accuse subject row) && option_map_or (is_line_of row.member row.at) (last_fail subject rows) false) (tells_of-other what.Suspect subject row other)
        ∙ ap (λ t. (false || t) && option_map_or (is_line_of row.member row.at) (last_fail subject rows) false) (tells_of-other what.Accuse subject row other)

    same : accusations subject (rows ++ row ∷ []) ≡ accusations subject rows
    same =
        accusations-push subject rows row
        ∙ ap (λ t. (if t then [] else accusations subject rows) ++ (if accuses subject r then accusation_told r ∷ [] else [])) not_new
        ∙ ap (λ t. accusations subject rows ++ (if t then accusation_told r ∷ [] else [])) no_accuser
        ∙ append-nil (accusations subject rows)

-- ---- deaths

pub deaths-push : (rows : List Row) (row : Row) → deaths_of (rows ++ row ∷ []) ≡ deaths_of rows ++ (if begins_death (met rows row) then met rows row ∷ [] else [])
deaths-push rows row = ap (filter begins_death) (reached-push rows row) ∙ filter-push begins_death (reached rows) (met rows row)

get-last : {X : Type 0} (xs : List X) (x : X) → slice_get (xs ++ x ∷ []) (length xs) ≡ Some x
get-last xs x = slice_get-get_or (xs ++ x ∷ []) (length xs) x (omega (arith, length-append xs (x ∷ []))) ∙ ap Some (get_or-append_seam xs x [] x)

get-others : {X : Type 0} (xs : List X) (x : X) (k : ℕ) → ¬ (k ≡ length xs) → slice_get (xs ++ x ∷ []) k ≡ slice_get xs k
get-others [] x zero apart = absurd (apart refl)
get-others [] x (suc k) apart = refl
get-others (y ∷ ys) x zero apart = refl
get-others (y ∷ ys) x (suc k) apart = get-others ys x k (λ h. apart (next k (length ys) h))
  where
    next : (a b : ℕ) → a ≡ b → suc a ≡ suc b
    next a b h = ap suc h

pub is_same : (a b : ℕ) → nat_eq a b ≡ true → a ≡ b
is_same a b h = grind (arith, h)

pub not_same : (a b : ℕ) → nat_eq a b ≡ false → ¬ (a ≡ b)
not_same a b h = grind (arith, h)

is_none_there : (death : Option Death) → is_some death ≡ false → death ≡ None
is_none_there None h = refl
is_none_there (Some death) h = absurd (true≢false h)

is_one_there : (death : Option Death) → is_some death ≡ true → (told : Death) × (death ≡ Some told)
is_one_there None h = absurd (true≢false (sym h))
is_one_there (Some death) h = (death, refl)

pub none_kept : (kept : List (Option Death)) (many : ℕ) (death : Option Death) (rows : List Row) (row : Row) → is_some death ≡ false
    → IsToldOf death (if begins_death (met rows row) then Some (met rows row) else None) → AreToldOf kept many rows → AreToldOf kept many (rows ++ row ∷ [])
none_kept kept many death rows row none told are =
    record {
      count = are.count ∙ ap length same;
      told = λ place low. subst (λ l. IsToldOf (slice_index_or kept place None) (slice_get l place)) same (are.told place low);
      room = are.room;
    }
  where
    fresh : (t : Bool) → IsToldOf None (if t then Some (met rows row) else None) → t ≡ false
    fresh true h = absurd h
    fresh false h = refl

    same : deaths_of rows ≡ deaths_of (rows ++ row ∷ [])
    same = sym (deaths-push rows row ∙ ap (λ t. deaths_of rows ++ (if t then met rows row ∷ [] else [])) (fresh (begins_death (met rows row)) (subst (λ d. IsToldOf d (if begins_death (met rows row) then Some (met rows row) else None)) (is_none_there death none) told)) ∙ append-nil (deaths_of rows))

one_there : (t : Bool) (rows : List Row) (row : Row) (death : Death) → IsToldOf (Some death) (if t then Some (met rows row) else None) → (t ≡ true) × IsDeathOf death (met rows row)
one_there true rows row death told = (refl, told)
one_there false rows row death told = absurd told

-- a death is put behind those that are kept
put_behind : (kept : List (Option Death)) (death : Death) (list : List Reached) (r : Reached) → length kept ≡ 20 → IsDeathOf death r
    → ((place : ℕ) → place < 20 → IsToldOf (slice_index_or kept place None) (slice_get list place))
    → (place : ℕ) → place < 20 → IsToldOf (slice_index_or (if nat_lt (length list) 20 then slice_set kept (length list) (Some death) else kept) place None) (slice_get (list ++ r ∷ []) place)
put_behind kept death list r room is told place low = at (nat_eq place (length list)) refl
  where
    here : (k n : ℕ) → k ≡ n → k < 20 → nat_lt n 20 ≡ true
    here k n h l = grind (arith, h, l)

    at : (t : Bool) → nat_eq place (length list) ≡ t → IsToldOf (slice_index_or (if nat_lt (length list) 20 then slice_set kept (length list) (Some death) else kept) place None) (slice_get (list ++ r ∷ []) place)
    at true h =
        let same : place ≡ length list = is_same place (length list) h in
        let within : length list < length kept = omega (arith, same, low, room) in
        subst (λ p. IsToldOf p (slice_get (list ++ r ∷ []) place))
        (sym (ap (λ k. slice_index_or (if nat_lt (length list) 20 then slice_set kept (length list) (Some death) else kept) k None) same
        ∙ ap (λ t. slice_index_or (if t then slice_set kept (length list) (Some death) else kept) (length list) None) (here place (length list) same low)
        ∙ get_or-set_same kept (length list) (Some death) None within))
        (subst (IsToldOf (Some death)) (sym (ap (slice_get (list ++ r ∷ [])) same ∙ get-last list r)) is)
    at false h =
        let apart : ¬ (place ≡ length list) = not_same place (length list) h in
        subst (λ p. IsToldOf p (slice_get (list ++ r ∷ []) place))
        (sym (elsewhere (nat_lt (length list) 20) apart))
        (subst (IsToldOf (slice_index_or kept place None)) (sym (get-others list r place apart)) (told place low))
      where
        elsewhere : (t : Bool) → ¬ (place ≡ length list) → slice_index_or (if t then slice_set kept (length list) (Some death) else kept) place None ≡ slice_index_or kept place None
        elsewhere true apart = get_or-set_other kept (length list) place (Some death) None apart
        elsewhere false apart = refl

pub one_kept : (kept new : List (Option Death)) (many : ℕ) (death : Option Death) (rows : List Row) (row : Row) → is_some death ≡ true
    → new ≡ (if nat_lt many 20 then slice_set kept many death else kept)
    → IsToldOf death (if begins_death (met rows row) then Some (met rows row) else None) → AreToldOf kept many rows → AreToldOf new (many + 1) (rows ++ row ∷ [])
one_kept kept new many death rows row there_is made told are =
    record {
      count = omega (arith, are.count, ap length pushed, length-append (deaths_of rows) (met rows row ∷ []));
      told = λ place low. subst (λ l. IsToldOf (slice_index_or l place None) (slice_get (deaths_of (rows ++ row ∷ [])) place)) (sym is_new_list)
          (subst (λ l. IsToldOf (slice_index_or (if nat_lt (length (deaths_of rows)) 20 then slice_set kept (length (deaths_of rows)) (Some told_death) else kept) place None) (slice_get l place)) (sym pushed)
          (put_behind kept told_death (deaths_of rows) (met rows row) are.room there.1 are.told place low));
      room = ap length made ∙ as_long (nat_lt many 20) ∙ are.room;
    }
  where
    told_death : Death
    told_death = (is_one_there death there_is).0

    some : death ≡ Some told_death
    some = (is_one_there death there_is).1

    as_long : (t : Bool) → length (if t then slice_set kept many death else kept) ≡ length kept
    as_long true = length-set kept many death
    as_long false = refl

    there : (begins_death (met rows row) ≡ true) × IsDeathOf told_death (met rows row)
    there = one_there (begins_death (met rows row)) rows row told_death (subst (λ d. IsToldOf d (if begins_death (met rows row) then Some (met rows row) else None)) some told)

    pushed : deaths_of (rows ++ row ∷ []) ≡ deaths_of rows ++ met rows row ∷ []
    pushed = deaths-push rows row ∙ ap (λ t. deaths_of rows ++ (if t then met rows row ∷ [] else [])) there.0

    is_new_list : new ≡ (if nat_lt (length (deaths_of rows)) 20 then slice_set kept (length (deaths_of rows)) (Some told_death) else kept)
    is_new_list = made ∙ ap (λ n. if nat_lt n 20 then slice_set kept n death else kept) are.count ∙ ap (λ d. if nat_lt (length (deaths_of rows)) 20 then slice_set kept (length (deaths_of rows)) d else kept) some

-- ---- probes, each at its member's number

pub read : {X : Type 0} (xs : List X) (i : ℕ) (x d : X) → i < length xs → x ≡ slice_index_or xs i x → x ≡ slice_index_or xs i d
read xs i x d within is = sym (get_or_from_slice_get xs i x d (slice_get_read xs (length xs) i x refl within is))

pub probes-push : (probes : List (Option ProbeStory)) (number : ℕ) (last new : Option ProbeStory) (rows : List Row) (row : Row) → number ≡ length rows + 2 → row.member < length probes → AreProbesOf probes rows
    → new ≡ (if has_kind what.Ping row && row.from == row.member then Some (record { ping = line_at number row; lost = row.lost; target = row.about; sequence = row.value }) else last) → last ≡ slice_index_or probes row.member last
    → AreProbesOf (slice_set probes row.member new) (rows ++ row ∷ [])
probes-push probes number last new rows row numbered member are is was who low = at (nat_eq who row.member) refl
  where
    begun : Option ProbeStory
    begun = Some (record { ping = line_at (length rows + 2) row; lost = row.lost; target = row.about; sequence = row.value })

    within : who < length probes
    within = omega (arith, low, length-set probes row.member new)

    itself : (n : ℕ) → nat_eq n n ≡ true
    itself n = grind (arith)

    turned : (a b : ℕ) → nat_eq a b ≡ false → nat_eq b a ≡ false
    turned a b h = grind (arith, h)

    by_own : begins_probe row.member row ≡ (has_kind what.Ping row && row.from == row.member)
    by_own = ap (λ t. has_kind what.Ping row && (t && row.from == row.member)) (itself row.member)

    no_ping : (t u : Bool) → (t && (false && u)) ≡ false
    no_ping true u = refl
    no_ping false u = refl

    at : (t : Bool) → nat_eq who row.member ≡ t → slice_index_or (slice_set probes row.member new) who None ≡ last_probe who (rows ++ row ∷ [])
    at true h =
        let same : who ≡ row.member = is_same who row.member h in
        ap (λ k. slice_index_or (slice_set probes row.member new) k None) same
        ∙ get_or-set_same probes row.member new None member
        ∙ is ∙ ap (λ n. if has_kind what.Ping row && row.from == row.member then Some (record { ping = line_at n row; lost = row.lost; target = row.about; sequence = row.value }) else last) numbered
        ∙ ap (λ o. if has_kind what.Ping row && row.from == row.member then begun else o) (read probes row.member last None member was ∙ are row.member member)
        ∙ ap (λ t. if t then begun else last_probe row.member rows) (sym by_own)
        ∙ sym (probe-push row.member rows row)
        ∙ ap (λ k. last_probe k (rows ++ row ∷ [])) (sym same)
    at false h =
        get_or-set_other probes row.member who new None (not_same who row.member h)
        ∙ are who within
        ∙ sym (probe-push who rows row ∙ ap (λ t. if t then begun else last_probe who rows) (ap (λ t. has_kind what.Ping row && (t && row.from == who)) (turned who row.member h) ∙ no_ping (has_kind what.Ping row) (row.from == who)))

-- ---- who is gone

gone-push : (member : ℕ) (rows : List Row) (row : Row) → is_gone member (rows ++ row ∷ []) ≡ gone_with member (is_gone member rows) row
gone-push member rows row = fold-append (gone_with member) false rows (row ∷ [])

pub all_gone-push : (gone : List Bool) (last new : Bool) (rows : List Row) (row : Row) → row.member < length gone → AreGoneOf gone rows → new ≡ gone_by row last
    → last ≡ slice_index_or gone row.member last → AreGoneOf (slice_set gone row.member new) (rows ++ row ∷ [])
all_gone-push gone last new rows row member are is was who low = at (nat_eq who row.member) refl
  where
    within : who < length gone
    within = omega (arith, low, length-set gone row.member new)

    itself : (n : ℕ) → nat_eq n n ≡ true
    itself n = grind (arith)

    turned : (a b : ℕ) → nat_eq a b ≡ false → nat_eq b a ≡ false
    turned a b h = grind (arith, h)

    at : (t : Bool) → nat_eq who row.member ≡ t → slice_index_or (slice_set gone row.member new) who false ≡ is_gone who (rows ++ row ∷ [])
    at true h =
        let same : who ≡ row.member = is_same who row.member h in
        ap (λ k. slice_index_or (slice_set gone row.member new) k false) same
        ∙ get_or-set_same gone row.member new false member
        ∙ is ∙ ap (gone_by row) (read gone row.member last false member was ∙ are row.member member)
        ∙ ap (λ t. if t then gone_by row (is_gone row.member rows) else is_gone row.member rows) (sym (itself row.member))
        ∙ sym (gone-push row.member rows row)
        ∙ ap (λ k. is_gone k (rows ++ row ∷ [])) (sym same)
    at false h =
        get_or-set_other gone row.member who new false (not_same who row.member h)
        ∙ are who within
        ∙ sym (gone-push who rows row ∙ ap (λ t. if t then gone_by row (is_gone who rows) else is_gone who rows) (turned who row.member h))

-- ---- no more is kept than there are rows

pub since_few : {X : Type 0} (test : X → Bool) (xs : List X) → length (since test xs) ≤ length xs
since_few test [] = omega arith
since_few test (x ∷ xs) = by (list_any test xs) (length (since test xs)) (since_few test xs)
  where
    by : (t : Bool) (n : ℕ) → length (since test xs) ≤ length xs → length (if t then since test xs else x ∷ xs) ≤ suc (length xs)
    by true n few = omega (arith, few)
    by false n few = omega arith

pub accused_few : (subject : ℕ) (rows : List Row) → length (accusations subject rows) ≤ length rows
accused_few subject rows =
    let all = since (is_new what.Suspect subject) (reached rows) in
    omega (
      arith,
      length-map (filter (accuses subject) all) accusation_told,
      length-filter (accuses subject) all,
      count_by-le-length (accuses subject) all,
      since_few (is_new what.Suspect subject) (reached rows),
      length-map (rows_in_place rows) reached_at,
      length-placed [] rows,
    )

pub heard_few : (subject : ℕ) (rows : List Row) → times_heard subject rows ≤ length rows
heard_few subject rows =
    let all = since (λ r. tells_of what.Refute subject r.row) (reached rows) in
    omega (
      arith,
      count_by-le-length (hears_of subject) all,
      since_few (λ r. tells_of what.Refute subject r.row) (reached rows),
      length-map (rows_in_place rows) reached_at,
      length-placed [] rows,
    )

pub deaths_few : (rows : List Row) → length (deaths_of rows) ≤ length rows
deaths_few rows =
    omega (
      arith,
      length-filter begins_death (reached rows),
      count_by-le-length begins_death (reached rows),
      length-map (rows_in_place rows) reached_at,
      length-placed [] rows,
    )

-- each of those that are alike is the one
pub replicated : (n place : ℕ) (one x : Standing) → slice_get (replicate n one) place ≡ Some x → one ≡ x
replicated n place one x there =
    sym (get_or-replicate n place one one (subst (λ k. place < k) (length-replicate n one) (slice_get_within (replicate n one) place x there)))
    ∙ get_or_from_slice_get (replicate n one) place x one there

pub behind_none : {X : Type 0} (n : ℕ) (xs ys : List X) → xs ≡ [] → take n xs ++ ys ≡ ys
behind_none n [] ys none = ap (λ l. l ++ ys) (take-nil n)
behind_none n (x ∷ xs) ys none = absurd (some none)
  where
    some : x ∷ xs ≡ [] → ⊥
    some h = cc
