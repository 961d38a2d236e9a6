-- What one row more makes of the series.
use Rattle.std.proofs.Common.{◌≡◌, ℕ, zero, suc, ◌+◌, ◌<◌, ◌≤◌, Bool, true, false, cond, ◌&&◌, ◌||◌, ◌==◌, List, [], ◌∷◌, ◌++◌, length, Option, Some, None, refl, sym, ap, subst, ◌∙◌, arith, lit<, add-zero, append-nil}
use Rattle.std.specs.Prelude.{Result, Ok, Err, OnErr, IfSome, count_by, filter_map, if◌then◌else◌, slice_get, slice_set, slice_index, slice_index_or}
use Rattle.std.specs.Option.{option_map, option_map_or, option_or, option_to_list}
use Rattle.std.specs.List.{cons_option, last_or, list_any}
use Rattle.std.proofs.Math.Bool.{and-false}
use denote.Enum.Bare.{sameb, same_true}
use Rattle.trace.specs.contracts.row.What.{the_type}
use Rattle.scenario.specs.Setup.{Setup}
use Rattle.trace.specs.declared.row.What.{What}
use Rattle.trace.specs.declared.row.What.TheVariants as what
use Rattle.trace.specs.declared.row.Row.{Row}
use Rattle.reports.specs.Rows.{has_kind, is_about, tells_of, tells_lost}
use Rattle.reports.specs.Revivals.{views, is_view, is_view_of}
use Rattle.reports.proofs.Detections.{tells_of-it, tells_of-other}
use Rattle.series.specs.declared.grid.Grid.{Grid}
use Rattle.series.specs.declared.spread.Spread.{Spread}
use Rattle.series.specs.declared.story.Story.{Story}
use Rattle.series.specs.Grid.{count_at}
use Rattle.series.specs.Spans.{span_at}
use Rattle.series.specs.Lines.{line_at}
use Rattle.series.specs.Changes.{Change, AreFlowsOf}
use Rattle.series.specs.Stories.{claimed_state, claims_of, claim_told, claim_change, is_crash_of, heard, returns_among, with_row, IsStoryOf, IsSpreadOf, ComesNext, refutes_in}
use Rattle.series.specs.Series.{sends_in, loses_in, kind_place, healths_of, health_told}
use Rattle.series.proofs.Telling.{count-push, told-push, lines_other, count_other, first_line-push, last_line-push}
use Rattle.incidents.specs.Lives.{restarts}
use Rattle.series.proofs.Hearing.{crashed_more}
use Rattle.series.proofs.Returning.{heard_unmoved, heard_no_more, heard_with, returns_more, returns_same}
use Rattle.series.proofs.Counted.{same_place}
use Rattle.series.proofs.Revived.{revived_other, revived_more}

-- ---- messages

pub sent-push : (s : Setup) (kind : What) (rows : List Row) (row : Row) (place k span : ℕ) (old new : Grid) → span ≡ span_at s row.at
    → count_at old place k ≡ count_by (sends_in s kind k) rows → count_at new place k ≡ count_at old place k + cond (has_kind kind row && k == span) 1 0
    → count_at new place k ≡ count_by (sends_in s kind k) (rows ++ row ∷ [])
sent-push s kind rows row place k span old new spanned so_far is =
    is ∙ ap (λ n. n + cond (has_kind kind row && k == span) 1 0) so_far
    ∙ ap (λ x. count_by (sends_in s kind k) rows + cond (has_kind kind row && k == x) 1 0) spanned
    ∙ sym (count-push (sends_in s kind k) rows row)

pub lost-push : (s : Setup) (kind : What) (rows : List Row) (row : Row) (place k span : ℕ) (old new : Grid) → span ≡ span_at s row.at
    → count_at old place k ≡ count_by (loses_in s kind k) rows → count_at new place k ≡ count_at old place k + cond (tells_lost kind row && k == span) 1 0
    → count_at new place k ≡ count_by (loses_in s kind k) (rows ++ row ∷ [])
lost-push s kind rows row place k span old new spanned so_far is =
    is ∙ ap (λ n. n + cond (tells_lost kind row && k == span) 1 0) so_far
    ∙ ap (λ x. count_by (loses_in s kind k) rows + cond (tells_lost kind row && k == x) 1 0) spanned
    ∙ sym (count-push (loses_in s kind k) rows row)

-- what a row of a kind that has a place raises
pub raised_kind : (kind : What) (row : Row) (place own k span : ℕ) (old new : Grid) → kind_place kind ≡ Some place → kind_place row.what ≡ Some own
    → count_at new place k ≡ count_at old place k + cond (place == own && k == span) 1 0
    → count_at new place k ≡ count_at old place k + cond (has_kind kind row && k == span) 1 0
raised_kind kind row place own k span old new of_kind of_row is = is ∙ ap (λ t. count_at old place k + cond (t && k == span) 1 0) (same_place kind row place own of_kind of_row)

-- what isn't raised
pub unraised : (test : Bool) (k span : ℕ) (place : ℕ) (old : Grid) → test ≡ false → count_at old place k ≡ count_at old place k + cond (test && k == span) 1 0
unraised test k span place old none = sym (ap (λ t. count_at old place k + cond (t && k == span) 1 0) none ∙ add-zero (count_at old place k))

-- ---- health

pub healths-push : (s : Setup) (rows : List Row) (row : Row) → healths_of s (rows ++ row ∷ []) ≡ healths_of s rows ++ option_to_list (health_told s row)
healths-push s rows row = told-push (health_told s) rows row

-- ---- a member's story

-- the row reports nothing of a subject, but that it crashes
record TellsNothing (s : Setup) (subject : ℕ) (row : Row) : Type 0 where
  claim : claim_told s subject row ≡ None
  back : (held : Bool) → ((has_kind what.Alive row && held) && is_about subject row) ≡ false
  view : (member : ℕ) → is_view_of member subject row ≡ false
  suspect : tells_of what.Suspect subject row ≡ false
  confirm : tells_of what.Confirm subject row ≡ false
  refute : tells_of what.Refute subject row ≡ false
  fail : tells_of what.Fail subject row ≡ false

-- a row about another member reports nothing of it
other_tells : (s : Setup) (subject : ℕ) (row : Row) → is_about subject row ≡ false → TellsNothing s subject row
other_tells s subject row other =
    record {
      claim = ap (λ b. if b then claim_change (span_at s row.at) row else None) other;
      back = λ held. ap (λ b. (has_kind what.Alive row && held) && b) other ∙ and-false (has_kind what.Alive row && held);
      view = λ member. ap (λ b. is_view row && ((row.member == member) && b)) other ∙ ap (λ b. is_view row && b) (and-false (row.member == member)) ∙ and-false (is_view row);
      suspect = tells_of-other what.Suspect subject row other;
      confirm = tells_of-other what.Confirm subject row other;
      refute = tells_of-other what.Refute subject row other;
      fail = tells_of-other what.Fail subject row other;
    }

-- a row of this kind reports nothing of anybody, but that its member crashes or starts again
record IsMute (kind : What) : Type 0 where
  claim : claimed_state kind ≡ None
  view : list_any (sameb the_type kind) views ≡ false
  alive : sameb the_type kind what.Alive ≡ false
  suspect : sameb the_type kind what.Suspect ≡ false
  confirm : sameb the_type kind what.Confirm ≡ false
  refute : sameb the_type kind what.Refute ≡ false
  fail : sameb the_type kind what.Fail ≡ false

crash_mute : IsMute what.Crash
crash_mute = record { claim = refl; view = refl; alive = refl; suspect = refl; confirm = refl; refute = refl; fail = refl }

restart_mute : IsMute what.Restart
restart_mute = record { claim = refl; view = refl; alive = refl; suspect = refl; confirm = refl; refute = refl; fail = refl }

mute_tells : (s : Setup) (subject : ℕ) (row : Row) → IsMute row.what → TellsNothing s subject row
mute_tells s subject row mute =
    record {
      claim = ap (λ state. if is_about subject row then option_map (λ n. record { member = row.member; state = n; span = span_at s row.at }) state else None) mute.claim ∙ no_claim (is_about subject row);
      back = λ held. ap (λ b. (b && held) && is_about subject row) mute.alive;
      view = λ member. ap (λ b. b && ((row.member == member) && is_about subject row)) mute.view;
      suspect = ap (λ b. b && is_about subject row) mute.suspect;
      confirm = ap (λ b. b && is_about subject row) mute.confirm;
      refute = ap (λ b. b && is_about subject row) mute.refute;
      fail = ap (λ b. b && is_about subject row) mute.fail;
    }
  where
    no_claim : (b : Bool) → ◌≡◌ {A = Option Change} (if b then None else None) None
    no_claim true = refl
    no_claim false = refl

-- neither does that of a crash, nor that of a restart
crash_tells : (s : Setup) (subject : ℕ) (row : Row) → has_kind what.Crash row ≡ true → TellsNothing s subject row
crash_tells s subject row crash = mute_tells s subject row (subst IsMute (sym (same_true the_type tt row.what what.Crash crash)) crash_mute)

restart_tells : (s : Setup) (subject : ℕ) (row : Row) → has_kind what.Restart row ≡ true → TellsNothing s subject row
restart_tells s subject row restart = mute_tells s subject row (subst IsMute (sym (same_true the_type tt row.what what.Restart restart)) restart_mute)

-- what such a row leaves of when others learned of its crash, with whether it crashes by it, or is back
spread_same : (s : Setup) (subject : ℕ) (spread : Spread) (rows : List Row) (row : Row) (crashed back : Bool) → TellsNothing s subject row → IsSpreadOf s subject spread rows
    → crashed ≡ (spread.crashed || is_crash_of subject row) → back ≡ (spread.back || (spread.crashed && restarts subject row))
    → IsSpreadOf s subject (record spread { crashed = crashed; back = back }) (rows ++ row ∷ [])
spread_same s subject spread rows row crashed back nothing is comes returns =
    record {
      since = is.since;
      crashed = comes ∙ ap (λ b. b || is_crash_of subject row) is.crashed ∙ sym (crashed_more subject rows row);
      back =
          returns ∙ ap (λ b. b || (spread.crashed && restarts subject row)) is.back
          ∙ ap (λ c. returns_among false subject rows || (c && restarts subject row)) is.crashed ∙ sym (returns_more false subject rows row);
      suspecting = is.suspecting;
      confirming = is.confirming;
      suspected = λ m low. is.suspected m low ∙ heard_unmoved what.Suspect subject m rows row (nothing.view m) (ap (λ t. t && row.member == m) nothing.suspect);
      confirmed = λ m low. is.confirmed m low ∙ heard_unmoved what.Confirm subject m rows row (nothing.view m) (ap (λ t. t && row.member == m) nothing.confirm);
    }

-- what such a row leaves of its story, but for that
unmoved : (s : Setup) (subject : ℕ) (story : Story) (spread : Spread) (rows : List Row) (row : Row) → TellsNothing s subject row → IsStoryOf s subject story rows → IsSpreadOf s subject spread (rows ++ row ∷ [])
    → IsStoryOf s subject (record story { spread = spread }) (rows ++ row ∷ [])
unmoved s subject story spread rows row nothing is spread_is =
    record {
      claims = subst (AreFlowsOf 3 story.claims) (sym (told-push (claim_told s subject) rows row ∙ ap (λ o. claims_of s subject rows ++ option_to_list o) nothing.claim ∙ append-nil (claims_of s subject rows))) is.claims;
      revived = λ k low. is.revived k low ∙ revived_other s subject k rows row nothing.back;
      refuted = λ k low. is.refuted k low ∙ count_other (refutes_in s subject k) rows row (ap (λ t. t && k == span_at s row.at) nothing.refute);
      first_confirm = is.first_confirm ∙ ap (λ l. slice_get l 0) (lines_other (tells_of what.Confirm subject) rows row nothing.confirm);
      last_refute = is.last_refute ∙ ap (last_or None) (lines_other (tells_of what.Refute subject) rows row nothing.refute);
      spread = spread_is;
      fails = is.fails ∙ count_other (tells_of what.Fail subject) rows row nothing.fail;
    }

same_crashed : (a b : Bool) → b ≡ false → a ≡ (a || b)
same_crashed true b none = refl
same_crashed false b none = sym none

same_back : (b c r : Bool) → r ≡ false → b ≡ (b || (c && r))
same_back b c r none = sym (ap (λ x. b || (c && x)) none ∙ ap (λ x. b || x) (and-false c) ∙ or_none b)
  where
    or_none : (x : Bool) → (x || false) ≡ x
    or_none true = refl
    or_none false = refl

-- neither of two tests holds, or the second where the first doesn't
pub neither : (a b : Bool) → (a || b) ≡ false → a ≡ false
neither true b h = h
neither false b h = refl

pub other : (a b : Bool) → (a || b) ≡ false → b ≡ false
other true b h = absurd (no h)
  where
    no : true ≡ false → ⊥
    no is = cc
other false b h = h

pub second : (a b : Bool) → (a || b) ≡ true → a ≡ false → b ≡ true
second true b h none = absurd (no none)
  where
    no : true ≡ false → ⊥
    no is = cc
second false b h none = h

-- a row of another kind isn't that of a crash, nor that of a restart
pub no_crash : (subject : ℕ) (row : Row) → has_kind what.Crash row ≡ false → is_crash_of subject row ≡ false
no_crash subject row apart = ap (λ t. t && row.member == subject) apart

pub no_restart : (subject : ℕ) (row : Row) → has_kind what.Restart row ≡ false → restarts subject row ≡ false
no_restart subject row apart = ap (λ t. (row.member == subject) && t) apart ∙ and-false (row.member == subject)

-- neither is the row of another member
others_crash : (subject : ℕ) (row : Row) → ¬ (subject ≡ row.member) → is_crash_of subject row ≡ false
others_crash subject row apart = ap (λ t. has_kind what.Crash row && t) (unlike row.member subject apart) ∙ and-false (has_kind what.Crash row)
  where
    unlike : (a b : ℕ) → ¬ (b ≡ a) → (a == b) ≡ false
    unlike a b h = grind (arith)

others_restart : (subject : ℕ) (row : Row) → ¬ (subject ≡ row.member) → restarts subject row ≡ false
others_restart subject row apart = ap (λ t. t && has_kind what.Restart row) (unlike row.member subject apart)
  where
    unlike : (a b : ℕ) → ¬ (b ≡ a) → (a == b) ≡ false
    unlike a b h = grind (arith)

-- a row that reports nothing of a member, nor that it crashes or starts again, leaves its story
unturned : (s : Setup) (subject : ℕ) (story : Story) (rows : List Row) (row : Row) → TellsNothing s subject row → is_crash_of subject row ≡ false → restarts subject row ≡ false → IsStoryOf s subject story rows
    → IsStoryOf s subject story (rows ++ row ∷ [])
unturned s subject story rows row nothing crash restart is =
    unmoved s subject story story.spread rows row nothing is
    (spread_same s subject story.spread rows row story.spread.crashed story.spread.back nothing is.spread (same_crashed story.spread.crashed _ crash) (same_back story.spread.back story.spread.crashed _ restart))

-- so does a row about another member
pub untold : (s : Setup) (subject : ℕ) (story : Story) (rows : List Row) (row : Row) → is_about subject row ≡ false → is_crash_of subject row ≡ false → restarts subject row ≡ false → IsStoryOf s subject story rows
    → IsStoryOf s subject story (rows ++ row ∷ [])
untold s subject story rows row other = unturned s subject story rows row (other_tells s subject row other)

-- and the row of another's crash, or of its return
pub untold_crash : (s : Setup) (subject : ℕ) (story : Story) (rows : List Row) (row : Row) → has_kind what.Crash row ≡ true → ¬ (subject ≡ row.member) → IsStoryOf s subject story rows
    → IsStoryOf s subject story (rows ++ row ∷ [])
untold_crash s subject story rows row crash apart =
    unturned s subject story rows row (crash_tells s subject row crash) (others_crash subject row apart) (others_restart subject row apart)

pub untold_restart : (s : Setup) (subject : ℕ) (story : Story) (rows : List Row) (row : Row) → has_kind what.Restart row ≡ true → ¬ (subject ≡ row.member) → IsStoryOf s subject story rows
    → IsStoryOf s subject story (rows ++ row ∷ [])
untold_restart s subject story rows row restart apart =
    unturned s subject story rows row (restart_tells s subject row restart) (others_crash subject row apart) (others_restart subject row apart)

alike : (a b : ℕ) → a ≡ b → (a == b) ≡ true
alike a b h = grind (arith)

-- a row has one kind
kinds_apart : (row : Row) → has_kind what.Crash row ≡ true → has_kind what.Restart row ≡ false
kinds_apart row crash = ap (λ w. sameb the_type w what.Restart) (same_true the_type tt row.what what.Crash crash)

apart_kinds : (row : Row) → has_kind what.Restart row ≡ true → has_kind what.Crash row ≡ false
apart_kinds row restart = ap (λ w. sameb the_type w what.Crash) (same_true the_type tt row.what what.Restart restart)

-- the row of its own crash reports that alone
pub told_crash : (s : Setup) (subject : ℕ) (story : Story) (rows : List Row) (row : Row) → has_kind what.Crash row ≡ true → row.member ≡ subject → IsStoryOf s subject story rows
    → IsStoryOf s subject (record story { spread = record story.spread { crashed = true } }) (rows ++ row ∷ [])
told_crash s subject story rows row crash is_its is =
    let nothing = crash_tells s subject row crash in
    let comes : is_crash_of subject row ≡ true = ap (λ t. t && row.member == subject) crash ∙ alike row.member subject is_its in
    unmoved s subject story (record story.spread { crashed = true }) rows row nothing is
    (spread_same s subject story.spread rows row true story.spread.back nothing is.spread (sym (ap (λ b. story.spread.crashed || b) comes ∙ or-true story.spread.crashed))
    (same_back story.spread.back story.spread.crashed _ (no_restart subject row (kinds_apart row crash))))
  where
    or-true : (b : Bool) → (b || true) ≡ true
    or-true true = refl
    or-true false = refl

-- that of its own restart reports that it is back, where it has crashed
pub told_restart : (s : Setup) (subject : ℕ) (story : Story) (rows : List Row) (row : Row) → has_kind what.Restart row ≡ true → row.member ≡ subject → IsStoryOf s subject story rows
    → IsStoryOf s subject (record story { spread = record story.spread { back = story.spread.back || story.spread.crashed } }) (rows ++ row ∷ [])
told_restart s subject story rows row restart is_its is =
    let nothing = restart_tells s subject row restart in
    let returns : restarts subject row ≡ true = ap (λ t. t && has_kind what.Restart row) (alike row.member subject is_its) ∙ restart in
    unmoved s subject story (record story.spread { back = story.spread.back || story.spread.crashed }) rows row nothing is
    (spread_same s subject story.spread rows row story.spread.crashed (story.spread.back || story.spread.crashed) nothing is.spread
    (same_crashed story.spread.crashed _ (no_crash subject row (apart_kinds row restart)))
    (ap (λ c. story.spread.back || c) (sym (ap (λ r. story.spread.crashed && r) returns ∙ and_true story.spread.crashed))))
  where
    and_true : (b : Bool) → (b && true) ≡ b
    and_true true = refl
    and_true false = refl

-- what a row about the member reports of it
pub told : (s : Setup) (subject : ℕ) (old new : Story) (rows : List Row) (row : Row) (span number : ℕ) → is_about subject row ≡ true → ComesNext s row span number rows → IsStoryOf s subject old rows
    → ((changes : List Change) → AreFlowsOf 3 old.claims changes → AreFlowsOf 3 new.claims (changes ++ option_to_list (claim_change span row)))
    → ((k : ℕ) → k < 120 → count_at new.refuted 0 k ≡ count_at old.refuted 0 k + cond (has_kind what.Refute row && k == span) 1 0)
    → ((k : ℕ) → k < 120 → count_at new.revived 0 k ≡ count_at old.revived 0 k + cond ((has_kind what.Alive row && slice_index old.claims.states.items row.member == 2) && k == span) 1 0)
    → IsSpreadOf s subject new.spread (rows ++ row ∷ [])
    → new.first_confirm ≡ option_or old.first_confirm (if has_kind what.Confirm row then Some (line_at number row) else None)
    → new.last_refute ≡ (if has_kind what.Refute row then Some (line_at number row) else old.last_refute)
    → new.fails ≡ old.fails + cond (has_kind what.Fail row) 1 0
    → IsStoryOf s subject new (rows ++ row ∷ [])
told s subject old new rows row span number about next is claims refuted revived spread first last fails =
    record {
      claims = subst (AreFlowsOf 3 new.claims) (sym (told-push (claim_told s subject) rows row
          ∙ ap (λ b. claims_of s subject rows ++ option_to_list (if b then claim_change (span_at s row.at) row else None)) about
          ∙ ap (λ x. claims_of s subject rows ++ option_to_list (claim_change x row)) (sym next.spanned))) (claims (claims_of s subject rows) is.claims);
      revived = λ k low. revived_more s subject k span old new rows row about next.spanned is.claims (is.revived k low) (revived k low);
      refuted = λ k low. refuted k low ∙ ap (λ n. n + cond (has_kind what.Refute row && k == span) 1 0) (is.refuted k low)
          ∙ ap (λ t. count_by (refutes_in s subject k) rows + cond (t && k == span) 1 0) (sym (tells_of-it what.Refute subject row about))
          ∙ ap (λ x. count_by (refutes_in s subject k) rows + cond (tells_of what.Refute subject row && k == x) 1 0) next.spanned
          ∙ sym (count-push (refutes_in s subject k) rows row);
      first_confirm = first_line-push what.Confirm subject rows row number old.first_confirm new.first_confirm about next.numbered is.first_confirm first;
      last_refute = last_line-push what.Refute subject rows row number old.last_refute new.last_refute about next.numbered is.last_refute last;
      spread = spread;
      fails = fails ∙ ap (λ n. n + cond (has_kind what.Fail row) 1 0) is.fails
          ∙ ap (λ t. count_by (tells_of what.Fail subject) rows + cond t 1 0) (sym (tells_of-it what.Fail subject row about))
          ∙ sym (count-push (tells_of what.Fail subject) rows row);
    }

pub spread_more : (s : Setup) (subject : ℕ) (old new : Spread) (rows : List Row) (row : Row) → is_about subject row ≡ true → is_crash_of subject row ≡ false → restarts subject row ≡ false
    → old.back ≡ false → IsSpreadOf s subject old rows
    → new.since ≡ old.since → new.crashed ≡ old.crashed → new.back ≡ old.back
    → length new.suspected.items ≡ length old.suspected.items → length new.confirmed.items ≡ length old.confirmed.items
    → ((m : ℕ) → m < length old.suspected.items → slice_index_or new.suspected.items m None
    ≡ (if row.member == m then with_row old.crashed what.Suspect row (slice_index_or old.suspected.items m None) else slice_index_or old.suspected.items m None))
    → ((m : ℕ) → m < length old.confirmed.items → slice_index_or new.confirmed.items m None
    ≡ (if row.member == m then with_row old.crashed what.Confirm row (slice_index_or old.confirmed.items m None) else slice_index_or old.confirmed.items m None))
    → IsSpreadOf s subject new (rows ++ row ∷ [])
spread_more s subject old new rows row about no_crash no_return yet is same crashed back long long_too suspected confirmed =
    record {
      since = same ∙ is.since;
      crashed = crashed ∙ same_crashed old.crashed _ no_crash ∙ ap (λ b. b || is_crash_of subject row) is.crashed ∙ sym (crashed_more subject rows row);
      back = back ∙ is.back ∙ sym (returns_same subject rows row no_return);
      suspecting = long ∙ is.suspecting;
      confirming = long_too ∙ is.confirming;
      suspected = λ m low.
          let within : m < length old.suspected.items = subst (λ n. m < n) long low in
          suspected m within ∙ next what.Suspect m _ (is.suspected m within);
      confirmed = λ m low.
          let within : m < length old.confirmed.items = subst (λ n. m < n) long_too low in
          confirmed m within ∙ next what.Confirm m _ (is.confirmed m within);
    }
  where
    next : (kind : What) (m : ℕ) (was : Option ℕ) → was ≡ heard kind subject m rows
        → (if row.member == m then with_row old.crashed kind row was else was) ≡ heard kind subject m (rows ++ row ∷ [])
    next kind m was so_far =
        ap (λ o. if row.member == m then with_row old.crashed kind row o else o) so_far
        ∙ ap (λ c. if row.member == m then with_row c kind row (heard kind subject m rows) else heard kind subject m rows) is.crashed
        ∙ sym (heard_with kind subject m rows row about no_crash no_return (sym is.back ∙ yet))

-- a row about a member that is back leaves when others learned of its crash
pub spread_over : (s : Setup) (subject : ℕ) (spread : Spread) (rows : List Row) (row : Row) → is_crash_of subject row ≡ false → restarts subject row ≡ false → spread.back ≡ true
    → IsSpreadOf s subject spread rows → IsSpreadOf s subject spread (rows ++ row ∷ [])
spread_over s subject spread rows row no_crash no_return over is =
    record {
      since = is.since;
      crashed = same_crashed spread.crashed _ no_crash ∙ ap (λ b. b || is_crash_of subject row) is.crashed ∙ sym (crashed_more subject rows row);
      back = is.back ∙ sym (returns_same subject rows row no_return);
      suspecting = is.suspecting;
      confirming = is.confirming;
      suspected = λ m low. is.suspected m low ∙ heard_no_more what.Suspect subject m rows row (sym is.back ∙ over);
      confirmed = λ m low. is.confirmed m low ∙ heard_no_more what.Confirm subject m rows row (sym is.back ∙ over);
    }

-- ---- no more is counted than there are rows

cons_few : {Y : Type 0} (o : Option Y) (ys : List Y) (n : ℕ) → length ys ≤ n → length (cons_option o ys) ≤ n + 1
cons_few None ys n few = omega (arith, few)
cons_few (Some y) ys n few = omega (arith, few)

pub told_few : {X Y : Type 0} (told : X → Option Y) (xs : List X) → length (filter_map told xs) ≤ length xs
told_few told [] = omega arith
told_few told (x ∷ xs) = next (length xs) (cons_few (told x) (filter_map told xs) (length xs) (told_few told xs))
  where
    next : (n : ℕ) → length (cons_option (told x) (filter_map told xs)) ≤ n + 1 → length (cons_option (told x) (filter_map told xs)) ≤ suc n
    next n few = omega (arith, few)

some_state : (n state : ℕ) → n < 3 → Some n ≡ Some state → state < 3
some_state n state low is = subst (λ m. m < 3) (same n state is) low
  where
    same : (a b : ℕ) → Some a ≡ Some b → a ≡ b
    same a b h = cc

no_state : (state : ℕ) → None ≡ Some state → state < 3
no_state state is = absurd (no state is)
  where
    no : (s : ℕ) → None ≡ Some s → ⊥
    no s h = cc

pub few_states : (kind : What) (state : ℕ) → claimed_state kind ≡ Some state → state < 3
few_states what.Alive state is = some_state 0 state (lit< tt) is
few_states what.Suspect state is = some_state 1 state (lit< tt) is
few_states what.Confirm state is = some_state 2 state (lit< tt) is
few_states what.Start state is = no_state state is
few_states what.Crash state is = no_state state is
few_states what.Joined state is = no_state state is
few_states what.Join state is = no_state state is
few_states what.Welcome state is = no_state state is
few_states what.Ping state is = no_state state is
few_states what.PingReq state is = no_state state is
few_states what.Ack state is = no_state state is
few_states what.Nack state is = no_state state is
few_states what.Fail state is = no_state state is
few_states what.Health state is = no_state state is
few_states what.Accuse state is = no_state state is
few_states what.Refute state is = no_state state is
few_states what.Dead state is = no_state state is
few_states what.Leave state is = no_state state is
few_states what.Bye state is = no_state state is
few_states what.Gossip state is = no_state state is
few_states what.Call state is = no_state state is
few_states what.Answer state is = no_state state is
few_states what.Push state is = no_state state is
few_states what.Pull state is = no_state state is
few_states what.Restart state is = no_state state is
few_states what.Exit state is = no_state state is
few_states what.Left state is = no_state state is
few_states what.Forget state is = no_state state is
few_states what.Reconnect state is = no_state state is

-- ---- stories, each at its member's number

-- what holds of each place of a list holds after one is written, where it holds of what was written and of what stands elsewhere
pub set_each : {X : Type 0} (P : ℕ → X → Type 0) (xs : List X) (i : ℕ) (y : X) → ((j : ℕ) (x : X) → slice_get xs j ≡ Some x → ¬ (j ≡ i) → P j x) → P i y
    → (j : ℕ) (x : X) → slice_get (slice_set xs i y) j ≡ Some x → P j x
set_each {X = X} P [] i y others here j x is = absurd (none x is)
  where
    none : (z : X) → None ≡ Some z → ⊥
    none z h = cc
set_each {X = X} P (z ∷ xs) zero y others here zero x is = subst (P 0) (same y x is) here
  where
    same : (a b : X) → Some a ≡ Some b → a ≡ b
    same a b h = cc
set_each {X = X} P (z ∷ xs) zero y others here (suc j) x is = others (suc j) x is (later j)
  where
    later : (n : ℕ) → ¬ (suc n ≡ 0)
    later n h = omega (arith, h)
set_each {X = X} P (z ∷ xs) (suc i) y others here zero x is = others 0 x is (earlier i)
  where
    earlier : (n : ℕ) → ¬ (0 ≡ suc n)
    earlier n h = omega (arith, h)
set_each {X = X} P (z ∷ xs) (suc i) y others here (suc j) x is =
    set_each (λ k. P (suc k)) xs i y (λ k w at apart. others (suc k) w at (λ h. apart (before k i h))) here j x is
  where
    before : (a b : ℕ) → suc a ≡ suc b → a ≡ b
    before a b h = omega (arith, h)

-- what holds of each at its place holds with one more of which it holds
pub pushed_each : (P : ℕ → Story → Type 0) (xs : List Story) (y : Story) → ((j : ℕ) (x : Story) → slice_get xs j ≡ Some x → P j x) → P (length xs) y
    → (j : ℕ) (x : Story) → slice_get (xs ++ y ∷ []) j ≡ Some x → P j x
pushed_each P [] y each here zero x is = subst (P 0) (same y x is) here
  where
    same : (a b : Story) → Some a ≡ Some b → a ≡ b
    same a b h = cc
pushed_each P [] y each here (suc j) x is = absurd (none x is)
  where
    none : (z : Story) → None ≡ Some z → ⊥
    none z h = cc
pushed_each P (z ∷ xs) y each here zero x is = each 0 x is
pushed_each P (z ∷ xs) y each here (suc j) x is = pushed_each (λ k. P (suc k)) xs y (λ k w at. each (suc k) w at) here j x is

-- a row about nobody, or about another member, isn't about this one
pub about_none : (subject : ℕ) (row : Row) → row.about ≡ None → is_about subject row ≡ false
about_none subject row none = ap (λ o. option_map_or (λ about. about == subject) o false) none

pub about_it : (subject : ℕ) (row : Row) → row.about ≡ Some subject → is_about subject row ≡ true
about_it subject row is = ap (λ o. option_map_or (λ about. about == subject) o false) is ∙ self subject
  where
    self : (n : ℕ) → (n == n) ≡ true
    self n = grind (arith)

pub about_other : (subject about : ℕ) (row : Row) → row.about ≡ Some about → ¬ (subject ≡ about) → is_about subject row ≡ false
about_other subject about row is apart = ap (λ o. option_map_or (λ a. a == subject) o false) is ∙ other about subject apart
  where
    other : (a b : ℕ) → ¬ (b ≡ a) → (a == b) ≡ false
    other a b h = grind (arith)

-- what holds in any case holds after an error
pub whatever : {A E : Type 0} (r : Result A E) {P : Type 0} → P → OnErr r P
whatever (Ok x) held = tt
whatever (Err e) held = held

-- what holds of a value that may be there holds of it
pub in_some : (o : Option ℕ) (m n : ℕ) → o ≡ Some m → IfSome o (λ x. x < n) → m < n
in_some o m n is held = let P : Option ℕ → Type 0 = λ p. IfSome p (λ x. x < n) in subst P is held
