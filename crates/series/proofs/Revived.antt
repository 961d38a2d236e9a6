-- What one row more makes of how often a member was taken for alive again.
use Rattle.std.proofs.Common.{◌≡◌, ℕ, ◌+◌, ◌<◌, ◌^◌, Bool, true, false, cond, ◌&&◌, ◌==◌, List, [], ◌∷◌, ◌++◌, length, map, Option, Some, None, refl, sym, ap, subst, ◌∙◌, arith, add-zero, length-append}
use Rattle.std.specs.Prelude.{filter, count_by, if◌then◌else◌, slice_index}
use Rattle.std.specs.Option.{option_map, option_map_or}
use Rattle.std.specs.List.{last_or, cons_option, list_any}
use Rattle.std.proofs.lemmas.List.{length-map}
use Rattle.std.proofs.lemmas.List.Sums.{length-filter, count_by-le-length}
use denote.Enum.Bare.{sameb, same_true}
use Rattle.scenario.specs.Setup.{Setup}
use Rattle.trace.specs.contracts.row.What.{the_type}
use Rattle.trace.specs.declared.row.What.{What}
use Rattle.trace.specs.declared.row.What.TheVariants as what
use Rattle.trace.specs.declared.row.Row.{Row}
use Rattle.reports.specs.Rows.{Placed, rows_in_place, has_kind, is_about}
use Rattle.reports.specs.Revivals.{views, is_view, is_view_of, holds_failed, is_back}
use Rattle.reports.proofs.Pushes.{with_later, last_placed, kept-push}
use Rattle.reports.proofs.Returning.{length-one, length-placed}
use Rattle.series.specs.declared.story.Story.{Story}
use Rattle.series.specs.Grid.{count_at}
use Rattle.series.specs.Spans.{span_at}
use Rattle.series.specs.Changes.{Change, is_of, state_after, AreFlowsOf}
use Rattle.series.specs.Stories.{claimed_state, claims_of, revives_in}

-- ---- rows in their places

-- how many pass a test that doesn't ask for later rows, with one row more
placed-push : (test : Placed → Bool) (rows : List Row) (row : Row) → ((p : Placed) → test (with_later row p) ≡ test p)
    → count_by test (rows_in_place (rows ++ row ∷ [])) ≡ count_by test (rows_in_place rows) + cond (test (last_placed rows row)) 1 0
placed-push test rows row same =
    let before = map (with_later row) (filter test (rows_in_place rows)) in
    let one = cond (test (last_placed rows row)) (last_placed rows row ∷ []) [] in
    sym (length-filter test (rows_in_place (rows ++ row ∷ [])))
    ∙ ap length (kept-push test rows row same)
    ∙ length-append before one
    ∙ ap (λ n. n + length one) (length-map (filter test (rows_in_place rows)) (with_later row) ∙ length-filter test (rows_in_place rows))
    ∙ ap (λ n. count_by test (rows_in_place rows) + n) (length-one (test (last_placed rows row)) (last_placed rows row))

-- no more are taken for alive again than there are rows
pub few_revived : (s : Setup) (subject k n : ℕ) (rows : List Row) → n ≡ count_by (revives_in s subject k) (rows_in_place rows) → length rows < 2 ^ 63 → n < 2 ^ 63
few_revived s subject k n rows is few = omega (arith, is, count_by-le-length (revives_in s subject k) (rows_in_place rows), length-placed [] rows, few)

-- ---- whom a member holds to have failed is in state 2 for it

-- kinds that report what a member holds of another
abbrev view_kind : What → Bool
view_kind kind = list_any (sameb the_type kind) views

-- a kind reports what a member holds of another just where it makes a change of state, and to 2 where it confirms
abbrev IsViewed : Bool → Bool → Option ℕ → Type 0
IsViewed view confirms None = view ≡ false
IsViewed view confirms (Some state) = (view ≡ true) × (confirms ≡ (state == 2))

viewed : (kind : What) → IsViewed (view_kind kind) (sameb the_type kind what.Confirm) (claimed_state kind)
viewed what.Start = refl
viewed what.Crash = refl
viewed what.Joined = refl
viewed what.Join = refl
viewed what.Welcome = refl
viewed what.Ping = refl
viewed what.PingReq = refl
viewed what.Ack = refl
viewed what.Nack = refl
viewed what.Fail = refl
viewed what.Health = refl
viewed what.Alive = (refl, refl)
viewed what.Suspect = (refl, refl)
viewed what.Confirm = (refl, refl)
viewed what.Accuse = refl
viewed what.Refute = refl
viewed what.Dead = refl
viewed what.Leave = refl
viewed what.Bye = refl
viewed what.Gossip = refl
viewed what.Call = refl
viewed what.Answer = refl
viewed what.Push = refl
viewed what.Pull = refl
viewed what.Restart = refl
viewed what.Exit = refl
viewed what.Left = refl
viewed what.Forget = refl
viewed what.Reconnect = refl

-- the last row reports that a member holds another to have failed just where the last change leads to state 2
abbrev AreAlike : Option Row → Option Change → Type 0
AreAlike row change = option_map_or (has_kind what.Confirm) row false ≡ (option_map_or (λ c. c.state) change 0 == 2)

-- rows and changes that leave it so
abbrev KeepAlike : List Row → List Change → Type 0
KeepAlike rows changes = (row : Option Row) (change : Option Change) → AreAlike row change → AreAlike (last_or row rows) (last_or change changes)

abbrev change_to : ℕ → ℕ → ℕ → Change
change_to member span state = record { member = member; state = state; span = span }

keep_next : (m : ℕ) (same about view : Bool) (o : Option ℕ) (row : Row) (span : ℕ) (rows : List Row) (changes : List Change)
    → (row.member == m) ≡ same → IsViewed view (has_kind what.Confirm row) o → KeepAlike rows (filter (is_of m) changes)
    → KeepAlike (cond (view && (same && about)) (row ∷ rows) rows) (filter (is_of m) (cons_option (if about then option_map (change_to row.member span) o else None) changes))
keep_next m same true view None row span rows changes is view_is keep r c are =
    subst (λ b. AreAlike (last_or r (cond (b && (same && true)) (row ∷ rows) rows)) (last_or c (filter (is_of m) changes))) (sym view_is) (keep r c are)
keep_next m same false view None row span rows changes is view_is keep r c are =
    subst (λ b. AreAlike (last_or r (cond (b && (same && false)) (row ∷ rows) rows)) (last_or c (filter (is_of m) changes))) (sym view_is) (keep r c are)
keep_next m true false view (Some state) row span rows changes is view_is keep r c are =
    subst (λ b. AreAlike (last_or r (cond (b && false) (row ∷ rows) rows)) (last_or c (filter (is_of m) changes))) (sym view_is.0) (keep r c are)
keep_next m false false view (Some state) row span rows changes is view_is keep r c are =
    subst (λ b. AreAlike (last_or r (cond (b && false) (row ∷ rows) rows)) (last_or c (filter (is_of m) changes))) (sym view_is.0) (keep r c are)
keep_next m false true view (Some state) row span rows changes is view_is keep r c are =
    let change = change_to row.member span state in
    subst (λ b. AreAlike (last_or r (cond (b && false) (row ∷ rows) rows)) (last_or c (filter (is_of m) (change ∷ changes)))) (sym view_is.0)
    (subst (λ b. AreAlike (last_or r rows) (last_or c (cond b (change ∷ filter (is_of m) changes) (filter (is_of m) changes)))) (sym is) (keep r c are))
keep_next m true true view (Some state) row span rows changes is view_is keep r c are =
    let change = change_to row.member span state in
    subst (λ b. AreAlike (last_or r (cond (b && true) (row ∷ rows) rows)) (last_or c (filter (is_of m) (change ∷ changes)))) (sym view_is.0)
    (subst (λ b. AreAlike (last_or (Some row) rows) (last_or c (cond b (change ∷ filter (is_of m) changes) (filter (is_of m) changes)))) (sym is) (keep (Some row) (Some change) view_is.1))

keep_all : (s : Setup) (subject member : ℕ) (rows : List Row) → KeepAlike (filter (is_view_of member subject) rows) (filter (is_of member) (claims_of s subject rows))
keep_all s subject member [] r c are = are
keep_all s subject member (row ∷ rows) r c are =
    keep_next member (row.member == member) (is_about subject row) (is_view row) (claimed_state row.what) row (span_at s row.at) (filter (is_view_of member subject) rows) (claims_of s subject rows)
    refl (viewed row.what) (keep_all s subject member rows) r c are

pub failed_state : (s : Setup) (subject member : ℕ) (rows : List Row) → holds_failed rows member subject ≡ (state_after (claims_of s subject rows) member == 2)
failed_state s subject member rows = keep_all s subject member rows None None refl

-- ---- one row more

-- what holds of whom a row is about, where it is about the subject
about_it : (subject : ℕ) (o : Option ℕ) (test : ℕ → Bool) → option_map_or (λ about. about == subject) o false ≡ true → option_map_or test o false ≡ test subject
about_it subject None test is = absurd (no is)
  where
    no : false ≡ true → ⊥
    no h = cc
about_it subject (Some about) test is = ap test (same about subject is)
  where
    same : (a b : ℕ) → (a == b) ≡ true → a ≡ b
    same a b h = grind (arith)

both-true : (a b : Bool) → b ≡ true → (a && b) ≡ a
both-true true b is = is
both-true false b is = refl

revives-last : (s : Setup) (subject k : ℕ) (story : Story) (rows : List Row) (row : Row) → is_about subject row ≡ true → AreFlowsOf 3 story.claims (claims_of s subject rows)
    → revives_in s subject k (last_placed rows row) ≡ ((has_kind what.Alive row && slice_index story.claims.states.items row.member == 2) && k == span_at s row.at)
revives-last s subject k story rows row about claims =
    ap (λ t. t && k == span_at s row.at)
    (both-true (is_back (holds_failed rows) row) (is_about subject row) about
    ∙ ap (λ t. has_kind what.Alive row && t) (about_it subject row.about (holds_failed rows row.member) about ∙ failed_state s subject row.member rows ∙ ap (λ n. n == 2) (sym (claims.now row.member))))

pub revived_more : (s : Setup) (subject k span : ℕ) (old new : Story) (rows : List Row) (row : Row) → is_about subject row ≡ true → span ≡ span_at s row.at
    → AreFlowsOf 3 old.claims (claims_of s subject rows)
    → count_at old.revived 0 k ≡ count_by (revives_in s subject k) (rows_in_place rows)
    → count_at new.revived 0 k ≡ count_at old.revived 0 k + cond ((has_kind what.Alive row && slice_index old.claims.states.items row.member == 2) && k == span) 1 0
    → count_at new.revived 0 k ≡ count_by (revives_in s subject k) (rows_in_place (rows ++ row ∷ []))
revived_more s subject k span old new rows row about spanned claims so_far is =
    is ∙ ap (λ n. n + cond ((has_kind what.Alive row && slice_index old.claims.states.items row.member == 2) && k == span) 1 0) so_far
    ∙ ap (λ x. count_by (revives_in s subject k) (rows_in_place rows) + cond ((has_kind what.Alive row && slice_index old.claims.states.items row.member == 2) && k == x) 1 0) spanned
    ∙ ap (λ t. count_by (revives_in s subject k) (rows_in_place rows) + cond t 1 0) (sym (revives-last s subject k old rows row about claims))
    ∙ sym (placed-push (revives_in s subject k) rows row (λ p. refl))

pub revived_other : (s : Setup) (subject k : ℕ) (rows : List Row) (row : Row) → ((held : Bool) → ((has_kind what.Alive row && held) && is_about subject row) ≡ false)
    → count_by (revives_in s subject k) (rows_in_place rows) ≡ count_by (revives_in s subject k) (rows_in_place (rows ++ row ∷ []))
revived_other s subject k rows row none =
    sym (placed-push (revives_in s subject k) rows row (λ p. refl)
    ∙ ap (λ t. count_by (revives_in s subject k) (rows_in_place rows) + cond (t && k == span_at s row.at) 1 0) (none (option_map_or (holds_failed rows row.member) row.about false))
    ∙ add-zero (count_by (revives_in s subject k) (rows_in_place rows)))

-- a row by which a member is taken for alive again is of that kind
pub is_alive : (row : Row) (held : Bool) → (has_kind what.Alive row && held) ≡ true → row.what ≡ what.Alive
is_alive row held back = same_true the_type tt row.what what.Alive (left (has_kind what.Alive row) back)
  where
    left : (a : Bool) → (a && held) ≡ true → a ≡ true
    left true is = refl
    left false is = is

-- a count that is raised where a test holds, by the test's value
pub raised_where : (k span count : ℕ) (test is : Bool) → test ≡ is → count + cond (test && k == span) 1 0 ≡ count + cond (is && k == span) 1 0
raised_where k span count test is same = ap (λ t. count + cond (t && k == span) 1 0) same
