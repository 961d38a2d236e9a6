-- What the rows of a run report of one member.
use Rattle.std.specs.Prelude.{◌≡◌, ℕ, ◌+◌, ◌<◌, ◌≤◌, ◌^◌, Bool, true, false, ◌&&◌, ◌||◌, ◌==◌, if◌then◌else◌, Option, Some, None, IfSome, List, [], ◌∷◌, filter, filter_map, find, count_by, length, slice_index_or}
use Rattle.std.specs.Option.{option_map, option_map_or, option_or}
use Rattle.std.specs.List.{last_or, list_any, slice_get}
use Rattle.scenario.specs.Setup.{Setup}
use Rattle.trace.specs.declared.row.What.{What}
use Rattle.trace.specs.declared.row.What.TheVariants as what
use Rattle.trace.specs.declared.row.Row.{Row}
use Rattle.reports.specs.Rows.{Placed, rows_in_place, has_kind, is_about, tells_of}
use Rattle.reports.specs.Revivals.{is_view, is_view_of, is_revival}
use Rattle.reports.specs.Departures.{moment_of}
use Rattle.incidents.specs.Lives.{restarts}
use Rattle.series.specs.declared.story.Story.{Story}
use Rattle.series.specs.declared.spread.Spread.{Spread}
use Rattle.series.specs.Spans.{span_at}
use Rattle.series.specs.Grid.{count_at}
use Rattle.series.specs.Changes.{Change, AreFlowsOf, AreOpen}
use Rattle.series.specs.Lines.{lines_of}
use Rattle.series.specs.Watched.{watched, places}

-- the state in which a claim puts the member that it is about: alive 0, suspected 1, confirmed to have failed 2
abbrev pub claimed_state : What → Option ℕ
claimed_state what.Alive = Some 0
claimed_state what.Suspect = Some 1
claimed_state what.Confirm = Some 2
claimed_state _ = None

-- the change that a row makes to how its own member holds the one that it is about, in a span
abbrev pub claim_change : ℕ → Row → Option Change
claim_change span row = option_map (λ state. record { member = row.member; state = state; span = span }) (claimed_state row.what)

-- what a row reports of how the member whose row it is holds the subject
abbrev pub claim_told : Setup → ℕ → Row → Option Change
claim_told s subject row = if is_about subject row then claim_change (span_at s row.at) row else None

-- how members held a subject, change by change
abbrev pub claims_of : Setup → ℕ → List Row → List Change
claims_of s subject rows = filter_map (claim_told s subject) rows

-- the row reports in this span that the subject refuted what was said of it
abbrev pub refutes_in : Setup → ℕ → ℕ → Row → Bool
refutes_in s subject span row = tells_of what.Refute subject row && span == span_at s row.at

-- in this span the row takes the subject for alive again, which its member held to have failed
abbrev pub revives_in : Setup → ℕ → ℕ → Placed → Bool
revives_in s subject span p = (is_revival p && is_about subject p.row) && span == span_at s p.row.at

-- the member's row is of this kind and about the subject
abbrev pub says : What → ℕ → ℕ → Row → Bool
says kind subject member row = tells_of kind subject row && row.member == member

-- when a member's first row of this kind about a subject was, if it has one
abbrev pub first_said : What → ℕ → ℕ → List Row → Option ℕ
first_said kind subject member rows = moment_of (find (says kind subject member) rows)

-- the row is that of the subject's crash
abbrev pub is_crash_of : ℕ → Row → Bool
is_crash_of subject row = has_kind what.Crash row && row.member == subject

-- the rows before a subject's crash, and those from it on; before it are all where it isn't there
abbrev pub before_crash : ℕ → List Row → List Row
before_crash subject [] = []
before_crash subject (row ∷ rows) = if is_crash_of subject row then [] else row ∷ before_crash subject rows

abbrev pub from_crash : ℕ → List Row → List Row
from_crash subject [] = []
from_crash subject (row ∷ rows) = if is_crash_of subject row then row ∷ rows else from_crash subject rows

-- the moment of a row, where it is of this kind
abbrev pub told_at : What → Row → Option ℕ
told_at kind row = if has_kind kind row then Some row.at else None

-- when a member came to hold a subject so, where it does by the last of these rows that reports how it holds it
abbrev pub held_so : What → ℕ → ℕ → List Row → Option ℕ
held_so kind subject member rows = option_map_or (told_at kind) (last_or None (filter (is_view_of member subject) rows)) None

-- when a member learned of a subject's crash by these rows: it held the subject so when it crashed, or else said so first from then on
abbrev pub heard_in : What → ℕ → ℕ → List Row → Option ℕ
heard_in kind subject member rows = option_or (held_so kind subject member (before_crash subject rows)) (first_said kind subject member (from_crash subject rows))

-- the rows up to that with which a subject starts again behind its crash, where it may have crashed before them
abbrev pub rows_until : Bool → ℕ → List Row → List Row
rows_until crashed subject [] = []
rows_until crashed subject (row ∷ rows) = if crashed && restarts subject row then [] else row ∷ rows_until (crashed || is_crash_of subject row) subject rows

-- one of them starts it again so
abbrev pub returns_among : Bool → ℕ → List Row → Bool
returns_among crashed subject [] = false
returns_among crashed subject (row ∷ rows) = (crashed && restarts subject row) || returns_among (crashed || is_crash_of subject row) subject rows

-- the news of a crash ends where its subject starts again
abbrev pub heard : What → ℕ → ℕ → List Row → Option ℕ
heard kind subject member rows = heard_in kind subject member (rows_until false subject rows)

-- when a member learned of a crash, or came to hold so whom hasn't crashed yet, with one row of its own more that is about this one
abbrev pub with_row : Bool → What → Row → Option ℕ → Option ℕ
with_row true kind row moment = option_or moment (told_at kind row)
with_row false kind row moment = if is_view row then told_at kind row else moment

-- what is kept of a subject's crash, where that is watched, is when each member learned of it: by which it suspects the subject, and by which it holds it dead
pub record IsSpreadOf (s : Setup) (subject : ℕ) (spread : Spread) (rows : List Row) : Type 0 where
  pub since : spread.since ≡ watched s subject
  pub crashed : spread.crashed ≡ list_any (is_crash_of subject) rows
  pub back : spread.back ≡ returns_among false subject rows
  pub suspecting : length spread.suspected.items ≡ places s subject
  pub confirming : length spread.confirmed.items ≡ places s subject
  pub suspected : (member : ℕ) → member < length spread.suspected.items → slice_index_or spread.suspected.items member None ≡ heard what.Suspect subject member rows
  pub confirmed : (member : ℕ) → member < length spread.confirmed.items → slice_index_or spread.confirmed.items member None ≡ heard what.Confirm subject member rows

-- what is kept is what these rows report of the subject
pub record IsStoryOf (s : Setup) (subject : ℕ) (story : Story) (rows : List Row) : Type 0 where
  pub claims : AreFlowsOf 3 story.claims (claims_of s subject rows)
  pub refuted : (span : ℕ) → span < 120 → count_at story.refuted 0 span ≡ count_by (refutes_in s subject span) rows
  pub revived : (span : ℕ) → span < 120 → count_at story.revived 0 span ≡ count_by (revives_in s subject span) (rows_in_place rows)
  pub first_confirm : story.first_confirm ≡ slice_get (lines_of (tells_of what.Confirm subject) rows) 0
  pub last_refute : story.last_refute ≡ last_or None (lines_of (tells_of what.Refute subject) rows)
  pub spread : IsSpreadOf s subject story.spread rows
  pub fails : story.fails ≡ count_by (tells_of what.Fail subject) rows

-- there is room for what a row of a member's reports
pub record HasRoom (member : ℕ) (kind : What) (story : Story) : Type 0 where
  pub claims : (state : ℕ) → claimed_state kind ≡ Some state → AreOpen member 3 story.claims
  pub refuted : kind ≡ what.Refute → 120 ≤ length story.refuted.counts.items
  pub revived : kind ≡ what.Alive → 120 ≤ length story.revived.counts.items

-- the row, which falls into this span and stands on the line of that number, comes next after these rows
pub record ComesNext (s : Setup) (row : Row) (span number : ℕ) (rows : List Row) : Type 0 where
  pub spanned : span ≡ span_at s row.at
  pub numbered : number ≡ length rows + 2

-- the stories are those that these rows report of the members, each at its number
abbrev pub AreStoriesOf : Setup → List Story → List Row → Type 0
AreStoriesOf s stories rows = (subject : ℕ) (story : Story) → slice_get stories subject ≡ Some story → IsStoryOf s subject story rows

-- the story of a member can take in the row, which is about it
pub record CanTell (row : Row) (story : Story) : Type 0 where
  pub setup : Setup
  pub subject : ℕ
  pub rows : List Row
  pub about : is_about subject row ≡ true
  pub told : IsStoryOf setup subject story rows
  pub few : length rows < 2 ^ 63

-- the stories can take in the row
pub record CanFollow (row : Row) (stories : List Story) : Type 0 where
  pub setup : Setup
  pub rows : List Row
  pub told : AreStoriesOf setup stories rows
  pub few : length rows < 2 ^ 63
  pub member : row.member < length stories
  pub about : IfSome row.about (λ m. m < length stories)
