-- How members that are up come to be declared dead: what the rows before report of it.
use Rattle.std.specs.Prelude.{◌≡◌, ℕ, ◌+◌, ◌<◌, ◌^◌, Bool, false, ◌&&◌, ◌||◌, ◌==◌, not, nat_le, if◌then◌else◌, Option, Some, None, IfSome, List, [], ◌∷◌, map, filter, fold, count_by, length, slice_get, slice_index_or}
use Rattle.std.specs.Option.{option_map_or}
use Rattle.std.specs.List.{last_or, list_any}
use Rattle.trace.specs.declared.row.What.{What}
use Rattle.trace.specs.declared.row.What.TheVariants as what
use Rattle.trace.specs.declared.row.Row.{Row}
use Rattle.reports.specs.Rows.{Placed, rows_in_place, has_kind, is_about, tells_of}
use Rattle.series.specs.declared.lines.TraceLine.{TraceLine}
use Rattle.series.specs.declared.accusers.ProbeStory.{ProbeStory}
use Rattle.series.specs.declared.accusers.Accusation.{Accusation}
use Rattle.series.specs.declared.answers.Reply.{Reply}
use Rattle.series.specs.declared.answers.Answers.{Answers}
use Rattle.series.specs.declared.standing.Refutation.{Refutation}
use Rattle.series.specs.declared.standing.Standing.{Standing}
use Rattle.series.specs.declared.deaths.Death.{Death}
use Rattle.series.specs.declared.deaths.DeathStories.{DeathStories}
use Rattle.series.specs.Accusers.{AreAccusers}
use Rattle.series.specs.Lines.{line_at, lines_of}

-- ---- rows, each with those before it

-- a row, and all that stand before it in the trace
pub record Reached : Type 0 where
  pub earlier : List Row
  pub row : Row

abbrev pub reached_at : Placed → Reached
reached_at p = record { earlier = p.earlier; row = p.row }

abbrev pub reached : List Row → List Reached
reached rows = map reached_at (rows_in_place rows)

-- its line; the header stands on line 1
abbrev pub line_reached : Reached → TraceLine
line_reached r = line_at (length r.earlier + 2) r.row

-- what comes from the last that passes a test on, itself too; all where none does
abbrev pub since : {X : Type 0} → (X → Bool) → List X → List X
since test [] = []
since test (x ∷ xs) = if list_any test xs then since test xs else x ∷ xs

-- ---- probes

-- the row is a member's ping by its own timer, which begins a probe; a helper's ping comes of another's request
abbrev pub begins_probe : ℕ → Row → Bool
begins_probe member row = has_kind what.Ping row && (row.member == member && row.from == member)

abbrev pub probe_told : Reached → ProbeStory
probe_told r = record { ping = line_reached r; lost = r.row.lost; target = r.row.about; sequence = r.row.value }

-- the last probe that a member began
abbrev pub last_probe : ℕ → List Row → Option ProbeStory
last_probe member rows = last_or None (map probe_told (filter (λ r. begins_probe member r.row) (reached rows)))

-- a row bears the sequence number of a probe
abbrev pub is_of : ProbeStory → Row → Bool
is_of probe row = row.value == probe.sequence

-- the row's member is the one that is probed
abbrev pub is_by_target : ProbeStory → Row → Bool
is_by_target probe row = option_map_or (λ target. target == row.member) probe.target false

-- the target sends the prober an ack
abbrev pub acks_for : ℕ → Option ProbeStory → Row → Bool
acks_for member probe row = option_map_or (λ p. has_kind what.Ack row && (is_about member row && (is_of p row && is_by_target p row))) probe false

-- the prober asks a helper
abbrev pub asks_for : ℕ → Option ProbeStory → Row → Bool
asks_for member probe row = option_map_or (λ p. has_kind what.PingReq row && (row.member == member && is_of p row)) probe false

-- a helper answers the prober, by an ack or a nack
abbrev pub helps_for : ℕ → Option ProbeStory → Row → Bool
helps_for member probe row =
    option_map_or (λ p. (has_kind what.Ack row || has_kind what.Nack row) && (is_about member row && (is_of p row && not (is_by_target p row)))) probe false

-- the same of the last probe that a member began
abbrev pub acks : ℕ → Reached → Bool
acks member r = acks_for member (last_probe member r.earlier) r.row

abbrev pub asks : ℕ → Reached → Bool
asks member r = asks_for member (last_probe member r.earlier) r.row

abbrev pub helps : ℕ → Reached → Bool
helps member r = helps_for member (last_probe member r.earlier) r.row

abbrev pub is_lost : (Reached → Bool) → Reached → Bool
is_lost test r = test r && r.row.lost

abbrev pub reply_told : Reached → Reply
reply_told r = record { line = line_reached r; lost = r.row.lost }

-- the rows since a member began its last probe
abbrev pub since_probe : ℕ → List Row → List Reached
since_probe member rows = since (λ r. begins_probe member r.row) (reached rows)

-- what came of the last probe that a member began
abbrev pub answers_of : ℕ → List Row → Answers
answers_of member rows =
    record {
      ack = last_or None (map reply_told (filter (acks member) (since_probe member rows)));
      asked = count_by (asks member) (since_probe member rows);
      requests_lost = count_by (is_lost (asks member)) (since_probe member rows);
      answered = count_by (helps member) (since_probe member rows);
      answers_lost = count_by (is_lost (helps member)) (since_probe member rows);
    }

abbrev pub no_answers : Answers
no_answers = record { ack = None; asked = 0; requests_lost = 0; answered = 0; answers_lost = 0 }

-- the last failed probe of a subject, by whomever
abbrev pub last_fail : ℕ → List Row → Option TraceLine
last_fail subject rows = last_or None (lines_of (tells_of what.Fail subject) rows)

-- ---- suspicions

-- the row is of this kind and about the subject, with the incarnation number or a higher one
abbrev pub reaches : What → ℕ → ℕ → Row → Bool
reaches kind subject number row = tells_of kind subject row && nat_le number row.value

-- the row is of this kind and about the subject, with a number above that of each such row before
abbrev pub is_new : What → ℕ → Reached → Bool
is_new kind subject r = tells_of kind subject r.row && not (list_any (reaches kind subject r.row.value) r.earlier)

-- a line is the member's, and of this moment
abbrev pub is_line_of : ℕ → ℕ → TraceLine → Bool
is_line_of member at line = line.member == member && line.at == at

-- the row's member suspects the subject, or repeats a suspicion of it, at the moment at which its own probe of it failed
abbrev pub accuses : ℕ → Reached → Bool
accuses subject r =
    (tells_of what.Suspect subject r.row || tells_of what.Accuse subject r.row)
    && option_map_or (is_line_of r.row.member r.row.at) (last_fail subject r.earlier) false

abbrev pub accusation_told : Reached → Accusation
accusation_told r = record { claim = line_reached r; probe = last_probe r.row.member r.earlier; answers = answers_of r.row.member r.earlier }

-- who accused the subject since it was first suspected under its newest number
abbrev pub accusations : ℕ → List Row → List Accusation
accusations subject rows = map accusation_told (filter (accuses subject) (since (is_new what.Suspect subject) (reached rows)))

-- ---- refutations

abbrev pub refutation_told : Reached → Refutation
refutation_told r = record { line = line_reached r; number = r.row.value }

-- the last refutation of a subject
abbrev pub last_refutation : ℕ → List Row → Option Refutation
last_refutation subject rows = last_or None (map refutation_told (filter (λ r. tells_of what.Refute subject r.row) (reached rows)))

-- the row takes somebody for alive under the number of the refutation, or a higher one
abbrev pub hears : Option Refutation → Row → Bool
hears last row = option_map_or (λ refutation. has_kind what.Alive row && nat_le refutation.number row.value) last false

-- the row does so of the subject, whose last refutation it follows
abbrev pub hears_of : ℕ → Reached → Bool
hears_of subject r = hears (last_refutation subject r.earlier) r.row && is_about subject r.row

-- how often members took the subject for alive since its last refutation: each does so once under a number
abbrev pub times_heard : ℕ → List Row → ℕ
times_heard subject rows = count_by (hears_of subject) (since (λ r. tells_of what.Refute subject r.row) (reached rows))

-- ---- deaths

-- the row's member crashes or leaves
abbrev pub departs : Row → Bool
departs row = has_kind what.Crash row || has_kind what.Leave row

-- a member that was gone or not is gone with one row more of its own: once it crashes or leaves, until it starts again
abbrev pub gone_by : Row → Bool → Bool
gone_by row gone = departs row || (gone && not (has_kind what.Restart row))

-- the same with any row
abbrev pub gone_with : ℕ → Bool → Row → Bool
gone_with member gone row = if row.member == member then gone_by row gone else gone

-- the member crashes or leaves in these rows, and hasn't started again since
abbrev pub is_gone : ℕ → List Row → Bool
is_gone member rows = fold (gone_with member) false rows

-- A member that is up is declared dead, for the first time under this incarnation number or a higher one. Later rows under
-- that number are of members that learn of it, or find the same.
abbrev pub is_first_death : ℕ → Reached → Bool
is_first_death subject r = not (is_gone subject r.earlier) && is_new what.Confirm subject r

-- the same, whomever the row is about
abbrev pub begins_death : Reached → Bool
begins_death r = option_map_or (λ subject. is_first_death subject r) r.row.about false

-- the deaths of members that were up
abbrev pub deaths_of : List Row → List Reached
deaths_of rows = filter begins_death (reached rows)

-- ---- what is kept

-- a number is the greatest of these rows of this kind about the subject
abbrev pub IsGreatest : What → ℕ → Option ℕ → List Row → Type 0
IsGreatest kind subject greatest rows = (number : ℕ) → list_any (reaches kind subject number) rows ≡ option_map_or (nat_le number) greatest false

-- what is kept of a member is what these rows report of it
pub record IsStandingOf (subject : ℕ) (standing : Standing) (rows : List Row) : Type 0 where
  pub suspected : IsGreatest what.Suspect subject standing.suspected rows
  pub declared : IsGreatest what.Confirm subject standing.declared rows
  pub failed : standing.failed ≡ last_fail subject rows
  pub accusers : AreAccusers standing.accusers (accusations subject rows)
  pub refuted : standing.refuted ≡ last_refutation subject rows
  pub heard : standing.heard ≡ times_heard subject rows

-- what is kept of a death is what its row reports, and the rows before it
pub record IsDeathOf (death : Death) (r : Reached) : Type 0 where
  pub line : death.line ≡ line_reached r
  pub subject : r.row.about ≡ Some death.subject
  pub number : death.number ≡ r.row.value
  pub standing : IsStandingOf death.subject death.standing r.earlier

-- a death is kept just where there is one
abbrev pub IsToldOf : Option Death → Option Reached → Type 0
IsToldOf None None = Unit
IsToldOf (Some death) (Some r) = IsDeathOf death r
IsToldOf None (Some r) = ⊥
IsToldOf (Some death) None = ⊥

-- what is kept of deaths are the first 20 of those that these rows report, and how many they are
pub record AreToldOf (kept : List (Option Death)) (many : ℕ) (rows : List Row) : Type 0 where
  pub count : many ≡ length (deaths_of rows)
  pub told : (place : ℕ) → place < 20 → IsToldOf (slice_index_or kept place None) (slice_get (deaths_of rows) place)
  pub room : length kept ≡ 20

-- what is kept of each member, at its number, is what these rows report
abbrev pub AreGoneOf : List Bool → List Row → Type 0
AreGoneOf gone rows = (member : ℕ) → member < length gone → slice_index_or gone member false ≡ is_gone member rows

abbrev pub AreProbesOf : List (Option ProbeStory) → List Row → Type 0
AreProbesOf probes rows = (member : ℕ) → member < length probes → slice_index_or probes member None ≡ last_probe member rows

abbrev pub AreAnswersOf : List Answers → List Row → Type 0
AreAnswersOf answers rows = (member : ℕ) → member < length answers → slice_index_or answers member no_answers ≡ answers_of member rows

abbrev pub AreStandingsOf : List Standing → List Row → Type 0
AreStandingsOf standings rows = (subject : ℕ) (standing : Standing) → slice_get standings subject ≡ Some standing → IsStandingOf subject standing rows

-- what is kept is what these rows report
pub record AreDeathsOf (deaths : DeathStories) (rows : List Row) : Type 0 where
  pub told : AreToldOf deaths.told.items deaths.count rows
  pub gone : AreGoneOf deaths.gone.items rows
  pub probes : AreProbesOf deaths.probes.items rows
  pub answers : AreAnswersOf deaths.answers.items rows
  pub standings : AreStandingsOf deaths.standings.items rows

-- there is a place for each of so many members
pub record AreMembers (members : ℕ) (deaths : DeathStories) : Type 0 where
  pub gone : length deaths.gone.items ≡ members
  pub probes : length deaths.probes.items ≡ members
  pub answers : length deaths.answers.items ≡ members
  pub standings : length deaths.standings.items ≡ members

-- the row can be taken in: it names members that have a place, and few rows came before
pub record CanFollow (row : Row) (deaths : DeathStories) : Type 0 where
  pub members : ℕ
  pub rows : List Row
  pub room : AreMembers members deaths
  pub are : AreDeathsOf deaths rows
  pub few : length rows < 2 ^ 63
  pub member : row.member < members
  pub about : IfSome row.about (λ m. m < members)

-- the standings can take in the row: few rows came before
pub record CanStand (row : Row) (kept : List Standing) : Type 0 where
  pub rows : List Row
  pub are : AreStandingsOf kept rows
  pub few : length rows < 2 ^ 63
